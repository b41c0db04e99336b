-- A call that reads: what is known of a lift and the bytes that it used stays so, with the bytes of one more step. The
-- cases are those of the bytes: a part of a header, the end of one, content, padding.
use Rattle.std.specs.Prelude.{ℕ, ◌+◌, ◌-◌, ◌≤◌, ◌<◌, min, ◌≡◌, refl, Bool, true, false, ◌&&◌, ◌||◌, List, [], ◌++◌, length, take, drop, get_or, eqb, if◌then◌else◌}
use Rattle.std.proofs.Common.{sym, ◌∙◌, append-nil, append_assoc, inl, inr, arith, length-append, drop_of_length-le, eq-eqb, ne_eqb, eqb-true}
use Rattle.std.proofs.Math.Path.{ap, ap₂}
use Rattle.std.proofs.Math.Bool.{and-true, and-false}
use Rattle.std.proofs.Math.Option.{none}
use Rattle.std.proofs.Math.Seq.{take-nil}
use Rattle.std.proofs.lemmas.Bool.{eqb-false}
use Rattle.wire.specs.Test.{by_test, ◌<?◌}
use Rattle.machine.specs.Cause.{Cause}
use Rattle.record_reader.specs.declared.Position.{Position}
use Rattle.record_reader.specs.Position.{between_records, after}
use Rattle.connection.specs.Step.{State, Stepped}
use Rattle.plain.specs.Plain.{Said, two, record_size}
use Rattle.lifting.specs.Lift as L
use Rattle.lifting.specs.Lift.{LARGEST_PLACE, copied_header, content_of, is_copied, copy_of_record, copy_of, verdict_of}
use Rattle.lifting.specs.Call.{Lifting, position_of, waiting_bytes, copies_content, header_with, completes, copies_next, with_header, with_bytes, verdict_now}
use Rattle.lifting_agrees.specs.Statement.{Outcome}
use Rattle.lifting_agrees.proofs.CopyRecords.{said_of, copied_length}
use Rattle.lifting_agrees.proofs.FrontLaws.{size_stays, copied_stays, said_by_lem, said_stays, copy_stays, copy_grows}
use Rattle.lifting_agrees.proofs.Closings.{close_of, header_decides}
use Rattle.lifting_agrees.proofs.PartPosition.{Reads, Part, Header, Content, Padding}
use Rattle.lifting_agrees.proofs.PartTests.{header_with_lem, header_completes, header_content_lem, content_completes, content_left, padding_completes, padding_left}
use Rattle.lifting_agrees.proofs.Reading.{Within, Short, Goes, Closes, comes, Reading, Stands}
use Rattle.lifting_agrees.proofs.OneStep as S
use Rattle.lifting_agrees.proofs.OneStep.{Known, OneStep, next_bytes, next_header, nothing_waits, is, now, reads, copy_now, short_before, came_before, verdict_now_lem, stands_now, goes_open, closes_shut}

false_true : {A : Type 0} → ◌≡◌ {A = Bool} false true → A
false_true e = let z : ◌≡◌ {A = ℕ} 0 1 = cc in absurd (omega arith)

-- a header that is just complete, as it waits if it is copied
header_waits : (c : Bool) (b : List ℕ) → length b ≡ 8
    → drop (8 - (if c then 8 else 0)) (copied_header b) ≡ copy_of_record c b
header_waits true b eight =
    let none : content_of b ≡ [] =
    ap (take (two b 4)) (drop_of_length-le b {i = 8} (omega arith)) ∙ take-nil (two b 4) in
    sym (append-nil (copied_header b)) ∙ ap (λ (u : List ℕ). copied_header b ++ u) (sym none)
header_waits false b eight =
    drop_of_length-le (copied_header b) {i = 8} (omega (arith, copied_length b (omega arith)))

module _ {gathered store : List ℕ} {R : ℕ} {o : Outcome} {bytes : List ℕ} (k : OneStep gathered store R o bytes) where
  -- the lift, the bytes that it used, the step, and the bytes that the step uses
  abbrev l : Lifting
  l = S.l k

  abbrev x : List ℕ
  x = S.x k

  abbrev s : Stepped
  s = S.s k

  abbrev y : List ℕ
  y = S.y k

  abbrev next : Lifting
  next = S.next k

  -- where the lift stands, the record as far as it is read after the step, and what that comes to
  abbrev r : Reading R x l
  r = S.r k

  abbrev b : List ℕ
  b = S.b k

  abbrev lift : List ℕ → L.Lifted
  lift u = S.lift k u

  abbrev ComesNow : Type 0
  ComesNow = S.ComesNow k

  -- ---- by what the bytes are
  record Result : Type 0 where
    written : o.written ++ (if copies_content l then y else []) ++ waiting_bytes next ≡ copy_of R (x ++ y)
    eight : length next.header ≡ 8
    few : next.waiting ≤ 8
    verdict : verdict_now next ≡ verdict_of (x ++ y)
    stands : s.state.conn.«open» ≡ true → Stands R (x ++ y) next

  copies_content_lem : (t : Bool) → (0 <? (after between_records r.part).content) ≡ t → copies_content l ≡ (l.copied && t)
  copies_content_lem t e =
      ap (λ (p : Position). l.copied && (0 <? p.content)) r.position ∙ ap (λ (u : Bool). l.copied && u) e

  completes_at : completes (position_of l) y ≡ completes (after between_records r.part) y
  completes_at = ap (λ (p : Position). completes p y) r.position

  long_b : length b ≡ length r.part + length y
  long_b = length-append r.part y

  -- bytes that do not complete a header
  record Kept : Type 0 where
    header : next.header ≡ l.header
    waiting : next.waiting ≡ 0
    begun : next.begun ≡ l.begun
    copied : next.copied ≡ l.copied

  kept : completes (position_of l) y ≡ false → Kept
  unfolding with_bytes
  kept e =
      let n = next_bytes l s y e in
      record {
        header = ap (λ (m : Lifting). m.header) n;
        waiting = ap (λ (m : Lifting). m.waiting) n;
        begun = ap (λ (m : Lifting). m.begun) n;
        copied = ap (λ (m : Lifting). m.copied) n;
      }

  result_kept : completes (position_of l) y ≡ false → Within b → ComesNow
      → o.written ++ (if copies_content l then y else []) ≡ copy_of R (x ++ y)
      → (length b < 8 → l.begun ≡ r.begun) → (8 ≤ length b → l.begun ≡ (r.begun || is_copied R r.begun b))
      → (8 ≤ length b → l.copied ≡ is_copied R r.begun b) → Result
  result_kept e w c written p q t =
      let m = kept e in
      let eight : length next.header ≡ 8 = ap length m.header ∙ k.known.eight in
      record {
        written =
            ap (λ (u : List ℕ). o.written ++ (if copies_content l then y else []) ++ u)
            (nothing_waits next eight m.waiting)
            ∙ append-nil (o.written ++ (if copies_content l then y else []))
            ∙ written;
        eight = eight;
        few = omega (arith, m.waiting);
        verdict = verdict_now_lem k c;
        stands = λ still.
            stands_now k c w still (λ short. m.begun ∙ p short) (λ long. m.begun ∙ q long)
            (λ long. m.copied ∙ t long);
      }

  -- where nothing is written
  unwritten : copies_content l ≡ false → o.written ++ (if copies_content l then y else []) ≡ o.written
  unwritten e = ap (λ (t : Bool). o.written ++ (if t then y else [])) e ∙ append-nil o.written

  -- a part of a header
  result_part : length r.part + length y < 8 → Result
  result_part less =
      let short : length r.part < 8 = omega arith in
      let w : Within b = inl (omega (arith, long_b)) in
      let now-comes = comes R (length r.before) r.begun r.requests b w in
      let e =
      completes_at ∙ header_completes r.part y short
      ∙ ne_eqb (length r.part + length y) 8 (λ z. omega arith) in
      let n = copies_content_lem false (header_content_lem r.part y short) ∙ and-false l.copied in
      result_kept e w now-comes (unwritten n ∙ short_before k short ∙ sym (copy_now k ∙ nothing now-comes))
      (λ z. r.begun_before_lem short)
      (λ long. absurd (omega (arith, long_b))) (λ long. absurd (omega (arith, long_b)))
    where
      nothing : ComesNow → r.copy ++ (lift b).copy ≡ r.copy
      nothing (Short l empty going) = ap (λ (u : List ℕ). r.copy ++ u) empty ∙ append-nil r.copy
      nothing (Goes es rs' header said copy going) = absurd (omega (arith, long_b))
      nothing (Closes cause header said empty closed) = absurd (omega (arith, long_b))

  -- behind the header
  module _ (header : 8 ≤ length r.part) where
    abbrev c : Bool
    c = is_copied R r.begun r.part

    same_c : is_copied R r.begun b ≡ c
    same_c = copied_stays r.part y header R r.begun

    begun_still : l.begun ≡ (r.begun || is_copied R r.begun b)
    begun_still = r.begun_now header ∙ ap (λ (t : Bool). r.begun || t) (sym same_c)

    copied_still : l.copied ≡ is_copied R r.begun b
    copied_still = r.copied header ∙ sym same_c

    -- padding
    result_padding : 8 + two r.part 4 ≤ length r.part → length r.part < record_size r.part
        → length r.part + length y ≤ record_size r.part → Result
    result_padding there cut room =
        let size = size_stays r.part y header in
        let w : Within b = inr (omega (arith, long_b), omega (arith, long_b)) in
        let now-comes = comes R (length r.before) r.begun r.requests b w in
        let e = completes_at ∙ padding_completes r.part y header there cut in
        let n = copies_content_lem false (padding_left r.part y header there cut) ∙ and-false l.copied in
        result_kept e w now-comes (unwritten n ∙ (came_before k header).written ∙ sym (copy_now k ∙ same now-comes))
        (λ short. absurd (omega (arith, long_b))) (λ long. begun_still) (λ long. copied_still)
      where
        same : ComesNow → r.copy ++ (lift b).copy ≡ r.copy ++ copy_of_record c r.part
        same (Short less empty going) = absurd (omega (arith, long_b))
        same (Goes es rs' long said copy going) =
            ap (λ (u : List ℕ). r.copy ++ u)
            (copy
            ∙ ap (λ (t : Bool). copy_of_record t b) same_c
            ∙ copy_stays r.part y header c there)
        same (Closes cause long said empty closed) =
            let goes = (came_before k header).said in
            let stays = said_stays r.part y header r.requests there in
            let z : ◌≡◌ {A = ℕ} 0 1 = cc in
            absurd (omega arith)

    -- content of a record that closes: it is not of R
    closes_other : (cause : Cause) → said_of r.requests b ≡ Said.Closes cause → c ≡ false
    closes_other cause said =
        by_test (eqb (two r.part 2) 0)
        (λ t.
        let zero-id = eqb-true (two r.part 2) 0 t in
        simp (ne_eqb (two r.part 2) R (λ z. omega (arith, k.some_id))))
        (λ t.
        let goes : close_of (said_of r.requests r.part) ≡ none = ap close_of (came_before k header).said in
        let same =
        header_decides r.requests (get_or r.part 1 0) (two r.part 4) (get_or r.part 0 0) (two r.part 2)
        (content_of r.part) (content_of b) (eqb-false (two r.part 2) 0 t) in
        let now-closes = ap close_of (sym (said_by_lem r.part y header r.requests) ∙ said) in
        let z : ◌≡◌ {A = ℕ} 0 1 = cc (sym goes ∙ same ∙ now-closes) in
        absurd (omega arith))

    -- content
    result_content : length r.part < 8 + two r.part 4 → length r.part + length y ≤ 8 + two r.part 4 → Result
    result_content less room =
        let size = size_stays r.part y header in
        let w : Within b = inr (omega (arith, long_b), omega (arith, long_b)) in
        let now-comes = comes R (length r.before) r.begun r.requests b w in
        let e = completes_at ∙ content_completes r.part y header less in
        let n : copies_content l ≡ c =
        copies_content_lem true (content_left r.part y header less) ∙ and-true l.copied ∙ r.copied header in
        result_kept e w now-comes
        (ap₂ (λ (u : List ℕ) (t : Bool). u ++ (if t then y else [])) (came_before k header).written n
        ∙ sym (copy_now k ∙ same now-comes))
        (λ short. absurd (omega (arith, long_b))) (λ long. begun_still) (λ long. copied_still)
      where
        same : ComesNow → r.copy ++ (lift b).copy ≡ r.copy ++ copy_of_record c r.part ++ (if c then y else [])
        same (Short less empty going) = absurd (omega (arith, long_b))
        same (Goes es rs' long said copy going) =
            ap (λ (u : List ℕ). r.copy ++ u)
            (copy
            ∙ ap (λ (t : Bool). copy_of_record t b) same_c
            ∙ copy_grows r.part y header c room)
            ∙ sym (append_assoc r.copy (copy_of_record c r.part) (if c then y else []))
        same (Closes cause long said empty closed) =
            ap (λ (u : List ℕ). r.copy ++ u) empty
            ∙ sym (append-nil (r.copy ++ []))
            ∙ ap (λ (t : Bool). r.copy ++ copy_of_record t r.part ++ (if t then y else []))
            (sym (closes_other cause said))

  -- the last bytes of a header
  module _ (short : length r.part < 8) (eight : length r.part + length y ≡ 8) where
    completed : completes (position_of l) y ≡ true
    completed =
        completes_at ∙ header_completes r.part y short ∙ eq-eqb (length r.part + length y) 8 eight

    header_is : header_with (position_of l) y ≡ b
    header_is = ap (λ (p : Position). header_with p y) r.position ∙ header_with_lem r.part y short

    within_header : Within b
    within_header = inr (omega (arith, long_b), omega (arith, long_b))

    comes_header : ComesNow
    comes_header = comes R (length r.before) r.begun r.requests b within_header

    abbrev copied_now : Bool
    copied_now = is_copied R r.begun b

    next_copied : (still : Bool) → s.state.conn.«open» ≡ still → copies_next l s y ≡ (still && copied_now)
    next_copied still e =
        ap₂ (λ (t : Bool) (id : ℕ). t && is_copied id l.begun (header_with (position_of l) y)) e k.known.id
        ∙ ap₂ (λ (t : Bool) (u : List ℕ). still && is_copied R t u) (r.begun_before_lem short) header_is

    -- what the header leaves, by whether its record is copied
    record Made (copied : Bool) : Type 0 where
      header : next.header ≡ copied_header b
      waiting : next.waiting ≡ (if copied then 8 else 0)
      begun : next.begun ≡ (r.begun || copied)
      is_copied_lem : next.copied ≡ copied

    made : (copied : Bool) → copies_next l s y ≡ copied → Made copied
    unfolding with_header
    made copied e =
        let n = next_header l s y completed in
        record {
          header = ap (λ (m : Lifting). m.header) n ∙ ap copied_header header_is;
          waiting = ap (λ (m : Lifting). m.waiting) n ∙ ap (λ (t : Bool). if t then 8 else 0) e;
          begun =
              ap (λ (m : Lifting). m.begun) n ∙ ap₂ (λ (t u : Bool). t || u) (r.begun_before_lem short) e;
          is_copied_lem = ap (λ (m : Lifting). m.copied) n ∙ e;
        }

    made_waits : (copied : Bool) → Made copied → waiting_bytes next ≡ copy_of_record copied b
    made_waits copied m =
        ap₂ (λ (n : ℕ) (h : List ℕ). drop (8 - n) h) m.waiting m.header
        ∙ header_waits copied b (omega (arith, long_b))

    few_waits : (t : Bool) (n : ℕ) → n ≡ (if t then 8 else 0) → n ≤ 8
    few_waits true n e = omega arith
    few_waits false n e = omega arith

    unwritten_header : copies_content l ≡ false
    unwritten_header = copies_content_lem false (header_content_lem r.part y short) ∙ and-false l.copied

    result_made : (copied : Bool) → Made copied → copy_of_record copied b ≡ (lift b).copy
        → (s.state.conn.«open» ≡ true → copied ≡ copied_now) → Result
    result_made copied m e same =
        record {
          written =
              ap₂ (λ (u v : List ℕ). u ++ v) (unwritten unwritten_header ∙ short_before k short)
              (made_waits copied m ∙ e)
              ∙ sym (copy_now k);
          eight = ap length m.header ∙ copied_length b (omega (arith, long_b));
          few = few_waits copied next.waiting m.waiting;
          verdict = verdict_now_lem k comes_header;
          stands = λ still.
              stands_now k comes_header within_header still (λ less. absurd (omega (arith, long_b)))
              (λ long. m.begun ∙ ap (λ (t : Bool). r.begun || t) (same still))
              (λ long. m.is_copied_lem ∙ same still);
        }

    result_header : Result
    result_header = go comes_header
      where
        go : ComesNow → Result
        go (Short less empty going) = absurd (omega (arith, long_b))
        go (Goes es rs' long said copy going) =
            result_made copied_now (made copied_now (next_copied true (goes_open k going))) (sym copy) (λ still. refl)
        go (Closes cause long said empty closed) =
            let shut = closes_shut k cause (min (length r.before) LARGEST_PLACE) closed in
            result_made false (made false (next_copied false shut)) (sym empty)
            (λ still. false_true (sym shut ∙ still))

  result : Result
  result = go (reads k)
    where
      go : Reads r.part y → Result
      go (Part less) = result_part less
      go (Header short eight) = result_header short eight
      go (Content header less room) = result_content header less room
      go (Padding header there cut room) = result_padding header there cut room

  -- So all that is known stays known.
  pub read_step : Known gathered store R (record {
    used = x ++ y;
    written = o.written ++ (if copies_content l then y else []);
    lifting = next;
    store = s.store;
  })
  read_step =
      record {
        replayed = rw ((is k).state, (is k).closing) (now k);
        id = (is k).id ∙ k.known.id;
        eight = result.eight;
        few = result.few;
        counted =
            (is k).used
            ∙ ap (λ (n : ℕ). min (n + length y) LARGEST_PLACE) k.known.counted
            ∙ omega (arith, length-append x y);
        written = result.written;
        verdict = result.verdict;
        stands = λ still. result.stands (sym (ap (λ (st : State). st.conn.«open») (is k).state) ∙ still);
      }

-- One step of the receiver inside a lift: what was known before it, and what the bytes come to that it uses.
use Prim.Native.Nat.{ℕ, ◌+◌, ◌-◌, ◌≤◌, ◌<◌, min}
use Rattle.std.specs.Prelude.{◌≡◌, refl, true, false, ◌||◌, take, drop, ltb, if◌then◌else◌}
use Rattle.std.proofs.Common.{sym, ap₂, ◌∙◌, subst, inl, inr, arith, drop_of_length-le}
use Rattle.std.proofs.Math.Path.{ap}
use mathlib.Core.List.{List, [], ◌∷◌, ◌++◌, append-nil, append_assoc}
use Rattle.std.proofs.Math.Option.{Option, none}
use Rattle.std.proofs.Math.ListN.{length}
use borrow.Author.Tests.{ltb-true, ltb-false}
use Rattle.wire.specs.Test.{by_test}
use Rattle.machine.specs.Cause.{Cause}
use Rattle.record_reader.specs.declared.Position.{Position}
use Rattle.record_reader.specs.Position.{between_records, after}
use Rattle.record_reader.proofs.PositionLaws.{after_append}
use Rattle.connection.specs.Sizes.{QUERY, STORE}
use Rattle.connection.specs.Step.{State, Stepped, stepped}
use Rattle.connection.specs.Bytewise.{Note}
use Rattle.connection.specs.Run.{Memory, memory_of}
use Rattle.wire.proofs.Bytes.{AllBytes}
use Rattle.connection.proofs.Laws.Progress.{Fits, fits_admitted}
use Rattle.plain.specs.Plain.{Request, Said}
use Rattle.plain_agrees.specs.Agreement.{close_of_event, is_between, word_at}
use Rattle.lifting.specs.Lift as L
use Rattle.lifting.specs.Lift.{ClosedAt, LARGEST_PLACE, is_copied, copy_of_record, copies, lift_of, copy_of, verdict_of}
use Rattle.lifting.specs.Call.{Lifting, position_of, waiting_bytes, completes, with_header, with_bytes, after_bytes, verdict_now}
use Rattle.lifting_agrees.specs.Statement.{Outcome, word_of}
use Rattle.lifting_agrees.proofs.CopyRecords.{said_of}
use Rattle.lifting_agrees.proofs.LiftLaws.{lift_from, GoingOn, verdict_any}
use Rattle.lifting_agrees.proofs.Replay.{Replayed, replay_step, step_position, replay_word}
use Rattle.lifting_agrees.proofs.PartPosition.{Unfinished, Reads, step_reads}
use Rattle.lifting_agrees.proofs.PartTests.{not_between}
use Rattle.lifting_agrees.proofs.Reading.{Within, Comes, Short, Goes, Closes, comes, verdict_is, none_told, some_told, Reading, Stands, settle}

-- ---- what is known after calls
-- the state and the store of the receiver
abbrev pub memory_at : Outcome → Memory
memory_at o = record { state = o.lifting.state; store = o.store }

pub record Known (gathered store : List ℕ) (R : ℕ) (o : Outcome) : Type 0 where
  -- the receiver was fed what was used
  pub replayed : Replayed gathered store o.used (memory_at o) o.lifting.closing
  pub id : o.lifting.id ≡ R
  pub eight : length o.lifting.header ≡ 8
  pub few : o.lifting.waiting ≤ 8
  pub counted : o.lifting.used ≡ min (length o.used) LARGEST_PLACE
  pub written : o.written ++ waiting_bytes o.lifting ≡ copy_of R o.used
  pub verdict : verdict_now o.lifting ≡ verdict_of o.used
  pub stands : o.lifting.state.conn.«open» ≡ true → Stands R o.used o.lifting

-- ---- the state after some bytes, whether they complete a header or not
pub record Next (l : Lifting) (s : Stepped) (y : List ℕ) (next : Lifting) : Type 0 where
  pub state : next.state ≡ s.state
  pub id : next.id ≡ l.id
  pub used : next.used ≡ min (l.used + length y) LARGEST_PLACE
  pub start : next.start ≡ (if is_between (position_of l) then l.used else l.start)
  pub closing : next.closing ≡ close_of_event s.event

pub next_bytes : (l : Lifting) (s : Stepped) (y : List ℕ) → completes (position_of l) y ≡ false
    → after_bytes l s y ≡ with_bytes l s y
next_bytes l s y e = simp e

pub next_header : (l : Lifting) (s : Stepped) (y : List ℕ) → completes (position_of l) y ≡ true
    → after_bytes l s y ≡ with_header l s y
next_header l s y e = simp e

is_next : (l : Lifting) (s : Stepped) (y : List ℕ) → Next l s y (after_bytes l s y)
unfolding with_header with_bytes
is_next l s y =
    by_test (completes (position_of l) y)
    (λ e.
    subst (Next l s y) (sym (next_header l s y e))
    (record { state = refl; id = refl; used = refl; start = refl; closing = refl }))
    (λ e.
    subst (Next l s y) (sym (next_bytes l s y e))
    (record { state = refl; id = refl; used = refl; start = refl; closing = refl }))

-- no header waits
pub nothing_waits : (l : Lifting) → length l.header ≡ 8 → l.waiting ≡ 0 → waiting_bytes l ≡ []
nothing_waits l eight idle =
    ap (λ (n : ℕ). drop (8 - n) l.header) idle ∙ drop_of_length-le l.header {i = 8} (omega arith)

part_within : (u : List ℕ) → Unfinished u → Within u
part_within u (inl short) = inl short
part_within u (inr (header, cut)) = inr (header, omega arith)

nil_of : (u : List ℕ) → length u ≡ 0 → u ≡ []
nil_of [] e = refl
nil_of (n ∷ u) e = absurd (omega arith)

-- ---- one step
-- What it starts from: all that is known, the receiver open, nothing waiting, and bytes that it is offered.
pub record OneStep (gathered store : List ℕ) (R : ℕ) (o : Outcome) (bytes : List ℕ) : Type 0 where
  pub gathered_size : length gathered ≡ QUERY
  pub store_size : length store ≡ STORE
  pub some_id : 0 < R
  pub known : Known gathered store R o
  pub is_open : o.lifting.state.conn.«open» ≡ true
  pub idle : o.lifting.waiting ≡ 0
  pub are_bytes : AllBytes bytes

module _ {gathered store : List ℕ} {R : ℕ} {o : Outcome} {bytes : List ℕ} (k : OneStep gathered store R o bytes) where
  -- the lift and the bytes that it used; the step and the bytes that it uses
  abbrev pub l : Lifting
  l = o.lifting

  abbrev pub x : List ℕ
  x = o.used

  abbrev pub s : Stepped
  s = stepped l.state o.store bytes

  abbrev pub y : List ℕ
  y = take s.used bytes

  abbrev pub next : Lifting
  next = after_bytes l s y

  abbrev pub r : Reading R x l
  r = (k.known.stands k.is_open).0

  -- the record that is read, before the step and after it
  abbrev pub b : List ℕ
  b = r.part ++ y

  abbrev pub lift : List ℕ → L.Lifted
  lift u = lift_from R (length r.before) r.begun r.requests u

  pub is : Next l s y next
  is = is_next l s y

  pub now : Replayed gathered store (x ++ y) (memory_of s) (close_of_event s.event)
  now =
      let closing = k.known.replayed.open_none k.is_open in
      let open-now : Replayed gathered store x (memory_at o) none =
      subst (λ (c : Option Cause). Replayed gathered store x (memory_at o) c) closing k.known.replayed in
      replay_step gathered store x (memory_at o) bytes open-now k.are_bytes

  word_now : word_at (close_of_event s.event) s.state.conn.frame.position ≡ word_of (verdict_of (x ++ y))
  word_now =
      replay_word gathered store (x ++ y) (memory_of s) (close_of_event s.event) k.gathered_size k.store_size now

  pub reads : Reads r.part y
  reads =
      let z = k.known.replayed.steady in
      let fits : Fits l.state.conn o.store =
      record { size = z.sizes.full; shape = z.shape; is_open = k.is_open } in
      step_reads l.state o.store r.part bytes r.position (k.known.stands k.is_open).1
      (fits_admitted l.state.conn o.store fits)

  -- ---- what the bytes come to
  lift_joined : (u : List ℕ) → lift_of R (x ++ u) ≡ copies r.copy (lift (r.part ++ u))
  lift_joined u =
      ap (lift_of R) (ap (λ (v : List ℕ). v ++ u) r.joined ∙ append_assoc r.before r.part u)
      ∙ r.goes (r.part ++ u)

  pub copy_now : copy_of R (x ++ y) ≡ r.copy ++ (lift b).copy
  copy_now = ap (λ (w : L.Lifted). w.copy) (lift_joined y)

  verdict_at : verdict_of (x ++ y) ≡ (lift b).verdict
  verdict_at = verdict_any R (x ++ y) ∙ ap (λ (w : L.Lifted). w.verdict) (lift_joined y)

  -- and before the step
  lift_before : lift_of R x ≡ copies r.copy (lift r.part)
  lift_before = ap (lift_of R) r.joined ∙ r.goes r.part

  written_before : o.written ≡ r.copy ++ (lift r.part).copy
  written_before =
      sym (append-nil o.written)
      ∙ ap (λ (u : List ℕ). o.written ++ u) (sym (nothing_waits l k.known.eight k.idle))
      ∙ k.known.written
      ∙ ap (λ (w : L.Lifted). w.copy) lift_before

  going_before : GoingOn (lift r.part).verdict
  going_before cause e =
      let w =
      replay_word gathered store x (memory_at o) l.closing k.gathered_size k.store_size k.known.replayed in
      some_told l.closing (position_of l) cause
      (w ∙ ap word_of (verdict_any R x ∙ ap (λ (w : L.Lifted). w.verdict) lift_before) ∙ e)
      (k.known.replayed.open_none k.is_open)

  comes_before : Comes R (length r.before) r.begun r.requests r.part
  comes_before =
      comes R (length r.before) r.begun r.requests r.part
      (part_within r.part (k.known.stands k.is_open).1)

  -- a header that was not all there: nothing of the record was copied
  pub short_before : length r.part < 8 → o.written ≡ r.copy
  short_before short = go comes_before
    where
      go : Comes R (length r.before) r.begun r.requests r.part → o.written ≡ r.copy
      go (Short less empty going) = written_before ∙ ap (λ (u : List ℕ). r.copy ++ u) empty ∙ append-nil r.copy
      go (Goes es rs' header said copy going) = absurd (omega arith)
      go (Closes cause header said empty closed) = absurd (omega arith)

  -- a header that was: the record goes on, and what was there of it was copied if its header says so
  pub record Came : Type 0 where
    pub events : List Note
    pub requests : List Request
    pub said : said_of r.requests r.part ≡ Said.Goes events requests
    pub written : o.written ≡ r.copy ++ copy_of_record (is_copied R r.begun r.part) r.part

  pub came_before : 8 ≤ length r.part → Came
  came_before header = go comes_before
    where
      go : Comes R (length r.before) r.begun r.requests r.part → Came
      go (Short less empty going) = absurd (omega arith)
      go (Goes es rs' header said copy going) =
          record {
            events = es;
            requests = rs';
            said = said;
            written = written_before ∙ ap (λ (u : List ℕ). r.copy ++ u) copy;
          }
      go (Closes cause header said empty closed) = absurd (going_before cause (ap word_of closed))

  -- ---- the verdict
  start_now : next.start ≡ min (length r.before) LARGEST_PLACE
  unfolding after
  start_now =
      is.start
      ∙ ap (λ (p : Position). if is_between p then l.used else l.start) r.position
      ∙ by_test (ltb 0 (length r.part))
      (λ t.
      let some = ltb-true 0 (length r.part) t in
      simp (not_between r.part (k.known.stands k.is_open).1 some) (r.start some))
      (λ t.
      let empty : r.part ≡ [] = nil_of r.part (omega (arith, ltb-false 0 (length r.part) t)) in
      let same : length x ≡ length r.before =
      ap length (r.joined ∙ ap (λ (u : List ℕ). r.before ++ u) empty ∙ append-nil r.before) in
      ap (λ (u : List ℕ). if is_between (after between_records u) then l.used else l.start) empty
      ∙ k.known.counted
      ∙ ap (λ (n : ℕ). min n LARGEST_PLACE) same)

  abbrev pub ComesNow : Type 0
  ComesNow = Comes R (length r.before) r.begun r.requests b

  pub verdict_now_lem : ComesNow → verdict_now next ≡ verdict_of (x ++ y)
  verdict_now_lem c =
      verdict_is next (verdict_of (x ++ y))
      (ap₂ (λ (u : Option Cause) (p : Position). word_at u p) is.closing
      (ap (λ (st : State). st.conn.frame.position) is.state)
      ∙ word_now)
      (λ cause place e. start_now ∙ placed c cause place (sym verdict_at ∙ e))
    where
      placed : ComesNow → (cause : Cause) (place : ℕ) → (lift b).verdict ≡ ClosedAt cause place
          → min (length r.before) LARGEST_PLACE ≡ place
      placed (Short less empty going) cause place e = absurd (going cause (ap word_of e))
      placed (Goes es rs' header said copy going) cause place e = absurd (going cause (ap word_of e))
      placed (Closes other header said empty closed) cause place e = cc

  -- ---- where it stands
  position_now : s.state.conn.«open» ≡ true → position_of next ≡ after between_records b
  position_now still =
      ap (λ (st : State). st.conn.frame.position) is.state
      ∙ step_position (memory_at o) bytes k.known.replayed.steady k.are_bytes still
      ∙ ap (λ (p : Position). after p y) r.position
      ∙ sym (after_append between_records r.part y)

  pub stands_now : ComesNow → Within b → s.state.conn.«open» ≡ true → (length b < 8 → next.begun ≡ r.begun)
      → (8 ≤ length b → next.begun ≡ (r.begun || is_copied R r.begun b))
      → (8 ≤ length b → next.copied ≡ is_copied R r.begun b) → Stands R (x ++ y) next
  stands_now c w still p q t =
      settle R (x ++ y) next
      (record {
        before = r.before;
        part = b;
        joined = ap (λ (v : List ℕ). v ++ y) r.joined ∙ append_assoc r.before r.part y;
        requests = r.requests;
        begun = r.begun;
        copy = r.copy;
        goes = r.goes;
        position = position_now still;
        begun_before_lem = p;
        begun_now = q;
        copied = t;
        start = λ some. start_now;
      })
      w (said c)
    where
      said : ComesNow → 8 ≤ length b
          → (es : List Note) × (rs' : List Request) × (said_of r.requests b ≡ Said.Goes es rs')
      said (Short less empty going) long = absurd (omega arith)
      said (Goes es rs' header goes copy going) long = (es, rs', goes)
      said (Closes cause header goes empty closed) long =
          absurd
          (some_told (close_of_event s.event) s.state.conn.frame.position cause
          (word_now ∙ ap word_of (verdict_at ∙ closed)) (now.open_none still))

  -- a record that goes on leaves the receiver open, one that closes does not
  pub goes_open : GoingOn (lift b).verdict → s.state.conn.«open» ≡ true
  goes_open going =
      now.none_open
      (none_told (close_of_event s.event) s.state.conn.frame.position (lift b).verdict
      (word_now ∙ ap word_of verdict_at) going)

  pub closes_shut : (cause : Cause) (place : ℕ) → (lift b).verdict ≡ ClosedAt cause place
      → s.state.conn.«open» ≡ false
  closes_shut cause place e =
      by_test s.state.conn.«open»
      (λ still.
      absurd
      (some_told (close_of_event s.event) s.state.conn.frame.position cause
      (word_now ∙ ap word_of (verdict_at ∙ e)) (now.open_none still)))
      (λ shut. shut)

-- The two receivers agree: the proof.
use Prim.Native.Nat.{ℕ, zero, suc, ◌+◌, ◌-◌, ◌≤◌, ◌<◌, min}
use Rattle.std.specs.Prelude.{◌≡◌, true, take, drop, get_or, ltb, leb, eqb, if◌then◌else◌}
use Rattle.std.proofs.Math.Path.{refl, ap, subst}
use Rattle.std.proofs.Common.{sym, ap₂, ◌∙◌, length-take, length-drop, lt-ltb, le-ltb, ltb-true, ltb-false, leb-true, leb-false, eqb-true, eq-eqb, ne_eqb}
use Rattle.std.proofs.Math.Bool.{false}
use mathlib.Core.List.{List, [], ◌∷◌, ◌++◌, append-nil, append_assoc}
use Rattle.std.proofs.Math.Option.{Option, none, some}
use native.Mathlib.Omega.{arith}
use Rattle.std.proofs.Math.ListN.{length}
use Rattle.wire.specs.Test.{by_test, ◌=?◌}
use Rattle.record.specs.Header.{header_of}
use Rattle.record.specs.Split.{Record, front_length, whole_front, front, split}
use Rattle.record.proofs.SplitLaws.{front_whole, whole_front_lem, split_whole, split_cut}
use Rattle.record_reader.specs.declared.Position.{Position}
use Rattle.slot_word.specs.Word.{taken}
use Rattle.machine.specs.Cause.{Cause}
use Rattle.connection.specs.Sizes.{QUERY, STORE}
use Rattle.connection.specs.Event.{Event}
use Rattle.connection.specs.Step.{State, started}
use Rattle.connection.specs.Bytewise.{Note, Told, Run, resting, ◌then-run◌, joined}
use Rattle.wire.proofs.Bytes.{AllBytes}
use Rattle.connection.proofs.Laws.StepSizes.{start_sizes}
use Rattle.meaning.specs.Meaning.{to_come, header_for, record_means, rest_means, records_mean, means}
use Rattle.meaning.proofs.Theorem.{from_a_start, start_between}
use Rattle.plain.specs.Plain as P
use Rattle.plain.specs.Plain.{Word, Open, Cut, Closed, Heard, Request as PlainRequest, Said, two, record_size, stops, follow, hear_in, heard}
use Rattle.plain_agrees.specs.Agreement.{close_of_note, first_of, events_of, close_in, is_between, last_word, fed_fresh, Agrees, Agreement}
use Rattle.plain_agrees.proofs.Requests.{SameRequests}
use Rattle.plain_agrees.proofs.OneRecord.{Means, record_means_lem}

-- ---- what is heard, beside a run
-- the close that a last word stands for
abbrev closes_with : Word → List Note
closes_with Open = []
closes_with Cut = []
closes_with (Closed cause) = Told (Event.Closed cause) ∷ []

-- and where the reader stands with it
abbrev StandsAt : Word → Position → Type 0
StandsAt Open p = is_between p ≡ true
StandsAt Cut p = is_between p ≡ false
StandsAt (Closed cause) p = Unit {0}

-- A run that tells what is heard, the close last, and ends where the last word says.
record HeardIn (h : Heard) (r : Run) : Type 0 where
  told : r.notes ≡ h.events ++ closes_with h.word
  no_close : close_in h.events ≡ none
  stands : StandsAt h.word r.state.conn.frame.position

-- No close is told in a list if none is in its first note and none after it, nor in two such lists joined.
first_none : (o : Option Cause) (l : List Note) → first_of o (close_in l) ≡ none → (o ≡ none) × (close_in l ≡ none)
first_none none l e = (refl, e)
first_none (some cause) l e = let z : ◌≡◌ {A = ℕ} 0 1 = cc in absurd (omega arith)

no_close_append : (es fs : List Note) → close_in es ≡ none → close_in fs ≡ none → close_in (es ++ fs) ≡ none
unfolding close_in
no_close_append [] fs e f = f
no_close_append (n ∷ es) fs e f =
    let s = first_none (close_of_note n) es e in rw s.0 (no_close_append es fs s.1 f)

-- a record that goes on
joins : (r : Run) (es : List Note) (h : Heard) (f : State → List ℕ → Run) → r.notes ≡ es → close_in es ≡ none
    → HeardIn h (f r.state r.store)
    → HeardIn (record { events = es ++ h.events; word = h.word }) (r then-run f)
joins r es h f n o s =
    record {
      told =
          ap₂ (λ (u v : List Note). u ++ v) n s.told ∙ sym (append_assoc es h.events (closes_with h.word));
      no_close = no_close_append es h.events o s.no_close;
      stands = s.stands;
    }

-- ---- bytes by their first record
means_shut : (b : List ℕ) (st : State) (store : List ℕ) → st.conn.«open» ≡ false
    → means st store b ≡ resting st store
unfolding means records_mean
means_shut b st store o = go (split b).records
  where
    go : (rs : List Record) → records_mean rs (split b).rest st store ≡ resting st store
    go [] = simp o
    go (r ∷ rs) = simp o

means_cut : (b : List ℕ) (st : State) (store : List ℕ) → st.conn.«open» ≡ true → whole_front b ≡ false
    → means st store b ≡ rest_means st store b
unfolding means records_mean
means_cut b st store o t = rw (split_cut b t) (simp o)

means_whole : (b : List ℕ) (st : State) (store : List ℕ) → st.conn.«open» ≡ true → whole_front b ≡ true
    → means st store b
    ≡ record_means st store (front b) then-run (λ st' store'. means st' store' (drop (front_length b) b))
unfolding means records_mean
means_whole b st store o t = rw (split_whole b t) (simp o)

-- ---- the rest
short_front : (b : List ℕ) → length b < 8 → whole_front b ≡ false
unfolding whole_front
short_front b l = simp (lt-ltb (length b) 8 l)

rest_short : (b : List ℕ) (st : State) (store : List ℕ) → st.conn.«open» ≡ true → length b < 8
    → HeardIn (stops (if length b =? 0 then Open else Cut)) (means st store b)
unfolding rest_means close_in
rest_short b st store o l =
    rw (means_cut b st store o (short_front b l))
    (by_test (eqb (length b) 0)
    (λ e. simp (lt-ltb (length b) 8 l, e) (record { told = refl; no_close = refl; stands = simp e }))
    (λ e. simp (lt-ltb (length b) 8 l, e) (record { told = refl; no_close = refl; stands = simp e })))

not_between : (c p : ℕ) → 0 < c + p → is_between (to_come c p) ≡ false
not_between c p more =
    by_test (eqb c 0) (λ e. simp e (ne_eqb p 0 (λ z. omega (arith, eqb-true c 0 e)))) (λ e. simp e)

-- a record of which something is yet to come
cut_record : (s : Said) (c p : ℕ) (r : Run) → Means s c p r → 0 < c + p → HeardIn (follow s (λ rs. stops Cut)) r
unfolding close_in
cut_record (Said.Goes es rs) c p r g more =
    record {
      told = g.told ∙ sym (append-nil es) ∙ sym (append-nil (es ++ []));
      no_close = ap close_in (append-nil es) ∙ g.no_close;
      stands = ap is_between g.position ∙ not_between c p more;
    }
cut_record (Said.Closes cause) c p r g more = record { told = g.told; no_close = refl; stands = tt }

-- ---- a header at the front
module _ (b : List ℕ) (header : 8 ≤ length b) where
  -- its content length, its content or as much as there is of it, its padding length
  abbrev n : ℕ
  n = (header_of b).content

  abbrev x : List ℕ
  x = take n (drop 8 b)

  abbrev pad : ℕ
  pad = (header_of b).padding

  long_x : length x ≡ min n (length b - 8)
  long_x = length-take n (drop 8 b) ∙ ap (min n) (length-drop 8 b)

  same_size : front_length b ≡ record_size b
  unfolding front_length header_of
  same_size = refl

  -- what the plain receiver says of the record at the front
  abbrev said : List PlainRequest → Said
  said rs = P.says rs (get_or b 0 0) (get_or b 1 0) (two b 2) (two b 4) (take (two b 4) (drop 8 b))

  same_said : (rs : List PlainRequest)
      → P.says rs (header_of b).version (header_of b).kind (header_of b).id n x ≡ said rs
  unfolding header_of
  same_said rs = refl

  -- the record is cut
  rest_header : (rs : List PlainRequest) (st : State) (store : List ℕ) → st.conn.«open» ≡ true
      → SameRequests rs st.conn.table store → length st.gathered ≡ QUERY → length b < record_size b
      → HeardIn (follow (said rs) (λ rs'. stops Cut)) (means st store b)
  unfolding rest_means front_length
  rest_header rs st store o a q cut =
      let size = same_size in
      let t : whole_front b ≡ false =
      by_test (whole_front b) (λ w. absurd (omega (arith, (whole_front_lem b w).within))) (λ w. w) in
      let c = n - (length b - 8) in
      let p = pad - (length b - 8 - n) in
      rw (means_cut b st store o t)
      (simp (le-ltb (length b) 8 header)
      (cut_record (said rs) c p _
      (rw (sym (same_said rs))
      (record_means_lem st store rs (header_of b) x c p a q (omega (arith, long_x)) (omega (arith, long_x))))
      (omega arith)))

  -- the record is whole, and what is heard after it is given
  whole_header : (rs : List PlainRequest) (st : State) (store : List ℕ) → st.conn.«open» ≡ true
      → SameRequests rs st.conn.table store → length st.gathered ≡ QUERY → record_size b ≤ length b
      → (f : List PlainRequest → Heard)
      → ((rs' : List PlainRequest) (st' : State) (store' : List ℕ) → st'.conn.«open» ≡ true
      → SameRequests rs' st'.conn.table store' → length st'.gathered ≡ QUERY
      → HeardIn (f rs') (means st' store' (drop (record_size b) b)))
      → HeardIn (follow (said rs) f) (means st store b)
  unfolding front_length front means header_of close_in
  whole_header rs st store o a q whole f ih =
      let size = same_size in
      let t = front_whole b header (omega arith) in
      let r = record_means st store (front b) in
      let lx : length x ≡ n = long_x ∙ omega arith in
      let eq : P.says rs (header_of b).version (header_of b).kind (header_of b).id (length x) x ≡ said rs =
      ap (λ (m : ℕ). P.says rs (header_of b).version (header_of b).kind (header_of b).id m x) lx ∙ same_said rs in
      let m : Means (said rs) 0 0 r =
      subst (λ (s : Said). Means s 0 0 r) eq
      (record_means_lem st store rs (header_for (front b)) x 0 0 a q (omega arith) (omega arith)) in
      rw (means_whole b st store o t) (by_said (said rs) r m)
    where
      rest : State → List ℕ → Run
      rest st' store' = means st' store' (drop (front_length b) b)

      by_said : (s : Said) (r : Run) → Means s 0 0 r → HeardIn (follow s f) (r then-run rest)
      by_said (Said.Goes es rs') r g =
          joins r es (f rs') rest g.told g.no_close
          (ih rs' r.state r.store g.is_open g.requests g.gathered)
      by_said (Said.Closes cause) r g =
          let e = means_shut (drop (front_length b) b) r.state r.store g.is_closed in
          record {
            told = ap₂ (λ (u v : List Note). u ++ v) g.told (ap (λ (w : Run). w.notes) e);
            no_close = refl;
            stands = tt;
          }

-- ---- all of the bytes
-- From a state between two records, with the same requests in both receivers, they mean what is heard in them.
heard_means : (k : ℕ) (b : List ℕ) (rs : List PlainRequest) (st : State) (store : List ℕ) → length b ≤ k
    → st.conn.«open» ≡ true → SameRequests rs st.conn.table store → length st.gathered ≡ QUERY
    → HeardIn (hear_in k rs b) (means st store b)
unfolding hear_in
heard_means zero b rs st store l o a q =
    let e = eq-eqb (length b) 0 (omega arith) in simp e at (rest_short b st store o (omega arith))
heard_means (suc k) b rs st store l o a q =
    by_test (eqb (length b) 0)
    (λ e. let d = eqb-true (length b) 0 e in simp e (simp e at (rest_short b st store o (omega arith))))
    (λ e.
    by_test (ltb (length b) 8)
    (λ f. simp (e, f) (simp e at (rest_short b st store o (ltb-true (length b) 8 f))))
    (λ f.
    let header = ltb-false (length b) 8 f in
    by_test (leb (record_size b) (length b))
    (λ w.
    simp (e, f, w)
    (whole_header b header rs st store o a q (leb-true (record_size b) (length b) w)
    (λ rs'. hear_in k rs' (drop (record_size b) b))
    (λ rs' st' store' o' a' q'.
    heard_means k (drop (record_size b) b) rs' st' store' (omega (arith, length-drop (record_size b) b)) o' a' q')))
    (λ w. simp (e, f, w) (rest_header b header rs st store o a q (leb-false (record_size b) (length b) w)))))

-- ---- in the words of the statement
events_heard : (es : List Note) (w : Word) → close_in es ≡ none → events_of (es ++ closes_with w) ≡ es
unfolding events_of close_in
events_heard [] Open o = refl
events_heard [] Cut o = refl
events_heard [] (Closed cause) o = refl
events_heard (n ∷ es) w o =
    let s = first_none (close_of_note n) es o in rw s.0 (ap (λ (l : List Note). n ∷ l) (events_heard es w s.1))

-- without a close before it, the first close is the one after
close_after : (es : List Note) (l : List Note) → close_in es ≡ none → close_in (es ++ l) ≡ close_in l
unfolding close_in
close_after [] l o = refl
close_after (n ∷ es) l o = let s = first_none (close_of_note n) es o in rw s.0 (close_after es l s.1)

word_heard : (es : List Note) (w : Word) (r : Run) → r.notes ≡ es ++ closes_with w → close_in es ≡ none
    → StandsAt w r.state.conn.frame.position → last_word r ≡ w
unfolding last_word close_in
word_heard es Open r told o stands = rw (told, close_after es [] o) (simp stands)
word_heard es Cut r told o stands = rw (told, close_after es [] o) (simp stands)
word_heard es (Closed cause) r told o stands = rw (told, close_after es (Told (Event.Closed cause) ∷ []) o) refl

-- a fresh start has no requests
not_taken : (i : ℕ) → taken i 0 ≡ false
unfolding taken
not_taken zero = refl
not_taken (suc i) = not_taken i

start_same : (gathered store : List ℕ) → length gathered ≡ QUERY → length store ≡ STORE
    → SameRequests [] (started gathered store).state.conn.table (started gathered store).store
unfolding started
start_same gathered store g s =
    let z = start_sizes gathered store g s in
    let e = eq-eqb (length store) STORE s in
    record {
      few = omega arith;
      sized = z.table;
      full = z.full;
      used = λ i l. absurd (omega arith);
      free = λ i l m. simp e (not_taken i);
      each = λ i l. absurd (omega arith);
    }

-- What bytes mean from a fresh start is what the plain receiver hears in them.
pub plain_means : (b gathered store : List ℕ) → length gathered ≡ QUERY → length store ≡ STORE
    → Agrees b (means (started gathered store).state (started gathered store).store b)
unfolding heard
plain_means b gathered store g s =
    let k = start_between gathered store g s in
    let m =
    heard_means (length b) b [] (started gathered store).state (started gathered store).store (omega arith)
    k.is_open (start_same gathered store g s) k.sizes.gathered in
    record {
      events = ap events_of m.told ∙ events_heard (heard b).events (heard b).word m.no_close;
      word = word_heard (heard b).events (heard b).word _ m.told m.no_close m.stands;
    }

-- In any cutting the stepping receiver tells what the plain one hears.
pub plain_is_stepping : (pieces : List (List ℕ)) (gathered store : List ℕ) → length gathered ≡ QUERY
    → length store ≡ STORE → AllBytes (joined pieces) → Agrees (joined pieces) (fed_fresh gathered store pieces)
plain_is_stepping pieces gathered store g s all =
    rw (from_a_start pieces gathered store g s all) (plain_means (joined pieces) gathered store g s)

-- So they answer the same, asked by number.
pub by_number : (pieces : List (List ℕ)) (gathered store : List ℕ) (k : ℕ) → length gathered ≡ QUERY
    → length store ≡ STORE → AllBytes (joined pieces)
    → P.answer_in (events_of (fed_fresh gathered store pieces).notes) (last_word (fed_fresh gathered store pieces)) k
    ≡ P.answer (joined pieces) k
unfolding P.answer
by_number pieces gathered store k g s all =
    let a = plain_is_stepping pieces gathered store g s all in
    ap₂ (λ (es : List Note) (w : Word). P.answer_in es w k) a.events a.word

pub agreement : Agreement
agreement = record { plain_is_stepping = plain_is_stepping; by_number = by_number }

-- Where the test of a run's premises holds, so do the premises.
use Rattle.std.specs.Prelude.{◌≡◌, refl, ◌⊎◌, Bool, true, false, not, ℕ, if◌then◌else◌}
use Rattle.std.proofs.Common.{ap, inl, inr, arith, eq-eqb}
use mathlib.Core.List.{List, [], ◌∷◌, ◌++◌, map, Memᴰ}
use Rattle.std.proofs.lemmas.List.{length-replicate}
use Rattle.std.proofs.lemmas.Bool.{not-true}
use Rattle.wire.specs.Test.{◌=?◌}
use Rattle.wire.proofs.Bytes.{AllBytes}
use Rattle.wire.specs.Buffer.{zeros}
use Rattle.record.specs.Split.{front_length, whole_front, front, split_in, split}
use Rattle.machine.specs.Timeline.{byte_items, item_bytes, header_id, header_content, header_padding, Scan, ScanHeader, scan_left, scan_whole, scan_next, is_own, is_own_call, purge_from}
use Rattle.connection.specs.Sizes.{STORE, QUERY}
use Rattle.connection.specs.Bytewise.{Note}
use Rattle.connection.specs.Run as Base
use Rattle.connection.specs.Run.{Heard, request_of}
use Rattle.examples.proofs.RunTests as Tests
use Rattle.examples.proofs.RunTests.{all_below, refused_in, never_refused}
use Rattle.queue_slot.specs.Atoms.{record_atoms}
use Rattle.queue_slot.specs.Wait.{byte_atoms, atoms_in}
use Rattle.queue.specs.Calls.{QUEUE, QueueMemory}
use Rattle.queue.specs.Run.{QueueOperation, StepOver, CallFor, CountActive, TurnWith, queue_called, used_of, queue_after, waits_of, leaving_of, notes_of, shown_in, records_of, final_queue, queue_items, queue_timeline, shown_all, written_all, notes_all, PiecesAreBytes, QueueRun, beginning}
use Rattle.queue.specs.Isolation.{is_ten, NeverTenFrom, QuietBytes, scanned, QuietFrom, QuietAloneFrom, NeverOverloaded, Settled, SettledAlone}
use Rattle.queue.proofs.PumpTests.{computing}
use Rattle.queue_runs.specs.Premises.{none_own, among_others, is_nil, on_its_own, Quiet, is_well, scan_after, goes_well}

-- what a run, its timeline and what it shows and writes are computed with
unfoldable pub judging : Unit {0}
unfolding computing front_length whole_front front split_in split byte_items item_bytes header_id header_content header_padding scan_left scan_whole scan_next is_own is_own_call purge_from request_of record_atoms byte_atoms atoms_in waits_of leaving_of notes_of shown_in records_of queue_items queue_timeline shown_all written_all notes_all
judging = tt

-- both tests hold
both : (a b : Bool) → (if a then b else false) ≡ true → (a ≡ true) × (b ≡ true)
both true b e = (refl, e)
both false b e = let z : ◌≡◌ {A = ℕ} 0 1 = cc in absurd (omega arith)

-- the first test fails and the second holds
but : (a b : Bool) → (if a then false else b) ≡ true → (a ≡ false) × (b ≡ true)
but true b e = let z : ◌≡◌ {A = ℕ} 0 1 = cc in absurd (omega arith)
but false b e = (refl, e)

-- ---- pieces are bytes
below_bytes : (x : List ℕ) → all_below x ≡ true → AllBytes x
unfolding Tests.pieces_below
below_bytes x e = (Tests.below_pieces (Base.StepOver x ∷ []) (rw e)).0

unfoldable pub pieces_below : List QueueOperation → Bool
pieces_below [] = true
pieces_below (StepOver x ∷ os) = if all_below x then pieces_below os else false
pieces_below (CallFor id a ∷ os) = pieces_below os
pieces_below (CountActive ∷ os) = pieces_below os
pieces_below (TurnWith allowance buffer ∷ os) = pieces_below os

-- They are.
pub below_pieces : (os : List QueueOperation) → pieces_below os ≡ true → PiecesAreBytes os
unfolding pieces_below
below_pieces [] e = tt
below_pieces (StepOver x ∷ os) e = let d = both (all_below x) (pieces_below os) e in (below_bytes x d.0, below_pieces os d.1)
below_pieces (CallFor id a ∷ os) e = below_pieces os e
below_pieces (CountActive ∷ os) e = below_pieces os e
below_pieces (TurnWith allowance buffer ∷ os) e = below_pieces os e

-- A run of these operations, from zeros everywhere.
abbrev pub from_zeros : (os : List QueueOperation) → pieces_below os ≡ true → QueueRun
from_zeros os e =
    record {
      gathered = zeros QUERY;
      store = zeros STORE;
      queue = zeros QUEUE;
      marks = zeros QUEUE;
      operations = os;
      gathered_size = length-replicate {A = ℕ} QUERY 0;
      store_size = length-replicate {A = ℕ} STORE 0;
      queue_size = length-replicate {A = ℕ} QUEUE 0;
      marks_size = length-replicate {A = ℕ} QUEUE 0;
      pieces = below_pieces os e;
    }

-- ---- never refused for want of a slot
heard_in_lem : (n : Note) (ns : List Note) → Memᴰ n ns → Memᴰ (Heard n) (map Heard ns)
heard_in_lem n (x ∷ ns) (Memᴰ.head e) = Memᴰ.head (ap Heard e)
heard_in_lem n (x ∷ ns) (Memᴰ.tail h) = Memᴰ.tail (heard_in_lem n ns h)
heard_in_lem n [] x' = elim x' [ ]

-- Where no note refuses R, R is not refused for want of a slot.
pub never_overloaded : (R : ℕ) (r : QueueRun) → refused_in R (map Heard (notes_all (beginning r) r.operations)) ≡ false → NeverOverloaded R r
never_overloaded R r e h = never_refused R (map Heard (notes_all (beginning r) r.operations)) e (heard_in_lem _ _ h)

-- ---- no byte of R's between a finish of R and its END
none_own_lem : (R : ℕ) (m : Scan) (x rest : List ℕ) → none_own R m x rest ≡ true → QuietBytes R true m x rest
unfolding none_own
none_own_lem R m [] rest e = tt
none_own_lem R m (b ∷ x) rest e =
    let d = but (is_own R m (b ∷ (x ++ rest))) (none_own R (scan_next R m b) x rest) e in
    (λ o. let z : ◌≡◌ {A = ℕ} 0 1 = cc (d.0, o) in absurd (omega arith), none_own_lem R (scan_next R m b) x rest d.1)

not_leaving : (R : ℕ) (m : Scan) (x rest : List ℕ) → QuietBytes R false m x rest
not_leaving R m [] rest = tt
not_leaving R m (b ∷ x) rest = (λ o. refl, not_leaving R (scan_next R m b) x rest)

among_others_lem : (R : ℕ) (l : Bool) (k : Scan) (x rest : List ℕ) → among_others R l k x rest ≡ true → QuietBytes R l k x rest
among_others_lem R true k x rest e = none_own_lem R k x rest e
among_others_lem R false k x rest e = not_leaving R k x rest

is_nil_lem : {A : Type 0} (l : List A) → is_nil l ≡ true → l ≡ []
is_nil_lem [] e = refl
is_nil_lem (x ∷ l) e = let z : ◌≡◌ {A = ℕ} 0 1 = cc in absurd (omega arith)

on_its_own_lem : (l : Bool) (k : Scan) (x rest : List ℕ) → on_its_own l k x rest ≡ true → (x ≡ []) ⊎ (l ≡ false)
on_its_own_lem true k x rest e = inl (is_nil_lem x e)
on_its_own_lem false k x rest e = inr refl

not_held : (R id : ℕ) (t : Bool) → (if id =? R then not t else true) ≡ true → id ≡ R → t ≡ false
not_held R id t e same = not-true t (rw (eq-eqb id R same) at e)

module _ (quiet : Quiet) (R : ℕ) where
  -- the first operation, and the others
  well : (o : QueueOperation) (os : List QueueOperation) (m : QueueMemory) (k : Scan) → goes_well quiet R m k (o ∷ os) ≡ true
      → (is_well quiet R m k o os ≡ true) × (goes_well quiet R (queue_after m o) (scan_after R m k o) os ≡ true)
  unfolding goes_well
  well o os m k e = both (is_well quiet R m k o os) (goes_well quiet R (queue_after m o) (scan_after R m k o) os) e

  tens : (os : List QueueOperation) (m : QueueMemory) (k : Scan) → goes_well quiet R m k os ≡ true → NeverTenFrom R m os
  unfolding queue_after
  tens [] m k e = tt
  tens (StepOver piece ∷ os) m k e = tens os (queue_after m (StepOver piece)) (scanned R k (used_of m piece)) (well (StepOver piece) os m k e).1
  tens (CallFor id a ∷ os) m k e =
      let d = well (CallFor id a) os m k e in
      (not_held R id (is_ten (queue_called m id a).answer) d.0, tens os (queue_after m (CallFor id a)) k d.1)
  tens (CountActive ∷ os) m k e = tens os m k (well CountActive os m k e).1
  tens (TurnWith allowance buffer ∷ os) m k e = tens os (queue_after m (TurnWith allowance buffer)) k (well (TurnWith allowance buffer) os m k e).1

  ends : (os : List QueueOperation) (m : QueueMemory) (k : Scan) → goes_well quiet R m k os ≡ true → waits_of R (final_queue m os) ≡ []
  unfolding goes_well final_queue
  ends [] m k e = is_nil_lem (waits_of R m) e
  ends (o ∷ os) m k e = ends os (queue_after m o) (scan_after R m k o) (well o os m k e).1

module _ (R : ℕ) where
  quiets : (os : List QueueOperation) (m : QueueMemory) (k : Scan) → goes_well (among_others R) R m k os ≡ true → QuietFrom R m k os
  unfolding queue_after
  quiets [] m k e = tt
  quiets (StepOver piece ∷ os) m k e =
      let d = well (among_others R) R (StepOver piece) os m k e in (
        among_others_lem R (leaving_of R m) k (used_of m piece) (item_bytes (queue_timeline (queue_after m (StepOver piece)) os)) d.0,
        quiets os (queue_after m (StepOver piece)) (scanned R k (used_of m piece)) d.1,
      )
  quiets (CallFor id a ∷ os) m k e = quiets os (queue_after m (CallFor id a)) k (well (among_others R) R (CallFor id a) os m k e).1
  quiets (CountActive ∷ os) m k e = quiets os m k (well (among_others R) R CountActive os m k e).1
  quiets (TurnWith allowance buffer ∷ os) m k e = quiets os (queue_after m (TurnWith allowance buffer)) k (well (among_others R) R (TurnWith allowance buffer) os m k e).1

  alones : (os : List QueueOperation) (m : QueueMemory) (k : Scan) → goes_well on_its_own R m k os ≡ true → QuietAloneFrom R m os
  unfolding queue_after
  alones [] m k e = tt
  alones (StepOver piece ∷ os) m k e =
      let d = well on_its_own R (StepOver piece) os m k e in (
        on_its_own_lem (leaving_of R m) k (used_of m piece) (item_bytes (queue_timeline (queue_after m (StepOver piece)) os)) d.0,
        alones os (queue_after m (StepOver piece)) (scanned R k (used_of m piece)) d.1,
      )
  alones (CallFor id a ∷ os) m k e = alones os (queue_after m (CallFor id a)) k (well on_its_own R (CallFor id a) os m k e).1
  alones (CountActive ∷ os) m k e = alones os m k (well on_its_own R CountActive os m k e).1
  alones (TurnWith allowance buffer ∷ os) m k e = alones os (queue_after m (TurnWith allowance buffer)) k (well on_its_own R (TurnWith allowance buffer) os m k e).1

-- What the queue asks of a run, where the test holds.
pub settled : (R : ℕ) (r : QueueRun) → goes_well (among_others R) R (beginning r) (ScanHeader []) r.operations ≡ true → Settled R r
settled R r e = record {
  never_ten = tens (among_others R) R r.operations (beginning r) (ScanHeader []) e;
  quiet = quiets R r.operations (beginning r) (ScanHeader []) e;
  nothing_waits = ends (among_others R) R r.operations (beginning r) (ScanHeader []) e;
}

-- The same of a run whose bytes are all of R.
pub settled_alone : (R : ℕ) (r : QueueRun) → goes_well on_its_own R (beginning r) (ScanHeader []) r.operations ≡ true → SettledAlone R r
settled_alone R r e = record {
  never_ten = tens on_its_own R r.operations (beginning r) (ScanHeader []) e;
  quiet = alones R r.operations (beginning r) (ScanHeader []) e;
  nothing_waits = ends on_its_own R r.operations (beginning r) (ScanHeader []) e;
}

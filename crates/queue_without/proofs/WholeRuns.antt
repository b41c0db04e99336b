-- Whole runs without a queue, as runs with a queue in which nothing is queued and no turn is made.
--
-- They leave the same, have the same timeline, and show, tell and write the same. Both ways: a run without a queue is
-- such a run, and every run by the calls with a queue in which nothing is queued and no turn is made is one without a
-- queue, so that whatever is proved of runs without a queue speaks of it.
use Rattle.connection.specs.Slots.{Slot}
use Rattle.std.specs.Prelude.{◌≡◌, Bool, ℕ, take, if◌then◌else◌, Some, None}
use Rattle.std.proofs.Math.Path.{refl, ap, ap₂, sym, fun_ext}
use Rattle.std.proofs.Common.{◌∙◌, eqb-true}
use mathlib.Core.List.{List, [], ◌∷◌, ◌++◌, map, map-append}
use Rattle.std.proofs.Math.Bool.{true, false}
use Rattle.wire.specs.Test.{by_test, ◌=?◌}
use Rattle.record.specs.Split.{split_in, split}
use Rattle.machine.specs.Timeline.{Item, ByteItem, byte_items}
use Rattle.connection.specs.Slots.{find, on_slot}
use Rattle.connection.specs.Step.{Stepped}
use Rattle.connection.specs.Bytewise.{Note, notes}
use Rattle.connection.specs.Run as Base
use Rattle.connection.specs.Run.{Memory, Operation, Observed, Heard, Answered, called, step_of, memory_after, seen_in, items_of, final_memory, all_seen, timeline, start_of, PiecesOk, request_of, seen_of, WholeRun}
use Rattle.examples.proofs.RunTests.{heard_in}
use Rattle.queue_slot.specs.Atoms.{Atom}
use Rattle.queue_slot.specs.Wait.{atoms_in}
use Rattle.queue_slot.proofs.ServeLaws as Serve
use Rattle.queue.specs.Numbers.{nobody_waits, last_at}
use Rattle.queue.specs.Calls.{QueueMemory, wait_at}
use Rattle.queue.specs.Run as D
use Rattle.queue.specs.Run.{Asking, Straight, QueueOperation, Straightly, waits_of, leaving_of, Shown, ShownNote, ShownAnswer, notes_of, shown_in, records_of, written_bytes, bytes_in, final_queue, queue_items, queue_timeline, shown_all, written_all, notes_all, PiecesAreBytes, QueueRun}
use Rattle.queue_link.proofs.Loaded.{nobody_at}
use Rattle.queue_runs.proofs.Lists.{is_queued}
use Rattle.queue_runs.proofs.Closing.{both_ways}
use Rattle.queue_without.specs.Operations.{plainly, idle, plain_item, plain_shown, UnusedQueue, without_queue}
use Rattle.queue_without.proofs.Operations.{none_leaving, step_same, call_same, after_same}

-- ---- definitions
-- what was written of R's, by the answers that are observed
unfoldable pub written_in : ℕ → List Observed → List Atom
written_in R [] = []
written_in R (Heard n ∷ os) = written_in R os
written_in R (Answered id a answer before after ∷ os) = records_of R (split (written_bytes (Straightly answer))).records ++ written_in R os

-- Nothing is queued and no turn is made: each operation is a step, a straight call or the active number.
abbrev pub NothingQueued : List QueueOperation → Type 0
NothingQueued [] = Unit {0}
NothingQueued (D.StepOver piece ∷ os) = NothingQueued os
NothingQueued (D.CallFor id a ∷ os) = (is_queued a ≡ false) × NothingQueued os
NothingQueued (D.CountActive ∷ os) = NothingQueued os
NothingQueued (D.TurnWith allowance buffer ∷ os) = ⊥

-- The operations that are there without a queue; queued calls and turns are left out.
abbrev pub plain_ones : List QueueOperation → List Operation
plain_ones [] = []
plain_ones (D.StepOver piece ∷ os) = Base.StepOver piece ∷ plain_ones os
plain_ones (D.CallFor id (Straight a) ∷ os) = Base.CallFor id a ∷ plain_ones os
plain_ones (D.CallFor id (D.ToSay o content) ∷ os) = plain_ones os
plain_ones (D.CallFor id (D.ToEnd o) ∷ os) = plain_ones os
plain_ones (D.CallFor id (D.ToFinish status) ∷ os) = plain_ones os
plain_ones (D.CountActive ∷ os) = Base.CountActive ∷ plain_ones os
plain_ones (D.TurnWith allowance buffer ∷ os) = plain_ones os

-- Their pieces are bytes still.
pub ones_pieces : (os : List QueueOperation) → PiecesAreBytes os → PiecesOk (plain_ones os)
ones_pieces [] p = tt
ones_pieces (D.StepOver piece ∷ os) p = (p.0, ones_pieces os p.1)
ones_pieces (D.CallFor id (Straight a) ∷ os) p = ones_pieces os p
ones_pieces (D.CallFor id (D.ToSay o content) ∷ os) p = ones_pieces os p
ones_pieces (D.CallFor id (D.ToEnd o) ∷ os) p = ones_pieces os p
ones_pieces (D.CallFor id (D.ToFinish status) ∷ os) p = ones_pieces os p
ones_pieces (D.CountActive ∷ os) p = ones_pieces os p
ones_pieces (D.TurnWith allowance buffer ∷ os) p = ones_pieces os p

-- The run without a queue of these operations, from the same start.
abbrev pub plain_part : QueueRun → WholeRun
plain_part r =
    record {
      gathered = r.gathered;
      store = r.store;
      operations = plain_ones r.operations;
      gathered_size = r.gathered_size;
      store_size = r.store_size;
      pieces = ones_pieces r.operations r.pieces;
    }

-- Run r with a queue makes just the operations of run w without one, from the same start.
pub record PlainRun (w : WholeRun) (r : QueueRun) : Type 0 where
  pub same_gathered : r.gathered ≡ w.gathered
  pub same_store : r.store ≡ w.store
  pub same_operations : r.operations ≡ map plainly w.operations

-- They come to the same: state and store at the end, with nothing waiting; the timeline; what is shown of each R; what
-- the steps tell; what is written of each R.
pub record SameRun (w : WholeRun) (r : QueueRun) : Type 0 where
  pub same_ending : D.ending r ≡ idle r.marks r.queue (Base.ending w)
  pub same_timeline : D.timeline_of r ≡ map plain_item (Base.timeline_of w)
  pub same_shown : (R : ℕ) → D.shown R r ≡ map plain_shown (Base.observed R w)
  pub same_notes : notes_all (D.beginning r) r.operations ≡ heard_in (Base.observed_in w)
  pub same_written : (R : ℕ) → D.written R r ≡ written_in R (Base.observed_in w)

-- ---- one operation
-- bytes are the same items
bytes_plain : (x : List ℕ) → byte_items x ≡ map plain_item (byte_items x)
unfolding byte_items
bytes_plain [] = refl
bytes_plain (b ∷ x) = ap (λ l. plain_item (ByteItem b) ∷ l) (bytes_plain x)

-- what is told of R is shown of it
notes_plain : (R : ℕ) (ns : List Note) → notes_of R ns ≡ map plain_shown (seen_of R (map Heard ns))
unfolding notes_of seen_of
notes_plain R [] = refl
notes_plain R (Note.Told e ∷ ns) = by_test (Base.event_id e =? R) (λ t. rw t (ap (λ l. ShownNote (Note.Told e) ∷ l) (notes_plain R ns))) (λ t. rw t (notes_plain R ns))
notes_plain R (Note.Shown id stream b ∷ ns) = by_test (id =? R) (λ t. rw t (ap (λ l. ShownNote (Note.Shown id stream b) ∷ l) (notes_plain R ns))) (λ t. rw t (notes_plain R ns))

module _ (marks queue : List ℕ) (m : Memory) where
  abbrev still : QueueMemory
  still = idle marks queue m

  -- Nothing of R waits.
  pub waits_none : (R : ℕ) → waits_of R still ≡ []
  unfolding waits_of
  waits_none R = go m.state.conn.«open» (find m.state.conn.table R)
    where
      go : (b : Bool) (s : Slot) → (if b then on_slot s (λ i. atoms_in (wait_at still i)) [] else []) ≡ []
      go true (Some i) = Serve.nothing_waits (wait_at still i) (nobody_at still i refl)
      go true None = refl
      go false s = refl

  -- R is not between its finish and its END.
  pub leaving_none : (R : ℕ) → leaving_of R still ≡ false
  unfolding leaving_of
  leaving_none R = go m.state.conn.«open» (find m.state.conn.table R)
    where
      go : (b : Bool) (s : Slot) → (if b then on_slot s (λ i. last_at nobody_waits i) false else false) ≡ false
      go true (Some i) = none_leaving i
      go true None = refl
      go false s = refl

  items_same : (o : Operation) → queue_items still (plainly o) ≡ map plain_item (items_of m o)
  unfolding queue_items items_of
  items_same (Base.StepOver piece) = rw (step_same marks queue m piece) (bytes_plain (Base.used_of m piece))
  items_same (Base.CallFor id a) = refl
  items_same Base.CountActive = refl

-- What an operation shows of R is what is observed of R.
shown_op : (marks queue : List ℕ) (R : ℕ) (m : Memory) (o : Operation) → shown_in R (idle marks queue m) (plainly o) ≡ map plain_shown (seen_of R (seen_in m o))
unfolding shown_in seen_in seen_of
shown_op marks queue R m (Base.StepOver piece) = rw (step_same marks queue m piece) (notes_plain R (notes (step_of m piece).event (Base.used_of m piece)))
shown_op marks queue R m (Base.CallFor id a) =
    by_test (id =? R)
    (λ t.
    let e = eqb-true id R t in
    let n = (called m id a).memory in
    rw (t, leaving_none marks queue m R, call_same marks queue m id a)
    (ap (λ x. ShownAnswer (Straight a) (Straightly (called m id a).answer) (request_of x m) (request_of x n) ∷ []) (sym e)))
    (λ t. rw t)
shown_op marks queue R m Base.CountActive = refl

-- a step writes nothing
none_written : (R : ℕ) → records_of R (split []).records ≡ []
unfolding split split_in records_of
none_written R = refl

-- what is told was not written
told_written : (R : ℕ) (ns : List Note) (os : List Observed) → written_in R os ≡ written_in R (map Heard ns ++ os)
unfolding written_in
told_written R [] os = refl
told_written R (n ∷ ns) os = told_written R ns os

-- What an operation writes of R is in its answer.
written_op : (marks queue : List ℕ) (R : ℕ) (m : Memory) (o : Operation) (os : List Observed)
    → records_of R (split (bytes_in (idle marks queue m) (plainly o))).records ++ written_in R os ≡ written_in R (seen_in m o ++ os)
unfolding bytes_in seen_in written_in
written_op marks queue R m (Base.StepOver piece) os = rw (none_written R) (told_written R (notes (step_of m piece).event (Base.used_of m piece)) os)
written_op marks queue R m (Base.CallFor id a) os = rw (call_same marks queue m id a)
written_op marks queue R m Base.CountActive os = rw (none_written R)

-- what is told is heard
told_heard : (ns : List Note) (os : List Observed) → ns ++ heard_in os ≡ heard_in (map Heard ns ++ os)
unfolding heard_in
told_heard [] os = refl
told_heard (n ∷ ns) os = ap (λ l. n ∷ l) (told_heard ns os)

-- what is observed of R, one list after another
seen_append : (R : ℕ) (os ps : List Observed) → seen_of R (os ++ ps) ≡ seen_of R os ++ seen_of R ps
unfolding seen_of
seen_append R [] ps = refl
seen_append R (o ∷ os) ps = by_test (Base.id_of o =? R) (λ t. rw t (ap (λ l. o ∷ l) (seen_append R os ps))) (λ t. rw t (seen_append R os ps))

-- ---- many operations
module _ (marks queue : List ℕ) where
  -- They leave the same state and store, and nothing waits.
  pub final_same : (os : List Operation) (m : Memory) → final_queue (idle marks queue m) (map plainly os) ≡ idle marks queue (final_memory m os)
  unfolding final_queue final_memory
  final_same [] m = refl
  final_same (o ∷ os) m = ap (λ n. final_queue n (map plainly os)) (after_same marks queue m o) ∙ final_same os (memory_after m o)

  -- They have the same timeline.
  pub timeline_same : (os : List Operation) (m : Memory) → queue_timeline (idle marks queue m) (map plainly os) ≡ map plain_item (timeline m os)
  unfolding queue_timeline timeline
  timeline_same [] m = refl
  timeline_same (o ∷ os) m =
      ap₂ (λ a b. a ++ b) (items_same marks queue m o) (ap (λ n. queue_timeline n (map plainly os)) (after_same marks queue m o) ∙ timeline_same os (memory_after m o))
      ∙ sym (map-append plain_item (items_of m o) (timeline (memory_after m o) os))

  -- They show the same of R.
  pub shown_same : (R : ℕ) (os : List Operation) (m : Memory) → shown_all R (idle marks queue m) (map plainly os) ≡ map plain_shown (seen_of R (all_seen m os))
  unfolding shown_all all_seen seen_of
  shown_same R [] m = refl
  shown_same R (o ∷ os) m =
      ap₂ (λ a b. a ++ b) (shown_op marks queue R m o) (ap (λ n. shown_all R n (map plainly os)) (after_same marks queue m o) ∙ shown_same R os (memory_after m o))
      ∙ sym (map-append plain_shown (seen_of R (seen_in m o)) (seen_of R (all_seen (memory_after m o) os)))
      ∙ sym (ap (map plain_shown) (seen_append R (seen_in m o) (all_seen (memory_after m o) os)))

  -- Their steps tell the same.
  pub notes_same : (os : List Operation) (m : Memory) → notes_all (idle marks queue m) (map plainly os) ≡ heard_in (all_seen m os)
  unfolding notes_all all_seen heard_in seen_in memory_after
  notes_same [] m = refl
  notes_same (Base.StepOver piece ∷ os) m =
      let n = memory_after m (Base.StepOver piece) in
      ap₂ (λ a b. a ++ b) (ap (λ (s : Stepped). notes s.event (take s.used piece)) (step_same marks queue m piece)) (ap (λ n. notes_all n (map plainly os)) (after_same marks queue m (Base.StepOver piece)) ∙ notes_same os n)
      ∙ told_heard (notes (step_of m piece).event (Base.used_of m piece)) (all_seen n os)
  notes_same (Base.CallFor id a ∷ os) m = ap (λ n. notes_all n (map plainly os)) (after_same marks queue m (Base.CallFor id a)) ∙ notes_same os (memory_after m (Base.CallFor id a))
  notes_same (Base.CountActive ∷ os) m = notes_same os m

  -- They write the same of R.
  pub written_same : (R : ℕ) (os : List Operation) (m : Memory) → written_all R (idle marks queue m) (map plainly os) ≡ written_in R (all_seen m os)
  unfolding written_all all_seen written_in
  written_same R [] m = refl
  written_same R (o ∷ os) m =
      ap (λ l. records_of R (split (bytes_in (idle marks queue m) (plainly o))).records ++ l) (ap (λ n. written_all R n (map plainly os)) (after_same marks queue m o) ∙ written_same R os (memory_after m o))
      ∙ written_op marks queue R m o (all_seen (memory_after m o) os)

-- ---- whole runs
module _ (w : WholeRun) (r : QueueRun) (p : PlainRun w r) where
  -- where it begins nothing waits
  begins_same : D.beginning r ≡ idle r.marks r.queue (Base.beginning w)
  begins_same = ap₂ (λ g s. idle r.marks r.queue (start_of g s)) p.same_gathered p.same_store

  -- What is computed from the start and the operations of the one is computed from those of the other.
  pub through {ℓ} : {A : Type ℓ} (f : QueueMemory → List QueueOperation → A) → f (D.beginning r) r.operations ≡ f (idle r.marks r.queue (Base.beginning w)) (map plainly w.operations)
  through f = ap₂ f begins_same p.same_operations

  -- The two come to the same.
  pub same_run : SameRun w r
  same_run =
      let m = Base.beginning w in
      let os = w.operations in
      record {
        same_ending = through final_queue ∙ final_same r.marks r.queue os m;
        same_timeline = through queue_timeline ∙ timeline_same r.marks r.queue os m;
        same_shown = λ R. through (shown_all R) ∙ shown_same r.marks r.queue R os m;
        same_notes = through notes_all ∙ notes_same r.marks r.queue os m;
        same_written = λ R. through (written_all R) ∙ written_same r.marks r.queue R os m;
      }

-- A run without a queue is a run with a queue that is not used.
pub without_plain : (u : UnusedQueue) (w : WholeRun) → PlainRun w (without_queue u w)
without_plain u w = record { same_gathered = refl; same_store = refl; same_operations = refl }

-- It leaves, tells, answers and writes the same.
pub without_same : (u : UnusedQueue) (w : WholeRun) → SameRun w (without_queue u w)
without_same u w = same_run w (without_queue u w) (without_plain u w)

-- where nothing is queued and no turn is made, nothing is left out
ones_same : (os : List QueueOperation) → NothingQueued os → os ≡ map plainly (plain_ones os)
ones_same [] n = refl
ones_same (D.StepOver piece ∷ os) n = ap (λ l. D.StepOver piece ∷ l) (ones_same os n)
ones_same (D.CallFor id (Straight a) ∷ os) n = ap (λ l. D.CallFor id (Straight a) ∷ l) (ones_same os n.1)
ones_same (D.CallFor id (D.ToSay o content) ∷ os) n = both_ways true refl n.0
ones_same (D.CallFor id (D.ToEnd o) ∷ os) n = both_ways true refl n.0
ones_same (D.CallFor id (D.ToFinish status) ∷ os) n = both_ways true refl n.0
ones_same (D.CountActive ∷ os) n = ap (λ l. D.CountActive ∷ l) (ones_same os n)
ones_same (D.TurnWith allowance buffer ∷ os) n = absurd n

-- A run by the calls with a queue in which nothing is queued and no turn is made is a run by the calls without one.
pub unqueued_plain : (r : QueueRun) → NothingQueued r.operations → PlainRun (plain_part r) r
unqueued_plain r n = record { same_gathered = refl; same_store = refl; same_operations = ones_same r.operations n }

-- So it leaves, tells, answers and writes the same.
pub unqueued_same : (r : QueueRun) → NothingQueued r.operations → SameRun (plain_part r) r
unqueued_same r n = same_run (plain_part r) r (unqueued_plain r n)

-- In a run without a queue nothing is queued, and no turn is made.
pub without_unqueued : (os : List Operation) → NothingQueued (map plainly os)
without_unqueued [] = tt
without_unqueued (Base.StepOver piece ∷ os) = without_unqueued os
without_unqueued (Base.CallFor id a ∷ os) = (refl, without_unqueued os)
without_unqueued (Base.CountActive ∷ os) = without_unqueued os

-- And its operations are found again.
pub ones_back : (os : List Operation) → plain_ones (map plainly os) ≡ os
ones_back [] = refl
ones_back (Base.StepOver piece ∷ os) = ap (λ l. Base.StepOver piece ∷ l) (ones_back os)
ones_back (Base.CallFor id a ∷ os) = ap (λ l. Base.CallFor id a ∷ l) (ones_back os)
ones_back (Base.CountActive ∷ os) = ap (λ l. Base.CountActive ∷ l) (ones_back os)

-- Whatever holds of all runs without a queue, of state and store at the end, the timeline, what is shown of each R and
-- what the steps tell, holds of every run with a queue in which nothing is queued and no turn is made.
pub carries_over : (P : Memory → List (Item Asking) → (ℕ → List Shown) → List Note → Type 0)
    → ((w : WholeRun) → P (Base.ending w) (map plain_item (Base.timeline_of w)) (λ R. map plain_shown (Base.observed R w)) (heard_in (Base.observed_in w)))
    → (r : QueueRun) → NothingQueued r.operations → P (D.ending r).memory (D.timeline_of r) (λ R. D.shown R r) (notes_all (D.beginning r) r.operations)
carries_over P h r n =
    let s = unqueued_same r n in
    rw (s.same_ending, s.same_timeline, s.same_notes, fun_ext s.same_shown) (h (plain_part r))

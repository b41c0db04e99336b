-- Hygiene with a queue: what holds of every memory of a run.
--
-- After any run with a queue, the state and what waits are in shape, no call is refused by 2 or 9, free areas are zero,
-- areas are zero beyond their lists, a closed connection keeps nothing, and nothing waits on it. Areas are kept so by
-- each single operation, from every memory that is steady, also from one that no run reaches and whatever waits there.
use Rattle.std.specs.Prelude.{◌≡◌, refl, List, [], ◌∷◌, Bool, true, false, ℕ, ◌-◌, ◌<◌, length, drop, get_or}
use Rattle.std.proofs.Common.{ap, sym, ◌∙◌, subst}
use Rattle.wire.specs.Buffer.{zeros}
use Rattle.slot_word.specs.Word.{taken}
use Rattle.connection.specs.declared.request.Request.{Request}
use Rattle.connection.specs.Sizes.{SLOTS, AREA}
use Rattle.connection.specs.Slots.{request_at, area_at, put_request}
use Rattle.connection.specs.Calls as C
use Rattle.connection.specs.Arguments.{Argument}
use Rattle.connection.specs.Run as Base
use Rattle.connection.specs.Run.{Memory, called, memory_after}
use Rattle.connection.proofs.Laws.SlotsLaws.{put_occupied, find_at}
use Rattle.connection.proofs.Runs.ReceiverLaws.{SameList}
use Rattle.connection.proofs.Runs.CallShape.{lengths_stay, with_request, without_request, closed_memory, steady_put, steady_free, steady_closed}
use Rattle.connection.proofs.Runs.CleanSlots.{CleanSlots, clean_none, clean_free, clean_step}
use Rattle.connection.proofs.Runs.HygieneKept.{Orderly, hygiene_kept, start_orderly}
use Rattle.connection.proofs.Runs.LinkingStep.{Steady, step_linked}
use Rattle.connection.proofs.Runs.LinkingCalls.{call_linked}
use Rattle.connection.proofs.Runs.LinkingRuns.{start_steady}
use Rattle.queue_slot.specs.Wait.{Wait}
use Rattle.queue.specs.Calls.{QueueMemory, conn_of, put_wait, with_conn, put_both, skipping, served_last, released_slot, pump_slot, PumpedRecord, queue_in_shape}
use Rattle.queue.specs.Run.{QueueOperation, queue_after, QueueRun, beginning, final_queue, PiecesAreBytes, ending}
use Rattle.queue_link.proofs.Loaded.{linked_steady}
use Rattle.queue_link.proofs.LinkedFinish.{skipped, steady_skip}
use Rattle.queue_link.proofs.LinkedRuns.{PieceOk, piece_ok}
use Rattle.queue_runs.proofs.Refusals.{NeverOut, never_out}
use Rattle.queue_runs.proofs.Closing.{KeepsNothing, closed_keeps_nothing}
use Rattle.queue_runs.proofs.Final.{run_sound}
use Rattle.queue_runs.proofs.Changes.{Change, Keeps, Steps, Writes, Waits, Retires, Turns, change, Serving, Goes, Ends, serving, turn_keeps}

-- ---- areas
-- Sizes and arrays are those of the code's types, the state is in shape, no header bytes are held within a record, free
-- areas are zero, and each area is zero beyond its length.
pub record Clean (m : Memory) : Type 0 where
  pub steady : Steady m
  pub areas : CleanSlots m.state.conn.table m.store

-- In the words of the statement without a queue.
pub clean_orderly : (m : Memory) → Clean m → Orderly m
clean_orderly m k = record {
  sizes = k.steady.sizes;
  arrays = k.steady.arrays;
  shape = k.steady.shape;
  areas = record { free = k.areas.free; beyond = k.areas.beyond };
}

slots_of_lem : (m : Memory) → Orderly m → CleanSlots m.state.conn.table m.store
slots_of_lem m o = record { free = o.areas.free; beyond = o.areas.beyond }

-- a straight call
after_call : (P : Memory → Type 0) (m : Memory) (id : ℕ) (a : Argument) → P (memory_after m (Base.CallFor id a)) → P (called m id a).memory
unfolding memory_after
after_call P m id a p = p

clean_call : (m : Memory) (id : ℕ) (a : Argument) → Clean m → Clean (called m id a).memory
clean_call m id a k = record {
  steady = after_call Steady m id a (call_linked m id a k.steady).steady;
  areas = slots_of_lem (called m id a).memory (after_call Orderly m id a (hygiene_kept m (Base.CallFor id a) tt (clean_orderly m k)));
}

-- a request put back
clean_put : (m : Memory) (i : ℕ) (r : Request) → i < SLOTS → SameList (request_at m.state.conn.table i) r → Clean m → Clean (with_request m i r)
unfolding request_at
clean_put m i r low same k =
    let t = m.state.conn.table in
    let stay : (put_request t i r).lengths ≡ t.lengths = lengths_stay t i r same in
    let busy : (j : ℕ) → taken j (put_request t i r).occupied ≡ taken j t.occupied = λ j. ap (taken j) (put_occupied t i r) in
    record {
      steady = steady_put m i r low same k.steady;
      areas = record {
        free = λ j l f. k.areas.free j l (sym (busy j) ∙ f);
        beyond = λ j l f. subst (λ (ls : List ℕ). drop (get_or ls j 0) (area_at m.store j) ≡ zeros (AREA - get_or ls j 0)) (sym stay) (k.areas.beyond j l (sym (busy j) ∙ f));
      };
    }

-- the rest of a record skipped
clean_skip : (m : Memory) (i : ℕ) → Clean m → Clean (skipped m i)
clean_skip m i k = record { steady = steady_skip m i k.steady; areas = record { free = k.areas.free; beyond = k.areas.beyond } }

-- a slot given back, and a close
clean_out : (m : Memory) (i : ℕ) → i < SLOTS → Clean m → Clean (without_request m i)
unfolding C.released
clean_out m i low k = record { steady = steady_free m i low k.steady; areas = clean_free m.state.conn.table m.store i k.steady.sizes.full low k.areas }

clean_shut : (m : Memory) → Clean m → Clean (closed_memory m)
clean_shut m k = record { steady = steady_closed m k.steady; areas = clean_none (length m.store) k.steady.sizes.full }

both_memory : (m : QueueMemory) (i : ℕ) (r : Request) (w : Wait) → (put_both m i r w).memory ≡ with_request m.memory i r
unfolding put_wait
both_memory m i r w = refl

-- A record of the pump keeps areas clean.
pub clean_record : (m : QueueMemory) (i : ℕ) (p : PumpedRecord) → i < SLOTS → Clean m.memory → Serving m i p → Clean p.left.memory
clean_record m i p low k (Goes e) = subst Clean (sym e) k
clean_record m i p low k (Ends status) = go (request_at (conn_of m).table i).state.keep
  where
    go : (b : Bool) → Clean (released_slot (served_last m i) i b).memory
    go true = clean_out m.memory i low k
    go false = clean_shut m.memory k

clean_change : (m n : QueueMemory) (o : QueueOperation) → PieceOk o → Clean m.memory → Change m o n → Clean n.memory
clean_change m n o p k Keeps = k
clean_change m n o p k (Steps piece e) = record {
  steady = linked_steady m.memory piece (step_linked m.memory piece k.steady p);
  areas = clean_step m.memory.state m.memory.store piece k.steady.sizes.table k.areas;
}
clean_change m n o p k (Writes id a e) = clean_call m.memory id a k
clean_change m n o p k (Waits id i a e found r w same) =
    subst Clean (sym (both_memory m i r w)) (clean_put m.memory i r (find_at (conn_of m).table id i found).low same k)
clean_change m n o p k (Retires id i a e found r w same) =
    subst Clean (sym (both_memory (with_conn m (skipping (conn_of m) i)) i r w))
    (clean_put (skipped m.memory i) i r (find_at (conn_of m).table id i found).low same (clean_skip m.memory i k))
clean_change m n o p k (Turns allowance buffer) = turn_keeps (λ q. Clean q.memory) (λ q i low w c. clean_record q i (pump_slot q i) low c (serving q i)) allowance m k

-- Each operation keeps areas clean: a step over any bytes, a call with any arguments, straight or queued, refused or not,
-- a turn of the pump.
pub clean_kept : (m : QueueMemory) (o : QueueOperation) → PieceOk o → Clean m.memory → Clean (queue_after m o).memory
clean_kept m o p k = clean_change m (queue_after m o) o p k (change m o)

-- A start is clean, whatever store, gathered bytes, queue and marks held before.
pub clean_start : (r : QueueRun) → Clean (beginning r).memory
clean_start r = record {
  steady = start_steady r.gathered r.store r.gathered_size r.store_size;
  areas = slots_of_lem (beginning r).memory (start_orderly r.gathered r.store r.gathered_size r.store_size);
}

-- ---- every run
clean_run : (os : List QueueOperation) (m : QueueMemory) → PiecesAreBytes os → Clean m.memory → Clean (final_queue m os).memory
unfolding final_queue
clean_run [] m p k = k
clean_run (o ∷ os) m p k = let q = piece_ok o os p in clean_run os (queue_after m o) q.1 (clean_kept m o q.0 k)

-- What holds after any run from a start.
pub record Hygienic (m : QueueMemory) : Type 0 where
  pub shape : queue_in_shape m ≡ true
  pub orderly : Orderly m.memory
  pub closed : KeepsNothing m
  pub refusals : NeverOut m

-- Hygiene: after any run, whatever store, gathered bytes, queue and marks held before.
pub hygiene : (r : QueueRun) → Hygienic (ending r)
hygiene r = record {
  shape = (run_sound r).shape;
  orderly = clean_orderly (ending r).memory (clean_run r.operations (beginning r) r.pieces (clean_start r));
  closed = closed_keeps_nothing r;
  refusals = never_out (ending r) (run_sound r);
}

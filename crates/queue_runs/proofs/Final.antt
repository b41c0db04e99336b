-- Closed is final with a queue.
--
-- On a closed memory in shape, with store and queue of their sizes, every step, every call, straight or queued, and every
-- turn of the pump is refused by 1 and changes nothing. So once a run is closed, everything after that is refused by 1,
-- and the memory stays as the close left it.
use Rattle.std.specs.Prelude.{◌≡◌, List, [], ◌∷◌, false, ℕ, length}
use Rattle.std.proofs.Math.Path.{refl, ap}
use Rattle.std.proofs.Common.{◌∙◌, subst, sym}
use borrow.Author.Tests.{eq-eqb}
use Rattle.connection.specs.Sizes.{STORE}
use Rattle.connection.specs.Step.{stays}
use Rattle.queue.specs.Calls.{QUEUE, QueueMemory, conn_of, queue_step_refusal, queue_step, queue_count, pump_refusal, pump, Pumped}
use Rattle.queue.specs.Run.{Asking, QueueOperation, StepOver, CallFor, CountActive, TurnWith, QueueResult, queue_called, queue_after, final_queue, QueueRun, beginning, ending}
use Rattle.queue_link.proofs.Loaded.{queue_shape}
use Rattle.queue_link.proofs.LinkedStraight.{same_with}
use Rattle.queue_link.proofs.LinkedFinish.{refused_with, closed_called}
use Rattle.queue_link.proofs.LinkedRuns.{run_is}
use Rattle.queue_theorem.proofs.Theorem.{start_fine}
use Rattle.queue_runs.proofs.Refusals.{Sound}

-- Every call is refused by 1 and changes nothing.
pub record AllRefused (m : QueueMemory) : Type 0 where
  pub step : (piece : List ℕ) → queue_step m piece ≡ stays 1 m.memory.state m.memory.store
  pub call : (id : ℕ) (a : Asking) → queue_called m id a ≡ refused_with m 1 a
  pub count : queue_count m ≡ record { refusal = 1; count = 0 }
  pub turn : (allowance : ℕ) (buffer : List ℕ) → pump m allowance buffer ≡ record { refusal = 1; records = 0; written = 0; closed = false; left = m; buffer = buffer }

module _ (m : QueueMemory) (s : Sound m) (o : (conn_of m).«open» ≡ false) where
  step_one : (piece : List ℕ) → queue_step m piece ≡ stays 1 m.memory.state m.memory.store
  unfolding queue_step queue_step_refusal
  step_one piece = let e : queue_step_refusal m ≡ 1 = rw (eq-eqb (length m.memory.store) STORE s.full, s.shape, o) in rw e

  count_one : queue_count m ≡ record { refusal = 1; count = 0 }
  unfolding queue_count
  count_one = rw (s.shape, o)

  turn_one : (allowance : ℕ) (buffer : List ℕ) → pump m allowance buffer ≡ record { refusal = 1; records = 0; written = 0; closed = false; left = m; buffer = buffer }
  unfolding pump pump_refusal
  turn_one allowance buffer =
      let e : pump_refusal m allowance buffer ≡ 1 = rw (eq-eqb (length m.memory.store) STORE s.full, eq-eqb (length m.queue) QUEUE s.queue, s.shape, o) in rw e

  -- It is so on a closed memory in shape.
  pub closed_all_refused : AllRefused m
  closed_all_refused = record { step = step_one; call = λ id a. closed_called m id a s.shape s.full s.queue o; count = count_one; turn = turn_one }

  -- No operation changes it.
  pub closed_stays : (op : QueueOperation) → queue_after m op ≡ m
  unfolding queue_after
  closed_stays (StepOver piece) = rw (step_one piece) (same_with m)
  closed_stays (CallFor id a) = ap (λ (r : QueueResult). r.left) (closed_called m id a s.shape s.full s.queue o)
  closed_stays CountActive = refl
  closed_stays (TurnWith allowance buffer) = ap (λ (p : Pumped). p.left) (turn_one allowance buffer)

-- Whatever is done on it changes nothing.
pub closed_final : (os : List QueueOperation) (m : QueueMemory) → Sound m → (conn_of m).«open» ≡ false → final_queue m os ≡ m
unfolding final_queue
closed_final [] m s o = refl
closed_final (op ∷ os) m s o = ap (λ n. final_queue n os) (closed_stays m s o op) ∙ closed_final os m s o

-- ---- runs
-- Every memory of a run is in shape, with store and queue of their sizes.
pub run_sound : (r : QueueRun) → Sound (ending r)
run_sound r =
    let g = (run_is r.operations (beginning r) (start_fine r) r.pieces).fine.good in
    record { shape = queue_shape (ending r) g.steady; full = g.steady.steady.sizes.full; queue = g.roomy.queue }

-- After a run that ends closed, whatever is done then, every call is refused by 1.
pub after_close : (r : QueueRun) (more : List QueueOperation) → (conn_of (ending r)).«open» ≡ false → AllRefused (final_queue (ending r) more)
after_close r more o = subst AllRefused (sym (closed_final more (ending r) (run_sound r) o)) (closed_all_refused (ending r) (run_sound r) o)

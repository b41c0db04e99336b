-- The calls that read, by whether they are barred: refused by 9, or as without a queue.
use Rattle.std.specs.Prelude.{ℕ, ◌≤◌, ◌≡◌, Bool, true, false, List, length}
use Rattle.std.proofs.Common.{sym, ap, ◌∙◌, arith}
use Rattle.std.proofs.lemmas.Bool.{eqb-false}
use Rattle.wire.specs.Test.{◌=?◌, by_test}
use Rattle.connection.specs.declared.state.Conn.{Conn}
use Rattle.connection.specs.Sizes.{SLOTS, STORE}
use Rattle.connection.specs.Step.{State, Stepped, state_of, stepped, step_refusal, stays}
use Rattle.connection.proofs.Laws.Progress.{step_refused, step_uses_no_more}
use Rattle.call_step.specs.Next.{goes_on, next_event, steps_by}
use Rattle.call_step.specs.Beside.{steps_beside}
use Rattle.call_step.proofs.NextLaws.{next_step, next_uses_no_more}
use Rattle.queue.specs.Calls.{QueueMemory, conn_of, waits_fit, lent, queue_step_refusal, queue_step}
use Rattle.queue_admit.specs.Admission.{is_barred}
use Rattle.queue_admit.proofs.BarredLaws.{waits_well, barred, barred_step, free_step}
use Rattle.queue_read.specs.Next.{queue_next}

-- A step.
step_barred : (m : QueueMemory) (piece : List ℕ) → barred m ≡ true → queue_step m piece ≡ stays 9 m.memory.state m.memory.store
unfolding queue_step
step_barred m piece e = simp (barred_step m e)

step_free : (m : QueueMemory) (piece : List ℕ) → barred m ≡ false → queue_step m piece ≡ stepped m.memory.state m.memory.store piece
unfolding queue_step
step_free m piece e =
    let n = step_refusal (conn_of m) m.memory.store in
    by_test (n =? 0)
    (λ t. simp (free_step m e, t))
    (λ t. simp (free_step m e, t, step_refused m.memory.state m.memory.store piece (eqb-false n 0 t)))

-- Steps up to the next event: where the first is refused, that is all.
next_alone : (st : State) (store piece : List ℕ) → (step_refusal st.conn store =? 0) ≡ false → next_event st store piece ≡ stays (step_refusal st.conn store) st store
next_alone st store piece t =
    let same = step_refused st store piece (eqb-false (step_refusal st.conn store) 0 t) in
    let stop : goes_on (stepped st store piece) (length piece) ≡ false = ap (λ (s : Stepped). goes_on s (length piece)) same ∙ simp t in
    next_step st store piece ∙ simp stop same

next_barred : (m : QueueMemory) (piece : List ℕ) → barred m ≡ true → queue_next m piece ≡ stays 9 m.memory.state m.memory.store
unfolding queue_next
next_barred m piece e = simp (barred_step m e)

next_free : (m : QueueMemory) (piece : List ℕ) → barred m ≡ false → queue_next m piece ≡ next_event m.memory.state m.memory.store piece
unfolding queue_next
next_free m piece e =
    let n = step_refusal (conn_of m) m.memory.store in
    by_test (n =? 0)
    (λ t. simp (free_step m e, t))
    (λ t. simp (free_step m e, t, next_alone m.memory.state m.memory.store piece t))

-- Both are what the loop that is lent what waits comes to.
module _ (m : QueueMemory) (piece : List ℕ) where
  -- a call with these two answers, where it is barred and where it is not
  by_barred : (on : Bool) (call : Stepped) → (barred m ≡ true → call ≡ stays 9 m.memory.state m.memory.store)
      → (barred m ≡ false → call ≡ steps_by on m.memory.state m.memory.store piece)
      → steps_beside (waits_well m) on m.memory.state m.memory.store piece ≡ call
  unfolding steps_beside is_barred
  by_barred on call bar free =
      by_test (waits_well m)
      (λ w. by_test (length m.memory.store =? STORE)
      (λ t. simp w (sym (free (simp (w, t)))))
      (λ t. simp w (sym (free (simp t)))))
      (λ w. by_test (length m.memory.store =? STORE)
      (λ t. simp (w, t) (sym (bar (simp (w, t)))))
      (λ t. simp (w, t) (sym (free (simp t)))))

  pub beside_step : steps_beside (waits_well m) false m.memory.state m.memory.store piece ≡ queue_step m piece
  beside_step = by_barred false (queue_step m piece) (step_barred m piece) (step_free m piece)

  pub beside_next : steps_beside (waits_well m) true m.memory.state m.memory.store piece ≡ queue_next m piece
  beside_next = by_barred true (queue_next m piece) (next_barred m piece) (next_free m piece)

-- Neither uses more than it is lent.
pub step_inside : (m : QueueMemory) (piece : List ℕ) → (queue_step m piece).used ≤ length piece
unfolding queue_step
step_inside m piece =
    by_test (queue_step_refusal m =? 0)
    (λ t. simp t (step_uses_no_more m.memory.state m.memory.store piece))
    (λ t. simp t (omega arith))

pub next_inside : (m : QueueMemory) (piece : List ℕ) → (queue_next m piece).used ≤ length piece
unfolding queue_next
next_inside m piece =
    by_test (queue_step_refusal m =? 0)
    (λ t. simp t (next_uses_no_more m.memory.state m.memory.store piece))
    (λ t. simp t (omega arith))

-- The same of what the calls are lent.
module _ (c : Conn) (gathered store waits marks queue piece : List ℕ) where
  pub lent_step : steps_beside (waits_fit SLOTS waits c.table.occupied 0) false (state_of c gathered) store piece
      ≡ queue_step (lent c gathered store waits marks queue) piece
  lent_step = beside_step (lent c gathered store waits marks queue) piece

  pub lent_next : steps_beside (waits_fit SLOTS waits c.table.occupied 0) true (state_of c gathered) store piece
      ≡ queue_next (lent c gathered store waits marks queue) piece
  lent_next = beside_next (lent c gathered store waits marks queue) piece

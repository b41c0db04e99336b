-- The slot that the pump looks at first: after a record of slot j it is the next one, and nothing else moves it.
use Rattle.connection.specs.Slots.{Slot}
use Rattle.std.specs.Prelude.{◌≡◌, refl, List, [], ◌∷◌, Bool, true, false, ℕ, ◌≤◌, ◌<◌, get_or, eqb, Some, None}
use Rattle.std.proofs.Common.{◌∙◌, arith, get_or-set_same}
use Rattle.wire.specs.Test.{by_test}
use Rattle.machine_queue.specs.Pump.{slot_after}
use Rattle.connection.specs.declared.request.Request.{Request}
use Rattle.connection.specs.declared.state.Conn.{Conn}
use Rattle.connection.specs.Sizes.{SLOTS}
use Rattle.connection.specs.Refusal.{◌when◌, refusal}
use Rattle.connection.specs.Slots.{request_at, find, on_slot}
use Rattle.connection.proofs.Laws.SlotsLaws.{find_at}
use Rattle.connection.specs.Arguments.{ForRead, ForSay, ForEnd, ForFinish}
use Rattle.queue_slot.specs.Wait.{Wait, nothing_in, Served, ServesNothing, ServesEnd, ServesData, ServesLast, served}
use Rattle.queue.specs.Numbers.{NEXT, kept_waits}
use Rattle.queue.proofs.NumberLaws.{next_of_put}
use Rattle.queue.proofs.Areas.{Roomy}
use Rattle.queue.specs.Calls as T
use Rattle.queue.specs.Calls.{QueueMemory, conn_of, wait_at, put_wait, served_last, write_served, pump_slot}
use Rattle.queue.specs.Run as D
use Rattle.queue.specs.Run.{Asking, CallFor, queue_called, queue_after}
use Rattle.queue_link.proofs.Loaded.{kept_open}

-- its number
abbrev pub next_of : QueueMemory → ℕ
next_of m = get_or m.waits NEXT 0

-- ---- after a record of slot j it is the next one
-- where that slot is noted alone, and where what is left waits there again
last_next : (m : QueueMemory) (j : ℕ) → Roomy m → next_of (served_last m j) ≡ slot_after SLOTS j
last_next m j y = get_or-set_same m.waits NEXT (slot_after SLOTS j) 0 (omega (arith, y.waits))

put_next : (m : QueueMemory) (j : ℕ) (v : Wait) → Roomy m → j < SLOTS → next_of (put_wait (served_last m j) j v) ≡ slot_after SLOTS j
unfolding put_wait
put_next m j v y h = next_of_put (served_last m j).waits j v (omega arith) ∙ last_next m j y

-- where the slot is given back
released_next : (m : QueueMemory) (j : ℕ) (b : Bool) → Roomy m → j < SLOTS → (conn_of (T.released_slot (served_last m j) j b)).«open» ≡ true → next_of (T.released_slot (served_last m j) j b) ≡ slot_after SLOTS j
released_next m j true y h o = next_of_put (served_last m j).waits j (nothing_in [] []) (omega arith) ∙ last_next m j y
released_next m j false y h o = let z : ◌≡◌ {A = ℕ} 0 1 = cc in absurd (omega arith)

-- whatever is served
written_next : (m : QueueMemory) (j : ℕ) (r : Request) (s : Served) → Roomy m → j < SLOTS → (conn_of (write_served (served_last m j) j r s).left).«open» ≡ true
    → next_of (write_served (served_last m j) j r s).left ≡ slot_after SLOTS j
unfolding write_served
written_next m j r ServesNothing y h o = last_next m j y
written_next m j r (ServesEnd p v) y h o = put_next m j v y h
written_next m j r (ServesData p content v) y h o = put_next m j v y h
written_next m j r (ServesLast status) y h o = released_next m j r.state.keep y h o

-- A record of slot j.
pub served_next : (m : QueueMemory) (j : ℕ) → Roomy m → j < SLOTS → (conn_of (pump_slot m j).left).«open» ≡ true → next_of (pump_slot m j).left ≡ slot_after SLOTS j
unfolding pump_slot
served_next m j y h o = written_next m j (request_at (conn_of m).table j) (served (wait_at m j)) y h o

-- ---- every call and every step that leaves the connection open leaves it as it is
-- an id's slot, or the number behind all slots where it has none
slot_most : (m : QueueMemory) (id : ℕ) → T.slot_of m id ≤ SLOTS
slot_most m id = go (find (conn_of m).table id) refl
  where
    go : (s : Slot) → find (conn_of m).table id ≡ s → on_slot s (λ i. i) SLOTS ≤ SLOTS
    go (Some i) e = let h = find_at (conn_of m).table id i e in omega (arith, h.low)
    go None e = omega arith

-- a call or a step puts the numbers back as they were
kept_next : (m : QueueMemory) (b : Bool) → b ≡ true → get_or (kept_waits (conn_of m).«open» b m.waits) NEXT 0 ≡ next_of m
kept_next m b o = rw (o, kept_open (conn_of m).«open» m.waits)

-- a queued call puts the numbers of one slot
both_next : (m : QueueMemory) (id : ℕ) (c : Conn) (r : Request) (v : Wait) → next_of (T.put_both (T.with_conn m c) (T.slot_of m id) r v) ≡ next_of m
unfolding put_wait
both_next m id c r v = next_of_put m.waits (T.slot_of m id) v (slot_most m id)

-- the calls, one by one
call_next : (m : QueueMemory) (id : ℕ) (a : Asking) → (conn_of (queue_called m id a).left).«open» ≡ true → next_of (queue_called m id a).left ≡ next_of m
unfolding queue_called T.queue_say T.queue_end T.queue_finish
call_next m id (D.Straight (ForRead q)) o = refl
call_next m id (D.Straight (ForSay p content buffer)) o = kept_next m _ o
call_next m id (D.Straight (ForEnd p buffer)) o = kept_next m _ o
call_next m id (D.Straight (ForFinish status buffer)) o = kept_next m _ o
call_next m id (D.ToSay p content) o = by_test (eqb (T.say_refusal m id p content) 0) (λ e. rw e (both_next m id (conn_of m) _ _)) (λ e. rw e)
call_next m id (D.ToEnd p) o = by_test (eqb (refusal (T.rows_of m id (T.stream_rows m id p []))) 0) (λ e. rw e (both_next m id (conn_of m) _ _)) (λ e. rw e)
call_next m id (D.ToFinish status) o = by_test (eqb (refusal (T.rows_of m id ((5 when T.is_leaving m id) ∷ []))) 0) (λ e. rw e (both_next m id _ _ _)) (λ e. rw e)

-- A call.
pub call_kept : (m : QueueMemory) (id : ℕ) (a : Asking) → (conn_of (queue_after m (CallFor id a))).«open» ≡ true → next_of (queue_after m (CallFor id a)) ≡ next_of m
unfolding queue_after
call_kept m id a o = call_next m id a o

-- A step.
pub step_kept : (m : QueueMemory) (piece : List ℕ) → (conn_of (queue_after m (D.StepOver piece))).«open» ≡ true → next_of (queue_after m (D.StepOver piece)) ≡ next_of m
unfolding queue_after
step_kept m piece o = kept_next m _ o

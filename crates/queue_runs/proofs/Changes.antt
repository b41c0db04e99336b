-- What an operation with a queue does to the memory, case by case. Nothing is asked of how the memory came about.
--
-- It changes nothing; or it is the step, or the straight call, that is there without a queue; or it puts back a request
-- with the same id and list, and what waits of it; or the pump writes one record after another. A law about all
-- operations is a match on these cases.
use Rattle.std.specs.Prelude.{◌≡◌, refl, List, [], ◌∷◌, true, false, not, ℕ, zero, suc, ◌<◌, length, get_or, eqb, Some}
use Rattle.std.proofs.Common.{ap, sym, subst, eqb-true}
use Rattle.std.proofs.Math.Option.{Option, none, some}
use Rattle.std.proofs.lemmas.Bool.{not-false}
use Rattle.wire.specs.Test.{by_test, ◌<?◌, ◌=?◌}
use Rattle.record.specs.Names.{END_REQUEST, REQUEST_COMPLETE}
use Rattle.record.specs.Body.{end_body_bytes}
use Rattle.record_writer.specs.Written.{record_bytes}
use Rattle.machine_queue.specs.Pump.{next_waiting}
use Rattle.machine_queue.proofs.Pumping.{waiting_below}
use Rattle.connection.specs.declared.request.Request.{Request}
use Rattle.connection.specs.declared.answer.Output.{Output}
use Rattle.connection.specs.Sizes.{SLOTS, STORE}
use Rattle.connection.specs.Refusal.{Row, ◌when◌, refusal}
use Rattle.connection.specs.Slots.{request_at, find, is_found}
use Rattle.connection.specs.RequestCalls as Of
use Rattle.connection.specs.Arguments.{Argument, ForRead, ForSay, ForEnd, ForFinish}
use Rattle.connection.specs.Run.{called, step_of, memory_of}
use Rattle.connection.proofs.Laws.SlotsLaws.{found_true}
use Rattle.connection.proofs.Runs.ReceiverLaws.{SameList}
use Rattle.connection.proofs.Runs.LinkingCalls.{slot_found}
use Rattle.queue_slot.specs.Finishing.{spent_by}
use Rattle.queue_slot.specs.Wait.{Wait, anything, has_room_for, wait_data, wait_end, wait_finish, Served, ServesNothing, ServesEnd, ServesData, ServesLast, served}
use Rattle.queue.specs.Numbers.{NEXT}
use Rattle.queue.specs.Calls as T
use Rattle.queue.specs.Calls.{QUEUE, QueueMemory, conn_of, queue_in_shape, wait_at, put_wait, with_conn, put_both, skipping, queue_step_refusal, queue_step, say_refusal, rows_of, stream_rows, is_leaving, straight_say, straight_end, straight_finish, served_last, released_slot, write_served, pump_slot, PumpedRecord, Turned, on_some, slot_waits, first_slot, turned, pump_refusal, pump}
use Rattle.queue.specs.Run as D
use Rattle.queue.specs.Run.{QueueOperation, StepOver, CallFor, CountActive, TurnWith, with_memory, queue_called, queue_after}
use Rattle.queue_link.proofs.LoadedTurn.{waiting_is, first_below}
use Rattle.queue_link.proofs.LinkedStraight.{same_with}
use Rattle.queue_link.proofs.LinkedFinish.{spent_list}
use Rattle.queue_link.proofs.LinkedRuns.{pump_done, pump_refused_lem}
use Rattle.queue_runs.proofs.Rows.{let_through}

-- ---- the cases
pub data Change (m : QueueMemory) : QueueOperation → QueueMemory → Type 0 where
  -- refused, or it only reads
  Keeps : {o : QueueOperation} → Change m o m
  -- the step without a queue
  Steps : (piece : List ℕ) → (conn_of m).«open» ≡ true → Change m (StepOver piece) (with_memory m (memory_of (step_of m.memory piece)))
  -- the straight call without a queue
  Writes : (id : ℕ) (a : Argument) → (conn_of m).«open» ≡ true → Change m (CallFor id (D.Straight a)) (with_memory m (called m.memory id a).memory)
  -- queued say or end: the request of slot i and what waits there
  Waits : (id i : ℕ) (a : D.Asking) → (conn_of m).«open» ≡ true → find (conn_of m).table id ≡ Some i → (r : Request) (w : Wait) → SameList (request_at (conn_of m).table i) r
      → Change m (CallFor id a) (put_both m i r w)
  -- queued finish: the same, and the rest of its half-read record is skipped
  Retires : (id i : ℕ) (a : D.Asking) → (conn_of m).«open» ≡ true → find (conn_of m).table id ≡ Some i → (r : Request) (w : Wait) → SameList (request_at (conn_of m).table i) r
      → Change m (CallFor id a) (put_both (with_conn m (skipping (conn_of m) i)) i r w)
  -- a turn of the pump
  Turns : (allowance : ℕ) (buffer : List ℕ) → Change m (TurnWith allowance buffer) (turned allowance m).left

-- to a memory that is the same
moved : {m n k : QueueMemory} {o : QueueOperation} → n ≡ k → Change m o k → Change m o n
moved {m} {o = o} e c = subst (λ x. Change m o x) (sym e) c

-- ---- the rows of the calls
-- of a step
abbrev pub step_rows : QueueMemory → List Row
step_rows m = (2 when not (length m.memory.store =? STORE)) ∷ (9 when not (queue_in_shape m)) ∷ (1 when not (conn_of m).«open») ∷ []

-- the last rows of a straight call
abbrev pub last_rows : QueueMemory → ℕ → List ℕ → List ℕ → List Row
last_rows m id bytes buffer = (6 when (length buffer <? length bytes)) ∷ (10 when anything (wait_at m (T.slot_of m id))) ∷ []

-- of straight calls; those that read have rows of their own
abbrev pub straight_rows : QueueMemory → ℕ → Argument → List Row
straight_rows m id (ForRead q) = []
straight_rows m id (ForSay o content buffer) = rows_of m id (stream_rows m id o (last_rows m id (Of.say_bytes (T.request_of m id) o content) buffer))
straight_rows m id (ForEnd o buffer) = rows_of m id (stream_rows m id o (last_rows m id (Of.end_bytes (T.request_of m id) o) buffer))
straight_rows m id (ForFinish status buffer) =
    (2 when not (length m.memory.store =? STORE)) ∷ rows_of m id ((5 when is_leaving m id) ∷ last_rows m id (Of.finish_bytes (T.request_of m id) status) buffer)

-- of queued say, end and finish
abbrev pub queued_rows : QueueMemory → ℕ → D.Asking → List Row
queued_rows m id (D.Straight a) = []
queued_rows m id (D.ToSay o content) = (2 when not (length m.queue =? QUEUE)) ∷ rows_of m id (stream_rows m id o ((10 when not (has_room_for (wait_at m (T.slot_of m id)) content)) ∷ []))
queued_rows m id (D.ToEnd o) = rows_of m id (stream_rows m id o [])
queued_rows m id (D.ToFinish status) = rows_of m id ((5 when is_leaving m id) ∷ [])

-- ---- a step
step_change : (m : QueueMemory) (piece : List ℕ) → Change m (StepOver piece) (queue_after m (StepOver piece))
unfolding queue_after queue_step queue_step_refusal
step_change m piece =
    by_test (queue_step_refusal m =? 0)
    (λ t.
    let o : (conn_of m).«open» ≡ true = not-false (conn_of m).«open» (let_through (step_rows m) 1 (eqb-true (queue_step_refusal m) 0 t) refl) in
    rw t (Steps piece o))
    (λ t. rw t (moved (same_with m) Keeps))

-- ---- straight calls
straight_change : (m : QueueMemory) (id : ℕ) (a : Argument) → Change m (CallFor id (D.Straight a)) (queue_called m id (D.Straight a)).left
unfolding queue_called straight_say straight_end straight_finish called
straight_change m id (ForRead q) = Keeps
straight_change m id (ForSay o content buffer) =
    let rows = straight_rows m id (ForSay o content buffer) in
    by_test (eqb (refusal rows) 0) (λ t. rw t (Writes id (ForSay o content buffer) (not-false (conn_of m).«open» (let_through rows 1 (eqb-true (refusal rows) 0 t) refl))))
    (λ t. rw t (moved (same_with m) Keeps))
straight_change m id (ForEnd o buffer) =
    let rows = straight_rows m id (ForEnd o buffer) in
    by_test (eqb (refusal rows) 0) (λ t. rw t (Writes id (ForEnd o buffer) (not-false (conn_of m).«open» (let_through rows 1 (eqb-true (refusal rows) 0 t) refl))))
    (λ t. rw t (moved (same_with m) Keeps))
straight_change m id (ForFinish status buffer) =
    let rows = straight_rows m id (ForFinish status buffer) in
    by_test (eqb (refusal rows) 0) (λ t. rw t (Writes id (ForFinish status buffer) (not-false (conn_of m).«open» (let_through rows 1 (eqb-true (refusal rows) 0 t) refl))))
    (λ t. rw t (moved (same_with m) Keeps))

-- ---- queued calls
-- A call that is let through is for a request that is active, on an open connection.
pub record Active (m : QueueMemory) (id : ℕ) : Type 0 where
  pub slot : ℕ
  pub is_open : (conn_of m).«open» ≡ true
  pub found : find (conn_of m).table id ≡ Some slot
  pub at : T.slot_of m id ≡ slot

pub active : (m : QueueMemory) (id : ℕ) → not (conn_of m).«open» ≡ false → not (is_found (find (conn_of m).table id)) ≡ false → Active m id
active m id o f =
    let w = found_true (find (conn_of m).table id) (not-false (is_found (find (conn_of m).table id)) f) in
    record { slot = w.0; is_open = not-false (conn_of m).«open» o; found = w.1; at = slot_found (conn_of m) id w.0 w.1 }

said_list : (r : Request) (o : Output) (content : List ℕ) → SameList r (Of.said_on r o content)
unfolding Of.said_on
said_list r o content = record { id = refl; length = refl }

ended_list : (r : Request) (o : Output) → SameList r (Of.ended_on r o)
unfolding Of.ended_on
ended_list r o = record { id = refl; length = refl }

-- the request at the slot of its id, put back
waits : (m : QueueMemory) (id : ℕ) (a : D.Asking) (r : Request) (w : Wait) → Active m id → SameList (T.request_of m id) r → Change m (CallFor id a) (put_both m (T.slot_of m id) r w)
waits m id a r w k same = rw k.at (Waits id k.slot a k.is_open k.found r w (rw k.at at same))

retires : (m : QueueMemory) (id : ℕ) (a : D.Asking) (r : Request) (w : Wait) → Active m id → SameList (T.request_of m id) r
    → Change m (CallFor id a) (put_both (with_conn m (skipping (conn_of m) (T.slot_of m id))) (T.slot_of m id) r w)
retires m id a r w k same = rw k.at (Retires id k.slot a k.is_open k.found r w (rw k.at at same))

queued_change : (m : QueueMemory) (id : ℕ) (a : D.Asking) → Change m (CallFor id a) (queue_called m id a).left
unfolding queue_called T.queue_say T.queue_end T.queue_finish say_refusal
queued_change m id (D.Straight a) = straight_change m id a
queued_change m id (D.ToSay o content) =
    by_test (eqb (say_refusal m id o content) 0)
    (λ t.
    let e = eqb-true (say_refusal m id o content) 0 t in
    let k = active m id (let_through (queued_rows m id (D.ToSay o content)) 1 e refl) (let_through (queued_rows m id (D.ToSay o content)) 3 e refl) in
    rw t (waits m id (D.ToSay o content) (Of.said_on (T.request_of m id) o content) (wait_data (wait_at m (T.slot_of m id)) o content) k (said_list (T.request_of m id) o content)))
    (λ t. rw t Keeps)
queued_change m id (D.ToEnd o) =
    let n = refusal (queued_rows m id (D.ToEnd o)) in
    by_test (eqb n 0)
    (λ t.
    let e = eqb-true n 0 t in
    let k = active m id (let_through (queued_rows m id (D.ToEnd o)) 1 e refl) (let_through (queued_rows m id (D.ToEnd o)) 3 e refl) in
    rw t (waits m id (D.ToEnd o) (Of.ended_on (T.request_of m id) o) (wait_end (wait_at m (T.slot_of m id)) o) k (ended_list (T.request_of m id) o)))
    (λ t. rw t Keeps)
queued_change m id (D.ToFinish status) =
    let n = refusal (queued_rows m id (D.ToFinish status)) in
    by_test (eqb n 0)
    (λ t.
    let e = eqb-true n 0 t in
    let k = active m id (let_through (queued_rows m id (D.ToFinish status)) 1 e refl) (let_through (queued_rows m id (D.ToFinish status)) 3 e refl) in
    rw t (retires m id (D.ToFinish status) (spent_by (T.request_of m id)) (wait_finish (wait_at m (T.slot_of m id)) (T.request_of m id).state status) k (spent_list (T.request_of m id))))
    (λ t. rw t Keeps)

-- ---- every operation
turn_change : (m : QueueMemory) (allowance : ℕ) (buffer : List ℕ) → Change m (TurnWith allowance buffer) (pump m allowance buffer).left
turn_change m allowance buffer =
    by_test (eqb (pump_refusal m allowance buffer) 0)
    (λ t. moved (ap (λ (p : T.Pumped). p.left) (pump_done m allowance buffer t)) (Turns allowance buffer))
    (λ t. moved (ap (λ (p : T.Pumped). p.left) (pump_refused_lem m allowance buffer t)) Keeps)

-- Every operation is one of the cases.
pub change : (m : QueueMemory) (o : QueueOperation) → Change m o (queue_after m o)
unfolding queue_after
change m (StepOver piece) = step_change m piece
change m (CallFor id a) = queued_change m id a
change m CountActive = Keeps
change m (TurnWith allowance buffer) = turn_change m allowance buffer

-- ---- a record of the pump
put_memory : (m : QueueMemory) (i : ℕ) (w : Wait) → (put_wait m i w).memory ≡ m.memory
unfolding put_wait
put_memory m i w = refl

-- A record of the pump from slot i: what waits there changes and the memory stays; or it is END, and the slot is given
-- back.
pub data Serving (m : QueueMemory) (i : ℕ) : PumpedRecord → Type 0 where
  Goes : {p : PumpedRecord} → p.left.memory ≡ m.memory → Serving m i p
  Ends : (status : ℕ) → Serving m i (record {
    bytes = record_bytes END_REQUEST (request_at (conn_of m).table i).id (end_body_bytes status REQUEST_COMPLETE);
    left = released_slot (served_last m i) i (request_at (conn_of m).table i).state.keep;
  })

-- It is one of the two.
pub serving : (m : QueueMemory) (i : ℕ) → Serving m i (pump_slot m i)
unfolding pump_slot write_served
serving m i = go (served (wait_at m i))
  where
    put : (w : Wait) → (put_wait (served_last m i) i w).memory ≡ m.memory
    put w = put_memory (served_last m i) i w

    go : (s : Served) → Serving m i (write_served (served_last m i) i (request_at (conn_of m).table i) s)
    go ServesNothing = Goes refl
    go (ServesEnd o w) = Goes (put w)
    go (ServesData o content w) = Goes (put w)
    go (ServesLast status) = Ends status

-- What each record of the pump keeps, a turn keeps.
pub turn_keeps : (P : QueueMemory → Type 0) → ((m : QueueMemory) (i : ℕ) → i < SLOTS → slot_waits m i ≡ true → P m → P (pump_slot m i).left)
    → (k : ℕ) (m : QueueMemory) → P m → P (turned k m).left
unfolding turned
turn_keeps P f zero m p = p
turn_keeps P f (suc k) m p = go (next_waiting SLOTS SLOTS (slot_waits m) (first_slot (get_or m.waits NEXT 0))) refl (λ n q. turn_keeps P f k n q)
  where
    after : Option ℕ → Turned
    after o = on_some o (λ i. let q = pump_slot m i in let t = turned k q.left in record { records = q.bytes ∷ t.records; left = t.left }) (record { records = []; left = m })

    go : (o : Option ℕ) → next_waiting SLOTS SLOTS (slot_waits m) (first_slot (get_or m.waits NEXT 0)) ≡ o → ((n : QueueMemory) → P n → P (turned k n).left) → P (after o).left
    go none e g = p
    go (some i) e g =
        let from = first_slot (get_or m.waits NEXT 0) in
        g (pump_slot m i).left (f m i (waiting_below SLOTS SLOTS (slot_waits m) from i (first_below (get_or m.waits NEXT 0)) e) (waiting_is SLOTS SLOTS (slot_waits m) from i e) p)

-- A run with a queue is the machine's run of its timeline, where a turn of the pump is its serves; what waits of R,
-- whether R is leaving and R's request are the machine's.
use Rattle.connection.specs.Slots.{Slot}
use Rattle.std.specs.Prelude.{◌≡◌, List, [], ◌∷◌, ◌++◌, Bool, true, false, ℕ, eqb, if◌then◌else◌, Some, None}
use Rattle.std.proofs.Math.Path.{refl, ap, sym}
use Rattle.std.proofs.Common.{◌∙◌, subst}
use Rattle.std.proofs.Math.Option.{Option, none, some}
use Rattle.wire.specs.Test.{by_test}
use Rattle.machine.specs.Slots.{Lookup, Absent, FoundAt, lookup}
use Rattle.machine.specs.Timeline.{RequestCall, CountCall, Item, CallItem, byte_items}
use Rattle.machine.specs.Machine.{Connection, Open, Closed, on_item, state_after, request_found, request_in}
use Rattle.machine.proofs.RunLaws.{state_append}
use Rattle.machine.specs.Shape.{ItemsOk, ItemsEnd, ItemsMore, WellShaped}
use Rattle.machine.proofs.ShapeKept.{shape_after, items_all}
use Rattle.machine_queue.specs.Waiting.{is_leaving, waits_in, core_of}
use Rattle.connection.specs.declared.state.Table.{Table}
use Rattle.connection.specs.Request.{Held}
use Rattle.connection.specs.Slots.{held_at, find, on_slot}
use Rattle.wire.proofs.Bytes.{AllBytes, take_bytes}
use Rattle.connection.specs.Run as Run
use Rattle.connection.specs.Run.{StepOver}
use Rattle.connection.proofs.Runs.Loading.{loaded_slots, loaded_reading}
use Rattle.connection.proofs.Runs.LoadingLaws.{found_as, lookup_loaded}
use Rattle.connection.proofs.Runs.LinkingStep.{open_loaded, closed_loaded}
use Rattle.queue_slot.specs.Atoms.{end_waits}
use Rattle.queue_slot.specs.Wait.{atoms_in}
use Rattle.queue_slot.proofs.WaitRefines.{last_is}
use Rattle.queue_machine.specs.Queued.{Queued, queued, Asked, queueing_receiver, waiting_queue}
use Rattle.queue_machine.proofs.Lift.{Waiting, lift_slots, lift_lookup, lift_reading, lift_connection, lift_lookup_lem}
use Rattle.queue_link.proofs.Loaded.{waiting_of, loaded_queue, step_loaded, step_steady}
use Rattle.queue_link.proofs.LoadedTurn.{Good, served_in, serves_of, turn_is}
use Rattle.queue_machine.proofs.EndsRight.{ends_laws}
use Rattle.machine_queue.proofs.IdsBelow.{IdsBelow, below_after}
use Rattle.queue_link.proofs.LinkedStraight.{asked, roomy_with}
use Rattle.queue_link.proofs.LinkedFinish.{call_is}
use Rattle.queue.specs.Numbers.{last_at}
use Rattle.queue.specs.Calls as T
use Rattle.queue.specs.Calls.{QueueMemory, conn_of, wait_at, queue_step, pump_refusal, pump, pumped_with, turned}
use Rattle.queue.specs.Run as D
use Rattle.queue.specs.Run.{QueueOperation, CallFor, CountActive, TurnWith, used_of, queue_after, waits_of, leaving_of, final_queue, PiecesAreBytes}

-- ---- the machine's items
unfoldable pub served_by : QueueMemory → ℕ → List ℕ → List ℕ
served_by m allowance buffer = if eqb (pump_refusal m allowance buffer) 0 then served_in allowance m else []

-- the items of an operation: bytes used, the call, or the serves of a turn
unfoldable pub machine_items : QueueMemory → QueueOperation → List (Item Asked)
machine_items m (D.StepOver piece) = byte_items (used_of m piece)
machine_items m (CallFor id a) = CallItem (RequestCall id (asked a)) ∷ []
machine_items m CountActive = CallItem CountCall ∷ []
machine_items m (TurnWith allowance buffer) = serves_of (served_by m allowance buffer)

-- of operations one after another
unfoldable pub machine_timeline : QueueMemory → List QueueOperation → List (Item Asked)
machine_timeline m [] = []
machine_timeline m (o ∷ os) = machine_items m o ++ machine_timeline (queue_after m o) os

-- ---- one operation
pub record Fine (m : QueueMemory) : Type 0 where
  pub good : Good m
  pub ends : WellShaped queueing_receiver ends_laws (loaded_queue m)
  pub below : IdsBelow queueing_receiver (loaded_queue m)

-- the piece of a step is bytes
abbrev pub PieceOk : QueueOperation → Type 0
PieceOk (D.StepOver piece) = AllBytes piece
PieceOk (CallFor id a) = Unit {0}
PieceOk CountActive = Unit {0}
PieceOk (TurnWith allowance buffer) = Unit {0}

-- what an operation leaves, on the machine
pub record OpIs (m : QueueMemory) (o : QueueOperation) : Type 0 where
  pub state : loaded_queue (queue_after m o) ≡ state_after queueing_receiver (loaded_queue m) (machine_items m o)
  pub good : Good (queue_after m o)

step_good : (m : QueueMemory) (piece : List ℕ) → Good m → AllBytes piece → Good (queue_after m (D.StepOver piece))
unfolding queue_after
step_good m piece g all = record { steady = step_steady m piece g.steady all; roomy = roomy_with m (record { state = (queue_step m piece).state; store = (queue_step m piece).store }) g.roomy }

count_state : (s : Connection queueing_receiver) → s ≡ state_after queueing_receiver s (CallItem CountCall ∷ [])
unfolding state_after on_item
count_state (Open T F) = refl
count_state Closed = refl

-- a turn that is not refused
pub pump_done : (m : QueueMemory) (allowance : ℕ) (buffer : List ℕ) → eqb (pump_refusal m allowance buffer) 0 ≡ true → pump m allowance buffer ≡ pumped_with (turned allowance m) buffer
unfolding pump
pump_done m allowance buffer e = rw e

-- a turn that is
pub pump_refused_lem : (m : QueueMemory) (allowance : ℕ) (buffer : List ℕ) → eqb (pump_refusal m allowance buffer) 0 ≡ false
    → pump m allowance buffer ≡ record { refusal = pump_refusal m allowance buffer; records = 0; written = 0; closed = false; left = m; buffer = buffer }
unfolding pump
pump_refused_lem m allowance buffer e = rw e

turn_left_lem : (m : QueueMemory) (allowance : ℕ) (buffer : List ℕ) (b : Bool) → eqb (pump_refusal m allowance buffer) 0 ≡ b → queue_after m (TurnWith allowance buffer) ≡ (if b then (turned allowance m).left else m)
unfolding queue_after
turn_left_lem m allowance buffer true e = ap (λ (p : T.Pumped). p.left) (pump_done m allowance buffer e)
turn_left_lem m allowance buffer false e = ap (λ (p : T.Pumped). p.left) (pump_refused_lem m allowance buffer e)

-- whom it serves
pub turn_served : (m : QueueMemory) (allowance : ℕ) (buffer : List ℕ) (b : Bool) → eqb (pump_refusal m allowance buffer) 0 ≡ b → machine_items m (TurnWith allowance buffer) ≡ serves_of (if b then served_in allowance m else [])
unfolding machine_items served_by
turn_served m allowance buffer b e = rw e

turn_op : (m : QueueMemory) (allowance : ℕ) (buffer : List ℕ) → Good m → OpIs m (TurnWith allowance buffer)
unfolding state_after serves_of
turn_op m allowance buffer g = go (eqb (pump_refusal m allowance buffer) 0) refl (turn_is allowance m g).state (turn_is allowance m g).good
  where
    go : (b : Bool) → eqb (pump_refusal m allowance buffer) 0 ≡ b → loaded_queue (turned allowance m).left ≡ state_after queueing_receiver (loaded_queue m) (serves_of (served_in allowance m)) → Good (turned allowance m).left → OpIs m (TurnWith allowance buffer)
    go true e t h = record {
      state = ap loaded_queue (turn_left_lem m allowance buffer true e) ∙ t ∙ sym (ap (state_after queueing_receiver (loaded_queue m)) (turn_served m allowance buffer true e));
      good = subst (λ x. Good x) (sym (turn_left_lem m allowance buffer true e)) h;
    }
    go false e t h = record {
      state = ap loaded_queue (turn_left_lem m allowance buffer false e) ∙ sym (ap (state_after queueing_receiver (loaded_queue m)) (turn_served m allowance buffer false e));
      good = subst (λ x. Good x) (sym (turn_left_lem m allowance buffer false e)) g;
    }

-- Every operation is its items.
pub op_is : (m : QueueMemory) (o : QueueOperation) → Fine m → PieceOk o → OpIs m o
unfolding queue_after machine_items state_after
op_is m (D.StepOver piece) k p = record { state = step_loaded m piece k.good.steady p; good = step_good m piece k.good p }
op_is m (CallFor id a) k p = let c = call_is m id a k.good k.ends in record { state = c.state; good = c.good }
op_is m CountActive k p = record { state = count_state (loaded_queue m); good = k.good }
op_is m (TurnWith allowance buffer) k p = turn_op m allowance buffer k.good

serves_ok : (ids : List ℕ) → ItemsOk queueing_receiver (serves_of ids)
unfolding serves_of
serves_ok [] = ItemsEnd
serves_ok (id ∷ ids) = ItemsMore tt (serves_ok ids)

items_ok : (m : QueueMemory) (o : QueueOperation) → PieceOk o → ItemsOk queueing_receiver (machine_items m o)
unfolding machine_items
items_ok m (D.StepOver piece) p = items_all queueing_receiver (used_of m piece) (take_bytes (queue_step m piece).used piece p)
items_ok m (CallFor id a) p = ItemsMore tt ItemsEnd
items_ok m CountActive p = ItemsMore tt ItemsEnd
items_ok m (TurnWith allowance buffer) p = serves_ok (served_by m allowance buffer)

-- Every operation keeps what every state fulfils.
pub op_fine : (m : QueueMemory) (o : QueueOperation) → Fine m → PieceOk o → Fine (queue_after m o)
op_fine m o k p =
    let i = op_is m o k p in
    record { good = i.good; ends = subst (λ s. WellShaped queueing_receiver ends_laws s) (sym i.state) (shape_after queueing_receiver ends_laws (loaded_queue m) (items_ok m o p) k.ends); below = subst (λ s. IdsBelow queueing_receiver s) (sym i.state) (below_after queueing_receiver ends_laws (loaded_queue m) (items_ok m o p) k.ends k.below) }

-- the first operation, and the others
pub piece_ok : (o : QueueOperation) (os : List QueueOperation) → PiecesAreBytes (o ∷ os) → PieceOk o × PiecesAreBytes os
piece_ok (D.StepOver piece) os p = p
piece_ok (CallFor id a) os p = (tt, p)
piece_ok CountActive os p = (tt, p)
piece_ok (TurnWith allowance buffer) os p = (tt, p)

-- ---- a run
pub record RunIs (m : QueueMemory) (os : List QueueOperation) : Type 0 where
  pub state : loaded_queue (final_queue m os) ≡ state_after queueing_receiver (loaded_queue m) (machine_timeline m os)
  pub fine : Fine (final_queue m os)

-- A run is its timeline.
pub run_is : (os : List QueueOperation) (m : QueueMemory) → Fine m → PiecesAreBytes os → RunIs m os
unfolding final_queue machine_timeline state_after
run_is [] m k p = record { state = refl; fine = k }
run_is (o ∷ os) m k p =
    let q = piece_ok o os p in
    let i = op_is m o k q.0 in
    let r = run_is os (queue_after m o) (op_fine m o k q.0) q.1 in
    record {
      state = r.state ∙ ap (λ s. state_after queueing_receiver s (machine_timeline (queue_after m o) os)) i.state ∙ sym (state_append queueing_receiver (loaded_queue m) (machine_items m o) (machine_timeline (queue_after m o) os));
      fine = r.fine;
    }

-- ---- the request of an id
found_some : (t : Table) (store : List ℕ) (f : Waiting) (s : Slot) (o : Lookup Queued) → o ≡ on_slot s (λ i. FoundAt i (queued (held_at t store i) (f i))) Absent
    → request_found queueing_receiver o ≡ on_slot s (λ i. some (queued (held_at t store i) (f i))) none
unfolding request_found
found_some t store f (Some i) o e = rw e
found_some t store f None o e = rw e

request_open : (R : ℕ) (m : QueueMemory) → (conn_of m).«open» ≡ true → request_in queueing_receiver R (loaded_queue m) ≡ on_slot (find (conn_of m).table R) (λ i. some (queued (held_at (conn_of m).table m.memory.store i) (waiting_of m i))) none
unfolding request_in
request_open R m o =
    let T = loaded_slots (conn_of m).table m.memory.store in
    let there : loaded_queue m ≡ Open (lift_slots (waiting_of m) T) (lift_reading (loaded_reading (conn_of m).frame m.memory.state.gathered)) = ap (lift_connection (waiting_of m)) (open_loaded m.memory o) in
    ap (request_in queueing_receiver R) there ∙ found_some (conn_of m).table m.memory.store (waiting_of m) (find (conn_of m).table R) (lookup R (lift_slots (waiting_of m) T)) (lift_lookup_lem (waiting_of m) R T ∙ go (find (conn_of m).table R) (lookup R T) (lookup_loaded (conn_of m).table m.memory.store R))
  where
    go : (s : Slot) (o : Lookup Held) → o ≡ found_as (conn_of m).table m.memory.store s → lift_lookup (waiting_of m) o ≡ on_slot s (λ i. FoundAt i (queued (held_at (conn_of m).table m.memory.store i) (waiting_of m i))) Absent
    go (Some i) o e = rw e
    go None o e = rw e

request_closed : (R : ℕ) (m : QueueMemory) → (conn_of m).«open» ≡ false → request_in queueing_receiver R (loaded_queue m) ≡ none
unfolding request_in
request_closed R m o = ap (request_in queueing_receiver R) (ap (lift_connection (waiting_of m)) (closed_loaded m.memory o))

-- whether R is leaving, what of it waits, and its core
module _ (R : ℕ) (m : QueueMemory) where
  abbrev there : Slot → Option Queued
  there s = on_slot s (λ i. some (queued (held_at (conn_of m).table m.memory.store i) (waiting_of m i))) none

  last : (i : ℕ) → end_waits (atoms_in (wait_at m i)) ≡ last_at m.waits i
  unfolding wait_at
  last i = last_is (wait_at m i)

  leaving_slot : (s : Slot) → is_leaving queueing_receiver waiting_queue (there s) ≡ on_slot s (λ i. last_at m.waits i) false
  unfolding is_leaving
  leaving_slot (Some i) = last i
  leaving_slot None = refl

  leaving_open : (conn_of m).«open» ≡ true → leaving_of R m ≡ on_slot (find (conn_of m).table R) (λ i. last_at m.waits i) false
  unfolding leaving_of
  leaving_open o = rw o

  leaving_closed : (conn_of m).«open» ≡ false → leaving_of R m ≡ false
  unfolding leaving_of
  leaving_closed o = rw o

  -- whether R is leaving
  pub leaving_is : is_leaving queueing_receiver waiting_queue (request_in queueing_receiver R (loaded_queue m)) ≡ leaving_of R m
  unfolding is_leaving
  leaving_is = by_test (conn_of m).«open» (λ o. ap (is_leaving queueing_receiver waiting_queue) (request_open R m o) ∙ leaving_slot (find (conn_of m).table R) ∙ sym (leaving_open o))
      (λ o. ap (is_leaving queueing_receiver waiting_queue) (request_closed R m o) ∙ sym (leaving_closed o))

  waits_slot : (s : Slot) → waits_in queueing_receiver waiting_queue (there s) ≡ on_slot s (λ i. atoms_in (wait_at m i)) []
  unfolding waits_in
  waits_slot (Some i) = refl
  waits_slot None = refl

  waits_open : (conn_of m).«open» ≡ true → waits_of R m ≡ on_slot (find (conn_of m).table R) (λ i. atoms_in (wait_at m i)) []
  unfolding waits_of
  waits_open o = rw o

  waits_closed : (conn_of m).«open» ≡ false → waits_of R m ≡ []
  unfolding waits_of
  waits_closed o = rw o

  -- what waits of R
  pub waits_are : waits_in queueing_receiver waiting_queue (request_in queueing_receiver R (loaded_queue m)) ≡ waits_of R m
  unfolding waits_in
  waits_are = by_test (conn_of m).«open» (λ o. ap (waits_in queueing_receiver waiting_queue) (request_open R m o) ∙ waits_slot (find (conn_of m).table R) ∙ sym (waits_open o))
      (λ o. ap (waits_in queueing_receiver waiting_queue) (request_closed R m o) ∙ sym (waits_closed o))

  core_slot : (s : Slot) → core_of queueing_receiver waiting_queue (there s) ≡ on_slot s (λ i. some (held_at (conn_of m).table m.memory.store i)) none
  unfolding core_of
  core_slot (Some i) = refl
  core_slot None = refl

  held_open : (conn_of m).«open» ≡ true → Run.request_of R m.memory ≡ on_slot (find (conn_of m).table R) (λ i. some (held_at (conn_of m).table m.memory.store i)) none
  unfolding Run.request_of
  held_open o = rw o

  held_closed : (conn_of m).«open» ≡ false → Run.request_of R m.memory ≡ none
  unfolding Run.request_of
  held_closed o = rw o

  -- R's request
  pub core_is : core_of queueing_receiver waiting_queue (request_in queueing_receiver R (loaded_queue m)) ≡ Run.request_of R m.memory
  unfolding core_of
  core_is = by_test (conn_of m).«open» (λ o. ap (core_of queueing_receiver waiting_queue) (request_open R m o) ∙ core_slot (find (conn_of m).table R) ∙ sym (held_open o))
      (λ o. ap (core_of queueing_receiver waiting_queue) (request_closed R m o) ∙ sym (held_closed o))

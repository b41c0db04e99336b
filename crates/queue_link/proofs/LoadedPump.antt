-- A record of the pump on the whole state is the machine's serve of the request in that slot.
use Rattle.std.specs.Prelude.{◌≡◌, Bool, ℕ, ◌<◌, length, take, if◌then◌else◌, Some}
use Rattle.std.proofs.Math.Path.{refl, ap, sym}
use Rattle.std.proofs.Common.{ap₂, ◌∙◌, length-set}
use mathlib.Core.List.{List, []}
use Rattle.std.proofs.Math.Bool.{true, false}
use Rattle.std.proofs.Math.ListN.{set}
use Rattle.record.specs.Names.{END_REQUEST, REQUEST_COMPLETE}
use Rattle.record.specs.Body.{end_body_bytes}
use Rattle.record_writer.specs.Written.{record_bytes}
use Rattle.machine.specs.Slots.{Vacant, HeldBy}
use Rattle.machine.specs.Timeline.{RequestCall, CallItem}
use Rattle.machine.specs.Machine.{Skip, ToBegin, ToQuery, ToSlot, Slots, Reading, AtHeader, PastHeader, Open, Closed, Leaves, Closes, target_without, reading_without, call_decided, on_item}
use Rattle.machine_queue.specs.Pump.{slot_after}
use Rattle.connection.specs.Sizes.{SLOTS}
use Rattle.connection.specs.Request.{Held}
use Rattle.connection.specs.Slots.{request_at, find}
use Rattle.connection.specs.Calls as C
use Rattle.connection.specs.Runs.Receiver.{receiver, clean_area}
use Rattle.connection.proofs.Runs.Loading.{loaded_target, reading_at, loaded_when}
use Rattle.connection.proofs.Runs.LoadingLaws.{loaded_kept, loaded_free}
use Rattle.connection.proofs.Runs.LinkingStep.{loaded_of, open_loaded}
use Rattle.connection.proofs.Runs.LinkingCalls.{redirected_target, redirected_reading}
use Rattle.queue_slot.specs.Wait.{Wait, nothing_in, Served, ServesNothing, ServesEnd, ServesData, ServesLast, served, atoms_in}
use Rattle.queue_slot.proofs.WaitLaws.{Sized}
use Rattle.queue_slot.proofs.ServeLaws.{ServedWell, served_well}
use Rattle.queue_slot.proofs.WaitRefines.{as_next, served_is_next}
use Rattle.queue_machine.specs.Queued as Q
use Rattle.queue_machine.specs.Queued.{Queued, queued, Serve, queued_call, queueing_receiver}
use Rattle.queue_machine.proofs.Lift.{lift_slots, lift_reading, lift_connection, lift_same, lift_changed}
use Rattle.queue.specs.Numbers.{NEXT}
use Rattle.queue.proofs.NumberLaws.{count_of_other, front_of_other, last_of_other, status_of_other, count_of_next, front_of_next, last_of_next, status_of_next}
use Rattle.queue.proofs.Areas.{Roomy, wait_of_put, wait_of_other}
use Rattle.queue_link.proofs.Loaded.{waiting_of, loaded_queue, QueueSteady, slot_below}
use Rattle.queue_link.proofs.LoadedCalls as L
use Rattle.queue.specs.Calls.{QueueMemory, conn_of, wait_at, put_wait, served_last, released_slot, write_served, pump_slot}

-- skipping goes through
pub lift_without : (i : ℕ) (F : Reading receiver) → lift_reading (reading_without receiver i F) ≡ reading_without queueing_receiver i (lift_reading F)
unfolding reading_without target_without
lift_without i (AtHeader h) = refl
lift_without i (PastHeader Skip c p) = refl
lift_without i (PastHeader (ToBegin id g) c p) = refl
lift_without i (PastHeader (ToQuery g) c p) = refl
lift_without i (PastHeader (ToSlot j k) c p) = go (lib.Dec.eqb i j)
  where
    go : (b : Bool) → lift_reading (PastHeader (if b then Skip else ToSlot j k) c p) ≡ PastHeader (if b then Skip else ToSlot j k) c p
    go true = refl
    go false = refl

module _ (m : QueueMemory) (z : QueueSteady m) (y : Roomy m) (is_open : (conn_of m).«open» ≡ true) (id i : ℕ) (found : find (conn_of m).table id ≡ Some i) where
  abbrev slots : Slots receiver
  slots = L.slots m z y is_open id i found

  abbrev reading : Reading receiver
  reading = L.reading m z y is_open id i found

  abbrev mine : Queued
  mine = L.mine m z y is_open id i found

  abbrev own : Held
  own = L.own m z y is_open id i found

  low : i < SLOTS
  low = (L.holds m z y is_open id i found).low

  -- that a slot is the one served last changes nothing of what waits
  abbrev next : ℕ
  next = slot_after SLOTS i

  pub same_wait : (j : ℕ) → j < SLOTS → wait_at (served_last m i) j ≡ wait_at m j
  unfolding wait_at
  same_wait j h = rw (count_of_next m.waits next j h, front_of_next m.waits next j, last_of_next m.waits next j, status_of_next m.waits next j h)

  pub roomy_last : Roomy (served_last m i)
  roomy_last = record { waits = length-set m.waits NEXT next ∙ y.waits; queue = y.queue; marks = y.marks }

  -- what waits then is put back
  pub put_memory : (v : Wait) → loaded_of (put_wait (served_last m i) i v).memory ≡ Open slots reading
  unfolding put_wait loaded_when
  put_memory v = rw is_open

  -- what is left waits, on the machine too
  pub wait_loaded : (v : Wait) → Sized v → loaded_queue (put_wait (served_last m i) i v) ≡ Open (set (lift_slots (waiting_of m) slots) i (HeldBy id (queued own (atoms_in v)))) (lift_reading reading)
  wait_loaded v s =
      let g = waiting_of (put_wait (served_last m i) i v) in
      let here : g i ≡ atoms_in v = ap atoms_in (wait_of_put (served_last m i) i v roomy_last low s) in
      let there : (j : ℕ) → j < length slots → (j ≡ i → ⊥) → g j ≡ waiting_of m j =
      λ j h d. let l = slot_below (conn_of m).table m.memory.store j h in ap atoms_in (wait_of_other (served_last m i) i v roomy_last low s j l d ∙ same_wait j l)
      in
      let t : slots ≡ set slots i (HeldBy id own) =
      loaded_kept (conn_of m).table m.memory.store i (L.in_use m z y is_open id i found) ∙ ap (λ k. set slots i (HeldBy k own)) (L.own_id m z y is_open id i found) in
      ap (lift_connection g) (put_memory v ∙ ap (λ T. Open T reading) t)
      ∙ ap (λ T. Open T (lift_reading reading)) (lift_changed (waiting_of m) g slots i (HeldBy id own) there ∙ ap (λ l. set (lift_slots (waiting_of m) slots) i (HeldBy id (queued own l))) here)

  -- END is written, and the slot is given back
  pub other_wait : (j : ℕ) → j < SLOTS → (j ≡ i → ⊥) → wait_at (released_slot (served_last m i) i true) j ≡ wait_at m j
  unfolding wait_at
  other_wait j h d =
      let w = set m.waits NEXT next in
      rw (
        count_of_other w i (nothing_in [] []) roomy_last.waits low j h d ∙ count_of_next m.waits next j h,
        front_of_other w i (nothing_in [] []) roomy_last.waits low j h d ∙ front_of_next m.waits next j,
        last_of_other w i (nothing_in [] []) roomy_last.waits low j h d ∙ last_of_next m.waits next j,
        status_of_other w i (nothing_in [] []) roomy_last.waits low j h d ∙ status_of_next m.waits next j h,
      )

  pub free_memory : loaded_of (released_slot (served_last m i) i true).memory ≡ Open (set slots i (Vacant clean_area)) (reading_without receiver i reading)
  unfolding loaded_when C.released
  free_memory =
      let f = (conn_of m).frame in
      let g = m.memory.state.gathered in
      rw is_open
      (ap₂ (λ x y. Open x y) (loaded_free (conn_of m).table m.memory.store i z.steady.sizes.full (L.holds m z y is_open id i found).low)
      (ap (reading_at f.position.content f.position.padding (take f.position.held f.position.header)) (redirected_target i f.target f.gathered f.body g)
      ∙ redirected_reading i f.position.content f.position.padding (take f.position.held f.position.header) (loaded_target f.target f.gathered f.body g)))

  free_loaded : loaded_queue (released_slot (served_last m i) i true) ≡ Open (set (lift_slots (waiting_of m) slots) i (Vacant clean_area)) (reading_without queueing_receiver i (lift_reading reading))
  free_loaded =
      let g = waiting_of (released_slot (served_last m i) i true) in
      ap (lift_connection g) free_memory
      ∙ ap₂ (λ x y. Open x y) (lift_changed (waiting_of m) g slots i (Vacant clean_area) (λ j h d. ap atoms_in (other_wait j (slot_below (conn_of m).table m.memory.store j h) d))) (lift_without i reading)

  shut_loaded : loaded_queue (released_slot (served_last m i) i false) ≡ Closed
  unfolding loaded_when
  shut_loaded = refl

  none_loaded : loaded_queue (served_last m i) ≡ loaded_queue m
  none_loaded =
      let g = waiting_of (served_last m i) in
      ap (lift_connection g) (open_loaded m.memory is_open)
      ∙ ap (λ T. Open T (lift_reading reading)) (lift_same (waiting_of m) g slots (λ j h. ap atoms_in (same_wait j (slot_below (conn_of m).table m.memory.store j h))))
      ∙ sym (L.loaded_is m z y is_open id i found)

  -- what a serve comes to
  served_loaded : (s : Served) → ServedWell (wait_at m i) s
      → loaded_queue (write_served (served_last m i) i (request_at (conn_of m).table i) s).left
      ≡ (call_decided queueing_receiver (Q.served mine (as_next s)) i mine id Serve (lift_slots (waiting_of m) slots) (lift_reading reading)).0
  unfolding write_served Q.served call_decided
  served_loaded ServesNothing h = none_loaded ∙ L.kept_loaded m z y is_open id i found
  served_loaded (ServesEnd o v) h = wait_loaded v h.1
  served_loaded (ServesData o content v) h = wait_loaded v h.1
  served_loaded (ServesLast status) h = go (request_at (conn_of m).table i).state.keep (record_bytes END_REQUEST (request_at (conn_of m).table i).id (end_body_bytes status REQUEST_COMPLETE))
    where
      go : (k : Bool) (x : List ℕ) → loaded_queue (released_slot (served_last m i) i k)
          ≡ (call_decided queueing_receiver (if k then Leaves (Q.Record x) else Closes (Q.Record x)) i mine id Serve (lift_slots (waiting_of m) slots) (lift_reading reading)).0
      go true x = free_loaded
      go false x = shut_loaded

  -- A record of the pump from slot i is the machine's serve of the request there.
  pub serve_loaded : loaded_queue (pump_slot m i).left ≡ (on_item queueing_receiver (loaded_queue m) (CallItem (RequestCall id Serve))).0
  unfolding pump_slot queued_call
  serve_loaded =
      let s = z.sized i (L.holds m z y is_open id i found).low in
      served_loaded (served (wait_at m i)) (served_well (wait_at m i) s)
      ∙ ap (λ n. (call_decided queueing_receiver (Q.served mine n) i mine id Serve (lift_slots (waiting_of m) slots) (lift_reading reading)).0) (sym (served_is_next (wait_at m i) s))
      ∙ sym (ap (λ e. e.0) (L.call_decided_lem m z y is_open id i found Serve))

-- A queued call on the whole state is the machine's call of the request in its slot.
use Rattle.std.proofs.Math.Path.{◌≡◌, refl, ap, sym}
use Rattle.std.proofs.Common.{◌∙◌, arith}
use Rattle.std.specs.Prelude.{List, [], ◌++◌, map, Bool, ℕ, ◌+◌, ◌≤◌, ◌<◌, set, if◌then◌else◌, Some}
use Rattle.std.proofs.Math.Bool.{true, false, not}
use Rattle.std.proofs.Math.ListN.{length}
use Rattle.std.proofs.Math.Dec.{eqb, ltb}
use borrow.Author.Tests.{eqb-true, eq-eqb, ne_eqb, eqb-false, leb-true}
use Rattle.wire.specs.Test.{by_test}
use Rattle.machine.specs.Slots.{HeldBy, FoundAt, lookup}
use Rattle.machine.specs.Timeline.{RequestCall, CallItem}
use Rattle.machine.specs.Machine.{Slots, Reading, Open, Stays, call_decided, request_called, on_item}
use Rattle.connection.specs.Refusal.{refusal}
use Rattle.connection.specs.declared.request.Request.{Request}
use Rattle.connection.specs.declared.state.Table.{Table}
use Rattle.connection.specs.declared.answer.Output.{Output}
use Rattle.connection.specs.Request.{Held}
use Rattle.connection.specs.RequestCalls as Of
use Rattle.connection.specs.Slots.{request_at, area_at, held_at, put_request, find}
use Rattle.connection.proofs.Laws.SlotsLaws.{Holds, find_at}
use Rattle.connection.specs.Fits.{InUse}
use Rattle.connection.specs.Calls as C
use Rattle.connection.specs.Runs.Receiver.{receiver}
use Rattle.connection.proofs.Runs.ReceiverLaws.{SameList}
use Rattle.connection.proofs.Runs.Loading.{loaded_slots, loaded_reading, loaded_when}
use Rattle.connection.proofs.Runs.LoadingLaws.{loaded_states, loaded_kept, lookup_loaded}
use Rattle.connection.proofs.Runs.LinkingStep.{loaded_of, open_loaded}
use Rattle.connection.proofs.Runs.LinkingCalls.{slot_found}
use Rattle.queue_slot.specs.Atoms.{ByteOn, end_waits, data_in}
use Rattle.queue_slot.specs.Wait.{ROOM, Wait, has_room_for, wait_data, wait_end, atoms_in}
use Rattle.queue_slot.proofs.WaitLaws.{Sized, data_sized, data_waits}
use Rattle.queue_slot.proofs.WaitRefines.{last_is}
use Rattle.queue_slot.proofs.WaitKept.{Kept, room_is, end_kept}
use Rattle.queue_machine.specs.Queued as Q
use Rattle.queue_machine.specs.Queued.{Queued, queued, Asked, QueueSay, QueueEnd, queued_call, queueing_receiver}
use Rattle.queue_machine.proofs.Lift.{lift_slots, lift_reading, lift_connection, lift_lookup_lem, lift_set, lift_changed}
use Rattle.queue.specs.Numbers.{last_at}
use Rattle.queue.proofs.Areas.{Roomy, wait_of_put, wait_of_other}
use Rattle.queue_link.proofs.Loaded.{waiting_of, loaded_queue, QueueSteady, queue_shape, slot_below}
use Rattle.queue.specs.Calls as T
use Rattle.queue.specs.Calls.{QUEUE, QueueMemory, conn_of, wait_at, put_wait, with_conn, put_both, say_refusal}

not_not : (b : Bool) → not (not b) ≡ b
not_not true = refl
not_not false = refl

-- there is room
pub room_fits_of : (w : Wait) (content : List ℕ) → has_room_for w content ≡ true → w.count + length content ≤ ROOM
unfolding has_room_for
room_fits_of w content h = leb-true (w.count + length content) ROOM h

module _ (m : QueueMemory) (z : QueueSteady m) (y : Roomy m) (is_open : (conn_of m).«open» ≡ true) (id i : ℕ) (found : find (conn_of m).table id ≡ Some i) where
  abbrev pub table : Table
  table = (conn_of m).table

  abbrev pub slots : Slots receiver
  slots = loaded_slots table m.memory.store

  abbrev pub reading : Reading receiver
  reading = loaded_reading (conn_of m).frame m.memory.state.gathered

  abbrev pub own : Held
  own = held_at table m.memory.store i

  pub holds : Holds table id i
  holds = find_at table id i found

  pub in_use : InUse table i
  in_use = record { low = holds.low; slot_taken = holds.slot_taken }

  pub own_id : (request_at table i).id ≡ id
  unfolding request_at
  own_id = holds.has_id

  -- the machine's connection
  pub loaded_is : loaded_queue m ≡ Open (lift_slots (waiting_of m) slots) (lift_reading reading)
  loaded_is = ap (lift_connection (waiting_of m)) (open_loaded m.memory is_open)

  -- The machine's call: the request in slot i decides.
  pub call_decided_lem : (a : Asked) → on_item queueing_receiver (loaded_queue m) (CallItem (RequestCall id a))
      ≡ call_decided queueing_receiver (queued_call a (queued own (waiting_of m i))) i (queued own (waiting_of m i)) id a (lift_slots (waiting_of m) slots) (lift_reading reading)
  unfolding on_item request_called
  call_decided_lem a =
      let e : lookup id (lift_slots (waiting_of m) slots) ≡ FoundAt i (queued own (waiting_of m i)) =
      lift_lookup_lem (waiting_of m) id slots ∙ rw (lookup_loaded table m.memory.store id, found) in
      rw (loaded_is, e)

  -- A request and what waits, put back into slot i.
  pub put_memory : (r : Request) (w : Wait) → loaded_of (put_both m i r w).memory ≡ Open (loaded_slots (put_request table i r) m.memory.store) reading
  unfolding put_wait loaded_when
  put_memory r w = rw is_open

  pub same_wait : (r : Request) (j : ℕ) → wait_at (with_conn m (C.puts_request (conn_of m) i r)) j ≡ wait_at m j
  unfolding wait_at
  same_wait r j = refl

  pub roomy_with : (r : Request) → Roomy (with_conn m (C.puts_request (conn_of m) i r))
  roomy_with r = record { waits = y.waits; queue = y.queue; marks = y.marks }

  -- on the machine it is put back too
  pub put_loaded : (r : Request) (w : Wait) → SameList (request_at table i) r → Sized w
      → loaded_queue (put_both m i r w) ≡ Open (set (lift_slots (waiting_of m) slots) i (HeldBy id (queued (record { request = r; area = area_at m.memory.store i }) (atoms_in w)))) (lift_reading reading)
  put_loaded r w same s =
      let k = with_conn m (C.puts_request (conn_of m) i r) in
      let g = waiting_of (put_both m i r w) in
      let held : Held = record { request = r; area = area_at m.memory.store i } in
      let here : g i ≡ atoms_in w = ap atoms_in (wait_of_put k i w (roomy_with r) holds.low s) in
      let there : (j : ℕ) → j < length slots → (j ≡ i → ⊥) → g j ≡ waiting_of m j = λ j h d. ap atoms_in (wait_of_other k i w (roomy_with r) holds.low s j (slot_below table m.memory.store j h) d ∙ same_wait r j) in
      let t : loaded_slots (put_request table i r) m.memory.store ≡ set slots i (HeldBy id held) =
      loaded_states table m.memory.store i r z.steady.sizes.table z.steady.sizes.full in_use ∙ ap (λ k. set slots i (HeldBy k held)) (same.id ∙ own_id) in
      ap (lift_connection g) (put_memory r w ∙ ap (λ T. Open T reading) t)
      ∙ ap (λ T. Open T (lift_reading reading)) (lift_changed (waiting_of m) g slots i (HeldBy id held) there ∙ ap (λ l. set (lift_slots (waiting_of m) slots) i (HeldBy id (queued held l))) here)

  -- ---- queued say
  -- the request of the machine
  abbrev pub mine : Queued
  mine = queued own (waiting_of m i)

  -- END waits just where its number says so
  pub leaving_is : end_waits (waiting_of m i) ≡ last_at m.waits i
  unfolding wait_at
  leaving_is = last_is (wait_at m i)

  -- the refusal, as the machine has it
  pub say_refusal_lem : (o : Output) (content : List ℕ)
      → say_refusal m id o content ≡ (if eqb (Q.queue_refusal mine o) 0 then (if has_room_for (wait_at m i) content then 0 else 10) else Q.queue_refusal mine o)
  unfolding say_refusal Q.queue_refusal request_at has_room_for end_waits wait_at atoms_in
  say_refusal_lem o content =
      let q = eq-eqb (length m.queue) QUEUE y.queue in
      let h = queue_shape m z in
      rw (q, h, is_open, found, leaving_is) (cases (last_at m.waits i) (Of.no_output (request_at table i)) (Of.is_ended o (request_at table i).state) (has_room_for (wait_at m i) content))
    where
      cases : (l n e r : Bool)
          → ◌≡◌ {A = ℕ} (if (if l then false else n) then 4 else if T.or l e then 5 else if not r then 10 else 0)
          (if eqb (if l then 5 else if n then 4 else if e then 5 else 0) 0 then (if r then 0 else 10) else (if l then 5 else if n then 4 else if e then 5 else 0))
      cases true n e r = refl
      cases false true e r = refl
      cases false false true r = refl
      cases false false false true = refl
      cases false false false false = refl

  -- where nothing changes
  pub same_slots : set (lift_slots (waiting_of m) slots) i (HeldBy id mine) ≡ lift_slots (waiting_of m) slots
  same_slots =
      sym (lift_set (waiting_of m) slots i (HeldBy id own))
      ∙ ap (lift_slots (waiting_of m)) (sym (loaded_kept table m.memory.store i in_use ∙ ap (λ k. set slots i (HeldBy k own)) own_id))

  -- the request put back as it is
  pub kept_loaded : loaded_queue m ≡ Open (set (lift_slots (waiting_of m) slots) i (HeldBy id mine)) (lift_reading reading)
  kept_loaded = loaded_is ∙ ap (λ T. Open T (lift_reading reading)) (sym same_slots)

  pub said_same : (o : Output) (content : List ℕ) → SameList (request_at table i) (Of.said_on (request_at table i) o content)
  unfolding Of.said_on
  said_same o content = record { id = refl; length = refl }

  not_leaving : (o : Output) → Q.queue_refusal mine o ≡ 0 → end_waits (waiting_of m i) ≡ false
  unfolding Q.queue_refusal
  not_leaving o e = by_test (end_waits (waiting_of m i)) (λ l. let z : ◌≡◌ {A = ℕ} 5 0 = rw l at e in absurd (omega arith)) (λ l. l)

  -- the call, where nothing but room may refuse it
  say_decided : (o : Output) (content : List ℕ) (r : Bool) → has_room_for (wait_at m i) content ≡ r → Q.queue_refusal mine o ≡ 0 → say_refusal m id o content ≡ (if r then 0 else 10)
      → loaded_queue (T.queue_say m id o content).left
      ≡ (call_decided queueing_receiver (if not r then Stays mine (Q.Queueing 10) else Stays (queued (Q.with_request own (Of.said_on (request_at table i) o content)) (waiting_of m i ++ map (ByteOn o) content)) (Q.Queueing 0)) i mine id (QueueSay o content) (lift_slots (waiting_of m) slots) (lift_reading reading)).0
  unfolding T.queue_say call_decided
  say_decided o content false r e n = rw n kept_loaded
  say_decided o content true r e n =
      let w = wait_at m i in
      let s = z.sized i holds.low in
      let l : w.last ≡ false = sym (last_is w) ∙ not_leaving o e in
      let fits : w.count + length content ≤ ROOM = room_fits_of w content r in
      let d = data_waits w o content s fits l in
      rw (n, slot_found (conn_of m) id i found)
      (put_loaded (Of.said_on (request_at table i) o content) (wait_data w o content) (said_same o content) (data_sized w o content s fits)
      ∙ ap (λ k. Open (set (lift_slots (waiting_of m) slots) i (HeldBy id (queued (record { request = Of.said_on (request_at table i) o content; area = area_at m.memory.store i }) k))) (lift_reading reading)) d)

  -- Queued say on the whole state is the machine's.
  say_open : (o : Output) (content : List ℕ) → eqb (Q.queue_refusal mine o) 0 ≡ true
      → loaded_queue (T.queue_say m id o content).left ≡ (call_decided queueing_receiver (Q.queue_say mine o content) i mine id (QueueSay o content) (lift_slots (waiting_of m) slots) (lift_reading reading)).0
  unfolding Q.queue_say
  say_open o content e =
      let n : say_refusal m id o content ≡ (if has_room_for (wait_at m i) content then 0 else 10) = rw e at (say_refusal_lem o content) in
      let r : ltb ROOM (data_in (waiting_of m i) + length content) ≡ not (has_room_for (wait_at m i) content) = sym (not_not _) ∙ ap not (sym (room_is (wait_at m i) content (z.sized i holds.low))) in
      rw (e, r) (say_decided o content (has_room_for (wait_at m i) content) refl (eqb-true (Q.queue_refusal mine o) 0 e) n)

  say_refused : (o : Output) (content : List ℕ) → eqb (Q.queue_refusal mine o) 0 ≡ false
      → loaded_queue (T.queue_say m id o content).left ≡ (call_decided queueing_receiver (Q.queue_say mine o content) i mine id (QueueSay o content) (lift_slots (waiting_of m) slots) (lift_reading reading)).0
  unfolding T.queue_say Q.queue_say call_decided
  say_refused o content e =
      let n : say_refusal m id o content ≡ Q.queue_refusal mine o = rw e at (say_refusal_lem o content) in
      rw (n, e) kept_loaded

  -- Queued say.
  pub say_loaded : (o : Output) (content : List ℕ) → loaded_queue (T.queue_say m id o content).left ≡ (on_item queueing_receiver (loaded_queue m) (CallItem (RequestCall id (QueueSay o content)))).0
  unfolding queued_call
  say_loaded o content =
      by_test (eqb (Q.queue_refusal mine o) 0) (λ e. say_open o content e) (λ e. say_refused o content e) ∙ sym (ap (λ e. e.0) (call_decided_lem (QueueSay o content)))

  -- ---- queued end
  pub end_refusal : (o : Output) → refusal (T.rows_of m id (T.stream_rows m id o [])) ≡ Q.queue_refusal mine o
  unfolding Q.queue_refusal request_at end_waits wait_at atoms_in
  end_refusal o =
      let h = queue_shape m z in
      rw (h, is_open, found, leaving_is) (cases (last_at m.waits i) (Of.no_output (request_at table i)) (Of.is_ended o (request_at table i).state))
    where
      cases : (l n e : Bool) → ◌≡◌ {A = ℕ} (if (if l then false else n) then 4 else if T.or l e then 5 else 0) (if l then 5 else if n then 4 else if e then 5 else 0)
      cases true n e = refl
      cases false true e = refl
      cases false false true = refl
      cases false false false = refl

  pub ended_same : (o : Output) → SameList (request_at table i) (Of.ended_on (request_at table i) o)
  unfolding Of.ended_on
  ended_same o = record { id = refl; length = refl }

  not_ended : (o : Output) → Q.queue_refusal mine o ≡ 0 → Of.is_ended o (request_at table i).state ≡ false
  unfolding Q.queue_refusal
  not_ended o e =
      by_test (end_waits (waiting_of m i)) (λ l. let q : ◌≡◌ {A = ℕ} 5 0 = rw l at e in absurd (omega arith))
      (λ l. by_test (Of.no_output (request_at table i)) (λ n. let q : ◌≡◌ {A = ℕ} 4 0 = rw (l, n) at e in absurd (omega arith))
      (λ n. by_test (Of.is_ended o (request_at table i).state) (λ d. let q : ◌≡◌ {A = ℕ} 5 0 = rw (l, n, d) at e in absurd (omega arith)) (λ d. d)))

  end_open : (o : Output) → Kept (request_at table i).state (wait_at m i) → Q.queue_refusal mine o ≡ 0
      → loaded_queue (T.queue_end m id o).left ≡ (call_decided queueing_receiver (Q.queue_end mine o) i mine id (QueueEnd o) (lift_slots (waiting_of m) slots) (lift_reading reading)).0
  unfolding T.queue_end Q.queue_end call_decided
  end_open o k e =
      let w = wait_at m i in
      let l : w.last ≡ false = sym (last_is w) ∙ not_leaving o e in
      let d = end_kept (request_at table i) w o k l (not_ended o e) in
      let n : refusal (T.rows_of m id (T.stream_rows m id o [])) ≡ 0 = end_refusal o ∙ e in
      rw (n, e, slot_found (conn_of m) id i found)
      (put_loaded (Of.ended_on (request_at table i) o) (wait_end w o) (ended_same o) d.0.sized
      ∙ ap (λ k. Open (set (lift_slots (waiting_of m) slots) i (HeldBy id (queued (record { request = Of.ended_on (request_at table i) o; area = area_at m.memory.store i }) k))) (lift_reading reading)) d.1)

  end_refused : (o : Output) → (Q.queue_refusal mine o ≡ 0 → ⊥)
      → loaded_queue (T.queue_end m id o).left ≡ (call_decided queueing_receiver (Q.queue_end mine o) i mine id (QueueEnd o) (lift_slots (waiting_of m) slots) (lift_reading reading)).0
  unfolding T.queue_end Q.queue_end call_decided
  end_refused o d =
      let e = ne_eqb (Q.queue_refusal mine o) 0 d in
      rw (end_refusal o, e) kept_loaded

  -- Queued end on the whole state is the machine's.
  pub end_loaded : (o : Output) → Kept (request_at table i).state (wait_at m i) → loaded_queue (T.queue_end m id o).left ≡ (on_item queueing_receiver (loaded_queue m) (CallItem (RequestCall id (QueueEnd o)))).0
  unfolding queued_call
  end_loaded o k =
      by_test (eqb (Q.queue_refusal mine o) 0) (λ e. end_open o k (eqb-true (Q.queue_refusal mine o) 0 e)) (λ e. end_refused o (eqb-false (Q.queue_refusal mine o) 0 e)) ∙ sym (ap (λ e. e.0) (call_decided_lem (QueueEnd o)))

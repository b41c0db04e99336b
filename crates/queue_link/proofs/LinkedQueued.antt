-- Queued say and end on the whole state are the machine's, with their answers, and keep what every state fulfils.
use Rattle.std.specs.Prelude.{◌≡◌, List, [], Bool, ℕ, ◌+◌, ◌≤◌, ◌<◌, set, eqb, if◌then◌else◌, Some}
use Rattle.std.proofs.Math.Path.{refl, ap, sym, subst}
use Rattle.std.proofs.Common.{◌∙◌, arith, eqb-true}
use Rattle.std.proofs.Math.Bool.{true, false, not}
use Rattle.std.proofs.Math.ListN.{length}
use Rattle.std.proofs.Math.Dec.{ltb}
use Rattle.std.proofs.lemmas.Bool.{eqb-false}
use Rattle.wire.specs.Test.{by_test}
use Rattle.connection.specs.Refusal.{refusal}
use Rattle.connection.specs.declared.request.Request.{Request}
use Rattle.connection.specs.declared.answer.Output.{Output}
use Rattle.connection.specs.Sizes.{SLOTS}
use Rattle.connection.specs.Request.{Held}
use Rattle.connection.specs.RequestCalls as Of
use Rattle.connection.specs.Calls as C
use Rattle.connection.specs.Runs.Receiver.{receiver}
use Rattle.connection.proofs.Runs.LinkingStep.{open_loaded, Steady}
use Rattle.queue_machine.specs.Queued as Q
use Rattle.queue_machine.specs.Queued.{outcome_answer, Queued, Asked, QueueAnswer, queued_call, queueing_receiver}
use Rattle.queue_machine.proofs.Lift.{lift_slot, lift_slots, lift_reading, NothingFree, lift_at}
use Rattle.queue_machine.proofs.LiftRuns.{FreeIn}
use Rattle.queue_link.proofs.Loaded.{waiting_of, loaded_queue, QueueSteady, slot_below}
use Rattle.queue_link.proofs.LoadedCalls as L
use Rattle.queue.specs.Calls as T
use Rattle.queue.specs.Run as D
use Rattle.machine.specs.Slots.{HeldBy, slot_at}
use Rattle.machine.specs.Machine.{Slots, Reading, CallOutcome, Stays, Retires, Leaves, Closes, call_decided}
use Rattle.machine.specs.Shape.{SlotOk, WellShaped}
use Rattle.connection.specs.Slots.{request_at, area_at, put_request, find}
use Rattle.connection.proofs.Runs.ReceiverLaws.{SameList}
use Rattle.connection.proofs.Runs.Loading.{loaded_slots, slot_of, loaded_slot}
use Rattle.connection.proofs.Runs.LoadingLaws.{slot_loaded, loaded_states}
use Rattle.connection.proofs.Runs.LinkingCalls.{slot_found}
use Rattle.connection.proofs.Runs.CallShape.{steady_put}
use Rattle.queue_slot.specs.Atoms.{data_in}
use Rattle.queue_slot.specs.Wait.{ROOM, Wait, has_room_for, wait_data, wait_end, atoms_in}
use Rattle.queue_slot.proofs.WaitLaws.{Sized, data_sized, end_sized}
use Rattle.queue_slot.proofs.WaitRefines.{last_is}
use Rattle.queue_slot.proofs.WaitKept.{Kept, room_is}
use Rattle.queue.proofs.Areas.{Roomy, wait_of_put, wait_of_other, roomy_put}
use Rattle.queue_link.proofs.LoadedTurn.{Good, free_changed}
use Rattle.queue_machine.proofs.EndsRight.{ends_laws}
use Rattle.queue.specs.Calls.{QueueMemory, conn_of, wait_at, put_wait, with_conn, put_both, say_refusal, rows_of, stream_rows}
use Rattle.queue.specs.Run.{queue_called}
use Rattle.queue_link.proofs.LinkedStraight.{answer_in, CallIs}

-- the answer in an outcome
pub decided_answer : (o : CallOutcome Queued QueueAnswer) (i : ℕ) (q : Queued) (id : ℕ) (b : Asked) (T : Slots queueing_receiver) (F : Reading queueing_receiver)
    → answer_in (call_decided queueing_receiver o i q id b T F).1 ≡ outcome_answer o
unfolding call_decided answer_in
decided_answer (Stays r n) i q id b T F = refl
decided_answer (Retires r n) i q id b T F = refl
decided_answer (Leaves n) i q id b T F = refl
decided_answer (Closes n) i q id b T F = refl

abbrev refusal_among : T.Queueing → ℕ
refusal_among q = q.refusal

module _ (m : QueueMemory) (g : Good m) (is_open : (conn_of m).«open» ≡ true) (id i : ℕ) (found : find (conn_of m).table id ≡ Some i) where
  abbrev z : QueueSteady m
  z = g.steady

  abbrev y : Roomy m
  y = g.roomy

  abbrev own : Held
  own = L.own m z y is_open id i found

  abbrev mine : Queued
  mine = L.mine m z y is_open id i found

  abbrev slots : Slots receiver
  slots = L.slots m z y is_open id i found

  abbrev reading : Reading receiver
  reading = L.reading m z y is_open id i found

  abbrev request : Request
  request = request_at (conn_of m).table i

  low : i < SLOTS
  low = (L.holds m z y is_open id i found).low

  slots_free : NothingFree (waiting_of m) slots
  slots_free = rw (open_loaded m.memory is_open) at z.free

  -- ---- a request and what waits, put back
  both_open : (r : Request) (w : Wait) → (conn_of (put_both m i r w)).«open» ≡ true
  unfolding put_wait
  both_open r w = is_open

  both_memory : (r : Request) (w : Wait) → SameList request r → Steady (put_both m i r w).memory
  unfolding put_wait
  both_memory r w same = steady_put m.memory i r low same z.steady

  -- what every state fulfils, with a request and what waits put back
  pub both_good : (r : Request) (w : Wait) → SameList request r → Sized w → Good (put_both m i r w)
  both_good r w same s =
      let n = put_both m i r w in
      let k = with_conn m (C.puts_request (conn_of m) i r) in
      let ky = L.roomy_with m z y is_open id i found r in
      let there : (j : ℕ) → j < SLOTS → (j ≡ i → ⊥) → wait_at n j ≡ wait_at m j = λ j h d. wait_of_other k i w ky low s j h d ∙ L.same_wait m z y is_open id i found r j in
      let t : loaded_slots (put_request (conn_of m).table i r) m.memory.store ≡ set slots i (HeldBy r.id (record { request = r; area = area_at m.memory.store i })) =
      loaded_states (conn_of m).table m.memory.store i r z.steady.sizes.table z.steady.sizes.full (L.in_use m z y is_open id i found) in
      record {
        steady = record {
          steady = both_memory r w same;
          sized = λ j h. by_test (eqb j i) (λ e. let x : wait_at n j ≡ w = ap (wait_at n) (eqb-true j i e) ∙ wait_of_put k i w ky low s in subst (λ x. Sized x) (sym x) s)
              (λ e. subst (λ x. Sized x) (sym (there j h (eqb-false j i e))) (z.sized j h));
          free = subst (λ w. FreeIn (waiting_of n) w) (sym (L.put_memory m z y is_open id i found r w))
              (subst (λ T. NothingFree (waiting_of n) T) (sym t) (free_changed (waiting_of n) i (HeldBy r.id (record { request = r; area = area_at m.memory.store i })) (λ j h d. ap atoms_in (there j (slot_below (conn_of m).table m.memory.store j h) d)) tt slots_free));
          dropped = λ o. let q : ◌≡◌ {A = ℕ} 0 1 = cc (both_open r w, o) in absurd (omega arith);
        };
        roomy = roomy_put k i w ky low s;
      }

  -- ---- ends wait as they should
  pub kept_here : WellShaped queueing_receiver ends_laws (loaded_queue m) → Kept request.state (wait_at m i)
  unfolding slot_of loaded_slot
  kept_here w =
      let k = subst (λ s. WellShaped queueing_receiver ends_laws s) (L.loaded_is m z y is_open id i found) w in
      let t = (conn_of m).table in
      let there : slot_at receiver.clean (lift_slots (waiting_of m) slots) i ≡ lift_slot (waiting_of m i) (slot_of t m.memory.store i) =
      lift_at (waiting_of m) slots i ∙ ap (lift_slot (waiting_of m i)) (slot_loaded t m.memory.store i low) in
      let s : SlotOk queueing_receiver ends_laws (lift_slot (waiting_of m i) (slot_of t m.memory.store i)) = subst (λ s. SlotOk queueing_receiver ends_laws s) there (k.0.fits i) in
      let r = rw (L.holds m z y is_open id i found).slot_taken at s in
      record { sized = z.sized i low; unended = λ o l d. r.1 o (last_is (wait_at m i) ∙ l) d }

  -- ---- say
  same_number : (n : ℕ) (x x' : QueueMemory) → refusal_among (if eqb n 0 then record { refusal = 0; left = x } else record { refusal = n; left = x' }) ≡ n
  same_number n x x' = by_test (eqb n 0) (λ e. rw e (sym (eqb-true n 0 e))) (λ e. rw e)

  say_told : (o : Output) (content : List ℕ) → (T.queue_say m id o content).refusal ≡ say_refusal m id o content
  unfolding T.queue_say
  say_told o content = same_number (say_refusal m id o content) _ m

  say_outcome : (o : Output) (content : List ℕ) → outcome_answer (Q.queue_say mine o content) ≡ Q.Queueing (say_refusal m id o content)
  unfolding Q.queue_say
  say_outcome o content =
      let r : ltb ROOM (data_in (waiting_of m i) + length content) ≡ not (has_room_for (wait_at m i) content) = sym (not_not _) ∙ ap not (sym (room_is (wait_at m i) content (z.sized i low))) in
      let n = L.say_refusal_lem m z y is_open id i found o content in
      rw r (go (has_room_for (wait_at m i) content) (eqb (Q.queue_refusal mine o) 0) (Q.queue_refusal mine o) _ _ ∙ ap Q.Queueing (sym n))
    where
      not_not : (b : Bool) → not (not b) ≡ b
      not_not true = refl
      not_not false = refl

      go : (h e : Bool) (k : ℕ) (r q : Queued) → outcome_answer (if e then (if not h then Stays r (Q.Queueing 10) else Stays q (Q.Queueing 0)) else Stays r (Q.Queueing k)) ≡ Q.Queueing (if e then (if h then 0 else 10) else k)
      go true true k r q = refl
      go false true k r q = refl
      go h false k r q = refl

  say_room : (o : Output) (content : List ℕ) → eqb (say_refusal m id o content) 0 ≡ true → (wait_at m i).count + length content ≤ ROOM
  say_room o content e = L.room_fits_of (wait_at m i) content (go (has_room_for (wait_at m i) content) (Q.queue_refusal mine o) (sym (L.say_refusal_lem m z y is_open id i found o content) ∙ eqb-true _ 0 e))
    where
      go : (h : Bool) (k : ℕ) → (if eqb k 0 then (if h then 0 else 10) else k) ≡ 0 → h ≡ true
      go true k e = refl
      go false k e = by_test (eqb k 0) (λ d. let q : ◌≡◌ {A = ℕ} 10 0 = rw d at e in absurd (omega arith)) (λ d. let q : k ≡ 0 = rw d at e in absurd (eqb-false k 0 d q))

  say_good : (o : Output) (content : List ℕ) → Good (T.queue_say m id o content).left
  unfolding T.queue_say
  say_good o content =
      by_test (eqb (say_refusal m id o content) 0)
      (λ e. rw (e, slot_found (conn_of m) id i found) (both_good (Of.said_on request o content) (wait_data (wait_at m i) o content) (L.said_same m z y is_open id i found o content) (data_sized (wait_at m i) o content (z.sized i low) (say_room o content e))))
      (λ e. rw e g)

  -- Queued say.
  pub queue_say_is : (o : Output) (content : List ℕ) → CallIs m id (D.ToSay o content)
  unfolding queue_called queued_call
  queue_say_is o content = record {
    state = L.say_loaded m z y is_open id i found o content;
    answer = ap Q.Queueing (say_told o content) ∙ sym (say_outcome o content) ∙ sym (decided_answer (Q.queue_say mine o content) i mine id (Q.QueueSay o content) (lift_slots (waiting_of m) slots) (lift_reading reading)) ∙ sym (ap (λ e. answer_in e.1) (L.call_decided_lem m z y is_open id i found (Q.QueueSay o content)));
    good = say_good o content;
  }

  -- ---- end
  abbrev end_number : Output → ℕ
  end_number o = refusal (rows_of m id (stream_rows m id o []))

  end_told_lem : (o : Output) → (T.queue_end m id o).refusal ≡ end_number o
  unfolding T.queue_end
  end_told_lem o = same_number (end_number o) _ m

  end_outcome : (o : Output) → outcome_answer (Q.queue_end mine o) ≡ Q.Queueing (end_number o)
  unfolding Q.queue_end
  end_outcome o = by_test (eqb (Q.queue_refusal mine o) 0) (λ e. rw e (ap Q.Queueing (sym (eqb-true _ 0 e) ∙ sym (L.end_refusal m z y is_open id i found o)))) (λ e. rw e (ap Q.Queueing (sym (L.end_refusal m z y is_open id i found o))))

  end_good : (o : Output) → Good (T.queue_end m id o).left
  unfolding T.queue_end
  end_good o =
      by_test (eqb (end_number o) 0)
      (λ e. rw (e, slot_found (conn_of m) id i found) (both_good (Of.ended_on request o) (wait_end (wait_at m i) o) (L.ended_same m z y is_open id i found o) (end_sized (wait_at m i) o (z.sized i low))))
      (λ e. rw e g)

  -- Queued end.
  pub queue_end_is : (o : Output) → WellShaped queueing_receiver ends_laws (loaded_queue m) → CallIs m id (D.ToEnd o)
  unfolding queue_called queued_call
  queue_end_is o w = record {
    state = L.end_loaded m z y is_open id i found o (kept_here w);
    answer = ap Q.Queueing (end_told_lem o) ∙ sym (end_outcome o) ∙ sym (decided_answer (Q.queue_end mine o) i mine id (Q.QueueEnd o) (lift_slots (waiting_of m) slots) (lift_reading reading)) ∙ sym (ap (λ e. answer_in e.1) (L.call_decided_lem m z y is_open id i found (Q.QueueEnd o)));
    good = end_good o;
  }

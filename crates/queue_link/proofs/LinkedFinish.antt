-- Queued finish on the whole state is the machine's; calls that are refused by 1 and 3; every call.
use Rattle.connection.specs.Slots.{Slot}
use Rattle.std.specs.Prelude.{◌≡◌, List, [], ◌∷◌, ◌++◌, true, false, not, ℕ, suc, ◌<◌, length, set, take, eqb, ltb, if◌then◌else◌, Some, None}
use Rattle.std.proofs.Math.Path.{refl, ap, ap₂, sym, subst}
use Rattle.std.proofs.Common.{◌∙◌, arith, eq-eqb, ne_eqb}
use Rattle.std.proofs.Math.Option.{none, some}
use Rattle.wire.specs.Test.{by_test}
use Rattle.machine.specs.Timeline.{RequestCall, CallItem}
use Rattle.connection.specs.declared.request.Request.{Request}
use Rattle.connection.specs.declared.state.Table.{Table}
use Rattle.connection.specs.declared.answer.Output.{Output}
use Rattle.connection.specs.Sizes.{SLOTS, STORE}
use Rattle.connection.specs.Request.{Held}
use Rattle.connection.specs.RequestCalls as Of
use Rattle.connection.specs.Calls as C
use Rattle.connection.specs.Arguments.{ForRead, ForSay, ForEnd, ForFinish, Wrote, FinishedWith, refused}
use Rattle.connection.specs.Run.{Memory}
use Rattle.connection.specs.Runs.Receiver.{receiver}
use Rattle.connection.proofs.Runs.LinkingStep.{loaded_of, open_loaded, Steady, closed_loaded}
use Rattle.queue_machine.specs.Queued as Q
use Rattle.queue_machine.specs.Queued.{Queued, queued, queued_call, queueing_receiver}
use Rattle.queue_machine.proofs.Lift.{lift_slots, lift_reading, lift_connection, NothingFree, lift_lookup_lem}
use Rattle.queue_machine.proofs.LiftRuns.{FreeIn}
use Rattle.queue_link.proofs.Loaded.{waiting_of, loaded_queue, QueueSteady, queue_shape}
use Rattle.queue_link.proofs.LoadedCalls as L
use Rattle.queue_link.proofs.LoadedPump.{lift_without}
use Rattle.queue.specs.Calls as T
use Rattle.queue.specs.Run as D
use Rattle.machine.specs.Slots.{HeldBy, Absent, lookup}
use Rattle.machine.specs.Machine.{Slots, Reading, Open, Closed, Stays, Retires, CallAnswer, reading_without, call_decided, request_called, on_item}
use Rattle.machine.specs.Shape.{WellShaped}
use Rattle.connection.specs.declared.state.Target.{Target as Aim}
use Rattle.connection.specs.Refusal.{◌when◌, refusal}
use Rattle.connection.specs.Slots.{request_at, area_at, find}
use Rattle.connection.specs.Fits.{Aimed}
use Rattle.connection.proofs.Laws.ShapeLaws.{shaped, in_shape_lem}
use Rattle.connection.proofs.Runs.ReceiverLaws.{SameList}
use Rattle.connection.proofs.Runs.Loading.{loaded_slots, loaded_reading, loaded_target, reading_at}
use Rattle.connection.proofs.Runs.LoadingLaws.{lookup_loaded}
use Rattle.connection.proofs.Runs.LinkingCalls.{slot_found, redirected_target, redirected_reading}
use Rattle.queue_slot.specs.Atoms.{end_waits}
use Rattle.queue_slot.specs.Wait.{Wait, anything, wait_finish, atoms_in}
use Rattle.queue_slot.proofs.WaitLaws.{Sized}
use Rattle.queue_slot.specs.Finishing.{spent_by, last_words}
use Rattle.queue_slot.proofs.WaitRefines.{last_is}
use Rattle.queue_slot.proofs.WaitKept.{finish_kept}
use Rattle.queue.proofs.Areas.{Roomy}
use Rattle.queue_link.proofs.LoadedTurn.{Good}
use Rattle.queue_machine.proofs.EndsRight.{ends_laws}
use Rattle.queue.specs.Calls.{QUEUE, QueueMemory, conn_of, wait_at, with_conn, put_both, queue_in_shape, skipping, say_refusal, rows_of, stream_rows, is_leaving, lent_refusal, straight_say, straight_end, straight_finish}
use Rattle.queue.specs.Run.{Asking, Answering, QueueResult, queue_called, with_memory}
use Rattle.queue.proofs.ReplyLaws.{queue_replied_or_refused}
use Rattle.queue_link.proofs.LinkedStraight.{asked, told_of, answer_in, CallIs, same_with, stays_is}
use Rattle.queue_link.proofs.LinkedWriters.{straight_is}
use Rattle.queue_link.proofs.LinkedQueued.{both_good, kept_here, queue_say_is, queue_end_is}

-- ---- the rest of a record skipped
aimed_skip : (t : Table) (i : ℕ) (target : Aim) (gathered left : ℕ) → Aimed target t gathered left → Aimed (C.redirected i target) t gathered left
aimed_skip t i Aim.Skip gathered left a = tt
aimed_skip t i (Aim.Begin id) gathered left a = a
aimed_skip t i Aim.Query gathered left a = a
aimed_skip t i (Aim.Params j) gathered left a = by_test (eqb j i) (λ e. simp e tt) (λ e. simp e a)
aimed_skip t i (Aim.Stdin j) gathered left a = by_test (eqb j i) (λ e. simp e tt) (λ e. simp e a)
aimed_skip t i (Aim.Data j) gathered left a = by_test (eqb j i) (λ e. simp e tt) (λ e. simp e a)

-- with the rest of a half-read record of slot i skipped
abbrev pub skipped : Memory → ℕ → Memory
skipped m i = record { state = record { conn = skipping m.state.conn i; gathered = m.state.gathered }; store = m.store }

-- It stays steady.
pub steady_skip : (m : Memory) (i : ℕ) → Steady m → Steady (skipped m i)
steady_skip m i z =
    let c = m.state.conn in
    let s = shaped c z.shape in
    record {
      sizes = record { table = z.sizes.table; header = z.sizes.header; body = z.sizes.body; gathered = z.sizes.gathered; full = z.sizes.full };
      arrays = record { table = z.arrays.table; header = z.arrays.header; bytes = z.arrays.bytes; body = z.arrays.body };
      shape = in_shape_lem (skipping c i)
          (record { table = s.table; position = s.position; target = aimed_skip c.table i c.frame.target c.frame.gathered c.frame.position.content s.target });
      header = z.header;
    }

skip_reading : (m : Memory) (i : ℕ) → loaded_reading (skipping m.state.conn i).frame m.state.gathered ≡ reading_without receiver i (loaded_reading m.state.conn.frame m.state.gathered)
skip_reading m i =
    let f = m.state.conn.frame in
    let g = m.state.gathered in
    ap (reading_at f.position.content f.position.padding (take f.position.held f.position.header)) (redirected_target i f.target f.gathered f.body g)
    ∙ redirected_reading i f.position.content f.position.padding (take f.position.held f.position.header) (loaded_target f.target f.gathered f.body g)

-- A spent request keeps id and list.
pub spent_list : (r : Request) → SameList r (spent_by r)
unfolding spent_by
spent_list r = record { id = refl; length = refl }

module _ (m : QueueMemory) (g : Good m) (is_open : (conn_of m).«open» ≡ true) (id i : ℕ) (found : find (conn_of m).table id ≡ Some i) where
  abbrev z : QueueSteady m
  z = g.steady

  abbrev y : Roomy m
  y = g.roomy

  abbrev own : Held
  own = L.own m z y is_open id i found

  abbrev mine : Queued
  mine = L.mine m z y is_open id i found

  abbrev slots : Slots receiver
  slots = L.slots m z y is_open id i found

  abbrev reading : Reading receiver
  reading = L.reading m z y is_open id i found

  abbrev request : Request
  request = request_at (conn_of m).table i

  low : i < SLOTS
  low = (L.holds m z y is_open id i found).low

  slots_free : NothingFree (waiting_of m) slots
  slots_free = rw (open_loaded m.memory is_open) at z.free

  -- ---- finish
  abbrev skip_memory : QueueMemory
  skip_memory = with_conn m (skipping (conn_of m) i)

  same_waiting : waiting_of skip_memory ≡ waiting_of m
  unfolding wait_at
  same_waiting = refl

  same_slot : (j : ℕ) → wait_at skip_memory j ≡ wait_at m j
  unfolding wait_at
  same_slot j = refl

  skip_loaded : loaded_of skip_memory.memory ≡ Open slots (reading_without receiver i reading)
  skip_loaded = open_loaded skip_memory.memory is_open ∙ ap (λ F. Open slots F) (skip_reading m.memory i)

  skip_good : Good skip_memory
  skip_good = record {
    steady = record {
      steady = steady_skip m.memory i z.steady;
      sized = λ j h. subst (λ x. Sized x) (sym (same_slot j)) (z.sized j h);
      free = subst (λ s. FreeIn (waiting_of skip_memory) s) (sym skip_loaded) (subst (λ f. NothingFree f slots) (sym same_waiting) slots_free);
      dropped = λ o. let q : ◌≡◌ {A = ℕ} 0 1 = cc (is_open, o) in absurd (omega arith);
    };
    roomy = record { waits = y.waits; queue = y.queue; marks = y.marks };
  }

  abbrev finish_number : ℕ
  finish_number = refusal (rows_of m id ((5 when is_leaving m id) ∷ []))

  finish_number_lem : finish_number ≡ (if end_waits (waiting_of m i) then 5 else 0)
  unfolding wait_at
  finish_number_lem = let h = queue_shape m z in rw (L.leaving_is m z y is_open id i found, h, is_open, found)

  abbrev finish_wait : ℕ → Wait
  finish_wait status = wait_finish (wait_at m i) request.state status

  finish_refused : (status : ℕ) → end_waits (waiting_of m i) ≡ true → queue_called m id (D.ToFinish status) ≡ record { left = m; answer = D.Queued 5 }
  unfolding queue_called T.queue_finish
  finish_refused status e = let n : finish_number ≡ 5 = finish_number_lem ∙ rw e in rw n

  finish_done : (status : ℕ) → end_waits (waiting_of m i) ≡ false → queue_called m id (D.ToFinish status) ≡ record { left = put_both skip_memory i (spent_by request) (finish_wait status); answer = D.Queued 0 }
  unfolding queue_called T.queue_finish
  finish_done status e = let n : finish_number ≡ 0 = finish_number_lem ∙ rw e in rw (n, slot_found (conn_of m) id i found)

  leaving_five : (status : ℕ) → end_waits (waiting_of m i) ≡ true → Q.queue_finish mine status ≡ Stays mine (Q.Queueing 5)
  unfolding Q.queue_finish
  leaving_five status e = rw e

  retires : (status : ℕ) → end_waits (waiting_of m i) ≡ false
      → Q.queue_finish mine status ≡ Retires (queued (Q.with_request own (spent_by request)) (waiting_of m i ++ last_words request.state status)) (Q.Queueing 0)
  unfolding Q.queue_finish
  retires status e = rw e

  finish_is : (status : ℕ) → WellShaped queueing_receiver ends_laws (loaded_queue m) → end_waits (waiting_of m i) ≡ false → CallIs m id (D.ToFinish status)
  unfolding queued_call call_decided answer_in
  finish_is status v e =
      let w = wait_at m i in
      let k = finish_kept request.state request.state w status (kept_here m g is_open id i found v) (sym (last_is w) ∙ e) in
      let f = waiting_of m in
      let c = finish_done status e in
      let after = queued (Q.with_request own (spent_by request)) (f i ++ last_words request.state status) in
      let d : on_item queueing_receiver (loaded_queue m) (CallItem (RequestCall id (Q.QueueFinish status))) ≡ call_decided queueing_receiver (Retires after (Q.Queueing 0)) i mine id (Q.QueueFinish status) (lift_slots f slots) (lift_reading reading) =
      L.call_decided_lem m z y is_open id i found (Q.QueueFinish status) ∙ ap (λ x. call_decided queueing_receiver x i mine id (Q.QueueFinish status) (lift_slots f slots) (lift_reading reading)) (retires status e) in
      let p = L.put_loaded skip_memory skip_good.steady skip_good.roomy is_open id i found (spent_by request) (finish_wait status) (spent_list request) k.0.sized in
      let q : queued (record { request = spent_by request; area = area_at m.memory.store i }) (atoms_in (finish_wait status)) ≡ after =
      ap (queued (record { request = spent_by request; area = area_at m.memory.store i })) k.1 in
      let last : loaded_queue (put_both skip_memory i (spent_by request) (finish_wait status)) ≡ Open (set (lift_slots f slots) i (HeldBy id after)) (reading_without queueing_receiver i (lift_reading reading)) =
      p ∙ ap₂ (λ h x. Open (set (lift_slots h slots) i (HeldBy id x)) (lift_reading (loaded_reading (skipping (conn_of m) i).frame m.memory.state.gathered))) same_waiting q
      ∙ ap (λ F. Open (set (lift_slots f slots) i (HeldBy id after)) F) (ap lift_reading (skip_reading m.memory i) ∙ lift_without i reading) in
      record {
        state = ap (λ (r : QueueResult). loaded_queue r.left) c ∙ last ∙ sym (ap (λ e. e.0) d);
        answer = ap (λ (r : QueueResult). told_of r.answer) c ∙ sym (ap (λ e. answer_in e.1) d);
        good = subst (λ (r : QueueResult). Good r.left) (sym c) (both_good skip_memory skip_good is_open id i found (spent_by request) (finish_wait status) (spent_list request) k.0.sized);
      }

  -- Queued finish.
  pub queue_finish_is : (status : ℕ) → WellShaped queueing_receiver ends_laws (loaded_queue m) → CallIs m id (D.ToFinish status)
  unfolding queued_call
  queue_finish_is status w = by_test (end_waits (waiting_of m i)) (λ e. stays_is m g is_open id i found (D.ToFinish status) (D.Queued 5) (finish_refused status e) (leaving_five status e)) (λ e. finish_is status w e)

-- ---- refused
-- the answer of a call that is refused by n
abbrev pub refused_as : ℕ → Asking → Answering
refused_as n (D.Straight a) = D.Straightly (refused n a)
refused_as n (D.ToSay o content) = D.Queued n
refused_as n (D.ToEnd o) = D.Queued n
refused_as n (D.ToFinish status) = D.Queued n

refused_told : (n : ℕ) (a : Asking) → told_of (refused_as n a) ≡ Q.refused_by n (asked a)
unfolding Q.refused_by
refused_told n (D.Straight a) = refl
refused_told n (D.ToSay o content) = refl
refused_told n (D.ToEnd o) = refl
refused_told n (D.ToFinish status) = refl

-- and nothing else is left of it
abbrev pub refused_with : QueueMemory → ℕ → Asking → QueueResult
refused_with m n a = record { left = m; answer = refused_as n a }

kept_with : (m : QueueMemory) (n : Answering) → ◌≡◌ {A = QueueResult} (record { left = with_memory m m.memory; answer = n }) (record { left = m; answer = n })
kept_with m n = ap (λ (x : QueueMemory). record { left = x; answer = n }) (same_with m)

-- the refusal of straight say
abbrev pub say_rows : QueueMemory → ℕ → Output → List ℕ → List ℕ → ℕ
say_rows m id o content buffer =
    refusal (rows_of m id (stream_rows m id o ((6 when (ltb (length buffer) (length (Of.say_bytes (T.request_of m id) o content)))) ∷ (10 when anything (wait_at m (T.slot_of m id))) ∷ [])))

-- of straight end
abbrev pub end_rows : QueueMemory → ℕ → Output → List ℕ → ℕ
end_rows m id o buffer =
    refusal (rows_of m id (stream_rows m id o ((6 when (ltb (length buffer) (length (Of.end_bytes (T.request_of m id) o)))) ∷ (10 when anything (wait_at m (T.slot_of m id))) ∷ [])))

-- of straight finish
abbrev pub finish_rows : QueueMemory → ℕ → ℕ → List ℕ → ℕ
finish_rows m id status buffer =
    refusal ((2 when not (eqb (length m.memory.store) STORE)) ∷ rows_of m id ((5 when is_leaving m id) ∷ (6 when (ltb (length buffer) (length (Of.finish_bytes (T.request_of m id) status)))) ∷ (10 when anything (wait_at m (T.slot_of m id))) ∷ []))

unsaid : (m : QueueMemory) (id : ℕ) (o : Output) (content buffer : List ℕ) (n : ℕ) → say_rows m id o content buffer ≡ suc n → queue_called m id (D.Straight (ForSay o content buffer)) ≡ refused_with m (suc n) (D.Straight (ForSay o content buffer))
unfolding queue_called straight_say refused
unsaid m id o content buffer n e = rw (e, ne_eqb (suc n) 0 (λ d. omega arith)) (kept_with m (D.Straightly (Wrote (suc n) 0 buffer)))

unended : (m : QueueMemory) (id : ℕ) (o : Output) (buffer : List ℕ) (n : ℕ) → end_rows m id o buffer ≡ suc n → queue_called m id (D.Straight (ForEnd o buffer)) ≡ refused_with m (suc n) (D.Straight (ForEnd o buffer))
unfolding queue_called straight_end refused
unended m id o buffer n e = rw (e, ne_eqb (suc n) 0 (λ d. omega arith)) (kept_with m (D.Straightly (Wrote (suc n) 0 buffer)))

unfinished : (m : QueueMemory) (id status : ℕ) (buffer : List ℕ) (n : ℕ) → finish_rows m id status buffer ≡ suc n → queue_called m id (D.Straight (ForFinish status buffer)) ≡ refused_with m (suc n) (D.Straight (ForFinish status buffer))
unfolding queue_called straight_finish refused
unfinished m id status buffer n e = rw (e, ne_eqb (suc n) 0 (λ d. omega arith)) (kept_with m (D.Straightly (FinishedWith (suc n) 0 false buffer)))

-- A call on a closed connection in shape is refused by 1, with store and queue of their sizes.
pub closed_called : (m : QueueMemory) (id : ℕ) (a : Asking) → queue_in_shape m ≡ true → length m.memory.store ≡ STORE → length m.queue ≡ QUEUE → (conn_of m).«open» ≡ false
    → queue_called m id a ≡ refused_with m 1 a
unfolding queue_called refused lent_refusal straight_say straight_end straight_finish say_refusal T.queue_say T.queue_end T.queue_finish
closed_called m id (D.Straight (ForRead q)) h f y o = rw (queue_replied_or_refused m id q, eq-eqb (length m.memory.store) STORE f, h, o)
closed_called m id (D.Straight (ForSay out content buffer)) h f y o = unsaid m id out content buffer 0 (rw (h, o))
closed_called m id (D.Straight (ForEnd out buffer)) h f y o = unended m id out buffer 0 (rw (h, o))
closed_called m id (D.Straight (ForFinish status buffer)) h f y o = let q = eq-eqb (length m.memory.store) STORE f in unfinished m id status buffer 0 (rw (q, h, o))
closed_called m id (D.ToSay out content) h f y o = rw (eq-eqb (length m.queue) QUEUE y, h, o)
closed_called m id (D.ToEnd out) h f y o = rw (h, o)
closed_called m id (D.ToFinish status) h f y o = rw (h, o)

absent_called : (m : QueueMemory) (id : ℕ) (a : Asking) → Good m → (conn_of m).«open» ≡ true → find (conn_of m).table id ≡ None → queue_called m id a ≡ refused_with m 3 a
unfolding queue_called refused lent_refusal straight_say straight_end straight_finish say_refusal T.queue_say T.queue_end T.queue_finish
absent_called m id (D.Straight (ForRead q)) g o f = let h = queue_shape m g.steady in let l = eq-eqb (length m.memory.store) STORE g.steady.steady.sizes.full in rw (queue_replied_or_refused m id q, l, h, o, f)
absent_called m id (D.Straight (ForSay out content buffer)) g o f = let h = queue_shape m g.steady in unsaid m id out content buffer 2 (rw (h, o, f))
absent_called m id (D.Straight (ForEnd out buffer)) g o f = let h = queue_shape m g.steady in unended m id out buffer 2 (rw (h, o, f))
absent_called m id (D.Straight (ForFinish status buffer)) g o f = let h = queue_shape m g.steady in let q = eq-eqb (length m.memory.store) STORE g.steady.steady.sizes.full in unfinished m id status buffer 2 (rw (q, h, o, f))
absent_called m id (D.ToSay out content) g o f = let h = queue_shape m g.steady in let q = eq-eqb (length m.queue) QUEUE g.roomy.queue in rw (q, h, o, f)
absent_called m id (D.ToEnd out) g o f = let h = queue_shape m g.steady in rw (h, o, f)
absent_called m id (D.ToFinish status) g o f = let h = queue_shape m g.steady in rw (h, o, f)

closed_is : (m : QueueMemory) (id : ℕ) (a : Asking) → Good m → (conn_of m).«open» ≡ false → CallIs m id a
unfolding on_item answer_in
closed_is m id a g o =
    let c = closed_called m id a (queue_shape m g.steady) g.steady.steady.sizes.full g.roomy.queue o in
    let shut : loaded_queue m ≡ Closed = ap (lift_connection (waiting_of m)) (closed_loaded m.memory o) in
    record {
      state = ap (λ (r : QueueResult). loaded_queue r.left) c ∙ shut ∙ sym (ap (λ s. (on_item queueing_receiver s (CallItem (RequestCall id (asked a)))).0) shut);
      answer = ap (λ (r : QueueResult). told_of r.answer) c ∙ refused_told 1 a ∙ sym (ap (λ s. answer_in (on_item queueing_receiver s (CallItem (RequestCall id (asked a)))).1) shut);
      good = subst (λ (r : QueueResult). Good r.left) (sym c) g;
    }

absent_is : (m : QueueMemory) (id : ℕ) (a : Asking) → Good m → (conn_of m).«open» ≡ true → find (conn_of m).table id ≡ None → CallIs m id a
unfolding on_item answer_in request_called
absent_is m id a g o f =
    let c = absent_called m id a g o f in
    let T = loaded_slots (conn_of m).table m.memory.store in
    let F = loaded_reading (conn_of m).frame m.memory.state.gathered in
    let there : loaded_queue m ≡ Open (lift_slots (waiting_of m) T) (lift_reading F) = ap (lift_connection (waiting_of m)) (open_loaded m.memory o) in
    let e : lookup id (lift_slots (waiting_of m) T) ≡ Absent = lift_lookup_lem (waiting_of m) id T ∙ rw (lookup_loaded (conn_of m).table m.memory.store id, f) in
    let d : on_item queueing_receiver (loaded_queue m) (CallItem (RequestCall id (asked a))) ≡ (loaded_queue m, some (CallAnswer id (asked a) (Q.refused_by 3 (asked a)) none none)) = rw (there, e) in
    record {
      state = ap (λ (r : QueueResult). loaded_queue r.left) c ∙ sym (ap (λ e. e.0) d);
      answer = ap (λ (r : QueueResult). told_of r.answer) c ∙ refused_told 3 a ∙ sym (ap (λ e. answer_in e.1) d);
      good = subst (λ (r : QueueResult). Good r.left) (sym c) g;
    }

-- ---- every call
found_is : (m : QueueMemory) (id i : ℕ) (a : Asking) → Good m → WellShaped queueing_receiver ends_laws (loaded_queue m) → (conn_of m).«open» ≡ true → find (conn_of m).table id ≡ Some i → CallIs m id a
found_is m id i (D.Straight a) g w o f = straight_is m g o id i f a
found_is m id i (D.ToSay out content) g w o f = queue_say_is m g o id i f out content
found_is m id i (D.ToEnd out) g w o f = queue_end_is m g o id i f out w
found_is m id i (D.ToFinish status) g w o f = queue_finish_is m g o id i f status w

-- Every call on the whole state of a run is the machine's.
pub call_is : (m : QueueMemory) (id : ℕ) (a : Asking) → Good m → WellShaped queueing_receiver ends_laws (loaded_queue m) → CallIs m id a
call_is m id a g w = by_test (conn_of m).«open» (λ o. go o (find (conn_of m).table id) refl) (λ o. closed_is m id a g o)
  where
    go : (conn_of m).«open» ≡ true → (s : Slot) → find (conn_of m).table id ≡ s → CallIs m id a
    go o (Some i) f = found_is m id i a g w o f
    go o None f = absent_is m id a g o f

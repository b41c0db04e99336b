-- Every move of a station with a queue is heard as it was meant, and keeps what the two ends have in common.
use Rattle.std.specs.Prelude.{ℕ, ◌<◌, ◌≡◌, true, false, List, [], eqb, Some}
use Rattle.std.proofs.Math.Path.{refl}
use Rattle.std.proofs.Common.{sym, ap, ◌∙◌, subst, eqb-true}
use Rattle.wire.specs.Test.{by_test}
use Rattle.wire.proofs.Bytes.{AllBytes}
use Rattle.connection.specs.declared.answer.Output.{Output}
use Rattle.slot_word.specs.Word.{taken}
use Rattle.connection.specs.declared.state.Table.{Table}
use Rattle.connection.specs.Event.{Event as StationEvent}
use Rattle.connection.specs.Sizes.{SLOTS}
use Rattle.connection.specs.Refusal.{refusal}
use Rattle.connection.specs.Slots.{no_state, request_at, find}
use Rattle.connection.specs.Arguments.{Argument, ForRead, ForSay, ForEnd, ForFinish}
use Rattle.connection.specs.Run.{Memory, step_of, memory_of}
use Rattle.connection.proofs.Runs.LinkingCalls.{slot_found}
use Rattle.server.specs.Event.{Note}
use Rattle.server.specs.Step.{idle}
use Rattle.server.proofs.Laws.{Ready}
use Rattle.server.proofs.WrittenBytes.{no_bytes}
use Rattle.server.proofs.Meaning.{heard_nothing}
use Rattle.queue_slot.specs.Wait.{anything, atoms_in}
use Rattle.queue_slot.proofs.ServeLaws.{nothing_waits}
use Rattle.queue.specs.Calls as T
use Rattle.queue.specs.Calls.{QueueMemory, conn_of, wait_at, queue_step, straight_say, straight_end, straight_finish, pump_refusal, pump}
use Rattle.queue.specs.Run as D
use Rattle.queue.specs.Run.{Asking, StepOver, CallFor, TurnWith, with_memory, queue_called, written_bytes, bytes_in, queue_after}
use Rattle.queue_link.proofs.Loaded.{slot_free, nobody_at, queue_step_is}
use Rattle.queue_link.proofs.LinkedStraight.{same_with}
use Rattle.queue_link.proofs.LinkedRuns.{Fine, pump_done, pump_refused_lem}
use Rattle.queue_link.proofs.LinkedWrites.{turn_bytes, no_turn_bytes}
use Rattle.queue_runs.proofs.Rows.{let_through}
use Rattle.queue_runs.proofs.Changes.{straight_rows}
use Rattle.queue_runs.proofs.Closing.{KeepsNothing, nothing_kept}
use Rattle.replies_heard.proofs.Agree.{OpenWith, Resting}
use Rattle.replies_heard.proofs.CallHeard.{CallHeard, call_rests}
use Rattle.replies_heard.proofs.OutputHeard.{say_heard, end_heard}
use Rattle.replies_heard.proofs.FinishHeard.{finish_heard}
use Rattle.replies_heard.proofs.StationSteps.{step_each}
use Rattle.replies_heard.specs.Joint.{opening_in}
use Rattle.replies_heard.specs.Moves.{unless, argument_fits}
use Rattle.replies_heard.proofs.MoveHeard.{OpeningRests, Unopened, step_inactive}
use Rattle.queue_heard.proofs.Accounts.{tells_none, tells_writing}
use Rattle.queue_heard.specs.Moves.{straight_means, call_means, turn_means, asking_fits}
use Rattle.queue_heard.proofs.Sends.{Sends, QueueAgree, sends_on_ends, silent_sends, sends_silent, with_agree, call_sends}
use Rattle.queue_heard.proofs.PumpHeard.{OperationHeard, nothing_heard, turn_heard}
use Rattle.queue_heard.proofs.QueuedHeard.{Comes, say_queued, end_queued, finish_queued}

module _ (m : QueueMemory) (t : Table) (v : List ℕ) (fine : Fine m) (nothing : KeepsNothing m) (ready : Ready (idle t true v) 0) (a : QueueAgree m t) where
  abbrev s : Table
  s = (conn_of m).table

  -- ---- straight calls
  -- Where nothing waits of the request that is called, a call is heard as it is without a queue.
  by_call : (id : ℕ) → id < 65536 → (n : Memory) (bytes : List ℕ) (l : List Note) → ((i : ℕ) → find s id ≡ Some i → atoms_in (wait_at m i) ≡ []) → KeepsNothing (with_memory m n)
      → CallHeard id s t v bytes l n.state.conn.table → OperationHeard m t v bytes l (with_memory m n)
  by_call id hi n bytes l quiet none k =
      record {
        table = k.table;
        heard = k.heard;
        tells = tells_writing id hi k.wrote;
        agree = with_agree m n k.table none (call_sends m id t k.table fine.good.steady.steady.sizes.table quiet k.changes a);
        ok = k.ok;
        rests = call_rests id s t k.table k.changes;
      }

  -- nothing waits in the slot of an id, so nothing waits of it, and it is open at the server's end as it is here
  quiet_at : (id : ℕ) → anything (wait_at m (T.slot_of m id)) ≡ false → (i : ℕ) → find s id ≡ Some i → atoms_in (wait_at m i) ≡ []
  quiet_at id e i found = nothing_waits (wait_at m i) (ap (λ (j : ℕ). anything (wait_at m j)) (sym (slot_found (conn_of m) id i found)) ∙ e)

  mine_at : (id : ℕ) → anything (wait_at m (T.slot_of m id)) ≡ false → (i : ℕ) → find s id ≡ Some i → OpenWith t id (request_at s i).state
  mine_at id e i found = sends_silent t id (wait_at m i) (request_at s i).state (quiet_at id e i found) (a id i found)

  none_called : (id : ℕ) (x : Asking) → KeepsNothing (queue_called m id x).left
  unfolding queue_after
  none_called id x = nothing_kept m (CallFor id x) nothing

  -- refused, it leaves all as it was
  not_called : {n : QueueMemory} → n ≡ m → OperationHeard m t v [] [] n
  not_called e = subst (λ (n : QueueMemory). OperationHeard m t v [] [] n) (sym e) (nothing_heard m t v ready a)

  -- what a straight call came to
  abbrev Straightly : ℕ → Argument → Type 0
  Straightly id x = OperationHeard m t v (written_bytes (queue_called m id (D.Straight x)).answer) (straight_means m id x) (queue_called m id (D.Straight x)).left

  say_straight : (id : ℕ) (o : Output) (x buffer : List ℕ) → id < 65536 → AllBytes x → Straightly id (ForSay o x buffer)
  unfolding queue_called straight_say
  say_straight id o x buffer hi f =
      let rows = straight_rows m id (ForSay o x buffer) in
      let none = none_called id (D.Straight (ForSay o x buffer)) in
      by_test (eqb (refusal rows) 0)
      (λ z.
      let e = let_through rows 10 (eqb-true (refusal rows) 0 z) refl in
      rw z (by_call id hi _ _ _ (quiet_at id e) (rw z at none) (say_heard (conn_of m) id t v ready (mine_at id e) hi o x buffer f)))
      (λ z. rw (z, z) (not_called (same_with m)))

  end_straight : (id : ℕ) (o : Output) (buffer : List ℕ) → id < 65536 → Straightly id (ForEnd o buffer)
  unfolding queue_called straight_end
  end_straight id o buffer hi =
      let rows = straight_rows m id (ForEnd o buffer) in
      let none = none_called id (D.Straight (ForEnd o buffer)) in
      by_test (eqb (refusal rows) 0)
      (λ z.
      let e = let_through rows 10 (eqb-true (refusal rows) 0 z) refl in
      rw z (by_call id hi _ _ _ (quiet_at id e) (rw z at none) (end_heard (conn_of m) id t v ready (mine_at id e) hi o buffer)))
      (λ z. rw (z, z) (not_called (same_with m)))

  finish_straight : (id status : ℕ) (buffer : List ℕ) → id < 65536 → status < 4294967296 → Straightly id (ForFinish status buffer)
  unfolding queue_called straight_finish
  finish_straight id status buffer hi f =
      let rows = straight_rows m id (ForFinish status buffer) in
      let none = none_called id (D.Straight (ForFinish status buffer)) in
      by_test (eqb (refusal rows) 0)
      (λ z.
      let e = let_through rows 10 (eqb-true (refusal rows) 0 z) refl in
      rw z (by_call id hi _ _ _ (quiet_at id e) (rw z at none) (finish_heard (conn_of m) m.memory.store id status buffer t v ready (mine_at id e) hi f)))
      (λ z. rw (z, z) (not_called (same_with m)))

  straight_heard : (id : ℕ) (x : Argument) → id < 65536 → argument_fits x → Straightly id x
  unfolding queue_called
  straight_heard id (ForRead q) hi f = nothing_heard m t v ready a
  straight_heard id (ForSay o x buffer) hi f = say_straight id o x buffer hi f
  straight_heard id (ForEnd o buffer) hi f = end_straight id o buffer hi
  straight_heard id (ForFinish status buffer) hi f = finish_straight id status buffer hi f

  -- ---- every call
  waits_heard : (m' : QueueMemory) → Comes m t m' → OperationHeard m t v [] [] m'
  waits_heard m' c = record { table = t; heard = heard_nothing t v ready; tells = tells_none; agree = c.agree; ok = no_bytes; rests = c.rests }

  pub call_heard : (id : ℕ) (x : Asking) → id < 65536 → asking_fits x → OperationHeard m t v (written_bytes (queue_called m id x).answer) (call_means m id x) (queue_called m id x).left
  unfolding queue_called
  call_heard id (D.Straight x) hi f = straight_heard id x hi f
  call_heard id (D.ToSay o x) hi f = waits_heard _ (say_queued m t fine a id o x f)
  call_heard id (D.ToEnd o) hi f = waits_heard _ (end_queued m t fine a id o)
  call_heard id (D.ToFinish status) hi f = waits_heard _ (finish_queued m t fine a id status f)

  -- ---- a turn of the pump
  pub pump_heard : (allowance : ℕ) (buffer : List ℕ) → OperationHeard m t v (bytes_in m (TurnWith allowance buffer)) (unless (pump m allowance buffer).refusal (turn_means allowance m)) (pump m allowance buffer).left
  pump_heard allowance buffer =
      by_test (eqb (pump_refusal m allowance buffer) 0)
      (λ z. rw (turn_bytes m allowance buffer fine z, pump_done m allowance buffer z) (turn_heard allowance m t v fine ready a))
      (λ z. rw (no_turn_bytes m allowance buffer z, pump_refused_lem m allowance buffer z, z) (nothing_heard m t v ready a))

  -- ---- a step
  -- it opens only what rested; what rests and is not opened rests still
  pub record StepHeard (piece : List ℕ) : Type 0 where
    pub agree : QueueAgree (queue_after m (StepOver piece)) t
    pub rests : (b : ℕ) → Unopened (opening_in (queue_step m piece).event) b → Resting s t b → Resting (conn_of (queue_after m (StepOver piece))).table t b

  -- in a slot that is free nothing waits, so what is opened there is open at both ends alike
  opened_sends : (id i : ℕ) → i < SLOTS → taken i s.occupied ≡ false → OpenWith t id no_state → Sends t id (wait_at m i) no_state
  opened_sends id i low free o =
      silent_sends t id (wait_at m i) no_state
      (by_test (conn_of m).«open»
      (λ k. nothing_waits (wait_at m i) (slot_free m i fine.good.steady k low free))
      (λ k. nothing_waits (wait_at m i) (nobody_at m i (nothing.waits k))))
      o

  pub step_heard : (piece : List ℕ) → OpeningRests (opening_in (queue_step m piece).event) s t → StepHeard piece
  unfolding queue_after
  step_heard piece rests =
      let is = queue_step_is m piece fine.good.steady in
      let none : KeepsNothing (with_memory m (memory_of (step_of m.memory piece))) = rw is at (nothing_kept m (StepOver piece) nothing) in
      let opening : OpeningRests (opening_in (step_of m.memory piece).event) s t = rw is at rests in
      let sized = fine.good.steady.steady.sizes.table in
      let each = step_each m.memory.state m.memory.store (λ id i. Sends t id (wait_at m i)) (sends_on_ends m t) sized a piece
      (λ id role keep q i low free. opened_sends id i low free (subst (λ (x : StationEvent). OpeningRests (opening_in x) s t) q opening).is_open) in
      record {
        agree = rw is (with_agree m (memory_of (step_of m.memory piece)) t none each);
        rests = rw is (λ b k r. record { is_open = r.is_open; inactive = step_inactive m.memory sized b piece k r.inactive });
      }

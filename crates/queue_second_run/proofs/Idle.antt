-- Where nothing waits in any slot.
--
-- Then nothing of R waits, and R is not between its finish and its END; a step keeps it so; and no call is refused by
-- 10, save a queued say of more than ROOM bytes. A whole turn of the pump makes it so.
use Rattle.connection.specs.Slots.{Slot}
use Rattle.std.specs.Prelude.{◌≡◌, List, [], ◌∷◌, true, not, ℕ, ◌+◌, ◌*◌, ◌≤◌, ◌<◌, eqb, ltb, Some, None}
use Rattle.std.proofs.Math.Path.{refl}
use Rattle.std.proofs.Common.{ap, sym, ◌∙◌, subst}
use Rattle.std.proofs.Math.Bool.{false}
use native.Mathlib.Omega.{arith}
use Rattle.std.proofs.Math.ListN.{length}
use Rattle.std.proofs.lemmas.List.{length-replicate}
use borrow.Author.Tests.{eq-eqb, ne_eqb, le-leb, le-ltb, not-false}
use Rattle.wire.specs.Test.{by_test, ◌<?◌}
use Rattle.connection.specs.Sizes.{SLOTS, STORE}
use Rattle.connection.specs.Refusal.{Row, ◌when◌, holds_in, refusal}
use Rattle.connection.specs.RequestCalls as Of
use Rattle.connection.specs.Slots.{request_at, find, on_slot, is_found}
use Rattle.connection.specs.Arguments.{ForRead, ForSay, ForEnd, ForFinish}
use Rattle.connection.specs.Run.{Memory}
use Rattle.connection.proofs.Laws.SlotsLaws.{find_at, found_true}
use Rattle.connection.proofs.Laws.RefusalRows.{call_rows, lent_rows, of_slot, output_rows, say_rows_lem, end_rows_lem, finish_rows_lem}
use Rattle.connection.proofs.Runs.LinkingCalls.{slot_found}
use Rattle.queue_slot.specs.Atoms.{data_in, end_waits}
use Rattle.queue_slot.specs.Wait.{ROOM, Wait, anything, has_room_for, atoms_in}
use Rattle.queue_slot.proofs.WaitLaws.{Sized}
use Rattle.queue_slot.proofs.WaitRefines.{count_is, last_is}
use Rattle.queue_slot.proofs.ServeLaws.{nothing_waits}
use Rattle.queue.specs.Numbers.{nobody_waits, last_at}
use Rattle.queue.specs.Calls as T
use Rattle.queue.specs.Calls.{QUEUE, PUMPED, QueueMemory, beside, conn_of, wait_at, queue_step, say_refusal, straight_say, straight_end, straight_finish, pump_refusal, Pumped, turned}
use Rattle.queue.specs.Run as D
use Rattle.queue.specs.Run.{Asking, QueueOperation, StepOver, TurnWith, queue_called, queue_after, waits_of, leaving_of}
use Rattle.queue.specs.Isolation.{is_ten}
use Rattle.queue_link.proofs.Loaded.{queue_shape, nobody_at, kept_either}
use Rattle.queue_link.proofs.LoadedTurn.{Good}
use Rattle.queue_link.proofs.LinkedRuns.{pump_done}
use Rattle.queue_runs.proofs.Rows.{refused_by_lem}
use Rattle.queue_runs.proofs.Changes.{straight_rows, queued_rows}
use Rattle.queue_runs.proofs.Refusals.{Sound}
use Rattle.queue_runs.proofs.Closing.{both_ways}
use Rattle.queue_runs.proofs.Final.{closed_stays}
use Rattle.queue_second_run.specs.Turns.{NothingWaits, MOST}
use Rattle.queue_second_run.proofs.Turns.{most_written}
use Rattle.queue_second_run.specs.Idle.{wide_buffer, whole_turn, SayFits}

-- ---- one slot
-- END does not wait
none_last : (w : Wait) → anything w ≡ false → w.last ≡ false
unfolding end_waits
none_last w h = sym (last_is w) ∙ ap end_waits (nothing_waits w h)

-- no byte waits
none_count : (w : Wait) → Sized w → anything w ≡ false → w.count ≡ 0
unfolding data_in
none_count w s h = sym (count_is w s) ∙ ap data_in (nothing_waits w h)

-- ---- R
-- Where nothing waits, nothing of R waits.
pub none_of : (R : ℕ) (m : QueueMemory) → NothingWaits m → waits_of R m ≡ []
unfolding waits_of wait_at
none_of R m n = by_test (conn_of m).«open» (λ o. rw o (go (find (conn_of m).table R) refl)) (λ o. rw o)
  where
    go : (s : Slot) → find (conn_of m).table R ≡ s → on_slot s (λ i. atoms_in (wait_at m i)) [] ≡ []
    go (Some i) e = nothing_waits (wait_at m i) (n i (find_at (conn_of m).table R i e).low)
    go None e = refl

-- And R is not between its finish and its END.
pub none_leaving : (R : ℕ) (m : QueueMemory) → NothingWaits m → leaving_of R m ≡ false
unfolding leaving_of wait_at
none_leaving R m n = by_test (conn_of m).«open» (λ o. rw o (go (find (conn_of m).table R) refl)) (λ o. rw o)
  where
    last : (i : ℕ) → i < SLOTS → (wait_at m i).last ≡ false
    last i low = none_last (wait_at m i) (n i low)

    go : (s : Slot) → find (conn_of m).table R ≡ s → on_slot s (λ i. last_at m.waits i) false ≡ false
    go (Some i) e = last i (find_at (conn_of m).table R i e).low
    go None e = refl

-- ---- a step
-- Where nothing waits before a step, nothing waits behind it.
pub step_idle : (m : QueueMemory) (piece : List ℕ) → NothingWaits m → NothingWaits (queue_after m (StepOver piece))
unfolding queue_after wait_at
step_idle m piece n i low =
    let k : Memory = record { state = (queue_step m piece).state; store = (queue_step m piece).store } in
    kept_either (λ w. anything (wait_at (beside k w m.marks m.queue) i) ≡ false) (conn_of m).«open» k.state.conn.«open» m.waits (n i low)
    (nobody_at (beside k nobody_waits m.marks m.queue) i refl)

-- ---- calls
-- Rows of which that of 10 does not hold do not refuse by 10.
pub not_ten : (rows : List Row) → holds_in 10 rows ≡ false → eqb (refusal rows) 10 ≡ false
not_ten rows h = ne_eqb (refusal rows) 10 (λ e. both_ways (holds_in 10 rows) (refused_by_lem rows 9 e) h)

-- where row 3 holds, the refusal is not by 10
three_first : (rows : List Row) → holds_in 3 rows ≡ true → eqb (refusal rows) 10 ≡ false
three_first rows h =
    by_test (holds_in 2 rows) (λ a. rw a)
    (λ a. by_test (holds_in 9 rows) (λ b. rw (a, b)) (λ b. by_test (holds_in 1 rows) (λ c. rw (a, b, c)) (λ c. rw (a, b, c, h))))

-- rows of which that of 10 does not hold where that of 3 does not
found_not_ten : (rows : List Row) → (holds_in 3 rows ≡ false → holds_in 10 rows ≡ false) → eqb (refusal rows) 10 ≡ false
found_not_ten rows f = by_test (holds_in 3 rows) (three_first rows) (λ h. not_ten rows (f h))

module _ (m : QueueMemory) (g : Good m) (n : NothingWaits m) (id : ℕ) where
  -- nothing waits in the slot of an active id
  idle_slot : not (is_found (find (conn_of m).table id)) ≡ false → anything (wait_at m (T.slot_of m id)) ≡ false
  idle_slot h =
      let f = found_true (find (conn_of m).table id) (not-false (is_found (find (conn_of m).table id)) h) in
      rw (slot_found (conn_of m) id f.0 f.1) (n f.0 (find_at (conn_of m).table id f.0 f.1).low)

  -- so there is room for ROOM bytes
  idle_room : (content : List ℕ) → length content ≤ ROOM → not (is_found (find (conn_of m).table id)) ≡ false → not (has_room_for (wait_at m (T.slot_of m id)) content) ≡ false
  unfolding has_room_for
  idle_room content l h =
      let f = found_true (find (conn_of m).table id) (not-false (is_found (find (conn_of m).table id)) h) in
      let s = slot_found (conn_of m) id f.0 f.1 in
      let low = (find_at (conn_of m).table id f.0 f.1).low in
      let w = wait_at m f.0 in
      let c : w.count ≡ 0 = none_count w (g.steady.sized f.0 low) (n f.0 low) in
      let r : w.count + length content ≤ ROOM = omega arith in
      rw (s, le-leb (w.count + length content) ROOM r)

  -- Where nothing waits no call is refused by 10, but for a queued say of more than ROOM bytes.
  pub idle_not_ten : (a : Asking) → SayFits a → is_ten (queue_called m id a).answer ≡ false
  unfolding queue_called straight_say straight_end straight_finish T.queue_say T.queue_end T.queue_finish say_refusal
  idle_not_ten (D.Straight (ForRead q)) l = refl
  idle_not_ten (D.Straight (ForSay o content buffer)) l =
      let rows = straight_rows m id (ForSay o content buffer) in
      by_test (eqb (refusal rows) 0)
      (λ t. rw (t, say_rows_lem (conn_of m) id o buffer false false false content)
      (not_ten (call_rows (conn_of m) id (output_rows (conn_of m) id o buffer false false false (λ r. Of.say_bytes r o content) (find (conn_of m).table id))) refl))
      (λ t. rw t (found_not_ten rows idle_slot))
  idle_not_ten (D.Straight (ForEnd o buffer)) l =
      let rows = straight_rows m id (ForEnd o buffer) in
      by_test (eqb (refusal rows) 0)
      (λ t. rw (t, end_rows_lem (conn_of m) id o buffer false false false)
      (not_ten (call_rows (conn_of m) id (output_rows (conn_of m) id o buffer false false false (λ r. Of.end_bytes r o) (find (conn_of m).table id))) refl))
      (λ t. rw t (found_not_ten rows idle_slot))
  idle_not_ten (D.Straight (ForFinish status buffer)) l =
      let rows = straight_rows m id (ForFinish status buffer) in
      by_test (eqb (refusal rows) 0)
      (λ t. rw (t, finish_rows_lem (conn_of m) m.memory.store id false status buffer)
      (not_ten (lent_rows (conn_of m) m.memory.store id ((6 when of_slot (conn_of m) id (λ i. length buffer <? length (Of.finish_bytes (request_at (conn_of m).table i) status)) false) ∷ [])) refl))
      (λ t. rw t (found_not_ten rows idle_slot))
  idle_not_ten (D.ToSay o content) l =
      let rows = queued_rows m id (D.ToSay o content) in
      by_test (eqb (refusal rows) 0) (λ t. rw t) (λ t. rw t (found_not_ten rows (idle_room content l)))
  idle_not_ten (D.ToEnd o) l =
      let rows = queued_rows m id (D.ToEnd o) in
      by_test (eqb (refusal rows) 0) (λ t. rw t) (λ t. rw t (not_ten rows refl))
  idle_not_ten (D.ToFinish status) l =
      let rows = queued_rows m id (D.ToFinish status) in
      by_test (eqb (refusal rows) 0) (λ t. rw t) (λ t. rw t (not_ten rows refl))

-- ---- a whole turn
-- the length of the buffer
wide_length : length wide_buffer ≡ PUMPED * MOST
unfolding wide_buffer
wide_length = length-replicate (PUMPED * MOST) 0

-- MOST records fit it
wide_fits : ltb (length wide_buffer) (PUMPED * MOST) ≡ false
wide_fits = let h : PUMPED * MOST ≤ length wide_buffer = omega (arith, wide_length) in le-ltb (length wide_buffer) (PUMPED * MOST) h

-- such a memory is in shape, with store and queue of their sizes
pub good_sound : (m : QueueMemory) → Good m → Sound m
good_sound m g = record { shape = queue_shape m g.steady; full = g.steady.steady.sizes.full; queue = g.roomy.queue }

-- on an open connection a whole turn is not refused
turn_taken : (m : QueueMemory) → Good m → (conn_of m).«open» ≡ true → eqb (pump_refusal m MOST wide_buffer) 0 ≡ true
unfolding pump_refusal
turn_taken m g o =
    let s = good_sound m g in
    rw (eq-eqb (length m.memory.store) STORE s.full, eq-eqb (length m.queue) QUEUE s.queue, s.shape, o, wide_fits)

-- it is a turn of MOST records
turn_left_lem : (m : QueueMemory) → Good m → (conn_of m).«open» ≡ true → queue_after m whole_turn ≡ (turned MOST m).left
unfolding queue_after
turn_left_lem m g o = ap (λ (p : Pumped). p.left) (pump_done m MOST wide_buffer (turn_taken m g o))

-- Behind a whole turn nothing waits.
pub turn_idle : (m : QueueMemory) → Good m → NothingWaits (queue_after m whole_turn)
turn_idle m g =
    by_test (conn_of m).«open»
    (λ o. subst NothingWaits (sym (turn_left_lem m g o)) (most_written m g))
    (λ o. subst NothingWaits (sym (closed_stays m (good_sound m g) o whole_turn)) (λ i low. nobody_at m i (g.steady.dropped o)))

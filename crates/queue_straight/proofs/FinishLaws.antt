-- Finish, straight out, while something may wait: refused, or as without a queue.
use Rattle.std.specs.Prelude.{ℕ, ◌<◌, ◌≤◌, ◌≡◌, refl, Bool, true, false, not, List, [], ◌∷◌, length, Ok, Err}
use Rattle.std.proofs.Common.{sym, ap, ◌∙◌, arith, lt-ltb, le-ltb}
use Rattle.wire.specs.Test.{◌<?◌, ◌=?◌}
use Rattle.connection.specs.declared.state.Conn.{Conn}
use Rattle.connection.specs.declared.answer.Refusal.{Refusal}
use Rattle.connection.specs.Sizes.{STORE}
use Rattle.connection.specs.Codes.{refusal_number}
use Rattle.connection.specs.Refusal.{Row, ◌when◌, refusal}
use Rattle.connection.specs.RequestCalls as Of
use Rattle.connection.specs.Slots.{request_at}
use Rattle.connection.specs.Calls as C
use Rattle.codes.proofs.Laws.{refusal_some}
use Rattle.call_admit.specs.Admission.{admitted_by}
use Rattle.call_finish.specs.declared.FinishResult.{FinishResult}
use Rattle.call_finish.specs.Answer.{owed_length, finished_by}
use Rattle.call_finish.proofs.Laws.{owed_length_lem}
use Rattle.queue_slot.specs.Wait.{anything}
use Rattle.queue.specs.Numbers.{last_at}
use Rattle.queue.specs.Calls.{QueueMemory, lent, rows_of, slot_of, request_of, wait_at, is_leaving, straight_finish}
use Rattle.wait_numbers.specs.Slot.{waits_in}
use Rattle.queue_admit.specs.Admission.{queue_lent_admission}
use Rattle.queue_admit.proofs.AdmissionLaws.{lent_refused_by_row, lent_through_at, lent_own_decide}
use Rattle.queue_straight.proofs.StraightLaws.{passed, waits_there}

-- The first of rows 5, 6 and 10 that holds.
five : (a b w : Bool) → a ≡ true → refusal ((5 when a) ∷ (6 when b) ∷ (10 when w) ∷ []) ≡ 5
five a b w e = simp e

six : (a b w : Bool) → a ≡ false → b ≡ true → refusal ((5 when a) ∷ (6 when b) ∷ (10 when w) ∷ []) ≡ 6
six a b w e f = simp (e, f)

ten : (a b w : Bool) → a ≡ false → b ≡ false → w ≡ true → refusal ((5 when a) ∷ (6 when b) ∷ (10 when w) ∷ []) ≡ 10
ten a b w e f g = simp (e, f, g)

none : (a b w : Bool) → a ≡ false → b ≡ false → w ≡ false → refusal ((5 when a) ∷ (6 when b) ∷ (10 when w) ∷ []) ≡ 0
none a b w e f g = simp (e, f, g)

module _ (c : Conn) (waits : List ℕ) (store : List ℕ) (id status : ℕ) (buffer : List ℕ) (gathered marks queue : List ℕ) where
  abbrev m : QueueMemory
  m = lent c gathered store waits marks queue

  -- the request's own rows
  abbrev finish_rows : List Row
  finish_rows = (5 when is_leaving m id) ∷ (6 when (length buffer <? length (Of.finish_bytes (request_of m id) status))) ∷ (10 when anything (wait_at m (slot_of m id))) ∷ []

  abbrev rows : ℕ
  rows = refusal ((2 when not (length store =? STORE)) ∷ rows_of m id finish_rows)

  -- refused: nothing is written, nothing changes
  by_number : (why : Refusal) → refusal_number why ≡ rows → finished_by (record { result = FinishResult.Refused why; conn = c }) store buffer ≡ straight_finish m id status buffer
  unfolding straight_finish
  by_number why e = rw (← e) (simp (refusal_some why))

  -- by 2, 9, 1 or 3
  pub finish_refused : (why : Refusal) → admitted_by (Err why) ≡ queue_lent_admission c waits store id
      → finished_by (record { result = FinishResult.Refused why; conn = c }) store buffer ≡ straight_finish m id status buffer
  finish_refused why e = by_number why (sym (lent_refused_by_row m id why finish_rows e refl))

  module _ (i : ℕ) (at' : admitted_by (Ok i) ≡ queue_lent_admission c waits store id) where
    abbrev too_short : Bool
    too_short = length buffer <? length (Of.finish_bytes (request_at c.table i) status)

    -- let through to slot i, rows 5, 6 and 10 of the request there decide
    decided : rows ≡ refusal ((5 when last_at waits i) ∷ (6 when too_short) ∷ (10 when waits_in waits i) ∷ [])
    decided =
        let t = lent_through_at m id i at' in
        lent_own_decide m id finish_rows t.0 t.1 (record { not_size = refl; not_shape = refl; not_closed = refl; not_active = refl })
        ∙ ap (λ (b : Bool). refusal ((5 when is_leaving m id) ∷ (6 when (length buffer <? length (Of.finish_bytes (request_of m id) status))) ∷ (10 when b) ∷ [])) (waits_there m id i t.1)
        ∙ ap (λ (j : ℕ). refusal ((5 when last_at waits j) ∷ (6 when (length buffer <? length (Of.finish_bytes (request_at c.table j) status))) ∷ (10 when waits_in waits i) ∷ [])) t.1.slot

    -- between finish and END
    pub finish_leaving : last_at waits i ≡ true → finished_by (record { result = FinishResult.Refused Refusal.Ended; conn = c }) store buffer ≡ straight_finish m id status buffer
    finish_leaving l = by_number Refusal.Ended (sym (decided ∙ five (last_at waits i) too_short (waits_in waits i) l))

    module _ (l : last_at waits i ≡ false) where
      -- no room for what is owed
      pub finish_short : length buffer < owed_length (request_at c.table i).state
          → finished_by (record { result = FinishResult.Refused Refusal.NoRoom; conn = c }) store buffer ≡ straight_finish m id status buffer
      finish_short short =
          let n : length buffer < length (Of.finish_bytes (request_at c.table i) status) = omega (arith, owed_length_lem (request_at c.table i) status) in
          by_number Refusal.NoRoom (sym (decided ∙ six (last_at waits i) too_short (waits_in waits i) l (lt-ltb (length buffer) (length (Of.finish_bytes (request_at c.table i) status)) n)))

      module _ (room : owed_length (request_at c.table i).state ≤ length buffer) where
        fits : too_short ≡ false
        fits =
            let n : length (Of.finish_bytes (request_at c.table i) status) ≤ length buffer = omega (arith, owed_length_lem (request_at c.table i) status) in
            le-ltb (length buffer) (length (Of.finish_bytes (request_at c.table i) status)) n

        -- something waits
        pub finish_waiting : waits_in waits i ≡ true → finished_by (record { result = FinishResult.Refused Refusal.Waiting; conn = c }) store buffer ≡ straight_finish m id status buffer
        finish_waiting w = by_number Refusal.Waiting (sym (decided ∙ ten (last_at waits i) too_short (waits_in waits i) l fits w))

        -- else it is as without a queue
        pub finish_passed : waits_in waits i ≡ false → C.finish c store id status buffer ≡ straight_finish m id status buffer
        unfolding straight_finish
        finish_passed w = passed rows (C.finish c store id status buffer) (C.unfinished rows c store buffer) (sym (decided ∙ none (last_at waits i) too_short (waits_in waits i) l fits w))

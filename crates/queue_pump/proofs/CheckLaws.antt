-- What the check of a turn says: its rows are those of the pump, and what holds where none does.
use Rattle.std.specs.Prelude.{◌≡◌, ℕ, zero, suc, ◌+◌, ◌*◌, ◌≤◌, ◌<◌, Bool, true, false, not, List, length, eqb, leb, ltb, if◌then◌else◌}
use Rattle.std.proofs.Math.Path.{refl}
use Rattle.std.proofs.Common.{sym, ◌∙◌, arith, eqb-true, leb-true, ltb-false}
use Rattle.std.proofs.lemmas.Bool.{eqb-false}
use Rattle.wire.specs.Test.{by_test}
use Rattle.slot_word.specs.Word.{taken}
use Rattle.connection.specs.declared.state.Conn.{Conn}
use Rattle.connection.specs.declared.answer.Refusal.{Refusal}
use Rattle.connection.specs.Sizes.{SLOTS, STORE}
use Rattle.connection.specs.Codes.{refusal_number}
use Rattle.connection.specs.Shape.{in_shape, ◌and◌}
use Rattle.codes.proofs.Laws.{refusal_some}
use Rattle.queue_slot.specs.Wait.{ROOM, some_waits}
use Rattle.queue.specs.declared.answer.PumpResult.{PumpResult}
use Rattle.queue.specs.Numbers.{WAITS, count_at, front_at, last_at}
use Rattle.queue.specs.Calls.{QUEUE, PUMPED, lent, wait_fits, waits_fit, queue_in_shape, turned, pump_refusal, pumped_with, pump}
use Rattle.queue.specs.Answer.{pumped_by}
use Rattle.queue_pump.specs.Able.{Able}
use Rattle.queue_pump.specs.Serving.{pump_rows}

-- ---- the rows
module _ (c : Conn) (gathered store waits marks queue : List ℕ) (allowance : ℕ) (out : List ℕ) where
  -- They are those of the pump.
  pub rows_of : pump_rows (length store) (length queue) (in_shape c and waits_fit SLOTS waits c.table.occupied 0) c.«open» (length out) allowance
      ≡ pump_refusal (lent c gathered store waits marks queue) allowance out
  unfolding pump_rows pump_refusal queue_in_shape
  rows_of = refl

  -- One of them holds.
  pub pump_refused_lem : (why : Refusal) → refusal_number why ≡ pump_refusal (lent c gathered store waits marks queue) allowance out
      → pumped_by (record { result = PumpResult.Refused why; conn = c }) gathered store waits marks queue out ≡ pump (lent c gathered store waits marks queue) allowance out
  unfolding pump
  pump_refused_lem why e = simp (sym e, refusal_some why)

  -- None of them does.
  pub pump_passed : 0 ≡ pump_refusal (lent c gathered store waits marks queue) allowance out
      → pumped_with (turned allowance (lent c gathered store waits marks queue)) out ≡ pump (lent c gathered store waits marks queue) allowance out
  unfolding pump
  pump_passed e = simp (sym e)

-- ---- none holds
-- what is known then
pub record Passed (store queue : ℕ) (fits : Bool) (out allowance : ℕ) : Type 0 where
  pub store_size : store ≡ STORE
  pub queue_size : queue ≡ QUEUE
  pub shape : fits ≡ true
  pub room : 520 * allowance ≤ out

pub passed : (store queue : ℕ) (fits is_open : Bool) (out allowance : ℕ) → 0 ≡ pump_rows store queue fits is_open out allowance → Passed store queue fits out allowance
unfolding pump_rows
passed store queue fits is_open out allowance e =
    by_test (eqb store STORE)
    (λ a. by_test (eqb queue QUEUE)
    (λ b. by_test fits
    (λ f. by_test is_open
    (λ o. by_test (ltb out (PUMPED * allowance))
    (λ l. absurd (omega (arith, simp (a, b, f, o, l) at e)))
    (λ l. let h : PUMPED * allowance ≤ out = ltb-false out (PUMPED * allowance) l in record { store_size = eqb-true store STORE a; queue_size = eqb-true queue QUEUE b; shape = f; room = h }))
    (λ o. absurd (omega (arith, simp (a, b, f, o) at e))))
    (λ f. absurd (omega (arith, simp (a, b, f) at e))))
    (λ b. absurd (omega (arith, simp (a, b) at e))))
    (λ a. absurd (omega (arith, simp a at e)))

-- ---- what waits in shape
-- both of two conditions
and_first : (a b : Bool) → (a and b) ≡ true → a ≡ true
and_first true b e = refl
and_first false b e = e

and_second : (a b : Bool) → (a and b) ≡ true → b ≡ true
and_second true b e = e
and_second false b e = let z : ◌≡◌ {A = ℕ} 0 1 = cc in absurd (omega arith)

-- No slot has more than there is room for.
slot_counts : (n : ℕ) (waits : List ℕ) (occupied i j : ℕ) → waits_fit n waits occupied i ≡ true → i ≤ j → j < i + n → count_at waits j ≤ ROOM
unfolding waits_fit wait_fits
slot_counts zero waits occupied i j e l h = absurd (omega arith)
slot_counts (suc n) waits occupied i j e l h =
    let free = if taken i occupied then true else not (some_waits (count_at waits i) (front_at waits i) (last_at waits i)) in
    let first = and_first (wait_fits waits occupied i) (waits_fit n waits occupied (i + 1)) e in
    let rest = and_second (wait_fits waits occupied i) (waits_fit n waits occupied (i + 1)) e in
    by_test (eqb j i)
    (λ t. rw (eqb-true j i t) (leb-true (count_at waits i) ROOM (and_first (leb (count_at waits i) ROOM) free first)))
    (λ t. let d = eqb-false j i t in slot_counts n waits occupied (i + 1) j rest (omega arith) (omega arith))

-- So a turn can begin.
pub able_passed : (c : Conn) (store waits marks queue : List ℕ) (out allowance : ℕ) {fits : Bool} → fits ≡ (in_shape c and waits_fit SLOTS waits c.table.occupied 0)
    → length waits ≡ WAITS → length marks ≡ QUEUE → Passed (length store) (length queue) fits out allowance → Able store waits marks queue
able_passed c store waits marks queue out allowance ef lw lm p =
    let all = and_second (in_shape c) (waits_fit SLOTS waits c.table.occupied 0) (sym ef ∙ p.shape) in
    record {
      store_size = p.store_size;
      waits_size = lw;
      marks_size = lm;
      queue_size = p.queue_size;
      counts_fit = λ j h. slot_counts SLOTS waits c.table.occupied 0 j all (omega arith) (omega arith);
    }

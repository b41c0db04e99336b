-- What holds of the calls that read with what waits lent beside the state.
use Rattle.std.specs.Prelude.{ℕ, ◌≡◌, Bool, List, length}
use Rattle.std.proofs.Common.{sym, ◌∙◌, arith, le-ltb}
use Rattle.std.proofs.Math.Path.{ap}
use Rattle.std.proofs.Math.Bool.{true, false}
use Rattle.wire.specs.Test.{◌=?◌, by_test}
use Rattle.connection.specs.declared.state.Conn.{Conn}
use Rattle.connection.specs.declared.answer.Refusal.{Refusal}
use Rattle.connection.specs.Sizes.{SLOTS, STORE}
use Rattle.connection.specs.Codes.{refusal_number}
use Rattle.connection.specs.Shape.{in_shape, ◌and◌}
use Rattle.connection.specs.Step.{State, state_of, stays}
use Rattle.connection.proofs.Laws.ShapeLaws.{and_true}
use Rattle.queue.specs.Numbers.{kept_waits}
use Rattle.queue.specs.Calls.{waits_fit}
use Rattle.call_step.specs.declared.StepCheck.{StepCheck}
use Rattle.call_step.specs.Next.{steps_by}
use Rattle.call_step.specs.Check.{checked_step, Reads, check_read, check_idle, by_check, by_check_lem}
use Rattle.call_step.proofs.RoundLaws.{steps_stay, refused_last}
use Rattle.call_step.specs.Beside.{steps_beside}

-- Where it fits, all is as without a queue.
pub beside_fits : (fits on : Bool) (st : State) (store piece : List ℕ) → fits ≡ true
    → steps_beside fits on st store piece ≡ steps_by on st store piece
unfolding steps_beside
beside_fits fits on st store piece e = simp e

-- A check that is passed: what waits fits, and the rest as without a queue.
pub beside_read : (size : ℕ) (fits shape is_open : Bool) (bytes : ℕ) → checked_step size (fits and shape) is_open bytes ≡ StepCheck.Read
    → (fits ≡ true) × Reads size shape is_open bytes
beside_read size fits shape is_open bytes e =
    let r = check_read size (fits and shape) is_open bytes e in
    let b = and_true fits shape r.shape in
    (b.0, record { whole = r.whole; shape = b.1; reads = r.reads; some = r.some })

-- the number of a refusal by the check
abbrev number_of : StepCheck → ℕ
number_of (StepCheck.Refused why) = refusal_number why
number_of StepCheck.Idle = 0
number_of StepCheck.Read = 0

module _ (on : Bool) (c : Conn) (gathered store piece : List ℕ) where
  -- a check without a queue that refuses
  alone : (why : Refusal) → checked_step (length store) (in_shape c) c.«open» (length piece) ≡ StepCheck.Refused why
      → stays (refusal_number why) (state_of c gathered) store ≡ steps_by on (state_of c gathered) store piece
  alone why e =
      steps_stay on (state_of c gathered) store piece (refusal_number why)
      (ap (λ (k : StepCheck). by_check k c gathered store piece) (sym e) ∙ by_check_lem c gathered store piece)
      (refused_last why (length piece))

  -- A check that refuses.
  pub beside_refused : (fits : Bool) (why : Refusal)
      → checked_step (length store) (fits and in_shape c) c.«open» (length piece) ≡ StepCheck.Refused why
      → stays (refusal_number why) (state_of c gathered) store ≡ steps_beside fits on (state_of c gathered) store piece
  unfolding steps_beside checked_step
  beside_refused true why e = alone why e
  beside_refused false why e =
      by_test (length store =? STORE)
      (λ t.
      let n : 9 ≡ refusal_number why = ap number_of (simp t at e) in
      simp t (ap (λ (k : ℕ). stays k (state_of c gathered) store) (sym n)))
      (λ t. simp t (alone why (simp t (simp t at e))))

  -- A check that finds nothing to read.
  pub beside_idle : (fits : Bool)
      → checked_step (length store) (fits and in_shape c) c.«open» (length piece) ≡ StepCheck.Idle
      → stays 0 (state_of c gathered) store ≡ steps_beside fits on (state_of c gathered) store piece
  unfolding steps_beside checked_step
  beside_idle true e =
      let none = check_idle (length store) (in_shape c) c.«open» (length piece) e in
      steps_stay on (state_of c gathered) store piece 0
      (ap (λ (k : StepCheck). by_check k c gathered store piece) (sym e) ∙ by_check_lem c gathered store piece)
      (le-ltb 0 (length piece) (omega arith))
  beside_idle false e =
      by_test (length store =? STORE)
      (λ t. let n : 9 ≡ 0 = ap number_of (simp t at e) in absurd (omega arith))
      (λ t. let n : 2 ≡ 0 = ap number_of (simp t at e) in absurd (omega arith))

-- ---- what waits in the loop: it fitted, the connection was open, and a close drops it
pub record Beside (open₀ : Bool) (occupied₀ : ℕ) (waits₀ waits : List ℕ) (is_open : Bool) : Type 0 where
  pub fits : waits_fit SLOTS waits₀ occupied₀ 0 ≡ true
  pub opened : open₀ ≡ true
  pub kept : waits ≡ kept_waits true is_open waits₀

-- A step that leaves it and the connection as they were keeps that.
pub beside_same : {open₀ : Bool} {occupied₀ : ℕ} {waits₀ waits waits' : List ℕ} {is_open open' : Bool}
    → Beside open₀ occupied₀ waits₀ waits is_open → waits' ≡ waits → open' ≡ is_open
    → Beside open₀ occupied₀ waits₀ waits' open'
beside_same b e o = rw (e, o) b

-- A step of an open connection keeps that.
pub beside_took : {open₀ : Bool} {occupied₀ : ℕ} {waits₀ waits waits' : List ℕ} {is_open open' : Bool}
    → Beside open₀ occupied₀ waits₀ waits is_open → is_open ≡ true → waits' ≡ kept_waits true open' waits
    → Beside open₀ occupied₀ waits₀ waits' open'
beside_took {open₀} {occupied₀} {waits₀} {waits} {waits'} {is_open} {open'} b o e =
    let same : waits ≡ waits₀ = b.kept ∙ ap (λ (x : Bool). kept_waits true x waits₀) o in
    record { fits = b.fits; opened = b.opened; kept = e ∙ ap (kept_waits true open') same }

-- So it is at the end.
pub beside_end : {open₀ : Bool} {occupied₀ : ℕ} {waits₀ waits : List ℕ} {is_open : Bool} → Beside open₀ occupied₀ waits₀ waits is_open
    → waits ≡ kept_waits open₀ is_open waits₀
beside_end {open₀} {occupied₀} {waits₀} {waits} {is_open} b = b.kept ∙ ap (λ (x : Bool). kept_waits x is_open waits₀) (sym b.opened)

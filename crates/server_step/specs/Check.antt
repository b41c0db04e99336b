-- The check of a step: rows 9 and 1, and the empty piece.
use Rattle.std.specs.Prelude.{ℕ, ◌≡◌, refl, Bool, true, false, List, length, eqb, if◌then◌else◌}
use Rattle.std.proofs.Common.{arith}
use Rattle.wire.specs.Test.{◌=?◌, by_test}
use Rattle.server.specs.declared.state.Server.{Server}
use Rattle.server.specs.declared.answer.ServerRefusal.{ServerRefusal}
use Rattle.server.specs.Codes.{refusal_number}
use Rattle.server.specs.Shape.{in_shape}
use Rattle.server.specs.Step.{Stepped, state_of, stays, step_refusal, stepped}
use Rattle.server_step.specs.declared.StepCheck.{StepCheck}
use Rattle.server_step.specs.Outcome.{phased}

abbrev pub rows_of : Bool → Bool → Bool → StepCheck
rows_of fits is_open none =
    if fits then (if is_open then (if none then StepCheck.Idle else StepCheck.Read) else StepCheck.Refused ServerRefusal.Closed)
    else StepCheck.Refused ServerRefusal.OutOfShape

unfoldable pub checked_step : Bool → Bool → ℕ → StepCheck
checked_step fits is_open bytes = rows_of fits is_open (bytes =? 0)

-- a step, by its check
abbrev pub by_check : StepCheck → Server → List ℕ → List ℕ → Stepped
by_check (StepCheck.Refused why) c values piece = stays (refusal_number why) (state_of c values)
by_check StepCheck.Idle c values piece = stays 0 (state_of c values)
by_check StepCheck.Read c values piece = phased c values piece

-- It is the step.
pub by_check_lem : (c : Server) (values piece : List ℕ) → by_check (checked_step (in_shape c) c.«open» (length piece)) c values piece ≡ stepped (state_of c values) piece
unfolding checked_step stepped step_refusal phased
by_check_lem c values piece =
    by_test (in_shape c)
    (λ f. by_test c.«open»
    (λ o. by_test (eqb (length piece) 0) (λ z. simp (f, o, z)) (λ z. simp (f, o, z)))
    (λ o. simp (f, o)))
    (λ f. simp f)

-- A step reads only in a state in shape that is open.
pub record Reads (fits is_open : Bool) : Type 0 where
  pub shape : fits ≡ true
  pub reads : is_open ≡ true

pub check_read : (fits is_open : Bool) (bytes : ℕ) → checked_step fits is_open bytes ≡ StepCheck.Read → Reads fits is_open
unfolding checked_step
check_read true true bytes e = record { shape = refl; reads = refl }
check_read true false bytes e = let z : ◌≡◌ {A = ℕ} 0 1 = cc in absurd (omega arith)
check_read false is_open bytes e = let z : ◌≡◌ {A = ℕ} 0 1 = cc in absurd (omega arith)

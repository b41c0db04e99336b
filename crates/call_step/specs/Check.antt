-- The check before the first step: rows 2, 9 and 1, and the empty piece.
use Rattle.std.specs.Prelude.{ℕ, ◌<◌, ◌≡◌, refl, Bool, true, false, List, length, eqb, if◌then◌else◌}
use Rattle.std.proofs.Common.{sym, ap, ◌∙◌, arith, eqb-true}
use Rattle.std.proofs.lemmas.Bool.{eqb-false}
use Rattle.wire.specs.Test.{◌=?◌, by_test}
use Rattle.record_reader.specs.Position.{advanced}
use Rattle.connection.specs.declared.state.Conn.{Conn}
use Rattle.connection.specs.declared.answer.Refusal.{Refusal}
use Rattle.connection.specs.Sizes.{STORE}
use Rattle.connection.specs.Codes.{refusal_number}
use Rattle.connection.specs.Shape.{in_shape}
use Rattle.connection.specs.Step.{Stepped, state_of, stays, advances, step_refusal, stepped}
use Rattle.call_step.specs.declared.StepCheck.{StepCheck}

-- by the store's size, the state's shape and the open flag; then by the bytes
unfoldable pub checked_step : ℕ → Bool → Bool → ℕ → StepCheck
checked_step size fits is_open bytes =
    if size =? STORE then
    (if fits then (if is_open then (if bytes =? 0 then StepCheck.Idle else StepCheck.Read) else StepCheck.Refused Refusal.Closed) else StepCheck.Refused Refusal.OutOfShape)
    else StepCheck.Refused Refusal.StoreSize

abbrev is_refused : StepCheck → Bool
is_refused (StepCheck.Refused why) = true
is_refused StepCheck.Idle = false
is_refused StepCheck.Read = false

-- A step reads only in a state in shape that is open, with a store of the right size and some bytes.
pub record Reads (size : ℕ) (fits is_open : Bool) (bytes : ℕ) : Type 0 where
  pub whole : size ≡ STORE
  pub shape : fits ≡ true
  pub reads : is_open ≡ true
  pub some : 0 < bytes

never : {A : Type 0} {r : Refusal} {x : StepCheck} → StepCheck.Refused r ≡ x → is_refused x ≡ false → A
never q f = let z : ◌≡◌ {A = ℕ} 0 1 = cc (sym f ∙ ap is_refused (sym q)) in absurd (omega arith)

pub check_read : (size : ℕ) (fits is_open : Bool) (bytes : ℕ) → checked_step size fits is_open bytes ≡ StepCheck.Read → Reads size fits is_open bytes
unfolding checked_step
check_read size fits is_open bytes e =
    by_test (eqb size STORE)
    (λ a. by_test fits
    (λ b. by_test is_open
    (λ d. by_test (eqb bytes 0)
    (λ z. let y : ◌≡◌ {A = ℕ} 0 1 = cc (simp (a, b, d, z) at e) in absurd (omega arith))
    (λ z. let some = eqb-false bytes 0 z in record { whole = eqb-true size STORE a; shape = b; reads = d; some = omega arith }))
    (λ d. never (simp (a, b, d) at e) refl))
    (λ b. never (simp (a, b) at e) refl))
    (λ a. never (simp a at e) refl)

-- It is idle only where there are none.
pub check_idle : (size : ℕ) (fits is_open : Bool) (bytes : ℕ) → checked_step size fits is_open bytes ≡ StepCheck.Idle → bytes ≡ 0
unfolding checked_step
check_idle size fits is_open bytes e =
    by_test (eqb size STORE)
    (λ a. by_test fits
    (λ b. by_test is_open
    (λ d. by_test (eqb bytes 0)
    (λ z. eqb-true bytes 0 z)
    (λ z. let y : ◌≡◌ {A = ℕ} 0 1 = cc (simp (a, b, d, z) at e) in absurd (omega arith)))
    (λ d. never (simp (a, b, d) at e) refl))
    (λ b. never (simp (a, b) at e) refl))
    (λ a. never (simp a at e) refl)

-- the step, by its check
abbrev pub by_check : StepCheck → Conn → List ℕ → List ℕ → List ℕ → Stepped
by_check (StepCheck.Refused why) c gathered store piece = stays (refusal_number why) (state_of c gathered) store
by_check StepCheck.Idle c gathered store piece = stays 0 (state_of c gathered) store
by_check StepCheck.Read c gathered store piece = advances (state_of c gathered) store piece (advanced c.frame.position piece)

pub by_check_lem : (c : Conn) (gathered store piece : List ℕ) → by_check (checked_step (length store) (in_shape c) c.«open» (length piece)) c gathered store piece ≡ stepped (state_of c gathered) store piece
unfolding checked_step stepped step_refusal
by_check_lem c gathered store piece =
    by_test (eqb (length store) STORE)
    (λ a. by_test (in_shape c)
    (λ b. by_test c.«open» (λ d. by_test (eqb (length piece) 0) (λ e. simp (a, b, d, e)) (λ e. simp (a, b, d, e))) (λ d. simp (a, b, d)))
    (λ b. simp (a, b)))
    (λ a. simp a)

-- The rows of a refusal: of a call that is let through no row holds, and the number of one that is refused is that of a
-- row that holds.
use Rattle.std.specs.Prelude.{◌≡◌, List, [], ◌∷◌, Bool, true, false, ℕ, suc, if◌then◌else◌}
use Rattle.std.proofs.Common.{sym, ap, ◌∙◌, arith, eqb-true}
use Rattle.std.proofs.lemmas.Bool.{eqb-false}
use Rattle.wire.specs.Test.{by_test, ◌=?◌}
use Rattle.connection.specs.Refusal.{Row, refusal_order, holds_in, first_in, refusal}

-- a number that is not 0, among these
abbrev is_number : List ℕ → ℕ → Bool
is_number [] n = false
is_number (m ∷ ms) n = if m =? 0 then false else if m =? n then true else is_number ms n

none_holds : (ns : List ℕ) (rows : List Row) (n : ℕ) → first_in ns rows ≡ 0 → is_number ns n ≡ true → holds_in n rows ≡ false
none_holds [] rows n e i = let z : ◌≡◌ {A = ℕ} 0 1 = cc in absurd (omega arith)
none_holds (m ∷ ms) rows n e i =
    by_test (m =? 0)
    (λ a. let z : ◌≡◌ {A = ℕ} 0 1 = cc (simp a at i) in absurd (omega arith))
    (λ a. by_test (holds_in m rows)
    (λ h. absurd (eqb-false m 0 a (simp h at e)))
    (λ h. by_test (m =? n) (λ b. ap (λ (k : ℕ). holds_in k rows) (sym (eqb-true m n b)) ∙ h) (λ b. none_holds ms rows n (simp h at e) (simp (a, b) at i))))

-- Where no row holds, the row of any number of the order does not.
pub let_through : (rows : List Row) (n : ℕ) → refusal rows ≡ 0 → is_number refusal_order n ≡ true → holds_in n rows ≡ false
let_through rows n e i = none_holds refusal_order rows n e i

first_holds : (ns : List ℕ) (rows : List Row) (n : ℕ) → first_in ns rows ≡ suc n → holds_in (suc n) rows ≡ true
first_holds [] rows n e = let z : ◌≡◌ {A = ℕ} 0 1 = cc in absurd (omega arith)
first_holds (m ∷ ms) rows n e = by_test (holds_in m rows) (λ h. let d : m ≡ suc n = simp h at e in ap (λ (k : ℕ). holds_in k rows) (sym d) ∙ h) (λ h. first_holds ms rows n (simp h at e))

-- The row of the refusal's number holds.
pub refused_by_lem : (rows : List Row) (n : ℕ) → refusal rows ≡ suc n → holds_in (suc n) rows ≡ true
refused_by_lem rows n e = first_holds refusal_order rows n e

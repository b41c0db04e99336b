-- Tests, as the definitions write them, and the case split that the laws use.
use Rattle.std.specs.Prelude.{ℕ, Bool, true, false, ◌≡◌, refl, ltb, leb, eqb}

infix 40 ◌<?◌ ◌≤?◌ ◌=?◌
abbrev pub ◌<?◌ : ℕ → ℕ → Bool
m <? n = ltb m n

abbrev pub ◌≤?◌ : ℕ → ℕ → Bool
m ≤? n = leb m n

abbrev pub ◌=?◌ : ℕ → ℕ → Bool
m =? n = eqb m n

-- by the two outcomes of a test, each with its equation
pub by_test {ℓ} : {P : Type ℓ} (b : Bool) → (b ≡ true → P) → (b ≡ false → P) → P
by_test true yes' no' = yes' refl
by_test false yes' no' = no' refl

-- When the station says no: the table's numbers in their one order. A call names its own rows and takes the first
-- that holds.
use Rattle.std.specs.Prelude.{ℕ, Bool, false, List, [], ◌∷◌, if◌then◌else◌}
use Rattle.wire.specs.Test.{◌=?◌}

abbrev pub refusal_order : List ℕ
refusal_order = 2 ∷ 9 ∷ 1 ∷ 3 ∷ 4 ∷ 5 ∷ 7 ∷ 8 ∷ 6 ∷ 10 ∷ []

-- a row: its number, and whether its condition holds
pub record Row : Type 0 where
  pub number : ℕ
  pub holds : Bool

infix 20 ◌when◌
abbrev pub ◌when◌ : ℕ → Bool → Row
n when b = record { number = n; holds = b }

-- whether the row of that number is among these and holds
abbrev pub holds_in : ℕ → List Row → Bool
holds_in n [] = false
holds_in n (r ∷ rs) = if r.number =? n then r.holds else holds_in n rs

abbrev pub first_in : List ℕ → List Row → ℕ
first_in [] rows = 0
first_in (n ∷ ns) rows = if holds_in n rows then n else first_in ns rows

-- the number of the refusal, 0 for none
abbrev pub refusal : List Row → ℕ
refusal rows = first_in refusal_order rows

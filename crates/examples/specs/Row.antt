-- A row of the table: what a definition gives in a case, and what it should give. The table holds when all its rows do.
use Rattle.std.specs.Prelude.{◌≡◌, List, [], ◌∷◌}

pub record Row : Type 1 where
  pub Answer : Type 0
  pub gives : Answer
  pub should : Answer

infix 20 ◌gives◌
abbrev pub ◌gives◌ : {A : Type 0} → A → A → Row
◌gives◌ {A} a b = record { Answer = A; gives = a; should = b }

abbrev pub Holds : List Row → Type 0
Holds [] = Unit {0}
Holds (r ∷ rs) = (r.gives ≡ r.should) × Holds rs

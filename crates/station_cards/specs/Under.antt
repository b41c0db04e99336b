-- A number that was read is below a bound.
use Rattle.std.specs.Prelude.{ℕ, ◌<◌, Some, None, Option}

abbrev pub Under : Option ℕ → ℕ → Type 0
Under (Some n) bound = n < bound
Under None bound = Unit {0}

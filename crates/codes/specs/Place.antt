-- A cause from its number and its place.
use Rattle.std.specs.Prelude.{ℕ, Some, None, Option}
use Rattle.machine.specs.Cause.{Cause, Plain, At}

abbrev pub cause_of : ℕ → Option ℕ → Cause
cause_of n None = Plain n
cause_of n (Some place) = At n place

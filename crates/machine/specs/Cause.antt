-- Why a connection closes or a request has a fault.
use Rattle.std.specs.Prelude.{ℕ}

-- A number and, where a list is malformed, the place in the list where the pair starts that cannot be read.
pub data Cause : Type 0 where
  Plain : ℕ → Cause
  At : ℕ → ℕ → Cause

abbrev pub cause_number : Cause → ℕ
cause_number (Cause.Plain n) = n
cause_number (Cause.At n place) = n

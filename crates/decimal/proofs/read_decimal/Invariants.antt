use mathlib.Core.Path.{◌≡◌}
use Prim.Native.Nat.{◌<◌}
use lib.ListN.{drop}
use Rattle.decimal.specs.Decimal.{digits_after}
use Rattle.decimal.proofs.Laws.{ten_to}
use Rattle.decimal.proofs.read_decimal.Given as goal

abbrev pub invariant-loop-byte : goal.invariant-loop-byte
invariant-loop-byte l = (l.value < ten_to l.byte-index) × (digits_after 0 l.text ≡ digits_after l.value (drop l.byte-index l.text))

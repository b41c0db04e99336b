use native.Mathlib.Omega.{arith}
use mathlib.Core.Path.{refl}
use Rattle.station_number.proofs.PutsLaws.{puts_as, decimal_20}
use Rattle.station_number.proofs.line.add_number.Goals as goal

pub add_decimal-requires : goal.add_decimal-requires
add_decimal-requires c = let a = c in omega (arith, a.requires, decimal_20 a.args.n a.ranges.n.fits)

pub returns : goal.returns
returns c = let a = c in puts_as 20 c.add_decimal.ensures refl (decimal_20 a.args.n a.ranges.n.fits)

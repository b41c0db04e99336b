use native.Mathlib.Omega.{arith}
use Rattle.slot_check.proofs.TakenLaws.{lowest_taken}
use Rattle.slot_check.proofs.lowest_taken.Goals as goal

pub overflow_cast-result : goal.overflow_cast-result
overflow_cast-result c = omega (arith, (lowest_taken 16 c.args.occupied c.requires c.ranges.occupied.fits).0)

pub returns : goal.returns
returns c = lowest_taken 16 c.args.occupied c.requires c.ranges.occupied.fits

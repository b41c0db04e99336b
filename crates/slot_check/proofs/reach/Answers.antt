use Rattle.slot_check.proofs.TakenLaws.{reach_below}
use Rattle.slot_check.proofs.reach.Goals as goal

pub returns : goal.returns
returns c = reach_below c.args.occupied c.ranges.occupied.fits

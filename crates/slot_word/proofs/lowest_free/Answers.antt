use Rattle.slot_word.proofs.WordLaws.{trailing_clear}
use Rattle.slot_word.proofs.lowest_free.Goals as goal

pub returns : goal.returns
returns c = trailing_clear 16 c.args.occupied c.ranges.occupied.fits

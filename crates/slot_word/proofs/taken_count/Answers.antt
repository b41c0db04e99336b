use Rattle.slot_word.proofs.WordLaws.{ones_taken}
use Rattle.slot_word.proofs.taken_count.Goals as goal

pub returns : goal.returns
returns c = ones_taken 16 c.args.occupied c.ranges.occupied.fits

use Rattle.queue_slot.specs.Wait.{mark_ends}
use Rattle.wait_mark.proofs.mark_ends.Goals as goal

pub returns : goal.returns
unfolding mark_ends
returns c = c.ends_of.ensures

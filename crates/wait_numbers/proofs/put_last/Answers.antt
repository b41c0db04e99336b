use Rattle.queue.specs.Numbers.{put_last}
use Rattle.wait_numbers.proofs.put_last.Goals as goal

pub returns : goal.returns
unfolding put_last
returns c = c.put_bit.ensures

use Rattle.queue.specs.Numbers.{last_at}
use Rattle.wait_numbers.proofs.is_leaving.Goals as goal

pub returns : goal.returns
unfolding last_at
returns c = c.is_taken.ensures

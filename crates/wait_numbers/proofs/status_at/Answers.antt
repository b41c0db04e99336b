use Rattle.queue.specs.Numbers.{status_at}
use Rattle.wait_numbers.proofs.status_at.Goals as goal

pub returns : goal.returns
unfolding status_at
returns c = λ h. c.joined.ensures

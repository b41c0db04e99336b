use Rattle.queue.specs.Numbers.{front_at}
use Rattle.wait_numbers.proofs.front_at.Goals as goal

pub returns : goal.returns
unfolding front_at
returns c = simp (c.ends_by.ensures, c.is_taken-err_first.ensures, c.is_taken-err.ensures, c.is_taken-out.ensures)

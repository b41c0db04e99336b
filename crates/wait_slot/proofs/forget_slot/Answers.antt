use native.Mathlib.Omega.{arith}
use Rattle.queue.specs.Numbers.{numbers_at}
use Rattle.wait_slot.proofs.forget_slot.Goals as goal

pub returns : goal.returns
unfolding numbers_at
returns c = λ h. c.put_numbers.ensures h (omega arith)

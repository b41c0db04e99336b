use Rattle.slot_check.proofs.QuickLaws.{any_start, any_next, any_done}
use Rattle.wait_numbers.proofs.any_long.Goals as goal

pub loop-i-init : goal.loop-i-init
loop-i-init c = any_start

pub loop-i-preserved : goal.loop-i-preserved
loop-i-preserved c = rw c.widen.ensures (any_next c.loop-i.invariant c.loop-i-test.true)

pub returns : goal.returns
returns c = any_done c.loop-i.invariant c.loop-i-test.false

use Prim.Native.Nat.{◌-◌}
use Rattle.slot_check.specs.Quick.{Gathers}
use Rattle.wait_numbers.specs.Slot.{is_long}
use Rattle.wait_numbers.proofs.any_long.Given as goal

abbrev pub invariant-loop-i : goal.invariant-loop-i
invariant-loop-i l = Gathers l.n (is_long l.waits) l.any l.i

abbrev pub decreases-loop-i : goal.decreases-loop-i
decreases-loop-i l = l.n - l.i

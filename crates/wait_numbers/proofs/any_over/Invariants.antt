use Prim.Native.Nat.{◌-◌}
use Rattle.connection.specs.Sizes.{SLOTS}
use Rattle.slot_check.specs.Quick.{Gathers}
use Rattle.wait_numbers.specs.Slot.{is_over}
use Rattle.wait_numbers.proofs.any_over.Given as goal

abbrev pub invariant-loop-i : goal.invariant-loop-i
invariant-loop-i l = Gathers SLOTS (is_over l.waits) l.any l.i

abbrev pub decreases-loop-i : goal.decreases-loop-i
decreases-loop-i l = SLOTS - l.i

use Prim.Native.Nat.{◌<◌}
use Rattle.connection.specs.Sizes.{SLOTS}
use Rattle.wait_numbers.proofs.SlotLaws.{Going}
use Rattle.wait_numbers.proofs.next_waiting.Given as goal

abbrev pub invariant-loop-left : goal.invariant-loop-left
invariant-loop-left l = l.first < SLOTS → Going l.waits l.first l.i l.left

abbrev pub decreases-loop-left : goal.decreases-loop-left
decreases-loop-left l = l.left

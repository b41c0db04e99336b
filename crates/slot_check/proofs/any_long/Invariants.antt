use Prim.Native.Nat.{◌-◌}
use Rattle.connection.specs.Sizes.{SLOTS}
use Rattle.slot_check.specs.Quick.{Gathers, is_long}
use Rattle.slot_check.proofs.any_long.Given as goal

abbrev pub invariant-loop-i : goal.invariant-loop-i
invariant-loop-i l = Gathers SLOTS (is_long l.lengths) l.any l.i

abbrev pub decreases-loop-i : goal.decreases-loop-i
decreases-loop-i l = SLOTS - l.i

use Prim.Native.Nat.{◌-◌}
use Rattle.slot_check.specs.Quick.{Gathers}
use Rattle.wait_mark.specs.Joins.{is_other}
use Rattle.wait_mark.proofs.any_other.Given as goal

abbrev pub invariant-loop-i : goal.invariant-loop-i
invariant-loop-i l = Gathers l.n (is_other l.marks l.mark) l.any l.i

abbrev pub decreases-loop-i : goal.decreases-loop-i
decreases-loop-i l = l.n - l.i

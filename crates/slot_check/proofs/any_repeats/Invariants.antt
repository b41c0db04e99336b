use Prim.Native.Nat.{◌-◌}
use Rattle.slot_check.specs.Quick.{Gathers, repeats}
use Rattle.slot_check.proofs.any_repeats.Given as goal

abbrev pub invariant-loop-i : goal.invariant-loop-i
invariant-loop-i l = Gathers l.n (repeats l.keys) l.any l.i

abbrev pub decreases-loop-i : goal.decreases-loop-i
decreases-loop-i l = l.n - l.i

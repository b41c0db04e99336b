use mathlib.Core.Path.{◌≡◌}
use Prim.Native.Nat.{◌-◌, ◌≤◌, min}
use lib.ListN.{length}
use lib.Seq.{paste}
use Rattle.wait_area.proofs.AreaLaws.{lowered}
use Rattle.wait_area.proofs.move_down.Given as goal

abbrev pub invariant-loop-i : goal.invariant-loop-i
invariant-loop-i l = (l.i - l.k ≤ min l.count (length l.initial.area) - l.k) × (length l.area ≡ length l.initial.area) × (l.area ≡ paste l.initial.area 0 (lowered l.initial.area l.k l.count) (l.i - l.k))

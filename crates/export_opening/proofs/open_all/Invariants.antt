use mathlib.Core.Path.{◌≡◌}
use Prim.Native.Nat.{◌-◌}
use lib.ListN.{length}
use Rattle.export_opening.proofs.open_all.Given as goal

abbrev pub invariant-loop-at : goal.invariant-loop-at
invariant-loop-at l = length l.store ≡ length l.initial.store

abbrev pub decreases-loop-at : goal.decreases-loop-at
decreases-loop-at l = length l.opening - l.at

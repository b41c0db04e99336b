use mathlib.Core.Path.{◌≡◌}
use Prim.Native.Nat.{◌-◌}
use lib.ListN.{length}
use Rattle.pair_list.specs.List.{pairs_from, first_in}
use Rattle.pair_list.proofs.first_from.Given as goal

abbrev pub invariant-loop-pair : goal.invariant-loop-pair
invariant-loop-pair l = first_in l.list l.name (pairs_from l.list l.start).pairs ≡ first_in l.list l.name (pairs_from l.list l.at).pairs

abbrev pub decreases-loop-pair : goal.decreases-loop-pair
decreases-loop-pair l = length l.list - l.at

use mathlib.Core.Path.{◌≡◌}
use Prim.Native.Nat.{◌-◌}
use lib.ListN.{length}
use Rattle.pair_list.specs.List.{pairs_from, number_in}
use Rattle.pair_list.proofs.pair_number.Given as goal

abbrev pub invariant-loop-pair : goal.invariant-loop-pair
invariant-loop-pair l = number_in (pairs_from l.list 0).pairs l.k ≡ number_in (pairs_from l.list l.at).pairs l.left

abbrev pub decreases-loop-pair : goal.decreases-loop-pair
decreases-loop-pair l = length l.list - l.at

use mathlib.Core.Path.{◌≡◌}
use Prim.Native.Nat.{◌-◌}
use lib.ListN.{length}
use Rattle.pair_list.specs.List.{pairs_from}
use Rattle.pair_list.proofs.list_ending.Given as goal

abbrev pub invariant-loop-next : goal.invariant-loop-next
invariant-loop-next l = (pairs_from l.list 0).ending ≡ (pairs_from l.list l.at).ending

abbrev pub decreases-loop-next : goal.decreases-loop-next
decreases-loop-next l = length l.list - l.at

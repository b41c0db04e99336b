use mathlib.Core.Path.{◌≡◌}
use Prim.Native.Nat.{ℕ, ◌≤◌, ◌-◌}
use mathlib.Core.List.{List}
use lib.ListN.{length}
use Rattle.pair_list.specs.List.{pairs_from}
use Rattle.pair_repeats.specs.Repeats.{repeats_in}
use Rattle.pair_repeats.specs.Keys.{Filled}
use Rattle.pair_repeats.proofs.repeats_by.Given as goal

-- where the table is filled: it is from here on, and here the test still has to be made
pub record Round (list keys : List ℕ) (n at i : ℕ) : Type 0 where
  pub filled : Filled list at keys i n
  pub left : repeats_in list (pairs_from list 0).pairs ≡ repeats_in list (pairs_from list at).pairs

abbrev pub invariant-loop-pair : goal.invariant-loop-pair
invariant-loop-pair l = (l.i ≤ l.at) × (Filled l.list 0 l.keys 0 l.n → Round l.list l.keys l.n l.at l.i)

abbrev pub decreases-loop-pair : goal.decreases-loop-pair
decreases-loop-pair l = length l.list - l.at

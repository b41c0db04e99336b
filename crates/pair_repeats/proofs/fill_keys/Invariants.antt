use mathlib.Core.Path.{◌≡◌}
use Prim.Native.Nat.{◌≤◌, ◌-◌}
use lib.ListN.{length}
use Rattle.pair_repeats.proofs.KeysLaws.{Filling}
use Rattle.pair_repeats.proofs.fill_keys.Given as goal

abbrev pub invariant-loop-pair : goal.invariant-loop-pair
invariant-loop-pair l = (length l.keys ≡ length l.initial.keys) × (l.count ≤ length l.keys) × Filling l.list l.keys l.at l.count

abbrev pub decreases-loop-pair : goal.decreases-loop-pair
decreases-loop-pair l = length l.list - l.at

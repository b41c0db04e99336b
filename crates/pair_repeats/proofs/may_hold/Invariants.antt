use mathlib.Core.Path.{◌≡◌}
use lib.ListN.{take, drop}
use Rattle.pair_repeats.specs.Keys.{holds}
use Rattle.pair_repeats.proofs.may_hold.Given as goal

abbrev pub invariant-loop-i : goal.invariant-loop-i
invariant-loop-i l = holds (drop l.from (take l.n l.keys)) l.key ≡ holds (drop l.i (take l.n l.keys)) l.key

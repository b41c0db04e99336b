use mathlib.Core.Path.{◌≡◌}
use mathlib.Core.Bool.{◌&&◌}
use lib.ListN.{drop}
use Rattle.flat_state.specs.Flat.{every, within}
use Rattle.flat_state.proofs.all_within.Given as goal

abbrev pub invariant-loop-slot : goal.invariant-loop-slot
invariant-loop-slot l = (l.all && every (within l.low l.high) (drop l.slot l.numbers)) ≡ every (within l.low l.high) l.numbers

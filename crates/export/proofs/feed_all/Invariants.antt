use mathlib.Core.Path.{◌≡◌}
use Prim.Native.Nat.{◌-◌, ◌≤◌, ◌<◌}
use lib.ListN.{length}
use Rattle.connection.specs.Step.{state_of}
use Rattle.export.specs.Fed.{fed_all}
use Rattle.export.proofs.Laws.{rest_of}
use Rattle.export.proofs.feed_all.Given as goal

abbrev pub invariant-loop-at : goal.invariant-loop-at
invariant-loop-at l = (l.at ≤ length l.input)
    × (l.end ≤ length l.input)
    × (l.sum < 72057594037927936)
    × (length l.store ≡ length l.initial.store)
    × (fed_all (state_of l.initial.conn l.initial.gathered) l.initial.store l.input l.piece ≡ rest_of (state_of l.conn l.gathered) l.store l.input l.piece l.at l.end l.sum)

abbrev pub decreases-loop-at : goal.decreases-loop-at
decreases-loop-at l = length l.input - l.at

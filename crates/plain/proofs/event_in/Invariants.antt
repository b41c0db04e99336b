use Prim.Native.Nat.{◌-◌}
use lib.ListN.{length}
use Rattle.plain.specs.Promise.{Reading}
use Rattle.plain.proofs.event_in.Given as goal

abbrev pub invariant-loop-at : goal.invariant-loop-at
invariant-loop-at l = Reading l.bytes l.k l.store l.table l.left l.at

abbrev pub decreases-loop-at : goal.decreases-loop-at
decreases-loop-at l = length l.bytes - l.at

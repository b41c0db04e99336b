use Rattle.queue_pump.specs.GoingLaws.{Since}
use Rattle.queue_pump.proofs.turn.Given as goal

abbrev pub invariant-loop-t : goal.invariant-loop-t
invariant-loop-t l = Since l.initial.t l.initial.store l.initial.waits l.initial.marks l.initial.queue l.initial.out l.t l.store l.waits l.marks l.queue l.out

abbrev pub decreases-loop-t : goal.decreases-loop-t
decreases-loop-t l = l.t.left

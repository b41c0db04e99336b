use mathlib.Core.Path.{◌≡◌}
use mathlib.Core.Bool.{true}
use Prim.Native.Nat.{◌≤◌}
use lib.ListN.{length}
use Rattle.connection.specs.Step.{state_of}
use Rattle.conn_step.specs.Answer.{told_number, told_event}
use Rattle.call_step.proofs.BesideLaws.{Beside}
use Rattle.call_step.specs.Next.{steps_by, reached}
use Rattle.call_step.proofs.RoundLaws.{Due, ahead, conn_of}
use Rattle.call_step.proofs.steps.Given as goal

abbrev pub invariant-loop-due : goal.invariant-loop-due
invariant-loop-due l = (l.used ≤ length l.piece)
    × (length l.store ≡ length l.initial.store)
    × (l.due ≡ true → Due (conn_of l.t l.f l.open) l.store l.used (length l.piece))
    × (steps_by l.on (state_of (conn_of l.initial.t l.initial.f l.initial.open) l.initial.gathered) l.initial.store l.piece
    ≡ reached l.on l.due (told_number l.result) (told_event l.result) l.used (state_of (conn_of l.t l.f l.open) l.gathered) l.store l.piece)
    × Beside l.initial.open l.initial.t.occupied l.initial.waits l.waits l.open

abbrev pub decreases-loop-due : goal.decreases-loop-due
decreases-loop-due l = ahead l.due l.used (length l.piece)

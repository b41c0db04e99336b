use Rattle.std.proofs.Common.{◌≤◌, length, [], sym}
use mathlib.Core.Path.{subst}
use Rattle.connection.specs.Step.{Stepped}
use Rattle.queue.specs.Calls.{lent}
use Rattle.queue_read.proofs.ReadLaws.{next_inside}
use Rattle.export_queue_next.proofs.EventsReads.read.Goals as goal

pub returns : goal.returns
returns c =
    let a = c.args in
    subst (λ (s : Stepped). s.used ≤ length a.bytes.now) (sym (c.next_event.ensures.0 [] []))
    (next_inside (lent a.conn a.gathered.now a.store.now a.waits.now [] []) a.bytes.now)

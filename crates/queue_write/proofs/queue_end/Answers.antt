use mathlib.Core.Path.{ap, ◌∙◌}
use Rattle.call_admit.specs.Admission.{admitted_by}
use Rattle.queue.specs.declared.answer.Queueing.{Queueing}
use Rattle.queue.specs.Calls.{lent}
use Rattle.queue.specs.Answer.{queued_by}
use Rattle.queue_admit.proofs.AdmissionLaws.{through_at}
use Rattle.queue_write.proofs.Laws.{end_refused, end_checked}
use Rattle.queue_write.proofs.queue_end.Goals as goal

pub returns-in-Err : goal.returns-in-Err
returns-in-Err c =
    λ gathered store queue. let a = c.args in
    ap (λ (w : Queueing). queued_by w gathered store a.waits.now a.marks.now queue) c.refused.ensures
    ∙ end_refused a.c gathered store a.waits.now a.marks.now queue a.id a.output c.in-Err.why c.in-Err.ensures

pub returns-in-Ok : goal.returns-in-Ok
returns-in-Ok c =
    λ gathered store queue. let a = c.args in
    let low = (through_at (lent a.c gathered store a.waits.now a.marks.now queue) a.id c.in-Ok.slot c.in-Ok.ensures.0).low in
    ap (λ (w : Queueing). queued_by w gathered store c.wait_end.new.waits c.wait_end.new.marks queue) c.put_back.ensures
    ∙ end_checked a.c gathered store a.waits.now a.marks.now queue a.id a.output c.in-Ok.slot c.in-Ok.request c.in-Ok.ensures c.ended_on.ensures
    (λ memory. c.wait_end.ensures memory queue low)

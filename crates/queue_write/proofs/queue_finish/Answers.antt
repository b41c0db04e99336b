use Prim.Native.Nat.{ℕ}
use mathlib.Core.Path.{sym, ap, ◌∙◌}
use mathlib.Core.List.{List}
use Rattle.call_admit.specs.Admission.{admitted_by}
use Rattle.queue.specs.declared.answer.Queueing.{Queueing}
use Rattle.queue.specs.Calls.{lent}
use Rattle.queue.specs.Answer.{queued_by}
use Rattle.queue_admit.proofs.AdmissionLaws.{Through, through_at}
use Rattle.queue_write.proofs.Laws.{finish_barred, finish_leaving, finish_waits}
use Rattle.queue_write.proofs.queue_finish.Goals as goal

pub returns-then-is_leaving : goal.returns-then-is_leaving
returns-then-is_leaving c =
    let here : (gathered store queue : List ℕ) → Through (lent c.args.c gathered store c.args.waits.now c.args.marks.now queue) c.args.id c.in-Ok.slot =
    λ gathered store queue. let a = c.args in through_at (lent a.c gathered store a.waits.now a.marks.now queue) a.id c.in-Ok.slot c.in-Ok.ensures in
    λ gathered store queue. let a = c.args in
    ap (λ (w : Queueing). queued_by w gathered store a.waits.now a.marks.now queue) c.refused-then-is_leaving.ensures
    ∙ finish_leaving a.c gathered store a.waits.now a.marks.now queue a.id a.app_status (here gathered store queue) (sym c.is_leaving.ensures ∙ c.if-is_leaving.true)

pub returns-in-Err : goal.returns-in-Err
returns-in-Err c =
    λ gathered store queue. let a = c.args in
    ap (λ (w : Queueing). queued_by w gathered store a.waits.now a.marks.now queue) c.refused.ensures
    ∙ finish_barred a.c gathered store a.waits.now a.marks.now queue a.id a.app_status c.in-Err.why c.in-Err.ensures

pub returns-else-is_leaving : goal.returns-else-is_leaving
returns-else-is_leaving c =
    let here : (gathered store queue : List ℕ) → Through (lent c.args.c gathered store c.args.waits.now c.args.marks.now queue) c.args.id c.in-Ok.slot =
    λ gathered store queue. let a = c.args in through_at (lent a.c gathered store a.waits.now a.marks.now queue) a.id c.in-Ok.slot c.in-Ok.ensures in
    λ gathered store queue. let a = c.args in
    ap (λ (w : Queueing). queued_by w gathered store c.wait_finish.new.waits c.wait_finish.new.marks queue) c.put_back.ensures
    ∙ finish_waits a.c gathered store a.waits.now a.marks.now queue a.id a.app_status (here gathered store queue) (sym c.is_leaving.ensures ∙ c.if-is_leaving.false)
    c.request_at-request.ensures c.spent_by.ensures c.skip_rest.ensures
    (λ memory. c.wait_finish.ensures memory queue c.request_at-request.result.state (here gathered store queue).low (sym c.owes_out.ensures) (sym c.owes_err.ensures))

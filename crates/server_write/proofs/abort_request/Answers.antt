use mathlib.Core.Path.{sym, ap, ◌∙◌}
use Rattle.server.specs.declared.answer.ServerWritten.{ServerWritten}
use Rattle.server.specs.Calls.{Abort}
use Rattle.server.specs.Answer.{written_by}
use Rattle.server_admit.specs.Admission.{admitted_by}
use Rattle.server_write.proofs.Laws.{call_refused, call_through}
use Rattle.server_write.proofs.abort_request.Goals as goal

pub returns-in-Err : goal.returns-in-Err
returns-in-Err c =
    ap (λ (w : ServerWritten). written_by w c.args.out.now) c.refused.ensures
    ∙ call_refused c.args.c c.args.id Abort c.args.out.now c.in-Err.why (ap admitted_by (sym c.in-Err.is) ∙ c.admit.ensures)

pub returns-in-Ok : goal.returns-in-Ok
returns-in-Ok c =
    ap (λ (w : ServerWritten). written_by w c.abort_in.new.out) c.put_back.ensures
    ∙ call_through c.args.c c.args.id Abort c.args.out.now c.abort_in.result c.in-Ok.i (ap admitted_by (sym c.in-Ok.is) ∙ c.admit.ensures)
    c.request_at.ensures c.abort_in.ensures

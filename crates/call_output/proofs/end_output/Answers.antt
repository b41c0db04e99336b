use mathlib.Core.Path.{ap, ◌∙◌}
use Rattle.connection.specs.declared.answer.Written.{Written}
use Rattle.call_output.specs.Answer.{written_by}
use Rattle.call_output.proofs.Laws.{end_refused, end_through}
use Rattle.call_output.proofs.end_output.Goals as goal

pub returns-in-Err : goal.returns-in-Err
returns-in-Err c =
    ap (λ (w : Written). written_by w c.args.out.now) c.refused.ensures
    ∙ end_refused c.args.c c.args.id c.args.output c.args.out.now c.in-Err.why c.in-Err.ensures

pub returns-in-Ok : goal.returns-in-Ok
returns-in-Ok c =
    ap (λ (w : Written). written_by w c.end_in-said.new.out) c.put_back.ensures
    ∙ end_through c.args.c c.args.id c.args.output c.args.out.now c.end_in-said.result c.in-Ok.slot c.in-Ok.ensures
    c.request_at.ensures c.end_in-said.ensures

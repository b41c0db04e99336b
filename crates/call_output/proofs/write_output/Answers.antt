use mathlib.Core.Path.{ap, ◌∙◌}
use Rattle.connection.specs.declared.answer.Written.{Written}
use Rattle.call_output.specs.Answer.{written_by}
use Rattle.call_output.proofs.Laws.{say_refused, say_through}
use Rattle.call_output.proofs.write_output.Goals as goal

pub returns-in-Err : goal.returns-in-Err
returns-in-Err c =
    ap (λ (w : Written). written_by w c.args.out.now) c.refused.ensures
    ∙ say_refused c.args.c c.args.id c.args.output c.args.bytes.now c.args.out.now c.in-Err.why c.in-Err.ensures

pub returns-in-Ok : goal.returns-in-Ok
returns-in-Ok c =
    ap (λ (w : Written). written_by w c.say_in-said.new.out) c.put_back.ensures
    ∙ say_through c.args.c c.args.id c.args.output c.args.bytes.now c.args.out.now c.say_in-said.result c.in-Ok.slot c.in-Ok.ensures
    c.request_at.ensures c.say_in-said.ensures

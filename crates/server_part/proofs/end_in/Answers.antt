use Rattle.std.proofs.Common.{sym, ap, ◌∙◌}
use Rattle.server.specs.Calls.{EndOf}
use Rattle.server_part.specs.declared.Said.{Said}
use Rattle.server_part.specs.Answer.{said_by}
use Rattle.server_part.proofs.Laws.{part_late}
use Rattle.server_part.proofs.end_in.Goals as goal

pub returns-then-out_of_turn : goal.returns-then-out_of_turn
returns-then-out_of_turn c =
    ap (λ (s : Said). said_by s c.args.out.now) c.refused.ensures
    ∙ part_late c.args.r (EndOf c.args.input) c.args.out.now (sym c.out_of_turn.ensures ∙ c.if-out_of_turn.true)

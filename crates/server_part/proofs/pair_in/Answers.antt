use mathlib.Core.Path.{sym, ap, ◌∙◌}
use Rattle.server.specs.Calls.{APair}
use Rattle.server_part.specs.declared.Said.{Said}
use Rattle.server_part.specs.Answer.{said_by}
use Rattle.server_part.proofs.Laws.{part_late, pair_said}
use Rattle.server_part.proofs.pair_in.Goals as goal

pub returns-then-out_of_turn : goal.returns-then-out_of_turn
returns-then-out_of_turn c =
    ap (λ (s : Said). said_by s c.args.out.now) c.refused.ensures
    ∙ part_late c.args.r (APair c.args.name.now c.args.value.now) c.args.out.now (sym c.out_of_turn.ensures ∙ c.if-out_of_turn.true)

pub returns : goal.returns
returns c = pair_said c.args.r c.args.name.now c.args.value.now c.args.out.now c.write_pair_stream-wrote.result (sym c.out_of_turn.ensures ∙ c.if-out_of_turn.false) c.write_pair_stream-wrote.ensures c.wrote_of.ensures

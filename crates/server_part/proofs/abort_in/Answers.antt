use Rattle.std.proofs.Common.{◌≡◌, true, ap, ◌∙◌}
use Rattle.server.specs.Calls.{Abort}
use Rattle.server_part.specs.declared.Said.{Said}
use Rattle.server_part.specs.Answer.{said_by, late}
use Rattle.server_part.proofs.Laws.{part_late}
use Rattle.server_part.proofs.abort_in.Goals as goal

pub returns-then-is_spent : goal.returns-then-is_spent
returns-then-is_spent c =
    let is-late : late c.args.r Abort ≡ true = simp (← c.is_spent.ensures, c.if-is_spent.true) in
    ap (λ (s : Said). said_by s c.args.out.now) c.refused.ensures ∙ part_late c.args.r Abort c.args.out.now is-late

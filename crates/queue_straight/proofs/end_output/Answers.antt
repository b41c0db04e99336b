use mathlib.Core.Path.{◌∙◌}
use Rattle.queue_straight.proofs.StraightLaws.{end_refused, end_passed}
use Rattle.queue_straight.proofs.end_output.Goals as goal

pub returns-in-Err : goal.returns-in-Err
returns-in-Err c =
    λ gathered store marks queue. rw c.refused.ensures
    (end_refused c.args.c c.args.waits.now c.args.id c.args.output c.straight_check.result c.args.out.now gathered store marks queue
    (rw (← c.record_fits-fits.ensures) c.straight_check.ensures) _ c.in-Err.is)

pub returns-in-Ok : goal.returns-in-Ok
returns-in-Ok c =
    λ gathered store marks queue. c.end_output.ensures
    ∙ end_passed c.args.c c.args.waits.now c.args.id c.args.output c.straight_check.result c.args.out.now gathered store marks queue
    (rw (← c.record_fits-fits.ensures) c.straight_check.ensures) c.in-Ok.is

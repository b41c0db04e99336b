use mathlib.Core.Path.{◌∙◌}
use Rattle.queue_straight.proofs.StraightLaws.{say_refused, say_passed}
use Rattle.queue_straight.proofs.write_output.Goals as goal

pub returns-in-Err : goal.returns-in-Err
returns-in-Err c =
    λ gathered store marks queue. rw c.refused.ensures
    (say_refused c.args.c c.args.waits.now c.args.id c.args.output c.straight_check.result c.args.out.now gathered store marks queue c.args.bytes.now
    (rw (← c.stream_fits-fits.ensures) c.straight_check.ensures) _ c.in-Err.is)

pub returns-in-Ok : goal.returns-in-Ok
returns-in-Ok c =
    λ gathered store marks queue. c.write_output.ensures
    ∙ say_passed c.args.c c.args.waits.now c.args.id c.args.output c.straight_check.result c.args.out.now gathered store marks queue c.args.bytes.now
    (rw (← c.stream_fits-fits.ensures) c.straight_check.ensures) c.in-Ok.is

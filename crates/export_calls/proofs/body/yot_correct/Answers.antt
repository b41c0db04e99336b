use mathlib.Core.Path.{ap, ◌∙◌}
use mir.ValLaws.{to_z-of_z}
use mir.Syntax.{w32}
use Rattle.flat_reading.specs.Answers.{flatCorrected}
use Rattle.export_calls.specs.Body.{exported_correct}
use Rattle.export_calls.proofs.body.yot_correct.Goals as goal

pub returns : goal.returns
unfolding exported_correct
returns c =
    let tenths = to_z-of_z w32 c.args.tenths c.ranges.tenths in
    c.flat_corrected.ensures ∙ ap flatCorrected c.correct.ensures
    ∙ simp (c.calibration_of-calibration.ensures, tenths)

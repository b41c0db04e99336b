use mathlib.Core.Path.{◌∙◌}
use mathlib.Core.Bool.{false}
use Rattle.wait_numbers.proofs.FitLaws.{nobody_fits}
use Rattle.call_step.proofs.BesideLaws.{beside_fits}
use Rattle.call_step.proofs.step.Goals as goal

pub returns : goal.returns
returns c = c.steps.ensures.0 ∙ beside_fits _ false _ _ _ (nobody_fits _)

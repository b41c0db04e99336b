use mathlib.Core.Path.{sym}
use Rattle.call_step.proofs.both_fit.Goals as goal

pub returns-then-waits_fit : goal.returns-then-waits_fit
returns-then-waits_fit c = simp (sym c.waits_fit.ensures, c.if-waits_fit.true) c.in_shape.ensures

pub returns-else-waits_fit : goal.returns-else-waits_fit
returns-else-waits_fit c = simp (sym c.waits_fit.ensures, c.if-waits_fit.false)

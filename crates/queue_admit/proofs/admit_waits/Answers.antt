use mathlib.Core.Path.{sym, ◌∙◌}
use Rattle.queue_admit.specs.Admission.{queue_admission}
use Rattle.queue_admit.proofs.admit_waits.Goals as goal

pub returns-then-not-waits_fit : goal.returns-then-not-waits_fit
unfolding queue_admission
returns-then-not-waits_fit c = simp (sym c.waits_fit.ensures ∙ c.if-not-waits_fit.true)

pub returns : goal.returns
unfolding queue_admission
returns c = simp (sym c.waits_fit.ensures ∙ c.if-not-waits_fit.false) c.admit.ensures

use mathlib.Core.Path.{refl}
use Rattle.wait_slot.proofs.end_if.Goals as goal

pub returns-then-owed : goal.returns-then-owed
returns-then-owed c = simp c.if-owed.true c.end_after.ensures

pub returns : goal.returns
returns c = simp c.if-owed.false (refl, refl)

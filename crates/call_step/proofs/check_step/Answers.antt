use Rattle.std.proofs.Common.{eq-eqb, ne_eqb}
use Rattle.call_step.specs.Check.{checked_step}
use Rattle.call_step.proofs.check_step.Goals as goal

pub returns-then-size-ne-STORE : goal.returns-then-size-ne-STORE
unfolding checked_step
returns-then-size-ne-STORE c = simp (ne_eqb _ _ c.if-size-ne-STORE.true)

pub returns-then-not-fits : goal.returns-then-not-fits
unfolding checked_step
returns-then-not-fits c = simp (eq-eqb _ _ c.if-size-ne-STORE.false, c.if-not-fits.true)

pub returns-then-not-open : goal.returns-then-not-open
unfolding checked_step
returns-then-not-open c = simp (eq-eqb _ _ c.if-size-ne-STORE.false, c.if-not-fits.false, c.if-not-open.true)

pub returns-then-bytes-eq0 : goal.returns-then-bytes-eq0
unfolding checked_step
returns-then-bytes-eq0 c = simp (eq-eqb _ _ c.if-size-ne-STORE.false, c.if-not-fits.false, c.if-not-open.false, eq-eqb _ _ c.if-bytes-eq0.true)

pub returns : goal.returns
unfolding checked_step
returns c = simp (eq-eqb _ _ c.if-size-ne-STORE.false, c.if-not-fits.false, c.if-not-open.false, ne_eqb _ _ c.if-bytes-eq0.false)

use borrow.Author.Tests.{eq-eqb, ne_eqb}
use Rattle.queue_admit.specs.Admission.{queue_lent_admission}
use Rattle.queue_admit.proofs.admit_lent_waits.Goals as goal

pub returns-then-store-ne-STORE : goal.returns-then-store-ne-STORE
unfolding queue_lent_admission
returns-then-store-ne-STORE c = simp (ne_eqb _ _ c.if-store-ne-STORE.true)

pub returns : goal.returns
unfolding queue_lent_admission
returns c = simp (eq-eqb _ _ c.if-store-ne-STORE.false) c.admit_waits.ensures

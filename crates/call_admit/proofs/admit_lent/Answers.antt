use mathlib.Core.Path.{◌∙◌}
use borrow.Author.Tests.{eq-eqb, ne_eqb}
use Rattle.connection.specs.Calls.{call_refusal, lent_refusal}
use Rattle.call_admit.specs.Admission.{call_admission, lent_admission}
use Rattle.call_admit.proofs.admit_lent.Goals as goal

pub returns-then-store-ne-STORE : goal.returns-then-store-ne-STORE
unfolding lent_admission lent_refusal
returns-then-store-ne-STORE c = simp (ne_eqb _ _ c.if-store-ne-STORE.true)

pub returns : goal.returns
unfolding call_admission lent_admission call_refusal lent_refusal
returns c = c.admit.ensures ∙ simp (eq-eqb _ _ c.if-store-ne-STORE.false)

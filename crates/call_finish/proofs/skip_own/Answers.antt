use mathlib.Core.Path.{sym, ◌∙◌}
use borrow.Author.Tests.{eq-eqb, ne_eqb}
use Rattle.call_finish.proofs.skip_own.Goals as goal

pub returns-then-from-i : goal.returns-then-from-i
returns-then-from-i c = simp (eq-eqb _ _ (sym c.from.ensures ∙ c.if-from-i.true))

pub returns-else-from-i : goal.returns-else-from-i
returns-else-from-i c = simp (ne_eqb _ _ (λ e. c.if-from-i.false (c.from.ensures ∙ e)))

use borrow.Author.Tests.{eq-eqb, ne_eqb}
use Rattle.server_content.proofs.of_unknown.Goals as goal

pub returns-then-left-eq0 : goal.returns-then-left-eq0
returns-then-left-eq0 c = λ t values. simp (c.done_with.ensures, c.read_unknown_type-kind.ensures, eq-eqb _ _ c.if-left-eq0.true, ← c.body_with-body.ensures)

pub returns : goal.returns
returns c = λ t values. simp (c.gathering.ensures, ne_eqb _ _ c.if-left-eq0.false, ← c.body_with-body.ensures)

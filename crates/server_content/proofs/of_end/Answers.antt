use borrow.Author.Tests.{eq-eqb, ne_eqb}
use Rattle.server_content.proofs.of_end.Goals as goal

pub returns-then-left-eq0 : goal.returns-then-left-eq0
returns-then-left-eq0 c = λ t values e. simp (c.done_with.ensures, c.finished-event.ensures, c.read_end_body.ensures, eq-eqb _ _ c.if-left-eq0.true, ← c.body_with-body.ensures, e)

pub returns : goal.returns
returns c = λ t values e. simp (c.gathering.ensures, ne_eqb _ _ c.if-left-eq0.false, ← c.body_with-body.ensures)

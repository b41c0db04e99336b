use borrow.Author.Tests.{eq-eqb, ne_eqb}
use Rattle.connection.specs.Step.{started}
use Rattle.call_start.proofs.start.Goals as goal

pub returns-then-store-ne-STORE : goal.returns-then-store-ne-STORE
unfolding started
returns-then-store-ne-STORE c = simp (ne_eqb _ _ c.if-store-ne-STORE.true, c.closed.ensures)

pub returns : goal.returns
unfolding started
returns c = simp (eq-eqb _ _ c.if-store-ne-STORE.false, c.no_frame.ensures, c.no_requests.ensures, c.clear.ensures, c.clear-2.ensures)

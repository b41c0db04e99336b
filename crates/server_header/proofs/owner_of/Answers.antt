use borrow.Author.Tests.{eq-eqb, ne_eqb}
use Rattle.server_header.specs.Rows.{owner_in}
use Rattle.server_header.proofs.owner_of.Goals as goal

pub returns-then-id-eq0 : goal.returns-then-id-eq0
unfolding owner_in
returns-then-id-eq0 c = simp (← c.is_management.ensures, c.if-is_management.true, eq-eqb _ _ c.if-id-eq0.true)

pub returns-then-is_management : goal.returns-then-is_management
unfolding owner_in
returns-then-is_management c = simp (← c.is_management.ensures, c.if-is_management.true, ne_eqb _ _ c.if-id-eq0.false)

pub returns-in-Some : goal.returns-in-Some
unfolding owner_in
returns-in-Some c = simp (← c.is_management.ensures, c.if-is_management.false, ← c.find_from.ensures, c.in-Some.is)

pub returns-in-None : goal.returns-in-None
unfolding owner_in
returns-in-None c = simp (← c.is_management.ensures, c.if-is_management.false, ← c.find_from.ensures, c.in-None.is)

use borrow.Author.Tests.{eq-eqb, ne_eqb}
use Rattle.server_header.specs.Rows.{output_row}
use Rattle.server_header.proofs.output_row.Goals as goal

pub returns-then-ended : goal.returns-then-ended
unfolding output_row
returns-then-ended c = simp c.if-ended.true

pub returns-then-bytes-eq0 : goal.returns-then-bytes-eq0
unfolding output_row
returns-then-bytes-eq0 c = simp (c.if-ended.false, eq-eqb _ _ c.if-bytes-eq0.true)

pub returns : goal.returns
unfolding output_row
returns c = simp (c.if-ended.false, ne_eqb _ _ c.if-bytes-eq0.false)

use mathlib.Core.Path.{◌∙◌}
use borrow.Author.Tests.{lt-leb, lt-ltb, le-ltb}
use Rattle.record_reader.specs.Position.{in_header}
use Rattle.record_reader.proofs.PositionLaws.{held_copied}
use borrow.Author.Rules.{rules}
use Rattle.record_reader.proofs.in_header.Goals as goal

pub returns-then-now_held-lt8 : goal.returns-then-now_held-lt8
unfolding in_header
returns-then-now_held-lt8 c =
    let a = c.args in
    let e = c.least-used.ensures in
    let p = c.copy_into.ensures ∙ held_copied a.held a.header a.piece.now c.least-used.result (search rules) c.if-held-ge8.false e in
    simp (lt-leb _ _ c.if-held-ge8.false, ← e, lt-ltb _ _ c.if-now_held-lt8.true, p, c.between-then-now_held-lt8.ensures)

pub returns : goal.returns
unfolding in_header
returns c =
    let a = c.args in
    let e = c.least-used.ensures in
    let p = c.copy_into.ensures ∙ held_copied a.held a.header a.piece.now c.least-used.result (search rules) c.if-held-ge8.false e in
    simp (lt-leb _ _ c.if-held-ge8.false, ← e, le-ltb _ _ c.if-now_held-lt8.false, ← p, c.read_header-whole.ensures, c.between-2.ensures)

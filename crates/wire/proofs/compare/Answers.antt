use mathlib.Core.Path.{◌≡◌, sym, ◌∙◌}
use native.Mathlib.Omega.{arith}
use lib.ListN.{length}
use Rattle.wire.proofs.CompareLaws.{compared_long, compared_start, compared_next, compared_differs, compared_end}
use Rattle.wire.proofs.compare.Goals as goal

pub returns-then-a-b : goal.returns-then-a-b
returns-then-a-b c =
    let a = c.args in
    sym (compared_long a.a.now a.b.now c.if-a-b.true)

pub loop-i-init : goal.loop-i-init
loop-i-init c =
    let a = c.args in
    (c.if-a-b.false, compared_start a.a.now a.b.now c.if-a-b.false)

pub returns-then-a-i : goal.returns-then-a-i
returns-then-a-i c =
    let a = c.args in
    sym (c.loop-i.invariant.1 ∙ compared_differs a.a.now a.b.now c.loop-i.i (omega arith) (omega arith) c.if-a-i.true)

pub loop-i-preserved : goal.loop-i-preserved
loop-i-preserved c =
    let a = c.args in
    (c.loop-i.invariant.0, c.loop-i.invariant.1 ∙ compared_next a.a.now a.b.now c.loop-i.i (omega arith) (omega arith) c.if-a-i.false)

pub returns : goal.returns
returns c =
    let a = c.args in
    let all : c.loop-i.i ≡ length a.a.now = omega arith in
    sym (c.loop-i.invariant.1 ∙ rw all (compared_end a.a.now a.b.now (length a.a.now) (omega arith) (omega arith)))

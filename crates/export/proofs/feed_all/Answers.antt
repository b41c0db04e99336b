use mathlib.Core.Path.{refl, sym, ap, ◌∙◌}
use Prim.Native.Nat.{◌+◌}
use native.Mathlib.Omega.{arith}
use Rattle.conn_step.specs.Answer.{stepped_by}
use Rattle.connection.specs.Step.{state_of}
use Rattle.export.proofs.Laws.{rest_of, from_start, at_end, turn}
use Rattle.export.proofs.feed_all.Goals as goal

pub loop-at-init : goal.loop-at-init
loop-at-init c = (omega arith, omega arith, omega arith, refl, from_start (state_of c.args.c c.args.gathered.now) c.args.store.now c.args.input.now c.args.piece)

pub next_end-end-requires : goal.next_end-end-requires
next_end-end-requires c = (c.loop-at.invariant.0, c.loop-at.invariant.1)

pub slice_bounds-step-count : goal.slice_bounds-step-count
slice_bounds-step-count c = omega (arith, c.next_end-end.ensures)

pub slice_bounds-step-start : goal.slice_bounds-step-start
slice_bounds-step-start c = omega (arith, c.next_end-end.ensures)

pub slice_bounds-step-end : goal.slice_bounds-step-end
slice_bounds-step-end c = omega (arith, c.next_end-end.ensures)

pub returns-then-stepped-eq0 : goal.returns-then-stepped-eq0
returns-then-stepped-eq0 c =
    let l = c.loop-at in
    let e = c.next_end-end in
    let s = stepped_by c.step-stepped.result c.step-stepped.new.gathered c.step-stepped.new.store in
    let turned = turn (state_of l.conn l.gathered) l.store c.args.input.now c.args.piece l.at l.end l.sum e.result s c.loop-at-test.true e.ensures.1 e.ensures.0 c.step-stepped.ensures in
    sym (c.loop-at.invariant.4 ∙ turned.halted c.if-stepped-eq0.true)

pub mix-sum-requires : goal.mix-sum-requires
mix-sum-requires c = c.loop-at.invariant.2

pub overflow_add-at : goal.overflow_add-at
overflow_add-at c =
    let l = c.loop-at in
    let e = c.next_end-end in
    let s = stepped_by c.step-stepped.result c.step-stepped.new.gathered c.step-stepped.new.store in
    let turned = turn (state_of l.conn l.gathered) l.store c.args.input.now c.args.piece l.at l.end l.sum e.result s c.loop-at-test.true e.ensures.1 e.ensures.0 c.step-stepped.ensures in
    omega (arith, turned.inside, c.next_end-end.ensures)

pub loop-at-smaller : goal.loop-at-smaller
loop-at-smaller c =
    let l = c.loop-at in
    let e = c.next_end-end in
    let s = stepped_by c.step-stepped.result c.step-stepped.new.gathered c.step-stepped.new.store in
    let turned = turn (state_of l.conn l.gathered) l.store c.args.input.now c.args.piece l.at l.end l.sum e.result s c.loop-at-test.true e.ensures.1 e.ensures.0 c.step-stepped.ensures in
    omega (arith, turned.inside, c.next_end-end.ensures, c.if-stepped-eq0.false)

pub loop-at-preserved : goal.loop-at-preserved
loop-at-preserved c =
    let l = c.loop-at in
    let e = c.next_end-end in
    let s = stepped_by c.step-stepped.result c.step-stepped.new.gathered c.step-stepped.new.store in
    let turned = turn (state_of l.conn l.gathered) l.store c.args.input.now c.args.piece l.at l.end l.sum e.result s c.loop-at-test.true e.ensures.1 e.ensures.0 c.step-stepped.ensures in
    (omega (arith, turned.inside, c.next_end-end.ensures), c.next_end-end.ensures.2, c.mix-sum.ensures.1, omega arith, c.loop-at.invariant.4 ∙ turned.onward c.if-stepped-eq0.false ∙ ap (rest_of (state_of c.step-stepped.result.conn c.step-stepped.new.gathered) c.step-stepped.new.store c.args.input.now c.args.piece (c.loop-at.at + c.step-stepped.result.used) c.next_end-end.result) (sym c.mix-sum.ensures.0))

pub returns : goal.returns
returns c = sym (c.loop-at.invariant.4 ∙ at_end (state_of c.loop-at.conn c.loop-at.gathered) c.loop-at.store c.args.input.now c.args.piece c.loop-at.at c.loop-at.end c.loop-at.sum c.loop-at-test.false)

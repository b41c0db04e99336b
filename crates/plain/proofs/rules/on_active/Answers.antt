use Prim.Native.Nat.{◌+◌, ◌-◌, ◌*◌}
use mathlib.Core.Path.{◌≡◌, ◌∙◌}
use native.Mathlib.Omega.{arith}
use lib.ListN.{length, take}
use lib.Seq.{length-take-le}
use Rattle.wire.proofs.BufferLaws.{copied_room}
use Rattle.plain.specs.Code.{entry_at}
use Rattle.plain.proofs.RuleLaws.{own_live, active_spent, active_live}
use Rattle.plain.proofs.rules.on_active.Goals as goal

pub returns-then-e : goal.returns-then-e
returns-then-e c =
    rw c.comes_to.ensures
    (active_spent c.args.table c.requires.0 c.args.store.now c.args.x.now c.requires.1 c.args.i c.requires.2 c.args.kind c.args.n
    c.if-e.true)

pub slice_bounds-on_live-end : goal.slice_bounds-on_live-end
slice_bounds-on_live-end c =
    let each = c.requires.0.each c.args.i (omega (arith, c.requires.0.taken)) in
    omega (arith, each, c.requires.0.taken)

pub on_live-change-requires : goal.on_live-change-requires
on_live-change-requires c =
    let e = entry_at c.args.table c.args.i in
    let z : c.args.i * 4096 + e.length - c.args.i * 4096 ≡ e.length = omega arith in
    let live = own_live c.args.table c.requires.0 c.args.store.now c.args.x.now c.requires.1 c.args.i c.requires.2
    c.if-e.false in
    (rw z live, c.requires.3)

pub returns : goal.returns
returns c =
    let e = entry_at c.args.table c.args.i in
    let here = c.args.i * 4096 + e.length in
    let z : here - c.args.i * 4096 ≡ e.length = omega arith in
    let b = rw z at c.on_live-change.ensures in
    let y : length (take c.on_live-change.result.kept c.args.x.now) ≡ c.on_live-change.result.kept = length-take-le c.on_live-change.result.kept c.args.x.now b.kept in
    let room = copied_room c.args.store.now here (take c.on_live-change.result.kept c.args.x.now) (omega (arith, y, b.low, c.requires.0.taken)) in
    rw (c.comes_to-2.ensures, c.with_entry.ensures, c.copy_into.ensures ∙ room)
    (active_live c.args.table c.requires.0 c.args.store.now c.args.x.now c.requires.1 c.args.i c.requires.2 c.args.kind c.args.n c.on_live-change.result c.if-e.false b)

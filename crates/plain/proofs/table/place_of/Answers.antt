use Prim.Native.Nat.{ℕ, suc, ◌+◌, ◌≤◌}
use mathlib.Core.Path.{◌≡◌, ap, ◌∙◌}
use native.Mathlib.Omega.{arith}
use lib.ListN.{length}
use borrow.Author.Rules.{rules}
use Rattle.plain.proofs.TableLaws.{place_here, place_next, place_end}
use Rattle.plain.proofs.table.place_of.Goals as goal

pub loop-i-init : goal.loop-i-init
loop-i-init c = λ store. omega arith

pub returns-then-table-i : goal.returns-then-table-i
returns-then-table-i c =
    λ store.
    let n : length c.args.table.entries ≡ 16 = search rules in
    let few : c.args.table.count ≤ length c.args.table.entries = omega (arith, c.requires) in
    let here = place_here c.args.table store few c.args.id c.loop-i.i (omega arith) c.if-table-i.true in
    omega (arith, c.loop-i.invariant store, here)

pub loop-i-preserved : goal.loop-i-preserved
loop-i-preserved c =
    let n : length c.args.table.entries ≡ 16 = search rules in
    let few : c.args.table.count ≤ length c.args.table.entries = omega (arith, c.requires) in
    let y : c.loop-i.i + 1 ≡ suc c.loop-i.i = omega arith in
    λ store.
    let next = place_next c.args.table store few c.args.id c.loop-i.i (omega arith) c.if-table-i.false in
    c.loop-i.invariant store ∙ ap (λ (m : ℕ). c.loop-i.i + m) next ∙ rw y (omega arith)

pub returns : goal.returns
returns c =
    λ store.
    let n : length c.args.table.entries ≡ 16 = search rules in
    let few : c.args.table.count ≤ length c.args.table.entries = omega (arith, c.requires) in
    let past = place_end c.args.table store few c.args.id c.loop-i.i (omega arith) in
    omega (arith, c.loop-i.invariant store, past)

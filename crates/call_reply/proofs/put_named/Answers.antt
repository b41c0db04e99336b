use mathlib.Core.Path.{sym, ap, ◌∙◌}
use native.Mathlib.Omega.{arith}
use native.Mathlib.Nat.{add-zero}
use Prim.Native.Nat.{ℕ, ◌+◌}
use Rattle.wire.proofs.BufferLaws.{put_none}
use Rattle.pairs.specs.Pair.{pair_bytes}
use Rattle.call_reply.proofs.Laws.{PairPut, pair_put}
use Rattle.call_reply.proofs.put_named.Goals as goal

pub overflow_add-result : goal.overflow_add-result
overflow_add-result c =
    let asked-put : PairPut c.write_pair.result c.args.list.now c.write_pair.new.out c.args.at (pair_bytes c.args.name.now c.args.value.now) =
    let a = c.args in
    pair_put c.write_pair.result a.list.now c.write_pair.new.out a.at a.name.now a.value.now c.requires.0 c.requires.1 c.requires.2 c.write_pair.ensures in
    omega (arith, asked-put, c.count_of.ensures)

pub returns-then-asked : goal.returns-then-asked
returns-then-asked c =
    let asked-put : PairPut c.write_pair.result c.args.list.now c.write_pair.new.out c.args.at (pair_bytes c.args.name.now c.args.value.now) =
    let a = c.args in
    pair_put c.write_pair.result a.list.now c.write_pair.new.out a.at a.name.now a.value.now c.requires.0 c.requires.1 c.requires.2 c.write_pair.ensures in
    simp c.if-asked.true (ap (λ (n : ℕ). c.args.at + n) (c.count_of.ensures ∙ (asked-put).count), (asked-put).put)

pub returns-else-asked : goal.returns-else-asked
returns-else-asked c =
    let a = c.args in
    simp c.if-asked.false (sym (add-zero a.at), sym (put_none a.list.now a.at))

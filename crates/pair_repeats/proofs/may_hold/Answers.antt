use mathlib.Core.Path.{◌≡◌, sym, ◌∙◌}
use native.Mathlib.Omega.{arith}
use borrow.Author.Tests.{eq-eqb, ne_eqb, lt-ltb, le-ltb}
use lib.ListN.{length, take, drop}
use Rattle.pair_repeats.specs.Keys.{holds, may_hold}
use Rattle.pair_repeats.proofs.KeysLaws.{held_step, held_end}
use Rattle.pair_repeats.proofs.may_hold.Goals as goal

pub returns-then-keys-n : goal.returns-then-keys-n
unfolding may_hold
returns-then-keys-n c =
    let a = c.args in
    simp (lt-ltb (length a.keys.now) a.n c.if-keys-n.true)

pub returns-then-keys-i : goal.returns-then-keys-i
unfolding may_hold
returns-then-keys-i c =
    let within : may_hold c.args.keys.now c.args.from c.args.n c.args.key ≡ holds (drop c.args.from (take c.args.n c.args.keys.now)) c.args.key =
    let a = c.args in simp (le-ltb (length a.keys.now) a.n c.if-keys-n.false) in
    let a = c.args in
    sym (within ∙ c.loop-i.invariant ∙ held_step a.keys.now a.n a.key c.loop-i.i (omega arith) (omega arith) ∙ simp (eq-eqb _ _ c.if-keys-i.true))

pub loop-i-preserved : goal.loop-i-preserved
loop-i-preserved c =
    let a = c.args in
    c.loop-i.invariant ∙ held_step a.keys.now a.n a.key c.loop-i.i (omega arith) (omega arith) ∙ simp (ne_eqb _ _ c.if-keys-i.false)

pub returns : goal.returns
unfolding may_hold
returns c =
    let within : may_hold c.args.keys.now c.args.from c.args.n c.args.key ≡ holds (drop c.args.from (take c.args.n c.args.keys.now)) c.args.key =
    let a = c.args in simp (le-ltb (length a.keys.now) a.n c.if-keys-n.false) in
    let a = c.args in
    sym (within ∙ c.loop-i.invariant ∙ held_end a.keys.now a.n a.key c.loop-i.i (omega arith) (omega arith))

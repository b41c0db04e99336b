use Rattle.std.proofs.Common.{◌≡◌, ℕ, suc, ◌+◌, ◌<◌, List, length, drop, get_or, arith, drop-cons, eq-eqb, ne_eqb}
use Rattle.std.proofs.Math.Seq.{drop-length}
use Rattle.station_cards.specs.Cards.{index_of}
use Rattle.station_cards.proofs.find.Goals as goal

-- the byte at place i is it
here : (b : ℕ) (xs : List ℕ) (i : ℕ) → i < length xs → get_or xs i 0 ≡ b → index_of b (drop i xs) ≡ 0
unfolding index_of
here b xs i h e = rw (drop-cons xs i 0) (simp (eq-eqb _ _ e))

-- it is not
next : (b : ℕ) (xs : List ℕ) (i : ℕ) → i < length xs → (get_or xs i 0 ≡ b → ⊥) → index_of b (drop i xs) ≡ suc (index_of b (drop (suc i) xs))
unfolding index_of
next b xs i h n = rw (drop-cons xs i 0) (simp (ne_eqb _ _ n))

-- there is no byte left
past : (b : ℕ) (xs : List ℕ) (i : ℕ) → i ≡ length xs → index_of b (drop i xs) ≡ 0
unfolding index_of
past b xs i e = rw (e, drop-length xs)

pub returns-then-own-byte-clause-place : goal.returns-then-own-byte-clause-place
returns-then-own-byte-clause-place c =
    let h = here c.args.byte c.args.text.now c.loop-i.i (omega arith) c.if-own-byte.true in
    omega (arith, c.loop-i.invariant, h)

pub loop-i-preserved : goal.loop-i-preserved
loop-i-preserved c =
    let h = next c.args.byte c.args.text.now c.loop-i.i (omega arith) c.if-own-byte.false in
    let one : c.loop-i.i + 1 ≡ suc c.loop-i.i = omega arith in
    rw one (omega (arith, c.loop-i.invariant, h))

pub returns-clause-place : goal.returns-clause-place
returns-clause-place c =
    let h = past c.args.byte c.args.text.now c.loop-i.i (omega arith) in
    omega (arith, c.loop-i.invariant, h)

use mathlib.Core.Path.{ap, sym, ◌∙◌}
use Prim.Native.Nat.{ℕ, ◌/◌, ◌^◌}
use lib.Dec.{eqb}
use borrow.Author.Tests.{le-ltb}
use lib.Bits.{and_mask}
use Rattle.slot_word.proofs.WordLaws.{taken_is, taken_out}
use Rattle.slot_word.proofs.is_taken.Goals as goal

pub returns-then-i-lt16 : goal.returns-then-i-lt16
returns-then-i-lt16 c =
    let a = c.args in
    ap (λ (n : ℕ). eqb n 1) (and_mask (a.occupied / 2 ^ a.i) 1) ∙ sym (taken_is a.i a.occupied)

pub returns-else-i-lt16 : goal.returns-else-i-lt16
returns-else-i-lt16 c =
    let a = c.args in
    le-ltb _ _ c.if-i-lt16.false ∙ sym (taken_out 16 a.i a.occupied c.ranges.occupied.fits c.if-i-lt16.false)

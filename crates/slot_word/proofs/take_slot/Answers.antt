use Prim.Native.Nat.{◌^◌, ◌<◌}
use native.Mathlib.Nat.{one-mul, mod-eq_of_lt}
use lib.Pow.{pow-lt}
use borrow.Author.Tests.{lt-ltb, le-ltb}
use Rattle.slot_word.specs.Word.{with_slot}
use Rattle.slot_word.proofs.WordLaws.{or_bit}
use Rattle.slot_word.proofs.take_slot.Goals as goal

pub returns-then-i-lt16 : goal.returns-then-i-lt16
unfolding with_slot
returns-then-i-lt16 c =
    let a = c.args in
    let fit : 2 ^ a.i < 65536 = pow-lt c.if-i-lt16.true in
    simp (lt-ltb _ _ c.if-i-lt16.true, one-mul, mod-eq_of_lt fit) (or_bit a.i a.occupied)

pub returns-else-i-lt16 : goal.returns-else-i-lt16
unfolding with_slot
returns-else-i-lt16 c = simp (le-ltb _ _ c.if-i-lt16.false)

use Prim.Native.Nat.{◌^◌, ◌<◌}
use native.Mathlib.Nat.{one-mul, mod-eq_of_lt}
use lib.Pow.{pow-lt}
use borrow.Author.Tests.{lt-ltb, le-ltb}
use Rattle.slot_word.specs.Word.{without_slot}
use Rattle.slot_word.proofs.WordLaws.{and_bit}
use Rattle.slot_word.proofs.free_slot.Goals as goal

pub returns-then-i-lt16 : goal.returns-then-i-lt16
unfolding without_slot
returns-then-i-lt16 c =
    let a = c.args in
    let fit : 2 ^ a.i < 65536 = pow-lt c.if-i-lt16.true in
    simp (lt-ltb _ _ c.if-i-lt16.true, one-mul, mod-eq_of_lt fit) (and_bit 16 a.i a.occupied c.if-i-lt16.true c.ranges.occupied.fits)

pub returns-else-i-lt16 : goal.returns-else-i-lt16
unfolding without_slot
returns-else-i-lt16 c = simp (le-ltb _ _ c.if-i-lt16.false)

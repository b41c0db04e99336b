use mathlib.Core.Path.{sym}
use borrow.Author.Tests.{eq-eqb, ne_eqb}
use Rattle.queue_slot.specs.Wait.{wait_end}
use Rattle.wait_slot.proofs.RoomLaws.{room_same}
use Rattle.wait_slot.proofs.end_after.Goals as goal

pub returns-then-count-eq0 : goal.returns-then-count-eq0
unfolding wait_end
returns-then-count-eq0 c =
    λ bytes.
    (simp (eq-eqb _ _ c.if-count-eq0.true, c.with_end.ensures), simp (eq-eqb _ _ c.if-count-eq0.true) (sym (room_same c.args.marks.now c.args.i)))

pub returns : goal.returns
unfolding wait_end
returns c = λ bytes. (simp (ne_eqb _ _ c.if-count-eq0.false), simp (ne_eqb _ _ c.if-count-eq0.false, c.end_room.ensures))

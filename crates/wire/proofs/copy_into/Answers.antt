use Rattle.std.proofs.Common.{◌≡◌, length, sym, ◌∙◌}
use native.Mathlib.Omega.{arith}
use lib.ListN.{length-set}
use Rattle.wire.proofs.BufferLaws.{copy_turn, copy_end, copied_room}
use Rattle.wire.proofs.copy_into.Goals as goal

pub loop-i-preserved : goal.loop-i-preserved
loop-i-preserved c =
    let a = c.args in
    (simp length-set (omega arith), copy_turn a.out.now a.at a.src.now c.loop-i.i c.loop-i.invariant.1 (omega arith) (omega arith))

pub returns-after-loop-i : goal.returns-after-loop-i
returns-after-loop-i c =
    let a = c.args in
    let e : c.loop-i.i ≡ length a.src.now = omega arith in
    c.loop-i.invariant.1 ∙ rw e (copy_end a.out.now a.at a.src.now) ∙ sym (copied_room a.out.now a.at a.src.now (omega arith))

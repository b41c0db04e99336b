use mathlib.Core.Path.{◌∙◌}
use native.Mathlib.Omega.{arith}
use lib.ListN.{length}
use Prim.Native.Nat.{◌+◌, ◌≤◌}
use Rattle.wire.proofs.BufferLaws.{copied_room}
use Rattle.lifting.proofs.calls.write_copied.Goals as goal

pub returns-then-copies : goal.returns-then-copies
returns-then-copies c =
    let room : (length c.args.bytes.now ≤ length c.args.out.now) → 0 + length c.args.bytes.now ≤ length c.args.out.now = λ h. omega arith in
    (simp c.if-copies.true, λ h. simp c.if-copies.true (c.copy_into.ensures ∙ copied_room c.args.out.now 0 c.args.bytes.now (room (h c.if-copies.true))))

pub returns : goal.returns
returns c = (simp c.if-copies.false, λ h. simp c.if-copies.false)

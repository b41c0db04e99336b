use Prim.Native.Nat.{◌+◌}
use native.Mathlib.Omega.{arith}
use borrow.Author.Tests.{lt-ltb, le-ltb}
use Rattle.machine_queue.specs.Pump.{slot_after}
use Rattle.wait_numbers.proofs.slot_after.Goals as goal

pub returns-then-i : goal.returns-then-i
unfolding slot_after
returns-then-i c = λ h. let i = c.args.i in simp (lt-ltb (i + 1) 16 (omega (arith, c.if-i.true)))

pub returns : goal.returns
unfolding slot_after
returns c = λ h. let i = c.args.i in simp (le-ltb (i + 1) 16 (omega (arith, c.if-i.false)))

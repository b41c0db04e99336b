use mathlib.Core.Path.{◌≡◌}
use native.Mathlib.Omega.{arith}
use Rattle.slot_check.proofs.QuickLaws.{any_start, any_next, any_done, keys_none, keys_next}
use Rattle.slot_check.proofs.keys_of.Goals as goal

pub loop-i-init : goal.loop-i-init
loop-i-init c = (omega arith, (keys_none, any_start))

pub loop-i-preserved : goal.loop-i-preserved
loop-i-preserved c =
    let inv = c.loop-i.invariant in
    rw (c.key_if-key.ensures, c.has_bit-taken.ensures)
    (omega arith, (keys_next inv.1.0 (omega arith), any_next inv.1.1 c.loop-i-test.true))

pub returns : goal.returns
returns c =
    let inv = c.loop-i.invariant in
    let e : c.loop-i.i ≡ c.args.n = omega arith in
    (rw e at inv.1.0, any_done inv.1.1 c.loop-i-test.false)

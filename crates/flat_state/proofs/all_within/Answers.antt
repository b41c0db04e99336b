use Prim.Native.Nat.{◌≤◌, ◌<◌}
use mathlib.Core.Path.{◌≡◌}
use native.Mathlib.Omega.{arith}
use lib.ListN.{length}
use Rattle.connection.specs.Sizes.{SLOTS}
use Rattle.flat_state.specs.Flat.{within}
use Rattle.flat_state.proofs.LoopLaws.{every_next, every_end}
use borrow.Author.Rules.{rules}
use Rattle.flat_state.proofs.all_within.Goals as goal

pub loop-slot-preserved : goal.loop-slot-preserved
loop-slot-preserved c =
    let size : length c.args.numbers ≡ SLOTS = search rules in
    let low : c.loop-slot.slot < length c.args.numbers = omega arith in
    rw c.is_within-all.ensures (every_next (within c.args.low c.args.high) c.args.numbers c.loop-slot.all c.loop-slot.slot low c.loop-slot.invariant)

pub returns : goal.returns
returns c =
    let size : length c.args.numbers ≡ SLOTS = search rules in
    let past : length c.args.numbers ≤ c.loop-slot.slot = omega arith in
    every_end (within c.args.low c.args.high) c.args.numbers c.loop-slot.all c.loop-slot.slot past c.loop-slot.invariant

use Prim.Native.Nat.{◌≤◌, ◌+◌, ◌-◌}
use mathlib.Core.Path.{◌≡◌}
use native.Mathlib.Omega.{arith}
use lib.ListN.{length, take, drop, length-take}
use Rattle.plain.specs.Plain.{two}
use Rattle.plain.proofs.RecordLaws.{content_part, reads_short, reads_record}
use Rattle.plain.proofs.read_record.Goals as goal

pub returns-then-bytes-lt8 : goal.returns-then-bytes-lt8
returns-then-bytes-lt8 c = reads_short c.args.table c.args.store.now c.args.bytes.now c.args.left c.requires.2 c.if-bytes-lt8.true

pub overflow_cast-size : goal.overflow_cast-size
overflow_cast-size c = omega (arith, c.shared_slice_known-4-1.given 6)

pub overflow_add-size-2 : goal.overflow_add-size-2
overflow_add-size-2 c = omega (arith, c.shared_slice_known-4-1.given 6)

pub says-said-requires : goal.says-said-requires
says-said-requires c =
    let part : take (8 + c.min.result - 8) (drop 8 c.args.bytes.now) ≡ take (two c.args.bytes.now 4) (drop 8 c.args.bytes.now) =
    content_part c.args.bytes.now (two c.args.bytes.now 4) (8 + c.min.result) (omega (arith, c.min.ensures, c.number_of_two-n.ensures)) in
    let k : length (take (two c.args.bytes.now 4) (drop 8 c.args.bytes.now)) ≤ two c.args.bytes.now 4 = omega (arith, length-take (two c.args.bytes.now 4) (drop 8 c.args.bytes.now)) in
    (c.requires.0, c.requires.1, c.if-bytes-lt8.false, rw (part) k)

pub returns : goal.returns
returns c =
    let part : take (8 + c.min.result - 8) (drop 8 c.args.bytes.now) ≡ take (two c.args.bytes.now 4) (drop 8 c.args.bytes.now) =
    content_part c.args.bytes.now (two c.args.bytes.now 4) (8 + c.min.result) (omega (arith, c.min.ensures, c.number_of_two-n.ensures)) in
    let comes = rw (part) at c.says-said.ensures in
    let passes = rw (part, c.number_of_two-n.ensures) at c.pass.ensures in
    reads_record c.args.table c.args.store.now _ c.args.bytes.now c.args.left c.says-said.result c.pass.result
    c.if-bytes-lt8.false
    comes passes

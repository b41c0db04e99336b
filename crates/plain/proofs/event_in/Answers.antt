use Prim.Native.Nat.{ℕ, ◌+◌, ◌-◌, ◌≤◌, ◌<◌}
use mathlib.Core.Path.{◌≡◌}
use mathlib.Core.List.{List}
use native.Mathlib.Omega.{arith}
use lib.ListN.{length, take, drop, length-drop}
use lib.Seq.{take_all}
use borrow.Author.Rules.{rules}
use Rattle.plain.specs.Promise.{ROOM}
use Rattle.plain.proofs.TableLaws.{sound_more}
use Rattle.plain.proofs.RecordLaws.{reading_start, reading_end, reading_answer, reading_next}
use Rattle.plain.proofs.event_in.Goals as goal

-- A slice from a place on is all that comes after it.
rest : (b : List ℕ) (k : ℕ) → take (length b - k) (drop k b) ≡ drop k b
rest b k = take_all (length b - k) (drop k b) (omega (arith, length-drop k b))

pub loop-at-init : goal.loop-at-init
loop-at-init c = rw c.empty_table-table.ensures (reading_start c.args.bytes.now c.args.k c.args.store.now c.requires)

pub read_record-heard-requires : goal.read_record-heard-requires
read_record-heard-requires c =
    let l = c.loop-at in
    let room : l.at ≤ ROOM = omega (arith, l.invariant.within) in
    let some : 0 < length (drop l.at c.args.bytes.now) = omega (arith, length-drop l.at c.args.bytes.now, c.loop-at-test.true) in
    (sound_more l.table l.at ROOM l.invariant.sound room, l.invariant.size, rw (rest c.args.bytes.now l.at) some)

pub returns-in-Answer : goal.returns-in-Answer
returns-in-Answer c =
    let l = c.loop-at in
    let reads = rw (rest c.args.bytes.now l.at) at c.read_record-heard.ensures in
    reading_answer c.args.bytes.now c.args.k l.store l.table l.left l.at l.invariant _ _ _ reads c.in-Answer.is

pub overflow_add-at : goal.overflow_add-at
overflow_add-at c =
    let l = c.loop-at in
    let reads = rw (rest c.args.bytes.now l.at) at c.read_record-heard.ensures in
    let n : length c.read_record-heard.new.store ≡ 65536 = search rules in
    let next = reading_next c.args.bytes.now c.args.k l.store l.table l.left l.at l.invariant _ _ _ _ reads c.in-Record.is n in
    omega (arith, next.within)

pub loop-at-smaller : goal.loop-at-smaller
loop-at-smaller c =
    let l = c.loop-at in
    let reads = rw (rest c.args.bytes.now l.at) at c.read_record-heard.ensures in
    let n : length c.read_record-heard.new.store ≡ 65536 = search rules in
    let next = reading_next c.args.bytes.now c.args.k l.store l.table l.left l.at l.invariant _ _ _ _ reads c.in-Record.is n in
    omega (arith, reads.steps _ _ c.in-Record.is, next.within)

pub loop-at-preserved : goal.loop-at-preserved
loop-at-preserved c =
    let l = c.loop-at in
    let reads = rw (rest c.args.bytes.now l.at) at c.read_record-heard.ensures in
    let n : length c.read_record-heard.new.store ≡ 65536 = search rules in
    let next = reading_next c.args.bytes.now c.args.k l.store l.table l.left l.at l.invariant _ _ _ _ reads c.in-Record.is n in
    next

pub returns : goal.returns
returns c = reading_end c.args.bytes.now c.args.k c.loop-at.store c.loop-at.table c.loop-at.left c.loop-at.at c.loop-at.invariant c.loop-at-test.false

use mathlib.Core.Path.{◌≡◌, ap, ◌∙◌}
use Prim.Native.Nat.{ℕ, ◌+◌, ◌≤◌}
use native.Mathlib.Omega.{arith}
use mathlib.Core.List.{List}
use lib.ListN.{length, replicate, length-replicate}
use Rattle.wire.proofs.BufferLaws.{copied_room}
use Rattle.wire.specs.Buffer.{copied}
use Rattle.queue_slot.specs.declared.Ends.{Ends}
use Rattle.queue_slot.specs.declared.Numbers.{Numbers}
use Rattle.queue_slot.specs.Wait.{ROOM, Wait, wait_data, mark_of}
use Rattle.queue.specs.Calls.{QUEUE, room_at, put_room}
use Rattle.wait_slot.proofs.RoomLaws.{room_length}
use Rattle.wait_slot.proofs.SlotLaws.{put_made, room_for}
use borrow.Author.Rules.{rules}
use Rattle.wait_slot.proofs.wait_data.Goals as goal

pub returns-then-i-ge-SLOTS : goal.returns-then-i-ge-SLOTS
returns-then-i-ge-SLOTS c = λ memory h l f. absurd (omega arith)

pub returns-then-queue-ne-QUEUE : goal.returns-then-queue-ne-QUEUE
returns-then-queue-ne-QUEUE c = λ memory h l f. absurd (c.if-queue-ne-QUEUE.true l)

pub returns-then-content-gt-ROOM : goal.returns-then-content-gt-ROOM
returns-then-content-gt-ROOM c = λ memory h l f. let a = c.args in absurd (omega (arith, c.if-content-gt-ROOM.true, room_for memory a.waits.now a.marks.now a.queue.now a.i a.content.now f))

pub returns-then-content-count : goal.returns-then-content-count
returns-then-content-count c =
    λ memory h l f.
    let e = ap (λ (n : Numbers). n.count) (c.numbers_at-n.ensures.0 h) in
    absurd (omega (arith, e, c.if-content-count.true, c.if-content-gt-ROOM.false, room_for memory c.args.waits.now c.args.marks.now c.args.queue.now c.args.i c.args.content.now f))

pub returns : goal.returns
unfolding wait_data
returns c =
    let sized : length c.args.marks.now ≡ QUEUE =
    search rules in
    λ memory h l f.
    let fits : c.numbers_at-n.result.count + length c.args.content.now ≤ ROOM = omega (arith, c.if-content-count.false, c.if-content-gt-ROOM.false) in
    let bytes : List ℕ = room_at c.args.queue.now c.args.i in
    let marks : List ℕ = room_at c.args.marks.now c.args.i in
    let new : List ℕ = replicate (length c.args.content.now) (mark_of c.args.output Ends.None) in
    let n : length bytes ≡ ROOM = room_length c.args.queue.now c.args.i l h in
    let m : length marks ≡ ROOM = room_length c.args.marks.now c.args.i (sized) h in
    let k : length new ≡ length c.args.content.now = length-replicate (length c.args.content.now) (mark_of c.args.output Ends.None) in
    put_made (λ (w : Wait). wait_data w c.args.output c.args.content.now) memory c.args.waits.now c.args.marks.now c.args.queue.now c.args.i c.numbers_at-n.result (c.numbers_at-n.ensures.0 h)
    (c.put_numbers.ensures h (omega (arith, fits)))
    (c.fill_room.ensures ∙ ap (λ (x : ℕ). put_room c.args.marks.now c.args.i (copied marks c.numbers_at-n.result.count (replicate (length c.args.content.now) x))) c.mark_of.ensures ∙ ap (put_room c.args.marks.now c.args.i) (copied_room marks c.numbers_at-n.result.count new (omega (arith, fits, m, k))))
    (c.copy_room.ensures ∙ ap (put_room c.args.queue.now c.args.i) (copied_room bytes c.numbers_at-n.result.count c.args.content.now (omega (arith, fits, n))))

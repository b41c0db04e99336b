use mathlib.Core.Path.{◌≡◌, sym, ap, ◌∙◌}
use Prim.Native.Nat.{◌-◌, ◌<◌}
use native.Mathlib.Omega.{arith}
use Rattle.wire.specs.Buffer.{byte_at}
use Rattle.queue_slot.specs.declared.Ends.{Ends}
use Rattle.queue_slot.specs.declared.Numbers.{Numbers}
use Rattle.queue_slot.specs.Wait.{ROOM, Wait, mark_ends, without_first}
use Rattle.queue.specs.Calls.{room_at}
use Rattle.wait_numbers.specs.Slot.{put_numbers}
use Rattle.wait_slot.proofs.RoomLaws.{room_byte}
use Rattle.wait_slot.proofs.SlotLaws.{put_made}
use Rattle.wait_slot.proofs.take_run.Goals as goal

pub returns-then-i-ge-SLOTS : goal.returns-then-i-ge-SLOTS
returns-then-i-ge-SLOTS c = λ memory h l p k n. absurd (omega arith)

pub returns-then-queue-ne-QUEUE : goal.returns-then-queue-ne-QUEUE
returns-then-queue-ne-QUEUE c = λ memory h l p k n. absurd (c.if-queue-ne-QUEUE.true l)

pub returns-then-count-gt-ROOM : goal.returns-then-count-gt-ROOM
returns-then-count-gt-ROOM c = λ memory h l p k n. absurd (omega (arith, n, c.if-count-gt-ROOM.true, ap (λ (x : Numbers). x.count) (c.numbers_at-n.ensures.0 h)))

pub returns-then-k-eq0 : goal.returns-then-k-eq0
returns-then-k-eq0 c = λ memory h l p k n. absurd (omega (arith, p, c.if-k-eq0.true))

pub returns-then-count-k : goal.returns-then-count-k
returns-then-count-k c = λ memory h l p k n. absurd (omega (arith, k, c.if-count-k.true, ap (λ (x : Numbers). x.count) (c.numbers_at-n.ensures.0 h)))

pub returns : goal.returns
unfolding without_first
returns c =
    λ memory h l p k n.
    let low : c.args.k - 1 < ROOM = omega (arith, p, c.if-count-k.false, c.if-count-gt-ROOM.false) in
    let front : c.mark_ends-front.result ≡ mark_ends (byte_at (room_at c.args.marks.now c.args.i) (c.args.k - 1)) = c.mark_ends-front.ensures ∙ ap mark_ends (sym (room_byte c.args.marks.now c.args.i (c.args.k - 1) low)) in
    put_made (λ (w : Wait). without_first w c.args.k) memory c.args.waits.now c.args.marks.now c.args.queue.now c.args.i c.numbers_at-n.result (c.numbers_at-n.ensures.0 h)
    (c.put_numbers.ensures h (omega (arith, c.numbers_at-n.ensures.1))
    ∙ ap (λ (e : Ends). put_numbers c.args.waits.now c.args.i (record { count = c.numbers_at-n.result.count - c.args.k; front = e; last = c.numbers_at-n.result.last; status = c.numbers_at-n.result.status })) front)
    c.lower_room-2.ensures c.lower_room.ensures

use mathlib.Core.Path.{ap, ◌∙◌, sym}
use Prim.Native.Nat.{◌*◌}
use native.Mathlib.Omega.{arith}
use native.Mathlib.Nat.{add-zero}
use Rattle.wire.specs.Buffer.{byte_at}
use Rattle.queue_slot.specs.Wait.{ROOM, mark_stream}
use Rattle.wait_slot.proofs.RoomLaws.{room_byte}
use Rattle.wait_slot.proofs.stream_at.Goals as goal

pub returns-then-marks-ne-QUEUE : goal.returns-then-marks-ne-QUEUE
returns-then-marks-ne-QUEUE c = λ n h. absurd (c.if-marks-ne-QUEUE.true n)

pub returns-then-i-ge-SLOTS : goal.returns-then-i-ge-SLOTS
returns-then-i-ge-SLOTS c = λ n h. absurd (omega arith)

pub returns : goal.returns
returns c =
    λ n h.
    c.mark_stream.ensures ∙ ap mark_stream (sym (room_byte c.args.marks.now c.args.i 0 (omega arith) ∙ ap (byte_at c.args.marks.now) (add-zero (c.args.i * ROOM))))

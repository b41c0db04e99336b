use mathlib.Core.Path.{sym, ap, ◌∙◌}
use native.Mathlib.Omega.{arith}
use Rattle.queue_slot.specs.Wait.{Wait, wait_end}
use Rattle.queue.specs.Calls.{room_at, put_room}
use Rattle.wait_numbers.specs.Slot.{put_numbers}
use Rattle.wait_slot.specs.After.{wait_of}
use Rattle.wait_slot.proofs.RoomLaws.{room_same}
use Rattle.wait_slot.proofs.SlotLaws.{put_made, end_bytes_lem, after_count}
use Rattle.wait_slot.proofs.wait_end.Goals as goal

pub returns-then-i-ge-SLOTS : goal.returns-then-i-ge-SLOTS
returns-then-i-ge-SLOTS c = λ memory queue h. absurd (omega arith)

pub returns : goal.returns
returns c =
    λ memory queue h.
    let w = wait_of c.numbers_at-n.result (room_at queue c.args.i) (room_at c.args.marks.now c.args.i) in
    let d = c.end_after-after.ensures (room_at queue c.args.i) in
    let n = after_count c.args.marks.now c.args.i c.numbers_at-n.result c.args.output c.end_after-after.result c.end_after-after.new.marks c.end_after-after.ensures in
    put_made (λ (x : Wait). wait_end x c.args.output) memory c.args.waits.now c.args.marks.now queue c.args.i c.numbers_at-n.result (c.numbers_at-n.ensures.0 h)
    (c.put_numbers.ensures h (omega (arith, n, c.numbers_at-n.ensures.1)) ∙ ap (put_numbers c.args.waits.now c.args.i) d.0) d.1
    (sym (ap (put_room queue c.args.i) (end_bytes_lem w c.args.output) ∙ room_same queue c.args.i))

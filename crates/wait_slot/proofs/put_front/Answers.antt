use mathlib.Core.Path.{sym}
use Rattle.queue_slot.specs.Wait.{Wait, with_front}
use Rattle.wait_slot.proofs.RoomLaws.{room_same}
use Rattle.wait_slot.proofs.SlotLaws.{put_made}
use Rattle.wait_slot.proofs.put_front.Goals as goal

pub returns : goal.returns
returns c =
    λ memory marks queue h.
    put_made (λ (w : Wait). with_front w c.args.e) memory c.args.waits.now marks queue c.args.i c.numbers_at-n.result (c.numbers_at-n.ensures.0 h) (c.put_numbers.ensures h c.numbers_at-n.ensures.1) (sym (room_same marks c.args.i))
    (sym (room_same queue c.args.i))

use mathlib.Core.List.{List}
use Prim.Native.Nat.{ℕ}
use lib.ListN.{take, drop}
use Rattle.wire.specs.Buffer.{put_at}
use Rattle.wait_slot.proofs.RoomLaws.{part_made}
use Rattle.wait_slot.proofs.lower_room.Goals as goal

pub returns : goal.returns
returns c = let a = c.args in part_made a.area.now a.i (λ (r : List ℕ). put_at r 0 (drop a.k (take a.count r))) c.move_down.ensures

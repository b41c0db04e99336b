use mathlib.Core.List.{List}
use Prim.Native.Nat.{ℕ}
use lib.ListN.{replicate}
use Rattle.wire.specs.Buffer.{copied}
use Rattle.wait_slot.proofs.RoomLaws.{part_made}
use Rattle.wait_slot.proofs.fill_room.Goals as goal

pub returns : goal.returns
returns c = let a = c.args in part_made a.area.now a.i (λ (r : List ℕ). copied r a.at (replicate a.n a.x)) c.fill.ensures

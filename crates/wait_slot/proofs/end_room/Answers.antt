use mathlib.Core.List.{List}
use Prim.Native.Nat.{ℕ}
use Rattle.wait_area.specs.Behind.{end_behind}
use Rattle.wait_slot.proofs.RoomLaws.{part_made}
use Rattle.wait_slot.proofs.end_room.Goals as goal

pub returns : goal.returns
returns c = let a = c.args in part_made a.marks.now a.i (λ (r : List ℕ). end_behind r a.count a.output) c.end_behind.ensures

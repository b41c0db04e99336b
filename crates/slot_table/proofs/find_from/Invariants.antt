use mathlib.Core.Path.{◌≡◌}
use Prim.Native.Nat.{◌-◌}
use Rattle.connection.specs.Sizes.{SLOTS}
use Rattle.connection.specs.Slots.{find_from}
use Rattle.slot_table.proofs.find_from.Given as goal

abbrev pub invariant-loop-i : goal.invariant-loop-i
invariant-loop-i l = find_from (SLOTS - l.from) l.ids l.occupied l.id l.from ≡ find_from (SLOTS - l.i) l.ids l.occupied l.id l.i

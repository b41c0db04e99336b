use Rattle.station_kept.specs.Kept.{entry_from, entry_of}
use Rattle.std.proofs.Common.{◌≡◌, ◌-◌}
use Rattle.station_kept.proofs.kept.find.Given as goal

abbrev pub invariant-loop-i : goal.invariant-loop-i
invariant-loop-i l = entry_of l.kept l.id ≡ entry_from (16 - l.i) l.kept l.id l.i

use Rattle.std.proofs.Common.{◌≡◌, ◌≤◌, ◌<◌, length}
use Rattle.export_reading.proofs.read_all.Given as goal

abbrev pub invariant-loop : goal.invariant-loop
invariant-loop l = (l.end ≤ length l.buffer) × (l.sum < 72057594037927936) × (length l.store ≡ length l.initial.store) × (length l.buffer ≡ length l.initial.buffer)

use Rattle.std.proofs.Common.{◌≡◌, length}
use Rattle.replay.proofs.show_bytes.Given as goal

abbrev pub invariant-loop-byte : goal.invariant-loop-byte
invariant-loop-byte l = length l.out ≡ length l.initial.out

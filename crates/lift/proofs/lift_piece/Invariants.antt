use Rattle.std.proofs.Common.{◌≡◌, ◌≤◌, length}
use Rattle.lift.proofs.lift_piece.Given as goal

abbrev pub invariant-loop : goal.invariant-loop
invariant-loop l = (l.from ≤ length l.piece) × (l.at ≤ length l.out) × (length l.store ≡ length l.initial.store) × (length l.out ≡ length l.initial.out)

use Rattle.std.proofs.Common.{◌≡◌, ◌≤◌, length}
use Rattle.export_straight.proofs.go_round.Given as goal

abbrev pub invariant-loop-id : goal.invariant-loop-id
invariant-loop-id l = (l.at ≤ length l.out) × (length l.out ≡ length l.initial.out)

use Rattle.std.proofs.Common.{◌≡◌}
use Rattle.export_opening.proofs.let_wait.Given as goal

abbrev pub invariant-loop-i : goal.invariant-loop-i
invariant-loop-i l = l.i ≡ l.i

use Rattle.std.proofs.Common.{◌≤◌}
use Rattle.console.proofs.ask.zero_count.Given as goal

abbrev pub invariant-loop-b : goal.invariant-loop-b
invariant-loop-b l = l.zeros ≤ l.b-index

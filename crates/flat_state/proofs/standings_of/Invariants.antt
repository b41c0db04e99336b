use Rattle.flat_state.specs.Flat.{standings_of}
use Rattle.flat_state.proofs.LoopLaws.{Made}
use Rattle.flat_state.proofs.standings_of.Given as goal

abbrev pub invariant-loop-i : goal.invariant-loop-i
invariant-loop-i l = Made l.standings (standings_of l.roles l.turns l.lives) l.i

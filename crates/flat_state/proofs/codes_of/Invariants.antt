use Rattle.flat_state.specs.Flat.{roles_of, turns_of, lives_of}
use Rattle.flat_state.proofs.LoopLaws.{Made}
use Rattle.flat_state.proofs.codes_of.Given as goal

abbrev pub invariant-loop-i : goal.invariant-loop-i
invariant-loop-i l = let s = l.t.standings in
    Made l.roles (roles_of s) l.i × Made l.turns (turns_of s) l.i × Made l.lives (lives_of s) l.i

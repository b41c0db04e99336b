use Rattle.std.proofs.Math.Logic.{inl, inr}
use Rattle.call_walk.specs.Place.{past_at}
use Rattle.call_walk.proofs.past.Goals as goal

pub returns-in-Pair : goal.returns-in-Pair
unfolding past_at
returns-in-Pair c = simp (← c.read_pair.ensures, c.in-Pair.is)

pub returns-in-End : goal.returns-in-End
unfolding past_at
returns-in-End c = simp (← c.read_pair.ensures) (elim c.in-End.is [ inl e ↦ simp e | inr w ↦ simp w.1 ])

use mathlib.Core.Path.{◌∙◌}
use Rattle.pair_list.specs.List.{well_formed}
use Rattle.server.specs.Step.{valued}
use Rattle.server_decision.proofs.of_list.Goals as goal

pub returns-in-End : goal.returns-in-End
unfolding valued well_formed
returns-in-End c = λ t f values. simp (c.done_with.ensures, ← c.list_ending.ensures, c.in-End.is)

pub returns-in-Malformed : goal.returns-in-Malformed
unfolding valued well_formed
returns-in-Malformed c = λ t f values. c.closing.ensures t f values ∙ simp (← c.list_ending.ensures, c.in-Malformed.is)

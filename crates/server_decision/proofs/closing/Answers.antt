use Rattle.server.specs.Step.{closes}
use Rattle.server_decision.proofs.closing.Goals as goal

pub returns : goal.returns
unfolding closes
returns c = λ t f values. simp c.done_with.ensures

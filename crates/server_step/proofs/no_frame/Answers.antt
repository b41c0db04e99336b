use Rattle.server_step.proofs.no_frame.Goals as goal

pub returns : goal.returns
returns c = simp c.between.ensures

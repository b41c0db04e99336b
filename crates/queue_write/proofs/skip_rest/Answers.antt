use Rattle.queue_write.proofs.skip_rest.Goals as goal

pub returns : goal.returns
returns c = simp c.redirect.ensures

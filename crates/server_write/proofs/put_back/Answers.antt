use Rattle.server_write.proofs.put_back.Goals as goal

pub returns : goal.returns
returns c = simp c.put_request.ensures

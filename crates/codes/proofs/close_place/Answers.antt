use Rattle.codes.proofs.close_place.Goals as goal

pub returns-in-QueryMalformed : goal.returns-in-QueryMalformed
returns-in-QueryMalformed c = simp c.in-QueryMalformed.is

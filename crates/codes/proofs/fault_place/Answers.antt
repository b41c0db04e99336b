use Rattle.codes.proofs.fault_place.Goals as goal

pub returns-in-Malformed : goal.returns-in-Malformed
returns-in-Malformed c = simp c.in-Malformed.is

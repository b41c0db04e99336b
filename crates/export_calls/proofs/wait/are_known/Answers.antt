use Rattle.export_calls.proofs.wait.are_known.Goals as goal

pub returns : goal.returns
returns c = simp (c.is_output.ensures, c.is_known.ensures)

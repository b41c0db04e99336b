use Rattle.export_calls.proofs.body.yot_new_reader.Goals as goal

pub returns : goal.returns
returns c = simp (c.to_flat_reader.ensures, c.new_reader.ensures)

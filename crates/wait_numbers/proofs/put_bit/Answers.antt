use Rattle.wait_numbers.proofs.put_bit.Goals as goal

pub returns : goal.returns
returns c = simp c.mark_slot.ensures

use Rattle.pair_repeats.proofs.repeats_with.Goals as goal

pub returns : goal.returns
returns c = c.repeats_by.ensures c.fill_keys-count.ensures

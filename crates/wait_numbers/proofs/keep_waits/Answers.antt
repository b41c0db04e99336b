use Rattle.wait_numbers.proofs.keep_waits.Goals as goal

pub returns-then-not-after : goal.returns-then-not-after
returns-then-not-after c = simp (c.if-before.true, c.if-not-after.true, c.forget_all.ensures)

pub returns-else-not-after : goal.returns-else-not-after
returns-else-not-after c = simp (c.if-before.true, c.if-not-after.false)

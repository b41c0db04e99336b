use Rattle.queue_admit.proofs.stream_check.Goals as goal

pub returns-then-no_output : goal.returns-then-no_output
returns-then-no_output c = simp (c.if-leaving.false, ← c.no_output.ensures, c.if-no_output.true)

pub returns-then-is_ended : goal.returns-then-is_ended
returns-then-is_ended c = simp (c.if-leaving.false, ← c.no_output.ensures, c.if-no_output.false, ← c.is_ended.ensures, c.if-is_ended.true)

pub returns : goal.returns
returns c = simp (c.if-leaving.false, ← c.no_output.ensures, c.if-no_output.false, ← c.is_ended.ensures, c.if-is_ended.false)

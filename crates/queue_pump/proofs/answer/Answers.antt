use Rattle.queue_pump.proofs.answer.Goals as goal

pub returns-then-t : goal.returns-then-t
returns-then-t c = λ gathered store waits marks queue out. simp c.if-t.true

pub returns : goal.returns
returns c = λ gathered store waits marks queue out. simp c.if-t.false

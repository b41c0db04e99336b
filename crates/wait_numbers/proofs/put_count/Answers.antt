use borrow.Author.Tests.{ne_eqb}
use Rattle.queue.specs.Numbers.{put_count}
use Rattle.wait_numbers.proofs.put_count.Goals as goal

pub returns-then-n-eq0 : goal.returns-then-n-eq0
unfolding put_count
returns-then-n-eq0 c = simp (c.put_bit.ensures, c.if-n-eq0.true)

pub returns : goal.returns
unfolding put_count
returns c = simp (c.put_bit-2.ensures, ne_eqb c.args.n 0 c.if-n-eq0.false)

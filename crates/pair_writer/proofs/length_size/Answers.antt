use mathlib.Core.Path.{sym, ap}
use lib.ListN.{length}
use Rattle.pair_writer.proofs.WriteLaws.{length_short, length_long}
use Rattle.pair_writer.proofs.length_size.Goals as goal

pub returns-then-n-lt128 : goal.returns-then-n-lt128
returns-then-n-lt128 c = sym (ap length (length_short c.args.n c.if-n-lt128.true))

pub returns-else-n-lt128 : goal.returns-else-n-lt128
returns-else-n-lt128 c = sym (ap length (length_long c.args.n c.if-n-lt128.false))

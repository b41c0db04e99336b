use Rattle.wait_numbers.proofs.FitLaws.{waits_told}
use Rattle.wait_numbers.proofs.is_waiting.Goals as goal

pub returns : goal.returns
returns c = waits_told c.args.waits.now c.args.i _ c.some_waits.ensures c.is_taken.ensures

use Rattle.call_finish.proofs.Laws.{end_put, end_unput}
use Rattle.call_finish.proofs.write_end.Goals as goal

pub returns-then-owed : goal.returns-then-owed
returns-then-owed c = end_put c.args.out.now c.args.owed c.args.at c.args.kind c.args.id c.if-owed.true c.requires c.write_record.ensures

pub returns-else-owed : goal.returns-else-owed
returns-else-owed c = end_unput c.args.out.now c.args.owed c.args.at c.args.kind c.args.id c.if-owed.false

use Rattle.export_calls.proofs.WriteLaws.{leaves_pair}
use Rattle.export_calls.proofs.say.yot_write_pair.Goals as goal

pub returns : goal.returns
returns c = leaves_pair c.write_pair.result c.write_pair.ensures c.flat_pair_wrote.ensures

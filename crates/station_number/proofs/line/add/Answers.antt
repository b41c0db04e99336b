use Rattle.station_number.proofs.PutsLaws.{puts_copied}
use Rattle.station_number.proofs.line.add.Goals as goal

pub returns : goal.returns
returns c = let a = c.args in puts_copied a.at a.text.now c.requires c.copy_into.ensures

use Rattle.connection.specs.Request.{with_life}
use Rattle.queue_slot.specs.Finishing.{spent_by}
use Rattle.queue_write.proofs.spent_by.Goals as goal

pub returns : goal.returns
unfolding spent_by with_life
returns c = simp c.spent_life.ensures

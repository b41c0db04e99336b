use Rattle.export_calls.proofs.FeedLaws.{starts}
use Rattle.export_calls.proofs.feed.yot_start.Goals as goal

pub returns : goal.returns
returns c = starts _ _ _ c.start.result c.start.ensures.0 c.start.ensures.1 c.flat_started.ensures

use mathlib.Core.List.{[]}
use Rattle.queue.specs.Calls.{queue_step}
use Rattle.export_calls.proofs.Known.{unknown_by, known_by}
use Rattle.export_calls.proofs.FeedLaws.{feeds, not_fed}
use Rattle.export_calls.proofs.feed.yot_step.Goals as goal

pub returns-then-not-is_known : goal.returns-then-not-is_known
returns-then-not-is_known c =
    let k = unknown_by c.is_known.ensures c.if-not-is_known.true in
    not_fed queue_step _ _ _ _ _ k c.no_step.ensures

pub returns : goal.returns
returns c =
    let k = known_by c.is_known.ensures c.if-not-is_known.false in
    feeds queue_step _ _ _ _ _ c.step.result k c.from_flat-c.ensures (c.step.ensures.0 [] []) c.step.ensures.1 c.flat_stepped.ensures

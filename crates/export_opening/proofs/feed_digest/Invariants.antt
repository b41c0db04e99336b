use Rattle.std.proofs.Common.{◌≡◌, ◌≤◌, ◌<◌, length}
use Rattle.export_opening.proofs.feed_digest.Given as goal

abbrev pub invariant-loop-part : goal.invariant-loop-part
invariant-loop-part g l = (l.feed.used ≤ length l.input) × (l.feed.edge ≤ length l.input) × (l.feed.sum < 72057594037927936) × (length l.store ≡ length l.initial.store)

-- After k digits, `left` is what is left of n.
use Rattle.std.proofs.Common.{◌≡◌, ◌<◌, ◌≤◌, ◌+◌, ◌-◌, ◌/◌, ◌^◌}
use Rattle.host.proofs.number.digit_count.Given as goal

abbrev pub invariant-loop-left : goal.invariant-loop-left
invariant-loop-left l = (0 < l.k) × (l.k + l.left < 2 ^ 64) × (l.left ≡ l.n / l.base ^ l.k) × (1 < l.k → l.base ^ (l.k - 1) ≤ l.n)

abbrev pub decreases-loop-left : goal.decreases-loop-left
decreases-loop-left l = l.left

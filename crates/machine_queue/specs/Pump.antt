-- Going round: slots are served in turn.
use Rattle.std.specs.Prelude.{ℕ, zero, suc, ◌+◌, ◌-◌, Bool, if◌then◌else◌}
use Rattle.std.proofs.Math.Option.{Option, none, some}
use Rattle.wire.specs.Test.{◌<?◌, ◌≤?◌}

-- ---- going round
module _ (N : ℕ) where
  -- the slot after slot i
  unfoldable pub slot_after : ℕ → ℕ
  slot_after i = if i + 1 <? N then i + 1 else 0

  -- the first of k slots from i on that waits
  unfoldable pub next_waiting : ℕ → (ℕ → Bool) → ℕ → Option ℕ
  next_waiting zero waits i = none
  next_waiting (suc k) waits i = if waits i then some i else next_waiting k waits (slot_after i)

  -- how many slots are passed on the way from p to i
  unfoldable pub distance : ℕ → ℕ → ℕ
  distance i p = if p ≤? i then i - p else i + N - p

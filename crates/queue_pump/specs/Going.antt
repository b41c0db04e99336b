-- A turn on its way, as the code has it.
use Rattle.std.specs.Prelude.{ℕ, ◌+◌, ◌*◌, ◌≤◌, List, length}
use Rattle.queue.specs.Calls.{lent, Pumped}
use Rattle.queue_pump.specs.declared.Turning.{Turning}
use Rattle.queue_pump.specs.Able.{Able}
use Rattle.queue_pump.specs.Coming.{comes}

-- Sizes and counts are kept, and there is room for all records that are still allowed.
pub record Going (t : Turning) (store waits marks queue out : List ℕ) : Type 0 where
  pub able : Able store waits marks queue
  pub room : t.bytes + 520 * t.left ≤ length out
  pub few : t.records + t.left ≤ length out

-- what it all comes to
abbrev pub turning : Turning → List ℕ → List ℕ → List ℕ → List ℕ → List ℕ → List ℕ → Pumped
turning t gathered store waits marks queue out = comes t.records t.bytes t.left (lent t.conn gathered store waits marks queue) out

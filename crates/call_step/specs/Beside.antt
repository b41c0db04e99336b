-- The calls that read with what waits lent beside the state, and their check.
use Rattle.std.specs.Prelude.{ℕ, Bool, List, length, if◌then◌else◌}
use Rattle.wire.specs.Test.{◌=?◌}
use Rattle.connection.specs.Sizes.{STORE}
use Rattle.connection.specs.Step.{State, Stepped, stays}
use Rattle.call_step.specs.Next.{steps_by}

-- as without a queue, but that row 9 is wider: it also asks that what waits fits
unfoldable pub steps_beside : Bool → Bool → State → List ℕ → List ℕ → Stepped
steps_beside fits on st store piece =
    if fits then steps_by on st store piece else (if length store =? STORE then stays 9 st store else steps_by on st store piece)

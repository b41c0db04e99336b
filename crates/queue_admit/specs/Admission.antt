-- Whether a call with a queue is let through to its request: what waits is in shape, and the call is let through
-- without a queue.
use Rattle.std.specs.Prelude.{ℕ, Bool, false, not, List, length, if◌then◌else◌}
use Rattle.wire.specs.Test.{◌=?◌}
use Rattle.connection.specs.declared.state.Conn.{Conn}
use Rattle.connection.specs.Sizes.{SLOTS, STORE}
use Rattle.call_admit.specs.Admission.{Admission, call_admission}
use Rattle.queue.specs.Calls.{waits_fit}

-- the store has its size and what waits is out of shape
unfoldable pub is_barred : List ℕ → ℕ → ℕ → Bool
is_barred waits occupied size = if size =? STORE then not (waits_fit SLOTS waits occupied 0) else false

-- rows 9, 1 and 3
unfoldable pub queue_admission : Conn → List ℕ → ℕ → Admission
queue_admission c waits id = if waits_fit SLOTS waits c.table.occupied 0 then call_admission c id else record { refusal = 9; slot = SLOTS }

-- rows 2, 9, 1 and 3
unfoldable pub queue_lent_admission : Conn → List ℕ → List ℕ → ℕ → Admission
queue_lent_admission c waits store id = if length store =? STORE then queue_admission c waits id else record { refusal = 2; slot = SLOTS }

-- Events in the rules' numbers and values.
use Rattle.std.specs.Prelude.{ℕ, Bool}
use Rattle.machine.specs.Cause.{Cause}
use Rattle.connection.specs.declared.event.Measure.{Measure}

-- An event: the id of its request first; roles and end statuses by their numbers, streams by their record type; faults
-- and closes by their causes, which are numbers and, for fault 25 and close 14, the place where the list is malformed.
pub data Event : Type 0 where
  None : Event
  Open : ℕ → ℕ → Bool → Event
  Ready : ℕ → ℕ → Event
  Data : ℕ → ℕ → ℕ → Event
  End : ℕ → ℕ → Measure → Event
  Abort : ℕ → Event
  Refuse : ℕ → ℕ → Event
  Fault : ℕ → Cause → Event
  Query : Bool → Bool → Bool → Event
  Unknown : ℕ → Event
  Closed : Cause → Event

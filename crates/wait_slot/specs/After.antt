-- What an end behind what waits comes to, in numbers and marks.
use Rattle.std.specs.Prelude.{◌≡◌, ℕ, Bool, true, false, List}
use Rattle.connection.specs.declared.answer.Output.{Output}
use Rattle.queue_slot.specs.declared.Numbers.{Numbers}
use Rattle.queue_slot.specs.Wait.{Wait, wait_end}
use Rattle.queue.specs.Calls.{room_at, put_room}

-- what waits by these numbers and areas
abbrev pub wait_of : Numbers → List ℕ → List ℕ → Wait
wait_of n bytes marks = record { count = n.count; front = n.front; last = n.last; status = n.status; bytes = bytes; marks = marks }

-- its numbers
abbrev pub numbers_of : Wait → Numbers
numbers_of w = record { count = w.count; front = w.front; last = w.last; status = w.status }

-- Numbers and marks of slot i after the end of a stream came to wait there, whatever its bytes are.
abbrev pub EndAfter : List ℕ → ℕ → Numbers → Output → Numbers → List ℕ → Type 0
EndAfter marks i n o after marks' =
    (bytes : List ℕ) → (after ≡ numbers_of (wait_end (wait_of n bytes (room_at marks i)) o)) × (marks' ≡ put_room marks i (wait_end (wait_of n bytes (room_at marks i)) o).marks)

-- the same where it is owed; else nothing changes
abbrev pub EndIf : Bool → List ℕ → ℕ → Numbers → Output → Numbers → List ℕ → Type 0
EndIf true marks i n o after marks' = EndAfter marks i n o after marks'
EndIf false marks i n o after marks' = (after ≡ n) × (marks' ≡ marks)

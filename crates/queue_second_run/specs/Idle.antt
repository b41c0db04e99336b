-- A turn of the pump that writes all that waits, and what is asked of calls.
use Rattle.std.specs.Prelude.{ℕ, ◌*◌, ◌≤◌, List, length}
use Rattle.wire.specs.Buffer.{zeros}
use Rattle.queue_slot.specs.Wait.{ROOM}
use Rattle.queue.specs.Calls.{PUMPED}
use Rattle.queue.specs.Run as D
use Rattle.queue.specs.Run.{Asking, QueueOperation, TurnWith}
use Rattle.queue_second_run.specs.Turns.{MOST}

-- a buffer that MOST records fit
unfoldable pub wide_buffer : List ℕ
wide_buffer = zeros (PUMPED * MOST)

-- a turn of the pump that writes all that waits
abbrev pub whole_turn : QueueOperation
whole_turn = TurnWith MOST wide_buffer

-- A queued say has at most ROOM bytes; nothing is asked of other calls.
abbrev pub SayFits : Asking → Type 0
SayFits (D.Straight a) = Unit {0}
SayFits (D.ToSay o content) = length content ≤ ROOM
SayFits (D.ToEnd o) = Unit {0}
SayFits (D.ToFinish status) = Unit {0}

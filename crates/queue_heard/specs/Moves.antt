-- What a station with a queue does while the web server's end listens: operations of its run, and the replies that events
-- owe. What goes on the wire, and what is meant by it. Definitions only.
use Rattle.std.specs.Prelude.{ℕ, zero, suc, ◌<◌, List, [], ◌∷◌, ◌++◌, take, get_or}
use Rattle.std.proofs.Math.Option.{Option, none, some}
use Rattle.wire.proofs.Bytes.{AllBytes}
use Rattle.record.specs.Names.{REQUEST_COMPLETE}
use Rattle.machine_queue.specs.Pump.{next_waiting}
use Rattle.connection.specs.Event.{Event as StationEvent}
use Rattle.connection.specs.Sizes.{SLOTS}
use Rattle.connection.specs.Codes.{output_type}
use Rattle.connection.specs.Slots.{request_at}
use Rattle.connection.specs.Calls as C
use Rattle.connection.specs.Arguments.{Argument, ForRead, ForSay, ForEnd, ForFinish}
use Rattle.server.specs.Event.{Event, Note, showing}
use Rattle.queue_slot.specs.Wait.{Served, ServesNothing, ServesEnd, ServesData, ServesLast, served}
use Rattle.queue.specs.Numbers.{NEXT}
use Rattle.queue.specs.Calls.{QueueMemory, conn_of, wait_at, request_of, straight_say, straight_end, straight_finish, pump_slot, slot_waits, first_slot, pump}
use Rattle.queue.specs.Run.{Asking, Straight, ToSay, ToEnd, ToFinish, QueueOperation, StepOver, CallFor, CountActive, TurnWith, queue_after, bytes_in}
use Rattle.replies_heard.specs.Moves.{unless, finish_notes, reply_means, argument_fits, event_fits}

-- an operation of the run, or the reply that an event owes, into a buffer
pub data Move : Type 0 where
  Does : QueueOperation → Move
  Replies : StationEvent → List ℕ → Move

-- what it leaves of the station
abbrev pub left_of : QueueMemory → Move → QueueMemory
left_of m (Does o) = queue_after m o
left_of m (Replies e buffer) = m

-- what goes on the wire: the bytes that a call, a turn of the pump or a reply wrote
abbrev pub wire_of : QueueMemory → Move → List ℕ
wire_of m (Does o) = bytes_in m o
wire_of m (Replies e buffer) = take (C.replied e buffer).written (C.replied e buffer).buffer

-- ---- what is meant by it, unless it was refused
-- a straight call
abbrev pub straight_means : QueueMemory → ℕ → Argument → List Note
straight_means m id (ForRead q) = []
straight_means m id (ForSay o x buffer) = unless (straight_say m id o x buffer).refusal (showing id (output_type o) x)
straight_means m id (ForEnd o buffer) = unless (straight_end m id o buffer).refusal (Note.Told (Event.Ended id (output_type o)) ∷ [])
straight_means m id (ForFinish status buffer) = unless (straight_finish m id status buffer).refusal (finish_notes (request_of m id).state id status)

-- a call; of a queued one nothing is written, so nothing is meant yet
abbrev pub call_means : QueueMemory → ℕ → Asking → List Note
call_means m id (Straight a) = straight_means m id a
call_means m id (ToSay o x) = []
call_means m id (ToEnd o) = []
call_means m id (ToFinish status) = []

-- what the pump serves of a request: the end of a stream, its data, or the end of the request with its status
abbrev pub served_means : ℕ → Served → List Note
served_means id ServesNothing = []
served_means id (ServesEnd o w) = Note.Told (Event.Ended id (output_type o)) ∷ []
served_means id (ServesData o x w) = showing id (output_type o) x
served_means id (ServesLast status) = Note.Told (Event.Finished id status REQUEST_COMPLETE) ∷ []

-- by the slot that is served, if any
abbrev pub of_slot : Option ℕ → (ℕ → List Note) → List Note
of_slot none f = []
of_slot (some i) f = f i

-- a turn: what it serves, of one slot after another
unfoldable pub turn_means : ℕ → QueueMemory → List Note
turn_means zero m = []
turn_means (suc k) m =
    of_slot (next_waiting SLOTS SLOTS (slot_waits m) (first_slot (get_or m.waits NEXT 0)))
    (λ i. served_means (request_at (conn_of m).table i).id (served (wait_at m i)) ++ turn_means k (pump_slot m i).left)

-- any move
abbrev pub meant_by : QueueMemory → Move → List Note
meant_by m (Does (StepOver piece)) = []
meant_by m (Does (CallFor id a)) = call_means m id a
meant_by m (Does CountActive) = []
meant_by m (Does (TurnWith allowance buffer)) = unless (pump m allowance buffer).refusal (turn_means allowance m)
meant_by m (Replies e buffer) = unless (C.replied e buffer).refusal (reply_means e)

-- ---- bounds, as the code's types have them: pieces and data are bytes, ids have two, statuses four, types one
abbrev pub asking_fits : Asking → Type 0
asking_fits (Straight a) = argument_fits a
asking_fits (ToSay o x) = AllBytes x
asking_fits (ToEnd o) = Unit {0}
asking_fits (ToFinish status) = status < 4294967296

-- of a move
abbrev pub move_fits : Move → Type 0
move_fits (Does (StepOver piece)) = AllBytes piece
move_fits (Does (CallFor id a)) = (id < 65536) × asking_fits a
move_fits (Does CountActive) = Unit {0}
move_fits (Does (TurnWith allowance buffer)) = Unit {0}
move_fits (Replies e buffer) = event_fits e

-- What a station does while the web server's end listens: operations of its run, and the replies that events owe. What
-- goes on the wire, and what is meant by it. Definitions only.
use Rattle.std.specs.Prelude.{ℕ, ◌<◌, Bool, List, [], ◌∷◌, ◌++◌, take, if◌then◌else◌}
use Rattle.wire.specs.Test.{◌=?◌}
use Rattle.wire.proofs.Bytes.{AllBytes}
use Rattle.record.specs.Names.{STDOUT, STDERR, REQUEST_COMPLETE}
use Rattle.connection.specs.declared.request.RequestState.{RequestState}
use Rattle.connection.specs.Event.{Event as StationEvent}
use Rattle.connection.specs.Codes.{output_type}
use Rattle.connection.specs.Slots.{request_at}
use Rattle.connection.specs.RequestCalls.{owes_out, owes_err}
use Rattle.connection.specs.Calls as C
use Rattle.connection.specs.Arguments.{Argument, ForRead, ForSay, ForEnd, ForFinish, Answer, RepliedWith, Wrote, FinishedWith}
use Rattle.connection.specs.Run.{Memory, Operation, StepOver, CallFor, CountActive, called, memory_after}
use Rattle.server.specs.Event.{Event, Note, showing}

-- an operation of the run, or the reply that an event owes, into a buffer
pub data Move : Type 0 where
  Does : Operation → Move
  Replies : StationEvent → List ℕ → Move

-- what it leaves of the station
abbrev pub left_of : Memory → Move → Memory
left_of m (Does o) = memory_after m o
left_of m (Replies e buffer) = m

-- ---- what goes on the wire: the bytes that an answer shows as written
abbrev pub written_in : Answer → List ℕ
written_in (RepliedWith r) = []
written_in (Wrote n k buffer) = take k buffer
written_in (FinishedWith n k closed buffer) = take k buffer

abbrev pub wire_of : Memory → Move → List ℕ
wire_of m (Does (StepOver piece)) = []
wire_of m (Does (CallFor id a)) = written_in (called m id a).answer
wire_of m (Does CountActive) = []
wire_of m (Replies e buffer) = take (C.replied e buffer).written (C.replied e buffer).buffer

-- ---- what is meant by it, unless it was refused
abbrev pub unless : ℕ → List Note → List Note
unless refusal l = if refusal =? 0 then l else []

abbrev pub end_note : Bool → ℕ → ℕ → List Note
end_note owed id stream = if owed then Note.Told (Event.Ended id stream) ∷ [] else []

-- a finish: the ends of streams that are owed, and the end of the request with its status
abbrev pub finish_notes : RequestState → ℕ → ℕ → List Note
finish_notes m id status =
    end_note (owes_out m) id STDOUT
    ++ (end_note (owes_err m) id STDERR ++ (Note.Told (Event.Finished id status REQUEST_COMPLETE) ∷ []))

abbrev pub call_means : Memory → ℕ → Argument → List Note
call_means m id (ForRead q) = []
call_means m id (ForSay o x buffer) =
    unless (C.say m.state.conn id o x buffer).refusal (showing id (output_type o) x)
call_means m id (ForEnd o buffer) =
    unless (C.end_stream m.state.conn id o buffer).refusal (Note.Told (Event.Ended id (output_type o)) ∷ [])
call_means m id (ForFinish status buffer) =
    unless (C.finish m.state.conn m.store id status buffer).refusal
    (finish_notes (request_at m.state.conn.table (C.slot_of m.state.conn id)).state id status)

-- The reply to a query lists the values of the names that it has; that to an unknown type names the type.
abbrev pub reply_means : StationEvent → List Note
reply_means (StationEvent.Query conns reqs mpxs) = Note.Listed (C.values_of conns reqs mpxs) ∷ []
reply_means (StationEvent.Unknown kind) = Note.Told (Event.Unknown kind) ∷ []
reply_means (StationEvent.Refuse id status) = Note.Told (Event.Finished id 0 status) ∷ []
reply_means StationEvent.None = []
reply_means (StationEvent.Open id role keep) = []
reply_means (StationEvent.Ready id n) = []
reply_means (StationEvent.Data id stream n) = []
reply_means (StationEvent.End id stream measure) = []
reply_means (StationEvent.Abort id) = []
reply_means (StationEvent.Fault id cause) = []
reply_means (StationEvent.Closed cause) = []

abbrev pub meant_by : Memory → Move → List Note
meant_by m (Does (StepOver piece)) = []
meant_by m (Does (CallFor id a)) = call_means m id a
meant_by m (Does CountActive) = []
meant_by m (Replies e buffer) = unless (C.replied e buffer).refusal (reply_means e)

-- ---- bounds, as the code's types have them: pieces and data are bytes, ids have two, statuses four, types one
abbrev pub argument_fits : Argument → Type 0
argument_fits (ForRead q) = Unit {0}
argument_fits (ForSay o x buffer) = AllBytes x
argument_fits (ForEnd o buffer) = Unit {0}
argument_fits (ForFinish status buffer) = status < 4294967296

abbrev pub event_fits : StationEvent → Type 0
event_fits (StationEvent.Unknown kind) = kind < 256
event_fits (StationEvent.Refuse id status) = (id < 65536) × (status < 256)
event_fits (StationEvent.Query conns reqs mpxs) = Unit {0}
event_fits StationEvent.None = Unit {0}
event_fits (StationEvent.Open id role keep) = Unit {0}
event_fits (StationEvent.Ready id n) = Unit {0}
event_fits (StationEvent.Data id stream n) = Unit {0}
event_fits (StationEvent.End id stream measure) = Unit {0}
event_fits (StationEvent.Abort id) = Unit {0}
event_fits (StationEvent.Fault id cause) = Unit {0}
event_fits (StationEvent.Closed cause) = Unit {0}

abbrev pub move_fits : Move → Type 0
move_fits (Does (StepOver piece)) = AllBytes piece
move_fits (Does (CallFor id a)) = (id < 65536) × argument_fits a
move_fits (Does CountActive) = Unit {0}
move_fits (Replies e buffer) = event_fits e

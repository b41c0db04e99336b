-- What each case of the code's enums is in the rules' numbers and values.
use Rattle.std.specs.Prelude.{ℕ, Ok, Err, Result}
use Rattle.record.specs.Names.{PARAMS, STDIN, DATA}
use Rattle.connection.specs.declared.event.Stream.{Stream}
use Rattle.connection.specs.declared.request.Turn.{Turn}
use Rattle.connection.specs.Codes.{output_type}
use Rattle.server.specs.declared.state.Input.{Input}
use Rattle.server.specs.declared.event.ServerClose.{ServerClose}
use Rattle.server.specs.declared.event.ServerEvent.{ServerEvent}
use Rattle.server.specs.declared.answer.ServerRefusal.{ServerRefusal}
use Rattle.server.specs.Event.{Event}

-- the type of an input stream, its turn, and the stream among those whose content is shown
abbrev pub input_type : Input → ℕ
input_type Input.Params = PARAMS
input_type Input.Stdin = STDIN
input_type Input.Data = DATA

abbrev pub input_turn : Input → Turn
input_turn Input.Params = Turn.Params
input_turn Input.Stdin = Turn.Stdin
input_turn Input.Data = Turn.Data

abbrev pub stream_input : Stream → Input
stream_input Stream.Stdin = Input.Stdin
stream_input Stream.Data = Input.Data

-- closes and refusals by their number in the tables
abbrev pub close_number : ServerClose → ℕ
close_number ServerClose.Version = 51
close_number ServerClose.NoReply = 52
close_number ServerClose.NotOpen = 53
close_number ServerClose.BodyLength = 54
close_number ServerClose.Values = 55
close_number ServerClose.StreamEnded = 56

abbrev pub refusal_number : ServerRefusal → ℕ
refusal_number ServerRefusal.OutOfShape = 9
refusal_number ServerRefusal.Closed = 1
refusal_number ServerRefusal.NotOpen = 3
refusal_number ServerRefusal.IdZero = 57
refusal_number ServerRefusal.IdOpen = 58
refusal_number ServerRefusal.NoSlot = 59
refusal_number ServerRefusal.UnknownRole = 60
refusal_number ServerRefusal.OutOfTurn = 61
refusal_number ServerRefusal.BadQuery = 62
refusal_number ServerRefusal.TooLong = 8
refusal_number ServerRefusal.NoRoom = 6

-- an event of the code
abbrev pub event_of : ServerEvent → Event
event_of ServerEvent.Nothing = Event.None
event_of (ServerEvent.Output id stream n) = Event.Output id (output_type stream) n
event_of (ServerEvent.Ended id stream) = Event.Ended id (output_type stream)
event_of (ServerEvent.Finished id a p) = Event.Finished id a p
event_of (ServerEvent.Values n) = Event.Values n
event_of (ServerEvent.Unknown kind) = Event.Unknown kind
event_of (ServerEvent.Closed close) = Event.Closed (close_number close)

-- what a call wrote: the number of its refusal, 0 for none, and the bytes
abbrev pub wrote_refusal : Result ℕ ServerRefusal → ℕ
wrote_refusal (Ok n) = 0
wrote_refusal (Err r) = refusal_number r

abbrev pub wrote_bytes : Result ℕ ServerRefusal → ℕ
wrote_bytes (Ok n) = n
wrote_bytes (Err r) = 0

-- what a step tells, and the number of its refusal
abbrev pub result_event : Result ServerEvent ServerRefusal → Event
result_event (Ok e) = event_of e
result_event (Err r) = Event.None

abbrev pub result_refusal : Result ServerEvent ServerRefusal → ℕ
result_refusal (Ok e) = 0
result_refusal (Err r) = refusal_number r

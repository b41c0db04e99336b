-- What each case of the code's enums is in the rules' numbers and values.
use Rattle.std.specs.Prelude.{ℕ, Ok, Err, Result}
use Rattle.record.specs.Names.{RESPONDER, AUTHORIZER, FILTER, STDIN, STDOUT, STDERR, DATA, OVERLOADED, UNKNOWN_ROLE}
use Rattle.machine.specs.Cause.{Cause, Plain, At, cause_number}
use Rattle.connection.specs.declared.request.Role.{Role}
use Rattle.connection.specs.declared.request.Due.{Due}
use Rattle.connection.specs.declared.event.Stream.{Stream}
use Rattle.connection.specs.declared.event.Status.{Status}
use Rattle.connection.specs.declared.event.Fault.{Fault}
use Rattle.connection.specs.declared.event.Close.{Close}
use Rattle.connection.specs.declared.event.Event.{Event as CodeEvent}
use Rattle.connection.specs.declared.answer.Refusal.{Refusal}
use Rattle.connection.specs.declared.answer.Output.{Output}
use Rattle.connection.specs.Event.{Event}

-- the numbers of roles and streams
abbrev pub role_number : Role → ℕ
role_number Role.Responder = RESPONDER
role_number Role.Authorizer = AUTHORIZER
role_number Role.Filter = FILTER

abbrev pub stream_type : Stream → ℕ
stream_type Stream.Stdin = STDIN
stream_type Stream.Data = DATA

-- what the content of a stream is due to
abbrev pub stream_due : Stream → Due
stream_due Stream.Stdin = Due.Stdin
stream_due Stream.Data = Due.Data

abbrev pub output_type : Output → ℕ
output_type Output.Stdout = STDOUT
output_type Output.Stderr = STDERR

-- why an opening is refused
abbrev pub status_number : Status → ℕ
status_number Status.Overloaded = OVERLOADED
status_number Status.UnknownRole = UNKNOWN_ROLE

-- faults and closes
abbrev pub fault_cause : Fault → Cause
fault_cause Fault.BeginAgain = Plain 21
fault_cause Fault.OutOfTurn = Plain 22
fault_cause Fault.WrongType = Plain 23
fault_cause Fault.TooLong = Plain 24
fault_cause (Fault.Malformed place) = At 25 place
fault_cause Fault.Repeated = Plain 26

abbrev pub fault_number : Fault → ℕ
fault_number fault = cause_number (fault_cause fault)

abbrev pub close_cause : Close → Cause
close_cause Close.Version = Plain 11
close_cause Close.BeginLength = Plain 12
close_cause Close.QueryLength = Plain 13
close_cause (Close.QueryMalformed place) = At 14 place

abbrev pub close_number : Close → ℕ
close_number close = cause_number (close_cause close)

-- an event of the code
abbrev pub event_of : CodeEvent → Event
event_of CodeEvent.Nothing = Event.None
event_of (CodeEvent.Open id role keep) = Event.Open id (role_number role) keep
event_of (CodeEvent.Ready id n) = Event.Ready id n
event_of (CodeEvent.Data id stream n) = Event.Data id (stream_type stream) n
event_of (CodeEvent.End id stream measure) = Event.End id (stream_type stream) measure
event_of (CodeEvent.Abort id) = Event.Abort id
event_of (CodeEvent.Refuse id status) = Event.Refuse id (status_number status)
event_of (CodeEvent.Fault id fault) = Event.Fault id (fault_cause fault)
event_of (CodeEvent.Query conns reqs mpxs) = Event.Query conns reqs mpxs
event_of (CodeEvent.Unknown kind) = Event.Unknown kind
event_of (CodeEvent.Closed close) = Event.Closed (close_cause close)

-- refusals by their number in the table
abbrev pub refusal_number : Refusal → ℕ
refusal_number Refusal.Closed = 1
refusal_number Refusal.StoreSize = 2
refusal_number Refusal.NotActive = 3
refusal_number Refusal.NotReady = 4
refusal_number Refusal.Ended = 5
refusal_number Refusal.NoRoom = 6
refusal_number Refusal.NoPair = 7
refusal_number Refusal.TooLong = 8
refusal_number Refusal.OutOfShape = 9
refusal_number Refusal.Waiting = 10

-- what a call wrote: the number of its refusal, 0 for none, and the bytes
abbrev pub wrote_refusal : Result ℕ Refusal → ℕ
wrote_refusal (Ok n) = 0
wrote_refusal (Err r) = refusal_number r

abbrev pub wrote_bytes : Result ℕ Refusal → ℕ
wrote_bytes (Ok n) = n
wrote_bytes (Err r) = 0

-- An event as numbers, which other languages are told: its flat form, and back.
use Rattle.std.specs.Prelude.{ℕ, ◌+◌, ◌/◌, ◌%◌, Bool, ◌&&◌, if◌then◌else◌}
use Rattle.wire.specs.Test.{◌=?◌}
use Rattle.machine.specs.Cause.{Cause, Plain, At, cause_number}
use Rattle.connection.specs.declared.event.Stream.{Stream}
use Rattle.connection.specs.declared.event.Measure.{Measure}
use Rattle.connection.specs.declared.event.Status.{Status}
use Rattle.connection.specs.declared.event.Fault.{Fault}
use Rattle.connection.specs.declared.event.Close.{Close}
use Rattle.connection.specs.declared.event.Event.{Event as CodeEvent}
use Rattle.connection.specs.Event.{Event}
use Rattle.connection.specs.Codes.{stream_type, status_number, fault_number, close_number, event_of}
use Rattle.flat_state.specs.Flat.{role_of}
use Rattle.flat_event.specs.declared.FlatEvent.{FlatEvent}
use Rattle.flat_event.specs.Kinds.{NOTHING, OPEN, READY, DATA, END, ABORT, REFUSE, FAULT, QUERY, UNKNOWN, CLOSED}

-- ---- numbers that the rules have none for
abbrev pub number_if : Bool → ℕ → ℕ
number_if b n = if b then n else 0

-- what was shown of a stream against the length that was stated
abbrev pub measure_number : Measure → ℕ
measure_number Measure.Unstated = 0
measure_number Measure.Short = 1
measure_number Measure.Exact = 2
measure_number Measure.Over = 3

-- which of FCGI_MAX_CONNS, FCGI_MAX_REQS and FCGI_MPXS_CONNS a query names
abbrev pub query_number : Bool → Bool → Bool → ℕ
query_number conns reqs mpxs = number_if conns 1 + number_if reqs 2 + number_if mpxs 4

-- the place that a cause has, 0 where it has none
abbrev pub place_of : Cause → ℕ
place_of (Plain n) = 0
place_of (At n place) = place

-- ---- the flat form of an event, which has 0 for what the event does not tell
abbrev pub told : ℕ → ℕ → ℕ → ℕ → ℕ → ℕ → ℕ → FlatEvent
told kind id stream number keep count place =
    record { count = count; id = id; place = place; kind = kind; stream = stream; number = number; keep = keep }

abbrev pub flat_told : Event → FlatEvent
flat_told Event.None = told NOTHING 0 0 0 0 0 0
flat_told (Event.Open id role keep) = told OPEN id 0 role (number_if keep 1) 0 0
flat_told (Event.Ready id n) = told READY id 0 0 0 n 0
flat_told (Event.Data id stream n) = told DATA id stream 0 0 n 0
flat_told (Event.End id stream measure) = told END id stream (measure_number measure) 0 0 0
flat_told (Event.Abort id) = told ABORT id 0 0 0 0 0
flat_told (Event.Refuse id status) = told REFUSE id 0 status 0 0 0
flat_told (Event.Fault id cause) = told FAULT id 0 (cause_number cause) 0 0 (place_of cause)
flat_told (Event.Query conns reqs mpxs) = told QUERY 0 0 (query_number conns reqs mpxs) 0 0 0
flat_told (Event.Unknown type) = told UNKNOWN 0 0 type 0 0 0
flat_told (Event.Closed cause) = told CLOSED 0 0 (cause_number cause) 0 0 (place_of cause)

abbrev pub flat_event : CodeEvent → FlatEvent
flat_event e = flat_told (event_of e)

-- ---- what has a number. A number that nothing has is read as the last.
unfoldable pub stream_of : ℕ → Stream
stream_of n = if n =? stream_type Stream.Stdin then Stream.Stdin else Stream.Data

unfoldable pub measure_of : ℕ → Measure
measure_of n =
    if n =? measure_number Measure.Unstated then Measure.Unstated
    else if n =? measure_number Measure.Short then Measure.Short
    else if n =? measure_number Measure.Exact then Measure.Exact
    else Measure.Over

unfoldable pub status_of : ℕ → Status
status_of n = if n =? status_number Status.Overloaded then Status.Overloaded else Status.UnknownRole

unfoldable pub fault_of : ℕ → ℕ → Fault
fault_of n place =
    if n =? fault_number Fault.BeginAgain then Fault.BeginAgain
    else if n =? fault_number Fault.OutOfTurn then Fault.OutOfTurn
    else if n =? fault_number Fault.WrongType then Fault.WrongType
    else if n =? fault_number Fault.TooLong then Fault.TooLong
    else if n =? fault_number (Fault.Malformed place) then Fault.Malformed place
    else Fault.Repeated

unfoldable pub close_of : ℕ → ℕ → Close
close_of n place =
    if n =? close_number Close.Version then Close.Version
    else if n =? close_number Close.BeginLength then Close.BeginLength
    else if n =? close_number Close.QueryLength then Close.QueryLength
    else Close.QueryMalformed place

abbrev pub open_of : ℕ → ℕ → ℕ → CodeEvent
open_of id role keep = CodeEvent.Open id (role_of role) (keep =? 1)

abbrev pub query_of : ℕ → CodeEvent
query_of n = CodeEvent.Query (n % 2 =? 1) (n / 2 % 2 =? 1) (n / 4 % 2 =? 1)

-- ---- the event that numbers are read as. A list's length is two bytes.
unfoldable pub read_event : FlatEvent → CodeEvent
read_event f =
    if f.kind =? NOTHING then CodeEvent.Nothing
    else if f.kind =? OPEN then open_of f.id f.number f.keep
    else if f.kind =? READY then CodeEvent.Ready f.id (f.count % 65536)
    else if f.kind =? DATA then CodeEvent.Data f.id (stream_of f.stream) f.count
    else if f.kind =? END then CodeEvent.End f.id (stream_of f.stream) (measure_of f.number)
    else if f.kind =? ABORT then CodeEvent.Abort f.id
    else if f.kind =? REFUSE then CodeEvent.Refuse f.id (status_of f.number)
    else if f.kind =? FAULT then CodeEvent.Fault f.id (fault_of f.number f.place)
    else if f.kind =? QUERY then query_of f.number
    else if f.kind =? UNKNOWN then CodeEvent.Unknown f.number
    else CodeEvent.Closed (close_of f.number f.place)

-- ---- the flat forms of events: what comes back as it was
unfoldable pub same_numbers : FlatEvent → FlatEvent → Bool
same_numbers f g =
    (f.count =? g.count)
    && (f.id =? g.id)
    && (f.place =? g.place)
    && (f.kind =? g.kind)
    && (f.stream =? g.stream)
    && (f.number =? g.number)
    && (f.keep =? g.keep)

abbrev pub known_event : FlatEvent → Bool
known_event f = same_numbers (flat_event (read_event f)) f

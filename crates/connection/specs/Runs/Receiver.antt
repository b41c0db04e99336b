-- The receiver's rules for one request as a machine of one request. Definitions only.
use Rattle.std.specs.Prelude.{Bool, true, false, List, [], ◌∷◌, ℕ, if◌then◌else◌}
use Rattle.std.proofs.Math.Option.{Option, none, some}
use Rattle.wire.specs.Test.{◌<?◌, ◌=?◌}
use Rattle.wire.specs.Buffer.{zeros}
use Rattle.record.specs.Names.{BEGIN_REQUEST, GET_VALUES, OVERLOADED, UNKNOWN_ROLE}
use Rattle.record.specs.Body.{begin_body_of}
use Rattle.record.specs.declared.body.BeginBody.{BeginBody}
use Rattle.pair_list.specs.List.{well_formed, broken_at}
use Rattle.machine.specs.Machine.{QueryOutcome, Asks, Breaks, HeaderOutcome, Decided, BeginOutcome, Declined, Accepted, CallOutcome, Stays, Leaves, Closes, InactiveOutcome, WrongBegin, NewBegin, PassedOver, ManagementOutcome, QueryTooLong, Notices, Gathers, Machine}
use Rattle.connection.specs.declared.request.Due.{Due}
use Rattle.connection.specs.declared.request.Role.{Role}
use Rattle.connection.specs.Sizes.{AREA, QUERY}
use Rattle.connection.specs.Event.{Event}
use Rattle.connection.specs.Codes.{role_number}
use Rattle.connection.specs.Request.{Held, Ruled, on_header, on_content, opened}
use Rattle.connection.specs.RequestCalls as Of
use Rattle.connection.specs.Step.{query_of, on_role}
use Rattle.connection.specs.Bytewise.{Note}
use Rattle.connection.specs.Arguments.{Question, ValueOf, SourceOf, PairOf, WalkOf, Reply, ValueIs, SourceIs, PairAnswer, WalkIs, Argument, ForRead, ForSay, ForEnd, ForFinish, Answer, RepliedWith, Wrote, FinishedWith, refused}

-- the area of a slot that is free
unfoldable pub clean_area : List ℕ
clean_area = zeros AREA

-- What is told of management records: a query with this list, a record of an unknown type.
pub data Notice : Type 0 where
  QueryWith : List ℕ → Notice
  UnknownType : ℕ → Notice

-- as an event
abbrev pub notice_event : Notice → Event
notice_event (QueryWith list) = query_of list
notice_event (UnknownType kind) = Event.Unknown kind

-- ---- events
-- an event over one content byte, as what is told
abbrev pub note_of : Event → ℕ → Option Note
note_of Event.None b = none
note_of (Event.Open id role keep) b = some (Note.Told (Event.Open id role keep))
note_of (Event.Ready id n) b = some (Note.Told (Event.Ready id n))
note_of (Event.Data id stream n) b = some (Note.Shown id stream b)
note_of (Event.End id stream measure) b = some (Note.Told (Event.End id stream measure))
note_of (Event.Abort id) b = some (Note.Told (Event.Abort id))
note_of (Event.Refuse id n) b = some (Note.Told (Event.Refuse id n))
note_of (Event.Fault id n) b = some (Note.Told (Event.Fault id n))
note_of (Event.Query conns reqs mpxs) b = some (Note.Told (Event.Query conns reqs mpxs))
note_of (Event.Unknown kind) b = some (Note.Told (Event.Unknown kind))
note_of (Event.Closed n) b = some (Note.Told (Event.Closed n))

-- the stream that content is due to; none: it is skipped
abbrev pub due_stream : Due → Option Due
due_stream Due.Skip = none
due_stream Due.Params = some Due.Params
due_stream Due.Stdin = some Due.Stdin
due_stream Due.Data = some Due.Data

-- ---- records
-- what a header comes to; its bytes are not shown
abbrev pub header_outcome : Ruled → HeaderOutcome Held Due Note
header_outcome r = Decided r.held (note_of r.event 0) (due_stream r.due)

-- a header with n content bytes
unfoldable pub receive_header : ℕ → ℕ → Held → HeaderOutcome Held Due Note
receive_header kind n h = header_outcome (on_header kind n h)

-- one content byte
unfoldable pub receive_byte : Due → ℕ → Held → Held × Option Note
receive_byte due b h = ((on_content due (b ∷ []) h).held, note_of (on_content due (b ∷ []) h).event b)

-- a request with its role and flag, in the area of a slot that was free
abbrev pub begin_as : ℕ → BeginBody → Role → BeginOutcome (List ℕ) Held Note
begin_as id b role =
    Accepted (λ area. record { request = opened id role b.keep; area = area }) (Note.Told (Event.Open id (role_number role) b.keep))

-- a BEGIN body
unfoldable pub receive_begin : ℕ → List ℕ → BeginOutcome (List ℕ) Held Note
receive_begin id body =
    on_role (begin_body_of body).role (begin_as id (begin_body_of body)) (Declined (Note.Told (Event.Refuse id UNKNOWN_ROLE)))

-- a query
unfoldable pub receive_query : List ℕ → QueryOutcome Notice
receive_query list = if well_formed list then Asks (QueryWith list) else Breaks (broken_at list)

-- a header of id 0
unfoldable pub receive_management : ℕ → ℕ → ManagementOutcome Notice
receive_management kind n =
    if kind =? GET_VALUES then (if QUERY <? n then QueryTooLong else Gathers) else Notices (UnknownType kind)

-- a header of an id that is not active
unfoldable pub receive_inactive : ℕ → ℕ → InactiveOutcome
receive_inactive kind n = if kind =? BEGIN_REQUEST then (if n =? 8 then NewBegin else WrongBegin) else PassedOver

-- ---- calls
-- what the request answers to a call that only reads
abbrev pub reply_in : Held → Question → Reply
reply_in h (ValueOf name fallback) = ValueIs (Of.value_in h name fallback)
reply_in h (SourceOf name) = SourceIs (Of.source_in h name)
reply_in h (PairOf k) = PairAnswer (Of.pair_in h k)
reply_in h WalkOf = WalkIs (Of.walk_in h)

-- a call that writes
abbrev pub written_as : Held → Of.Writing → CallOutcome Held Answer
written_as h w =
    Stays (record { request = w.request; area = h.area }) (Wrote w.refusal w.written w.buffer)

-- finish: with KEEP_CONN the request leaves, without it the connection closes
unfoldable pub finished_as : Bool → Held → Of.Writing → CallOutcome Held Answer
finished_as keep h w =
    if w.refusal =? 0 then
    (if keep then Leaves (FinishedWith 0 w.written false w.buffer) else Closes (FinishedWith 0 w.written true w.buffer))
    else Stays h (FinishedWith w.refusal 0 false w.buffer)

-- the calls, each answered by its request
unfoldable pub receive_call : Argument → Held → CallOutcome Held Answer
receive_call (ForRead q) h = Stays h (RepliedWith (reply_in h q))
receive_call (ForSay output bytes buffer) h = written_as h (Of.say_in h.request output bytes buffer)
receive_call (ForEnd output buffer) h = written_as h (Of.end_in h.request output buffer)
receive_call (ForFinish status buffer) h = finished_as h.request.state.keep h (Of.finish_in h.request status buffer)

-- The machine. Refused by 3 where the id is not active, by 1 where the connection is closed.
abbrev pub receiver : Machine
receiver =
    record {
      Leftover = List ℕ;
      clean = clean_area;
      Request = Held;
      Stream = Due;
      Event = Note;
      Notice = Notice;
      Argument = Argument;
      Answer = Answer;
      on_header = receive_header;
      on_byte = receive_byte;
      on_begin = receive_begin;
      overloaded = Note.Told (Event.Refuse 0 OVERLOADED);
      on_inactive = receive_inactive;
      on_management = receive_management;
      on_query = receive_query;
      on_call = receive_call;
      when_inactive = refused 3;
      when_closed = refused 1;
    }

-- The receiver's rules for one request, with output that waits, as a machine of one request. Definitions only.
use Rattle.std.specs.Prelude.{◌≡◌, Bool, true, false, List, [], ◌∷◌, ◌++◌, map, ℕ, ◌+◌, ◌<◌, length, take, if◌then◌else◌}
use Rattle.std.proofs.Math.Option.{Option}
use Rattle.wire.specs.Test.{◌<?◌, ◌=?◌}
use Rattle.record.specs.Names.{END_REQUEST}
use Rattle.record_writer.specs.Written.{record_bytes}
use Rattle.machine.specs.Machine.{HeaderOutcome, Decided, BeginOutcome, Declined, Accepted, CallOutcome, Stays, Retires, Leaves, Closes, Machine}
use Rattle.machine_queue.specs.Waiting.{Queue}
use Rattle.connection.specs.declared.request.Due.{Due}
use Rattle.connection.specs.declared.request.Request.{Request}
use Rattle.connection.specs.declared.answer.Output.{Output}
use Rattle.connection.specs.Codes.{output_type}
use Rattle.connection.specs.Request.{Held}
use Rattle.connection.specs.RequestCalls.{no_output, is_ended, said_on, ended_on}
use Rattle.connection.specs.Bytewise.{Note}
use Rattle.connection.specs.Arguments.{Argument, ForRead, ForSay, ForEnd, ForFinish, Answer, RepliedWith, Wrote, FinishedWith, refused}
use Rattle.connection.specs.Runs.Receiver.{receiver, receive_header, receive_byte, receive_begin, receive_call}
use Rattle.queue_slot.specs.Finishing.{spent_by, last_words}
use Rattle.queue_slot.specs.Wait.{ROOM}
use Rattle.queue_slot.specs.Atoms.{Atom, ByteOn, EndOf, EndRequest, data_in, is_some, end_waits, Next, NoNext, NextEnd, NextData, NextLast, next, atoms_of}

-- A request with what of its output waits, oldest first. It is leaving while END waits.
pub record Queued : Type 0 where
  pub held : Held
  pub waiting : List Atom

-- a request with what waits
abbrev pub queued : Held → List Atom → Queued
queued h l = record { held = h; waiting = l }

-- What is asked: a call that writes straight out or reads; to let data, an end, or the ends that are owed and END wait;
-- to write what waited longest.
pub data Asked : Type 0 where
  Straight : Argument → Asked
  QueueSay : Output → List ℕ → Asked
  QueueEnd : Output → Asked
  QueueFinish : ℕ → Asked
  Serve : Asked

-- What is answered: as before; the refusal, 0 for none; the record that was written, if any.
pub data QueueAnswer : Type 0 where
  Straightly : Answer → QueueAnswer
  Queueing : ℕ → QueueAnswer
  Record : List ℕ → QueueAnswer

-- ---- records and content: as before
abbrev pub lifted_header : HeaderOutcome Held Due Note → List Atom → HeaderOutcome Queued Due Note
lifted_header (Decided h e k) l = Decided (queued h l) e k

-- a header: what waits goes on waiting
unfoldable pub queued_header : ℕ → ℕ → Queued → HeaderOutcome Queued Due Note
queued_header kind n r = lifted_header (receive_header kind n r.held) r.waiting

-- a content byte: likewise
unfoldable pub queued_byte : Due → ℕ → Queued → Queued × Option Note
queued_byte due b r = (queued (receive_byte due b r.held).0 r.waiting, (receive_byte due b r.held).1)

-- for a new request nothing waits
abbrev pub lifted_begin : BeginOutcome (List ℕ) Held Note → BeginOutcome (List ℕ) Queued Note
lifted_begin (Declined e) = Declined e
lifted_begin (Accepted f e) = Accepted (λ area. queued (f area) []) e

-- a BEGIN body
unfoldable pub queued_begin : ℕ → List ℕ → BeginOutcome (List ℕ) Queued Note
queued_begin id body = lifted_begin (receive_begin id body)

-- ---- straight calls
abbrev pub is_writer : Argument → Bool
is_writer (ForRead q) = false
is_writer (ForSay output bytes buffer) = true
is_writer (ForEnd output buffer) = true
is_writer (ForFinish status buffer) = true

-- the refusal in an answer, 0 for none
abbrev pub refusal_in : Answer → ℕ
refusal_in (RepliedWith r) = 0
refusal_in (Wrote n written buffer) = n
refusal_in (FinishedWith n written closed buffer) = n

-- in what a call comes to
abbrev pub refusal_of : CallOutcome Held Answer → ℕ
refusal_of (Stays h n) = refusal_in n
refusal_of (Retires h n) = refusal_in n
refusal_of (Leaves n) = refusal_in n
refusal_of (Closes n) = refusal_in n

-- what waits goes on waiting
abbrev pub lifted : CallOutcome Held Answer → List Atom → CallOutcome Queued QueueAnswer
lifted (Stays h n) l = Stays (queued h l) (Straightly n)
lifted (Retires h n) l = Retires (queued h l) (Straightly n)
lifted (Leaves n) l = Leaves (Straightly n)
lifted (Closes n) l = Closes (Straightly n)

-- Row 5 while END waits; row 10, last, while anything waits.
unfoldable pub held_up : CallOutcome Held Answer → List Atom → Bool
held_up o l = if refusal_of o =? 0 then is_some l else false

-- a call that writes
unfoldable pub straight_writer : Argument → CallOutcome Held Answer → Queued → CallOutcome Queued QueueAnswer
straight_writer a o r =
    if end_waits r.waiting then Stays r (Straightly (refused 5 a))
    else if held_up o r.waiting then Stays r (Straightly (refused 10 a))
    else lifted o r.waiting

-- every straight call
unfoldable pub straight_call : Argument → Queued → CallOutcome Queued QueueAnswer
straight_call a r =
    if is_writer a then straight_writer a (receive_call a r.held) r else lifted (receive_call a r.held) r.waiting

-- ---- queued calls
abbrev pub with_request : Held → Request → Held
with_request h r = record { request = r; area = h.area }

-- what a queued call may refuse by, but for row 10
unfoldable pub queue_refusal : Queued → Output → ℕ
queue_refusal r o =
    if end_waits r.waiting then 5
    else if no_output r.held.request then 4
    else if is_ended o r.held.request.state then 5
    else 0

-- data, with row 10 last
unfoldable pub queue_say : Queued → Output → List ℕ → CallOutcome Queued QueueAnswer
queue_say r o content =
    if queue_refusal r o =? 0 then
    (if ROOM <? data_in r.waiting + length content then Stays r (Queueing 10)
    else Stays (queued (with_request r.held (said_on r.held.request o content)) (r.waiting ++ map (ByteOn o) content)) (Queueing 0))
    else Stays r (Queueing (queue_refusal r o))

-- the end of a stream
unfoldable pub queue_end : Queued → Output → CallOutcome Queued QueueAnswer
queue_end r o =
    if queue_refusal r o =? 0 then Stays (queued (with_request r.held (ended_on r.held.request o)) (r.waiting ++ EndOf o ∷ [])) (Queueing 0)
    else Stays r (Queueing (queue_refusal r o))

-- finish
unfoldable pub queue_finish : Queued → ℕ → CallOutcome Queued QueueAnswer
queue_finish r status =
    if end_waits r.waiting then Stays r (Queueing 5)
    else Retires (queued (with_request r.held (spent_by r.held.request)) (r.waiting ++ last_words r.held.request.state status)) (Queueing 0)

-- ---- a serve
unfoldable pub served : Queued → Next → CallOutcome Queued QueueAnswer
served r NoNext = Stays r (Record [])
served r (NextEnd o l) = Stays (queued r.held l) (Record (record_bytes (output_type o) r.held.request.id []))
served r (NextData o content l) = Stays (queued r.held l) (Record (record_bytes (output_type o) r.held.request.id content))
served r (NextLast content l) =
    if r.held.request.state.keep then Leaves (Record (record_bytes END_REQUEST r.held.request.id content))
    else Closes (Record (record_bytes END_REQUEST r.held.request.id content))

-- ---- the machine
unfoldable pub queued_call : Asked → Queued → CallOutcome Queued QueueAnswer
queued_call (Straight a) r = straight_call a r
queued_call (QueueSay o content) r = queue_say r o content
queued_call (QueueEnd o) r = queue_end r o
queued_call (QueueFinish status) r = queue_finish r status
queued_call Serve r = served r (next r.waiting)

-- the answer where the call is refused before the request is asked
unfoldable pub refused_by : ℕ → Asked → QueueAnswer
refused_by n (Straight a) = Straightly (refused n a)
refused_by n (QueueSay o content) = Queueing n
refused_by n (QueueEnd o) = Queueing n
refused_by n (QueueFinish status) = Queueing n
refused_by n Serve = Record []

-- The machine.
abbrev pub queueing_receiver : Machine
queueing_receiver =
    record {
      Leftover = List ℕ;
      clean = receiver.clean;
      Request = Queued;
      Stream = Due;
      Event = Note;
      Notice = receiver.Notice;
      Argument = Asked;
      Answer = QueueAnswer;
      on_header = queued_header;
      on_byte = queued_byte;
      on_begin = queued_begin;
      overloaded = receiver.overloaded;
      on_inactive = receiver.on_inactive;
      on_management = receiver.on_management;
      on_query = receiver.on_query;
      on_call = queued_call;
      when_inactive = refused_by 3;
      when_closed = refused_by 1;
    }

-- ---- what waits, is said, is written
-- the bytes that a call wrote, read record by record
unfoldable pub wrote_in : Answer → List Atom
wrote_in (RepliedWith r) = []
wrote_in (Wrote n written buffer) = atoms_of (take written buffer)
wrote_in (FinishedWith n written closed buffer) = atoms_of (take written buffer)

-- what a call wrote
unfoldable pub wrote_by : Asked → QueueAnswer → List Atom
wrote_by a (Straightly n) = wrote_in n
wrote_by a (Queueing n) = []
wrote_by a (Record bytes) = atoms_of bytes

-- the answer of a straight call
abbrev pub answer_of : CallOutcome Held Answer → Answer
answer_of (Stays h n) = n
answer_of (Retires h n) = n
answer_of (Leaves n) = n
answer_of (Closes n) = n

-- the answer of a call, whatever it comes to
abbrev pub outcome_answer : CallOutcome Queued QueueAnswer → QueueAnswer
outcome_answer (Stays r n) = n
outcome_answer (Retires r n) = n
outcome_answer (Leaves n) = n
outcome_answer (Closes n) = n

-- what a call says that is not refused by 10
unfoldable pub said_in : Asked → Held → List Atom
said_in (Straight a) h = wrote_in (answer_of (receive_call a h))
said_in (QueueSay o content) h = if (if no_output h.request then true else is_ended o h.request.state) then [] else map (ByteOn o) content
said_in (QueueEnd o) h = if (if no_output h.request then true else is_ended o h.request.state) then [] else EndOf o ∷ []
said_in (QueueFinish status) h = last_words h.request.state status
said_in Serve h = []

-- refused by 10?
abbrev pub is_ten : QueueAnswer → Bool
is_ten (Straightly n) = refusal_in n =? 10
is_ten (Queueing n) = n =? 10
is_ten (Record bytes) = false

-- a serve?
abbrev pub is_serve_call : Asked → Bool
is_serve_call (Straight a) = false
is_serve_call (QueueSay o content) = false
is_serve_call (QueueEnd o) = false
is_serve_call (QueueFinish status) = false
is_serve_call Serve = true

-- nothing waits behind END, and its content is that of one record
abbrev pub EndsWithEnd : List Atom → Type 0
EndsWithEnd [] = Unit {0}
EndsWithEnd (ByteOn o b ∷ l) = EndsWithEnd l
EndsWithEnd (EndOf o ∷ l) = EndsWithEnd l
EndsWithEnd (EndRequest c ∷ l) = (l ≡ []) × (length c < 65536)

-- What waits, as the theory asks.
abbrev pub waiting_queue : Queue queueing_receiver
waiting_queue =
    record {
      Core = Held;
      Atom = Atom;
      core = λ r. r.held;
      leaving = λ r. end_waits r.waiting;
      waits = λ r. r.waiting;
      Sound = λ r. EndsWithEnd r.waiting;
      keeps = λ h. h.request.state.keep;
      is_serve = is_serve_call;
      said = said_in;
      wrote = wrote_by;
      is_held_up = is_ten;
    }

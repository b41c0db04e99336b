-- A connection over any machine of one request: it finds the request of a record or a call by its id, lets that
-- request decide, and puts it back. Definitions only.
use Rattle.std.specs.Prelude.{List, [], ◌∷◌, ◌++◌, Bool, true, false, ℕ, zero, suc, length, set, replicate, if◌then◌else◌}
use Rattle.std.proofs.Math.Option.{Option, none, some}
use Rattle.wire.specs.Test.{◌<?◌, ◌=?◌}
use Rattle.machine.specs.Cause.{Cause}
use Rattle.machine.specs.Timeline.{RequestCall, CountCall, Item, ByteItem, CallItem, header_version, header_type, header_id, header_content, header_padding}
use Rattle.machine.specs.Slots.{SlotState, Vacant, HeldBy, Lookup, Absent, FoundAt, Vacancy, NoVacancy, VacancyAt, lookup, first_vacancy, slot_at}

-- ---- what one request decides
-- On a header: the request after it, the event if any, and the stream that takes the content (none: it is skipped).
pub data HeaderOutcome (Request Stream Event : Type 0) : Type 0 where
  Decided : Request → Option Event → Option Stream → HeaderOutcome Request Stream Event

-- On a BEGIN body: declined, or accepted as a request that is made of what was left in its slot. Both with their event.
pub data BeginOutcome (Leftover Request Event : Type 0) : Type 0 where
  Declined : Event → BeginOutcome Leftover Request Event
  Accepted : (Leftover → Request) → Event → BeginOutcome Leftover Request Event

-- On a call: the request stays, or stays while the rest of its record is skipped, or leaves its slot, or leaves and the
-- connection closes. Each with the answer.
pub data CallOutcome (Request Answer : Type 0) : Type 0 where
  Stays : Request → Answer → CallOutcome Request Answer
  Retires : Request → Answer → CallOutcome Request Answer
  Leaves : Answer → CallOutcome Request Answer
  Closes : Answer → CallOutcome Request Answer

-- On a header of an id that is not active: a BEGIN record of a wrong length, one of the right length, any other record.
pub data InactiveOutcome : Type 0 where
  WrongBegin NewBegin PassedOver : InactiveOutcome

-- On a header of id 0: a query that is too long, a record that is noticed at once, a query to be gathered.
pub data ManagementOutcome (Notice : Type 0) : Type 0 where
  QueryTooLong : ManagementOutcome Notice
  Notices : Notice → ManagementOutcome Notice
  Gathers : ManagementOutcome Notice

-- On a whole query: what is told of it, or the place where it is malformed.
pub data QueryOutcome (Notice : Type 0) : Type 0 where
  Asks : Notice → QueryOutcome Notice
  Breaks : ℕ → QueryOutcome Notice

-- A machine of one request. It sees that request and nothing else: no slot number and no other request.
pub record Machine : Type 1 where
  -- what a free slot keeps, and what it keeps when it is clean
  pub Leftover : Type 0
  pub clean : Leftover
  -- all that is kept of one request, its own bytes with it
  pub Request : Type 0
  -- the streams of a request that take content
  pub Stream : Type 0
  -- what is told of a request
  pub Event : Type 0
  -- what is told of management records
  pub Notice : Type 0
  -- what a call asks, with its arguments and lent buffers, and what it answers, with these buffers afterwards
  pub Argument : Type 0
  pub Answer : Type 0
  -- a header of the request: its type and content length
  pub on_header : ℕ → ℕ → Request → HeaderOutcome Request Stream Event
  -- one content byte for a stream
  pub on_byte : Stream → ℕ → Request → Request × Option Event
  -- a whole BEGIN body for an id, and the event where no slot is free for it
  pub on_begin : ℕ → List ℕ → BeginOutcome Leftover Request Event
  pub overloaded : Event
  -- a header of an id that is not active, a header of id 0 (type and content length), a whole query
  pub on_inactive : ℕ → ℕ → InactiveOutcome
  pub on_management : ℕ → ℕ → ManagementOutcome Notice
  pub on_query : List ℕ → QueryOutcome Notice
  -- a call that names the request; the answers where the id is not active and where the connection is closed
  pub on_call : Argument → Request → CallOutcome Request Answer
  pub when_inactive : Argument → Answer
  pub when_closed : Argument → Answer

module _ (M : Machine) where
  open M use {Leftover, clean, Request, Stream, Event, Notice, Argument, Answer, on_header, on_byte, on_begin, overloaded, on_inactive, on_management, on_query, on_call, when_inactive, when_closed}

  -- ---- states
  -- What the content of a record goes to: nobody, the BEGIN body of an id or a query (with the bytes gathered), or a
  -- stream of the request in a slot.
  pub data Target : Type 0 where
    Skip : Target
    ToBegin : ℕ → List ℕ → Target
    ToQuery : List ℕ → Target
    ToSlot : ℕ → Stream → Target

  -- In a header, with the bytes of it that are in; or past a header, with so much content and so much padding left.
  pub data Reading : Type 0 where
    AtHeader : List ℕ → Reading
    PastHeader : Target → ℕ → ℕ → Reading

  -- the slots, by their numbers
  abbrev pub Slots : Type 0
  Slots = List (SlotState Leftover Request)

  -- A connection is open, with its slots and where it reads, or closed.
  pub data Connection : Type 0 where
    Open : Slots → Reading → Connection
    Closed : Connection

  -- a fresh start with n slots
  unfoldable pub fresh : ℕ → Connection
  fresh n = Open (replicate n (Vacant clean)) (AtHeader [])

  -- ---- observations
  -- What is observed: an event of a request, one of a management record, a close with its cause, the slots that the
  -- active number is counted from (none: closed), and the answer of a call with the request before and after it.
  pub data Observation : Type 0 where
    RequestEvent : ℕ → Event → Observation
    NoticeEvent : Notice → Observation
    CloseEvent : Cause → Observation
    CountAnswer : Option Slots → Observation
    CallAnswer : ℕ → Argument → Answer → Option Request → Option Request → Observation

  -- what an item leads to: a state, and at most one observation
  abbrev pub Effect : Type 0
  Effect = Connection × Option Observation

  -- the event of a request, if there is one
  unfoldable pub event_from : ℕ → Option Event → Option Observation
  event_from id none = none
  event_from id (some e) = some (RequestEvent id e)

  -- Past a header or a byte, with so much left of the record. With its last content byte a record's target is
  -- forgotten, with its last byte the record.
  unfoldable pub with_left : Target → ℕ → ℕ → Reading
  with_left s zero zero = AtHeader []
  with_left s zero (suc p) = PastHeader Skip zero (suc p)
  with_left s (suc c) p = PastHeader s (suc c) p

  -- ---- a header
  -- a query is whole: a malformed one closes the connection by 14, with its place
  unfoldable pub query_whole : QueryOutcome Notice → Slots → Reading → Effect
  query_whole (Breaks place) T F = (Closed, some (CloseEvent (Cause.At 14 place)))
  query_whole (Asks w) T F = (Open T F, some (NoticeEvent w))

  -- the header of a query: without content it is whole at once
  unfoldable pub query_header : ℕ → Slots → ℕ → Effect
  query_header zero T p = query_whole (on_query []) T (with_left Skip zero p)
  query_header (suc c) T p = (Open T (PastHeader (ToQuery []) (suc c) p), none)

  -- a header of id 0: a query that is too long closes the connection by 13
  unfoldable pub management_header : ManagementOutcome Notice → Slots → List ℕ → Effect
  management_header QueryTooLong T h = (Closed, some (CloseEvent (Cause.Plain 13)))
  management_header (Notices w) T h = (Open T (with_left Skip (header_content h) (header_padding h)), some (NoticeEvent w))
  management_header Gathers T h = query_header (header_content h) T (header_padding h)

  -- a header of an id that is not active: a BEGIN record of a wrong length closes the connection by 12
  unfoldable pub inactive_header : InactiveOutcome → Slots → List ℕ → Effect
  inactive_header WrongBegin T h = (Closed, some (CloseEvent (Cause.Plain 12)))
  inactive_header PassedOver T h = (Open T (with_left Skip (header_content h) (header_padding h)), none)
  inactive_header NewBegin T h = (Open T (with_left (ToBegin (header_id h) []) (header_content h) (header_padding h)), none)

  -- where the content goes that the request in slot i takes
  unfoldable pub target_at : ℕ → Option Stream → Target
  target_at i none = Skip
  target_at i (some k) = ToSlot i k

  -- the request in slot i has decided on its header, and is put back
  unfoldable pub header_decided : HeaderOutcome Request Stream Event → ℕ → Slots → List ℕ → Effect
  header_decided (Decided r e k) i T h =
      (Open (set T i (HeldBy (header_id h) r)) (with_left (target_at i k) (header_content h) (header_padding h)), event_from (header_id h) e)

  -- is the header's id active?
  unfoldable pub header_found : Lookup Request → Slots → List ℕ → Effect
  header_found Absent T h = inactive_header (on_inactive (header_type h) (header_content h)) T h
  header_found (FoundAt i r) T h = header_decided (on_header (header_type h) (header_content h) r) i T h

  -- is its id 0?
  unfoldable pub header_routed : Bool → Slots → List ℕ → Effect
  header_routed true T h = management_header (on_management (header_type h) (header_content h)) T h
  header_routed false T h = header_found (lookup (header_id h) T) T h

  -- is its version 1? Any other closes the connection by 11.
  unfoldable pub header_versioned : Bool → Slots → List ℕ → Effect
  header_versioned false T h = (Closed, some (CloseEvent (Cause.Plain 11)))
  header_versioned true T h = header_routed (header_id h =? 0) T h

  -- are its bytes fewer than eight still?
  unfoldable pub header_byte : Bool → Slots → List ℕ → Effect
  header_byte true T h = (Open T (AtHeader h), none)
  header_byte false T h = header_versioned (header_version h =? 1) T h

  -- ---- content and padding
  -- an accepted request goes to the lowest free slot, if there is one
  unfoldable pub request_seated : Vacancy Leftover → ℕ → (Leftover → Request) → Event → Slots → Reading → Effect
  request_seated NoVacancy id r e T F = (Open T F, some (RequestEvent id overloaded))
  request_seated (VacancyAt i x) id r e T F = (Open (set T i (HeldBy id (r x))) F, some (RequestEvent id e))

  -- a BEGIN body is whole
  unfoldable pub begin_whole : BeginOutcome Leftover Request Event → ℕ → Slots → Reading → Effect
  begin_whole (Declined e) id T F = (Open T F, some (RequestEvent id e))
  begin_whole (Accepted r e) id T F = request_seated (first_vacancy T) id r e T F

  -- a byte for a stream of the request in slot i; c content bytes are left after it
  unfoldable pub stream_byte : SlotState Leftover Request → ℕ → Stream → ℕ → ℕ → ℕ → Slots → Effect
  stream_byte (Vacant x) i k c p b T = (Open T (with_left Skip c p), none)
  stream_byte (HeldBy id r) i k c p b T =
      (Open (set T i (HeldBy id (on_byte k b r).0)) (with_left (ToSlot i k) c p), event_from id (on_byte k b r).1)

  -- one content byte; c are left after it
  unfoldable pub content_byte : Target → ℕ → ℕ → ℕ → Slots → Effect
  content_byte Skip c p b T = (Open T (with_left Skip c p), none)
  content_byte (ToBegin id g) zero p b T = begin_whole (on_begin id (g ++ b ∷ [])) id T (with_left Skip zero p)
  content_byte (ToBegin id g) (suc c) p b T = (Open T (PastHeader (ToBegin id (g ++ b ∷ [])) (suc c) p), none)
  content_byte (ToQuery g) zero p b T = query_whole (on_query (g ++ b ∷ [])) T (with_left Skip zero p)
  content_byte (ToQuery g) (suc c) p b T = (Open T (PastHeader (ToQuery (g ++ b ∷ [])) (suc c) p), none)
  content_byte (ToSlot i k) c p b T = stream_byte (slot_at clean T i) i k c p b T

  -- one byte: of a header, of content, of padding
  unfoldable pub record_byte : Slots → Reading → ℕ → Effect
  record_byte T (AtHeader h) b = header_byte (length (h ++ b ∷ []) <? 8) T (h ++ b ∷ [])
  record_byte T (PastHeader s (suc c) p) b = content_byte s c p b T
  record_byte T (PastHeader s zero (suc p)) b = (Open T (with_left s zero p), none)
  record_byte T (PastHeader s zero zero) b = (Open T (AtHeader []), none)

  -- ---- calls
  -- content that goes to slot i is skipped
  unfoldable pub target_without : ℕ → Target → Target
  target_without i Skip = Skip
  target_without i (ToBegin id g) = ToBegin id g
  target_without i (ToQuery g) = ToQuery g
  target_without i (ToSlot j k) = if i =? j then Skip else ToSlot j k

  -- the reader goes on in the record, without slot i
  unfoldable pub reading_without : ℕ → Reading → Reading
  reading_without i (AtHeader h) = AtHeader h
  reading_without i (PastHeader s c p) = PastHeader (target_without i s) c p

  -- the request q in slot i has decided on a call
  unfoldable pub call_decided : CallOutcome Request Answer → ℕ → Request → ℕ → Argument → Slots → Reading → Effect
  call_decided (Stays r n) i q id a T F = (Open (set T i (HeldBy id r)) F, some (CallAnswer id a n (some q) (some r)))
  call_decided (Retires r n) i q id a T F = (Open (set T i (HeldBy id r)) (reading_without i F), some (CallAnswer id a n (some q) (some r)))
  call_decided (Leaves n) i q id a T F = (Open (set T i (Vacant clean)) (reading_without i F), some (CallAnswer id a n (some q) none))
  call_decided (Closes n) i q id a T F = (Closed, some (CallAnswer id a n (some q) none))

  -- is the id of a call active?
  unfoldable pub request_called : Lookup Request → ℕ → Argument → Slots → Reading → Effect
  request_called Absent id a T F = (Open T F, some (CallAnswer id a (when_inactive a) none none))
  request_called (FoundAt i r) id a T F = call_decided (on_call a r) i r id a T F

  -- ---- runs
  -- one item
  unfoldable pub on_item : Connection → Item Argument → Effect
  on_item Closed (ByteItem b) = (Closed, none)
  on_item Closed (CallItem (RequestCall id a)) = (Closed, some (CallAnswer id a (when_closed a) none none))
  on_item Closed (CallItem CountCall) = (Closed, some (CountAnswer none))
  on_item (Open T F) (ByteItem b) = record_byte T F b
  on_item (Open T F) (CallItem (RequestCall id a)) = request_called (lookup id T) id a T F
  on_item (Open T F) (CallItem CountCall) = (Open T F, some (CountAnswer (some T)))

  -- the state after the items of a timeline
  unfoldable pub state_after : Connection → List (Item Argument) → Connection
  state_after s [] = s
  state_after s (x ∷ t) = state_after (on_item s x).0 t

  -- an observation, if there is one, as a list
  unfoldable pub as_list : Option Observation → List Observation
  as_list none = []
  as_list (some o) = o ∷ []

  -- what is observed on the way, in order
  unfoldable pub observations : Connection → List (Item Argument) → List Observation
  observations s [] = []
  observations s (x ∷ t) = as_list (on_item s x).1 ++ observations (on_item s x).0 t

  -- A run: where it ends, and what was observed.
  pub record Ran : Type 0 where
    pub state : Connection
    pub seen : List Observation

  -- the run of a timeline from a state
  abbrev pub ran : Connection → List (Item Argument) → Ran
  ran s t = record { state = state_after s t; seen = observations s t }

  -- the run from a fresh start with n + 1 slots
  abbrev pub ran_fresh : ℕ → List (Item Argument) → Ran
  ran_fresh n t = ran (fresh (suc n)) t

  -- ---- what is R's
  -- does an observation name R?
  unfoldable pub concerns : ℕ → Observation → Bool
  concerns R (RequestEvent id e) = id =? R
  concerns R (CallAnswer id a n v w) = id =? R
  concerns R (NoticeEvent w) = false
  concerns R (CloseEvent n) = false
  concerns R (CountAnswer n) = false

  -- those that do
  unfoldable pub observed : ℕ → List Observation → List Observation
  observed R [] = []
  observed R (o ∷ os) = if concerns R o then o ∷ observed R os else observed R os

  -- the request that was found, if any
  unfoldable pub request_found : Lookup Request → Option Request
  request_found Absent = none
  request_found (FoundAt i r) = some r

  -- the request of R in a state, if it is active there
  unfoldable pub request_in : ℕ → Connection → Option Request
  request_in R Closed = none
  request_in R (Open T F) = request_found (lookup R T)

-- Start, and one step.
use Rattle.std.specs.Prelude.{ℕ, ◌+◌, Bool, true, false, not, List, [], ◌∷◌, length, take, if◌then◌else◌, cond}
use Rattle.wire.specs.Test.{◌<?◌, ◌=?◌}
use Rattle.wire.specs.Buffer.{zeros, copied}
use Rattle.record.specs.Names.{VERSION, BEGIN_REQUEST, GET_VALUES, RESPONDER, AUTHORIZER, FILTER, OVERLOADED, UNKNOWN_ROLE}
use Rattle.record.specs.Body.{begin_body_of}
use Rattle.record.specs.declared.header.Header.{Header}
use Rattle.record.specs.declared.body.BeginBody.{BeginBody}
use Rattle.record_reader.specs.Position.{between_records, after_header, advanced}
use Rattle.record_reader.specs.declared.Position.{Position}
use Rattle.record_reader.specs.declared.Phase.{Phase}
use Rattle.record_reader.specs.declared.Advanced.{Advanced}
use Rattle.pair_list.specs.List.{well_formed, broken_at, is_named, first_named}
use Rattle.machine.specs.Cause.{Cause, Plain, At}
use Rattle.connection.specs.declared.request.Role.{Role}
use Rattle.connection.specs.declared.request.Due.{Due}
use Rattle.connection.specs.declared.state.Table.{Table}
use Rattle.connection.specs.declared.state.Target.{Target}
use Rattle.connection.specs.declared.state.Frame.{Frame}
use Rattle.connection.specs.declared.state.Conn.{Conn}
use Rattle.connection.specs.Sizes.{SLOTS, STORE, QUERY}
use Rattle.connection.specs.Event.{Event}
use Rattle.connection.specs.Codes.{role_number}
use Rattle.connection.specs.Refusal.{◌when◌, refusal}
use Rattle.connection.specs.Request.{Held, Ruled, on_header, on_content, opened}
use Rattle.connection.specs.Slots.{held_at, put_request, put_area, take_slot, free_slot_of, no_requests, find, on_slot}
use Rattle.connection.specs.Shape.{in_shape}

-- The state: the connection's value, and the gathered bytes of a query, which are lent beside it.
pub record State : Type 0 where
  pub conn : Conn
  pub gathered : List ℕ

-- the state: the connection's value and the gathered bytes
abbrev pub state_of : Conn → List ℕ → State
state_of c gathered = record { conn = c; gathered = gathered }

-- ---- frames
abbrev pub no_body : List ℕ
no_body = zeros 8

-- between two records
abbrev pub no_frame : Frame
no_frame = record { position = between_records; target = Target.Skip; gathered = 0; body = no_body }

-- with its content used up a record's target is forgotten
abbrev pub target_if : ℕ → Target → Target
target_if left target = if left =? 0 then Target.Skip else target

-- after a header, the content being for that target
abbrev pub frame_after : Header → Target → Frame
frame_after h target =
    record { position = after_header h; target = target_if h.content target; gathered = 0; body = no_body }

-- within content, with so many bytes of a body gathered
abbrev pub frame_within : Frame → Position → ℕ → List ℕ → Frame
frame_within f p n body = record { position = p; target = target_if p.content f.target; gathered = n; body = body }

-- with another position and all else as it is
abbrev pub frame_at : Frame → Position → Frame
frame_at f p = record { position = p; target = f.target; gathered = f.gathered; body = f.body }

-- ---- what a step leaves: state, store, and the event that it tells
pub record Left : Type 0 where
  pub conn : Conn
  pub gathered : List ℕ
  pub store : List ℕ
  pub event : Event

abbrev pub open_with : Table → Frame → Conn
open_with t f = record { table = t; frame = f; «open» = true }

abbrev pub closed_conn : Conn
closed_conn = record { table = no_requests; frame = no_frame; «open» = false }

-- only the frame changes
abbrev pub reads : State → List ℕ → Frame → Event → Left
reads st store f e = record { conn = open_with st.conn.table f; gathered = st.gathered; store = store; event = e }

-- A close frees all requests and zeroes the store. (The closes 11 to 14 are house rules.)
unfoldable pub closes : State → List ℕ → Cause → Left
closes st store cause =
    record { conn = closed_conn; gathered = st.gathered; store = zeros (length store); event = Event.Closed cause }

-- the request of slot i is put back as the rules left it
abbrev pub puts_back : State → List ℕ → ℕ → Held → Frame → Event → Left
puts_back st store i h f e =
    record {
      conn = open_with (put_request st.conn.table i h.request) f;
      gathered = st.gathered;
      store = put_area store i h.area;
      event = e;
    }

-- ---- a query (section 4.1): which of the three names it has; values and other names are ignored
-- FCGI_MAX_CONNS, FCGI_MAX_REQS, FCGI_MPXS_CONNS
abbrev pub MAX_CONNS : List ℕ
MAX_CONNS = 70 ∷ 67 ∷ 71 ∷ 73 ∷ 95 ∷ 77 ∷ 65 ∷ 88 ∷ 95 ∷ 67 ∷ 79 ∷ 78 ∷ 78 ∷ 83 ∷ []

abbrev pub MAX_REQS : List ℕ
MAX_REQS = 70 ∷ 67 ∷ 71 ∷ 73 ∷ 95 ∷ 77 ∷ 65 ∷ 88 ∷ 95 ∷ 82 ∷ 69 ∷ 81 ∷ 83 ∷ []

abbrev pub MPXS_CONNS : List ℕ
MPXS_CONNS = 70 ∷ 67 ∷ 71 ∷ 73 ∷ 95 ∷ 77 ∷ 80 ∷ 88 ∷ 83 ∷ 95 ∷ 67 ∷ 79 ∷ 78 ∷ 78 ∷ 83 ∷ []

unfoldable pub names : List ℕ → List ℕ → Bool
names list name = is_named (first_named list name)

unfoldable pub query_of : List ℕ → Event
query_of list = Event.Query (names list MAX_CONNS) (names list MAX_REQS) (names list MPXS_CONNS)

-- At its last byte: malformed pairs close the connection by 14 (house rule), at their place.
unfoldable pub queried : State → List ℕ → List ℕ → Frame → Left
queried st store list f = if well_formed list then reads st store f (query_of list) else closes st store (At 14 (broken_at list))

-- ---- the eighth header byte
-- Rules 2 and 3: id 0. A query that is too long closes the connection by 13 (house rule).
unfoldable pub on_management : State → List ℕ → Header → Left
on_management st store h =
    if h.kind =? GET_VALUES then
    (if QUERY <? h.content then closes st store (Plain 13)
    else if h.content =? 0 then queried st store [] (frame_after h Target.Skip)
    else reads st store (frame_after h Target.Query) Event.None)
    else reads st store (frame_after h Target.Skip) (Event.Unknown h.kind)

-- Rule 4: the id is not active. A BEGIN_REQUEST that has not 8 bytes closes the connection by 12 (house rule).
unfoldable pub on_inactive : State → List ℕ → Header → Left
on_inactive st store h =
    if h.kind =? BEGIN_REQUEST then
    (if h.content =? 8 then reads st store (frame_after h (Target.Begin h.id)) Event.None else closes st store (Plain 12))
    else reads st store (frame_after h Target.Skip) Event.None

-- where the content of the request in slot i goes
abbrev pub due_to : Due → ℕ → Target
due_to Due.Skip i = Target.Skip
due_to Due.Params i = Target.Params i
due_to Due.Stdin i = Target.Stdin i
due_to Due.Data i = Target.Data i

-- Rules 5 to 10: the request in slot i decides.
abbrev pub rules : State → List ℕ → Header → ℕ → Ruled → Left
rules st store h i r = puts_back st store i r.held (frame_after h (due_to r.due i)) r.event

unfoldable pub on_active : State → List ℕ → Header → ℕ → Left
on_active st store h i = rules st store h i (on_header h.kind h.content (held_at st.conn.table store i))

-- Rules 1 to 10. A version other than 1 closes the connection by 11 (house rule).
unfoldable pub judged : State → List ℕ → Header → Left
judged st store h =
    if h.version =? VERSION then
    (if h.id =? 0 then on_management st store h
    else on_slot (find st.conn.table h.id) (on_active st store h) (on_inactive st store h))
    else closes st store (Plain 11)

-- ---- content bytes; p is the position after them
-- A BEGIN body's eighth byte: an unknown role is refused by 3, else no free slot by 2 (house rule); else the request is
-- opened in the lowest-numbered free slot. A refused opening never closes the connection (house rule).
abbrev pub on_role {ℓ} : {A : Type ℓ} → ℕ → (Role → A) → A → A
on_role n f other =
    cond (n =? RESPONDER) (f Role.Responder)
    (cond (n =? AUTHORIZER) (f Role.Authorizer) (cond (n =? FILTER) (f Role.Filter) other))

unfoldable pub opens : State → List ℕ → ℕ → BeginBody → Role → Frame → Left
opens st store id b role f =
    if free_slot_of st.conn.table <? SLOTS then record {
      conn = open_with (take_slot st.conn.table (free_slot_of st.conn.table) (opened id role b.keep)) f;
      gathered = st.gathered;
      store = store;
      event = Event.Open id (role_number role) b.keep;
    }
    else reads st store f (Event.Refuse id OVERLOADED)

unfoldable pub begun : State → List ℕ → ℕ → BeginBody → Frame → Left
begun st store id b f =
    on_role b.role (λ role. opens st store id b role f) (reads st store f (Event.Refuse id UNKNOWN_ROLE))

-- A BEGIN body is gathered in the frame.
unfoldable pub of_begin : State → List ℕ → ℕ → List ℕ → Position → Left
of_begin st store id bytes p =
    let f = st.conn.frame in
    let body = copied f.body f.gathered bytes in
    if p.content =? 0 then begun st store id (begin_body_of body) (frame_within f p 0 no_body)
    else reads st store (frame_within f p (f.gathered + length bytes) body) Event.None

-- A query is gathered in the bytes that are lent for it.
unfoldable pub of_query : State → List ℕ → List ℕ → Position → Left
of_query st store bytes p =
    let f = st.conn.frame in
    let n = f.gathered + length bytes in
    let st' : State = record { conn = st.conn; gathered = copied st.gathered f.gathered bytes } in
    if p.content =? 0 then queried st' store (take n st'.gathered) (frame_within f p 0 f.body)
    else reads st' store (frame_within f p n f.body) Event.None

-- Content that is due to the request in slot i.
unfoldable pub of_request : State → List ℕ → Due → ℕ → List ℕ → Position → Left
of_request st store due i bytes p =
    let fed = on_content due bytes (held_at st.conn.table store i) in
    puts_back st store i fed.held (frame_within st.conn.frame p st.conn.frame.gathered st.conn.frame.body) fed.event

abbrev pub on_target : Target → State → List ℕ → List ℕ → Position → Left
on_target Target.Skip st store bytes p =
    reads st store (frame_within st.conn.frame p st.conn.frame.gathered st.conn.frame.body) Event.None
on_target (Target.Begin id) st store bytes p = of_begin st store id bytes p
on_target Target.Query st store bytes p = of_query st store bytes p
on_target (Target.Params i) st store bytes p = of_request st store Due.Params i bytes p
on_target (Target.Stdin i) st store bytes p = of_request st store Due.Stdin i bytes p
on_target (Target.Data i) st store bytes p = of_request st store Due.Data i bytes p

-- ---- one step
-- The phase of the bytes used: content goes to its target, a whole header is judged, anything else is read in silence.
abbrev pub on_phase : Phase → State → List ℕ → List ℕ → Position → Left
on_phase Phase.Content st store bytes p = on_target st.conn.frame.target st store bytes p
on_phase Phase.Padding st store bytes p = reads st store (frame_at st.conn.frame p) Event.None
on_phase Phase.Part st store bytes p = reads st store (frame_at st.conn.frame p) Event.None
on_phase (Phase.Whole h) st store bytes p = judged st store h

pub record Stepped : Type 0 where
  pub refusal : ℕ
  pub used : ℕ
  pub event : Event
  pub state : State
  pub store : List ℕ

abbrev pub stays : ℕ → State → List ℕ → Stepped
stays n st store = record { refusal = n; used = 0; event = Event.None; state = st; store = store }

abbrev pub leaves : ℕ → Left → Stepped
leaves used l =
    record { refusal = 0; used = used; event = l.event; state = record { conn = l.conn; gathered = l.gathered }; store = l.store }

unfoldable pub advances : State → List ℕ → List ℕ → Advanced → Stepped
advances st store piece a = leaves a.used (on_phase a.phase st store (take a.used piece) a.position)

-- Rows 2, 9 and 1: the store's size, the state's shape, the connection closed.
unfoldable pub step_refusal : Conn → List ℕ → ℕ
step_refusal c store = refusal ((2 when not (length store =? STORE)) ∷ (9 when not (in_shape c)) ∷ (1 when not c.«open») ∷ [])

-- A step stays in one phase and uses as many bytes as the phase still needs or the piece has. An empty piece uses none.
unfoldable pub stepped : State → List ℕ → List ℕ → Stepped
stepped st store piece =
    if step_refusal st.conn store =? 0 then
    (if length piece =? 0 then stays 0 st store
    else advances st store piece (advanced st.conn.frame.position piece))
    else stays (step_refusal st.conn store) st store

-- ---- start
pub record Started : Type 0 where
  pub refusal : ℕ
  pub state : State
  pub store : List ℕ

-- An open connection with no requests, the store and the gathered bytes zeroed; refused by 2, a closed one with no
-- requests.
unfoldable pub started : List ℕ → List ℕ → Started
started gathered store =
    if length store =? STORE then record {
      refusal = 0;
      state = record { conn = open_with no_requests no_frame; gathered = zeros (length gathered) };
      store = zeros (length store);
    }
    else record { refusal = 2; state = record { conn = closed_conn; gathered = gathered }; store = store }

-- The web server's end reads replies: what a whole header does, what content bytes do, and one step.
use Rattle.std.specs.Prelude.{ℕ, ◌+◌, Bool, true, false, not, List, [], ◌∷◌, length, take, if◌then◌else◌}
use Rattle.wire.specs.Test.{◌<?◌, ◌=?◌}
use Rattle.wire.specs.Buffer.{zeros, copied}
use Rattle.record.specs.Names.{VERSION, END_REQUEST, STDOUT, STDERR, GET_VALUES_RESULT, UNKNOWN_TYPE}
use Rattle.record.specs.Body.{end_body_of, unknown_type_of}
use Rattle.record.specs.declared.header.Header.{Header}
use Rattle.record.specs.declared.body.EndBody.{EndBody}
use Rattle.record_reader.specs.Position.{between_records, advanced}
use Rattle.record_reader.specs.declared.Position.{Position}
use Rattle.record_reader.specs.declared.Phase.{Phase}
use Rattle.pair_list.specs.List.{well_formed}
use Rattle.connection.specs.declared.state.Table.{Table}
use Rattle.connection.specs.declared.answer.Output.{Output}
use Rattle.connection.specs.Sizes.{QUERY}
use Rattle.connection.specs.Codes.{output_type}
use Rattle.connection.specs.RequestCalls.{is_ended, ended_on}
use Rattle.connection.specs.Slots.{request_at, put_request, free_slot, no_requests, find, on_slot}
use Rattle.connection.specs.Refusal.{◌when◌}
use Rattle.record_rules.specs.Rules.{Rules}
use Rattle.server.specs.declared.state.Target.{Target}
use Rattle.server.specs.declared.state.Server.{Server}
use Rattle.server.specs.Event.{Event, Note, notes}
use Rattle.server.specs.Refusal.{refusal}
use Rattle.server.specs.Shape.{in_shape}

-- The state: the server's value, and the bytes of a result, which are lent beside it.
pub record State : Type 0 where
  pub server : Server
  pub values : List ℕ

abbrev pub state_of : Server → List ℕ → State
state_of c values = record { server = c; values = values }

-- What the rules see and change: the state without the reader's position.
pub record Inner : Type 0 where
  pub table : Table
  pub target : Target
  pub gathered : ℕ
  pub body : List ℕ
  pub «open» : Bool
  pub values : List ℕ

abbrev pub inner_of : State → Inner
inner_of st =
    record {
      table = st.server.table;
      target = st.server.frame.target;
      gathered = st.server.frame.gathered;
      body = st.server.frame.body;
      «open» = st.server.«open»;
      values = st.values;
    }

abbrev pub state_at : Position → Inner → State
state_at p s =
    record {
      server = record { table = s.table; frame = record { position = p; target = s.target; gathered = s.gathered; body = s.body }; «open» = s.«open» };
      values = s.values;
    }

abbrev pub no_body : List ℕ
no_body = zeros 8

-- nothing of a record is being read
abbrev pub idle : Table → Bool → List ℕ → Inner
idle t o values = record { table = t; target = Target.Skip; gathered = 0; body = no_body; «open» = o; values = values }

-- What a rule leaves: the state without its position, and the event.
pub record Left : Type 0 where
  pub inner : Inner
  pub event : Event

abbrev pub told : Inner → Event → Left
told s e = record { inner = s; event = e }

-- A close frees all requests; the lent bytes stay.
unfoldable pub closes : Inner → ℕ → Left
closes s n = told (idle no_requests false s.values) (Event.Closed n)

-- with its content used up a record's target is forgotten
abbrev pub target_if : ℕ → Target → Target
target_if left target = if left =? 0 then Target.Skip else target

-- after a header with n content bytes for that target
abbrev pub aimed : Inner → Table → ℕ → Target → Inner
aimed s t n target =
    record { table = t; target = target_if n target; gathered = 0; body = no_body; «open» = true; values = s.values }

-- ---- the eighth header byte
-- A list of values whose last byte is in: malformed, it closes the connection by 55.
unfoldable pub valued : Inner → List ℕ → Left
valued s list =
    if well_formed list then told (idle s.table true s.values) (Event.Values (length list)) else closes s 55

-- UNKNOWN_TYPE, which has 8 bytes (54), and GET_VALUES_RESULT, which has at most QUERY (55); an empty result is told at
-- once.
unfoldable pub on_management : Inner → ℕ → ℕ → Left
on_management s kind n =
    if kind =? UNKNOWN_TYPE then (if n =? 8 then told (aimed s s.table n Target.Unknown) Event.None else closes s 54)
    else if QUERY <? n then closes s 55
    else if n =? 0 then valued s []
    else told (aimed s s.table n Target.Values) Event.None

abbrev pub output_target : Output → ℕ → Target
output_target Output.Stdout i = Target.Stdout i
output_target Output.Stderr i = Target.Stderr i

-- A record of output of the request in slot i. Of a stream that is ended it closes the connection by 56, empty or not;
-- else an empty one ends the stream.
unfoldable pub on_output : Inner → Output → ℕ → ℕ → Left
on_output s output n i =
    if is_ended output (request_at s.table i).state then closes s 56
    else if n =? 0 then
    told (aimed s (put_request s.table i (ended_on (request_at s.table i) output)) n Target.Skip) (Event.Ended (request_at s.table i).id (output_type output))
    else told (aimed s s.table n (output_target output i)) Event.None

abbrev pub output_of : ℕ → Output
output_of kind = if kind =? STDOUT then Output.Stdout else Output.Stderr

-- END_REQUEST, which has 8 bytes (54), or output.
unfoldable pub on_request : Inner → ℕ → ℕ → ℕ → Left
on_request s kind n i =
    if kind =? END_REQUEST then (if n =? 8 then told (aimed s s.table n (Target.End i)) Event.None else closes s 54)
    else on_output s (output_of kind) n i

abbrev pub is_management : ℕ → Bool
is_management kind = if kind =? GET_VALUES_RESULT then true else kind =? UNKNOWN_TYPE

-- the types of replies: END_REQUEST, STDOUT, STDERR, GET_VALUES_RESULT, UNKNOWN_TYPE
abbrev pub is_reply : ℕ → Bool
is_reply kind =
    if kind =? END_REQUEST then true
    else if kind =? STDOUT then true
    else if kind =? STDERR then true
    else is_management kind

-- A version other than 1 closes the connection by 51, a type that is no reply by 52, an id that is not open by 53
-- (of management records one that is not 0); then 54, 55 or 56 by the type.
unfoldable pub judged : Inner → Header → Left
judged s h =
    if h.version =? VERSION then
    (if is_reply h.kind then
    (if is_management h.kind then (if h.id =? 0 then on_management s h.kind h.content else closes s 53)
    else on_slot (find s.table h.id) (on_request s h.kind h.content) (closes s 53))
    else closes s 52)
    else closes s 51

-- ---- content bytes, with so many left after them
-- the state within content, with so many bytes gathered
abbrev pub frame_within : Inner → ℕ → ℕ → List ℕ → List ℕ → Inner
frame_within s left n body values =
    record { table = s.table; target = target_if left s.target; gathered = n; body = body; «open» = true; values = values }

-- with all else as it was
abbrev pub passed : Inner → ℕ → Inner
passed s left = frame_within s left s.gathered s.body s.values

-- END_REQUEST's eighth byte: the request is given back, whatever its statuses and its streams.
abbrev pub finished : Inner → ℕ → EndBody → Left
finished s i b =
    told (idle (free_slot s.table i) true s.values)
    (Event.Finished (request_at s.table i).id b.app_status b.protocol_status)

-- A body of eight bytes is gathered in the frame.
abbrev pub gathering : Inner → List ℕ → ℕ → (List ℕ → Left) → Left
gathering s bytes left whole =
    if left =? 0 then whole (copied s.body s.gathered bytes)
    else
    told (frame_within s left (s.gathered + length bytes) (copied s.body s.gathered bytes) s.values) Event.None

abbrev pub with_values : Inner → List ℕ → Inner
with_values s values =
    record { table = s.table; target = s.target; gathered = s.gathered; body = s.body; «open» = s.«open»; values = values }

-- A result is gathered in the bytes that are lent for it.
unfoldable pub of_values : Inner → List ℕ → ℕ → Left
of_values s bytes left =
    let values = copied s.values s.gathered bytes in
    if left =? 0 then valued (with_values s values) (take (s.gathered + length bytes) values)
    else told (frame_within s left (s.gathered + length bytes) s.body values) Event.None

abbrev pub on_target : Target → Inner → List ℕ → ℕ → Left
on_target Target.Skip s bytes left = told (passed s left) Event.None
on_target (Target.Stdout i) s bytes left =
    told (passed s left) (Event.Output (request_at s.table i).id STDOUT (length bytes))
on_target (Target.Stderr i) s bytes left =
    told (passed s left) (Event.Output (request_at s.table i).id STDERR (length bytes))
on_target (Target.End i) s bytes left = gathering s bytes left (λ body. finished s i (end_body_of body))
on_target Target.Unknown s bytes left =
    gathering s bytes left (λ body. told (idle s.table true s.values) (Event.Unknown (unknown_type_of body)))
on_target Target.Values s bytes left = of_values s bytes left

unfoldable pub taken : Inner → List ℕ → ℕ → Left
taken s bytes left = on_target s.target s bytes left

-- ---- the rules, as a reader of records has them
abbrev pub rules : Rules
rules =
    record {
      State = Inner;
      Note = Note;
      is_open = λ s. s.«open»;
      judged = λ s h. record { state = (judged s h).inner; notes = notes (judged s h).event [] (judged s h).inner.values };
      taken = λ s x n. record { state = (taken s x n).inner; notes = notes (taken s x n).event x (taken s x n).inner.values };
    }

-- ---- one step
pub record Stepped : Type 0 where
  pub refusal : ℕ
  pub used : ℕ
  pub event : Event
  pub state : State

abbrev pub stays : ℕ → State → Stepped
stays n st = record { refusal = n; used = 0; event = Event.None; state = st }

-- after what a rule left: one that is closed stands between two records
abbrev pub leaves : ℕ → Position → Left → Stepped
leaves used p l =
    record { refusal = 0; used = used; event = l.event; state = state_at (if l.inner.«open» then p else between_records) l.inner }

-- only the position changes
abbrev pub moves : ℕ → Position → Inner → Stepped
moves used p s = record { refusal = 0; used = used; event = Event.None; state = state_at p s }

-- The phase of the bytes used: content goes to its target, a whole header is judged, anything else is read in silence.
abbrev pub on_phase : Phase → Inner → List ℕ → ℕ → Position → Stepped
on_phase Phase.Content s bytes used p = leaves used p (taken s bytes p.content)
on_phase Phase.Padding s bytes used p = moves used p s
on_phase Phase.Part s bytes used p = moves used p s
on_phase (Phase.Whole h) s bytes used p = leaves used p (judged s h)

-- Rows 9 and 1: the state's shape, the connection closed.
unfoldable pub step_refusal : Server → ℕ
step_refusal c = refusal ((9 when not (in_shape c)) ∷ (1 when not c.«open») ∷ [])

-- A step stays in one phase and uses as many bytes as the phase still needs or the piece has. An empty piece uses none.
unfoldable pub stepped : State → List ℕ → Stepped
stepped st piece =
    if step_refusal st.server =? 0 then
    (if length piece =? 0 then stays 0 st
    else
    let a = advanced st.server.frame.position piece in
    on_phase a.phase (inner_of st) (take a.used piece) a.used a.position)
    else stays (step_refusal st.server) st

-- ---- start: open, with no requests, the lent bytes zeroed; never refused
unfoldable pub started : List ℕ → State
started values = state_at between_records (idle no_requests true (zeros (length values)))

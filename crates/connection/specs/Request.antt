-- The rules for one request. They see the request's record and its own area, and nothing else: no slot, no other
-- request.
use Rattle.std.specs.Prelude.{ℕ, ◌+◌, Bool, true, false, not, List, [], ◌∷◌, length, take, if◌then◌else◌, Some, None, Option}
use Rattle.wire.specs.Test.{◌<?◌, ◌≤?◌, ◌=?◌}
use Rattle.wire.specs.Buffer.{copied, zeros}
use Rattle.record.specs.Names.{BEGIN_REQUEST, ABORT_REQUEST, PARAMS, STDIN, DATA}
use Rattle.pair_list.specs.List.{well_formed, broken_at}
use Rattle.pair_repeats.specs.Repeats.{repeats}
use Rattle.stated_length.specs.Stated.{stated_in}
use Rattle.machine.specs.Cause.{Cause, Plain, At}
use Rattle.connection.specs.declared.request.Role.{Role}
use Rattle.connection.specs.declared.request.Turn.{Turn}
use Rattle.connection.specs.declared.request.Life.{Life}
use Rattle.connection.specs.declared.request.RequestState.{RequestState}
use Rattle.connection.specs.declared.request.Shown.{Shown}
use Rattle.connection.specs.declared.request.Request.{Request}
use Rattle.connection.specs.declared.request.Due.{Due}
use Rattle.connection.specs.declared.event.Measure.{Measure}
use Rattle.connection.specs.Event.{Event}
use Rattle.connection.specs.Sizes.{AREA}

-- What a slot holds: a request, and the area that is its own.
pub record Held : Type 0 where
  pub request : Request
  pub area : List ℕ

-- its list: the area up to its length
abbrev pub list_of : Held → List ℕ
list_of h = take h.request.length h.area

-- ---- the state of a request
unfoldable pub with_turn : RequestState → Turn → RequestState
with_turn m t =
    record { role = m.role; turn = t; life = m.life; keep = m.keep; out_ended = m.out_ended; err_used = m.err_used; err_ended = m.err_ended; shown = m.shown }

unfoldable pub with_life : RequestState → Life → RequestState
with_life m l =
    record { role = m.role; turn = m.turn; life = l; keep = m.keep; out_ended = m.out_ended; err_used = m.err_used; err_ended = m.err_ended; shown = m.shown }

abbrev pub with_shown : RequestState → Shown → RequestState
with_shown m c =
    record { role = m.role; turn = m.turn; life = m.life; keep = m.keep; out_ended = m.out_ended; err_used = m.err_used; err_ended = m.err_ended; shown = c }

abbrev pub with_state : Request → RequestState → Request
with_state r m = record { id = r.id; length = r.length; state = m }

-- spent: faulted or aborted
abbrev pub is_spent : Life → Bool
is_spent Life.Live = false
is_spent Life.Faulted = true
is_spent Life.Aborted = true

-- ---- what was shown of a request's input
abbrev pub unshown : Shown
unshown = record { stdin = 0; «data» = 0 }

-- the number that a count stays at
abbrev pub MOST : ℕ
MOST = 4294967295

-- n bytes more
unfoldable pub counted : ℕ → ℕ → ℕ
counted count n = if count + n <? MOST then count + n else MOST

-- The count of the stream that content is due to grows; nothing else is counted.
abbrev pub shown_more : Due → ℕ → Shown → Shown
shown_more Due.Skip n c = c
shown_more Due.Params n c = c
shown_more Due.Stdin n c = record { stdin = counted c.stdin n; «data» = c.«data» }
shown_more Due.Data n c = record { stdin = c.stdin; «data» = counted c.«data» n }

-- A count against the length that a list states.
unfoldable pub measured : ℕ → Option ℕ → Measure
measured count None = Measure.Unstated
measured count (Some n) =
    if count <? n then Measure.Short
    else if n <? count then Measure.Over
    else Measure.Exact

-- CONTENT_LENGTH and FCGI_DATA_LENGTH
abbrev pub CONTENT_LENGTH : List ℕ
CONTENT_LENGTH = 67 ∷ 79 ∷ 78 ∷ 84 ∷ 69 ∷ 78 ∷ 84 ∷ 95 ∷ 76 ∷ 69 ∷ 78 ∷ 71 ∷ 84 ∷ 72 ∷ []

abbrev pub DATA_LENGTH : List ℕ
DATA_LENGTH = 70 ∷ 67 ∷ 71 ∷ 73 ∷ 95 ∷ 68 ∷ 65 ∷ 84 ∷ 65 ∷ 95 ∷ 76 ∷ 69 ∷ 78 ∷ 71 ∷ 84 ∷ 72 ∷ []

abbrev pub stdin_measure : Held → Measure
stdin_measure h = measured h.request.state.shown.stdin (stated_in (list_of h) CONTENT_LENGTH)

abbrev pub data_measure : Held → Measure
data_measure h = measured h.request.state.shown.«data» (stated_in (list_of h) DATA_LENGTH)

-- the turns: PARAMS to its end, then STDIN (responder, filter), then DATA (filter only)
abbrev pub after_params : Role → Turn
after_params Role.Responder = Turn.Stdin
after_params Role.Authorizer = Turn.Done
after_params Role.Filter = Turn.Stdin

abbrev pub after_stdin : Role → Turn
after_stdin Role.Responder = Turn.Done
after_stdin Role.Authorizer = Turn.Done
after_stdin Role.Filter = Turn.Data

-- the type of the stream whose turn it is; 0 where none is left
abbrev pub turn_type : Turn → ℕ
turn_type Turn.Params = PARAMS
turn_type Turn.Stdin = STDIN
turn_type Turn.Data = DATA
turn_type Turn.Done = 0

-- ---- what a header does to its request
pub record Ruled : Type 0 where
  pub held : Held
  pub due : Due
  pub event : Event

abbrev pub ruled : Held → Due → Event → Ruled
ruled h d e = record { held = h; due = d; event = e }

-- skipped in silence
abbrev pub skipped : Held → Ruled
skipped h = ruled h Due.Skip Event.None

-- A fault zeroes the request's area, sets its length and its counts to 0 and spends it; the rest of the record is skipped.
unfoldable pub faulted : Held → Cause → Ruled
faulted h cause =
    ruled
    (record {
      request = record { id = h.request.id; length = 0; state = with_shown (with_life h.request.state Life.Faulted) unshown };
      area = zeros (length h.area);
    })
    Due.Skip (Event.Fault h.request.id cause)

-- An abort spends the request; its area and its counts stay.
unfoldable pub aborted : Held → Ruled
aborted h =
    ruled (record { request = with_state h.request (with_life h.request.state Life.Aborted); area = h.area }) Due.Skip
    (Event.Abort h.request.id)

-- A stream ends: the turn moves on.
unfoldable pub turned : Held → Turn → Event → Ruled
turned h t e =
    ruled (record { request = with_state h.request (with_turn h.request.state t); area = h.area }) Due.Skip e

-- What the end of PARAMS comes to: a fault, or none. A malformed list is fault 25, at its place; else one with two pairs
-- of the same name is fault 26 (house rule).
unfoldable pub params_fault : List ℕ → Option Cause
params_fault list =
    if not (well_formed list) then Some (At 25 (broken_at list))
    else if repeats list then Some (Plain 26)
    else None

abbrev pub ends_by : Option Cause → Held → Ruled
ends_by None h = turned h (after_params h.request.state.role) (Event.Ready h.request.id h.request.length)
ends_by (Some cause) h = faulted h cause

unfoldable pub params_ended : Held → Ruled
params_ended h = ends_by (params_fault (list_of h)) h

-- Rule 8. PARAMS with n content bytes.
unfoldable pub on_params : ℕ → Held → Ruled
on_params n h =
    if AREA <? h.request.length + n then faulted h (Plain 24)
    else if n =? 0 then params_ended h
    else ruled h Due.Params Event.None

-- Rule 9. STDIN and DATA: their content is shown; an empty record ends the stream. The end says how what was shown
-- compares with the length that the list states for the stream.
unfoldable pub on_stdin : ℕ → Held → Ruled
on_stdin n h =
    if n =? 0 then turned h (after_stdin h.request.state.role) (Event.End h.request.id STDIN (stdin_measure h))
    else ruled h Due.Stdin Event.None

unfoldable pub on_data : ℕ → Held → Ruled
on_data n h =
    if n =? 0 then turned h Turn.Done (Event.End h.request.id DATA (data_measure h)) else ruled h Due.Data Event.None

-- a record of the stream whose turn it is
abbrev pub in_turn : Turn → ℕ → Held → Ruled
in_turn Turn.Params n h = on_params n h
in_turn Turn.Stdin n h = on_stdin n h
in_turn Turn.Data n h = on_data n h
in_turn Turn.Done n h = faulted h (Plain 22)

abbrev pub is_input : ℕ → Bool
is_input kind = if kind =? PARAMS then true else if kind =? STDIN then true else kind =? DATA

-- Rule 7. A record of an input stream that is out of turn is fault 22.
unfoldable pub on_input : ℕ → ℕ → Held → Ruled
on_input kind n h =
    if kind =? turn_type h.request.state.turn then in_turn h.request.state.turn n h else faulted h (Plain 22)

-- Rules 6 to 10: a header of that type with n content bytes, for a request that is not spent.
unfoldable pub on_live : ℕ → ℕ → Held → Ruled
on_live kind n h =
    if kind =? BEGIN_REQUEST then faulted h (Plain 21)
    else if kind =? ABORT_REQUEST then aborted h
    else if is_input kind then on_input kind n h
    else faulted h (Plain 23)

-- Rule 5: the records of a spent request are skipped in silence.
unfoldable pub on_header : ℕ → ℕ → Held → Ruled
on_header kind n h = if is_spent h.request.state.life then skipped h else on_live kind n h

-- ---- what content does to its request
-- PARAMS content goes into the area after the list, and the list grows by it. (In a state in shape it does not pass
-- AREA.)
unfoldable pub grown : Held → List ℕ → Held
grown h bytes =
    if h.request.length + length bytes ≤? AREA then record {
      request = record { id = h.request.id; length = h.request.length + length bytes; state = h.request.state };
      area = copied h.area h.request.length bytes;
    }
    else h

-- Content that is shown is counted, and kept nowhere.
abbrev pub counts_on : Due → ℕ → Request → Request
counts_on due n r = with_state r (with_shown r.state (shown_more due n r.state.shown))

abbrev pub showed : Due → ℕ → Held → Held
showed due n h = record { request = counts_on due n h.request; area = h.area }

-- Content that is due to a request: PARAMS is kept, STDIN and DATA are shown.
pub record Fed : Type 0 where
  pub held : Held
  pub event : Event

abbrev pub on_content : Due → List ℕ → Held → Fed
on_content Due.Skip bytes h = record { held = h; event = Event.None }
on_content Due.Params bytes h = record { held = grown h bytes; event = Event.None }
on_content Due.Stdin bytes h = record { held = showed Due.Stdin (length bytes) h; event = Event.Data h.request.id STDIN (length bytes) }
on_content Due.Data bytes h = record { held = showed Due.Data (length bytes) h; event = Event.Data h.request.id DATA (length bytes) }

-- ---- a request as it is opened
unfoldable pub opened : ℕ → Role → Bool → Request
opened id role keep =
    record {
      id = id;
      length = 0;
      state = record { role = role; turn = Turn.Params; life = Life.Live; keep = keep; out_ended = false; err_used = false; err_ended = false; shown = unshown };
    }

-- The plain receiver (request [14]): a whole connection in one list of bytes, record by record. There are no phases
-- here, no slots and no store. It is written from the text of the rules (docs/RULES.md) and shares with the stepping
-- receiver the reading of pairs, and the type of events with its numbers; that both come to the same is a theorem.
use Rattle.std.specs.Prelude.{ℕ, zero, suc, ◌+◌, ◌*◌, ◌%◌, Bool, true, false, List, [], ◌∷◌, ◌++◌, length, take, drop, get_or, set, if◌then◌else◌, Some, Option, None}
use Rattle.wire.specs.Test.{◌<?◌, ◌≤?◌, ◌=?◌}
use Rattle.pair_list.specs.List.{well_formed, broken_at, first_named, is_named}
use Rattle.pair_repeats.specs.Repeats.{repeats}
use Rattle.stated_length.specs.Stated.{stated_in}
use Rattle.machine.specs.Cause.{Cause, Plain, At}
use Rattle.connection.specs.declared.event.Measure.{Measure}
use Rattle.connection.specs.Event.{Event}
use Rattle.connection.specs.Bytewise.{Note, Told, Shown}

-- ---- record types
abbrev pub BEGIN : ℕ
BEGIN = 1

abbrev pub ABORT : ℕ
ABORT = 2

abbrev pub PARAMS : ℕ
PARAMS = 4

abbrev pub STDIN : ℕ
STDIN = 5

abbrev pub DATA : ℕ
DATA = 8

abbrev pub GET_VALUES : ℕ
GET_VALUES = 9

-- ---- what is told: events, one for each byte of data, and the last word. A close is no event, it is a last word.
pub data Word : Type 0 where
  Open : Word
  Cut : Word
  Closed : Cause → Word

pub record Heard : Type 0 where
  pub events : List Note
  pub word : Word

-- ---- an active request: the type of the stream whose turn it is (0 where none is left), the PARAMS content so far, and
-- how many bytes of the stream whose turn it is were shown
pub record Request : Type 0 where
  pub id : ℕ
  pub role : ℕ
  pub turn : ℕ
  pub spent : Bool
  pub list : List ℕ
  pub shown : ℕ

abbrev pub nobody : Request
nobody = record { id = 0; role = 0; turn = 0; spent = false; list = []; shown = 0 }

-- two bytes, high first
abbrev pub two : List ℕ → ℕ → ℕ
two b i = get_or b i 0 * 256 + get_or b (i + 1) 0

-- ---- rules 5 to 10: an active request. n is the content length in the header, x the content, or as much as there is.
pub record Change : Type 0 where
  pub events : List Note
  pub request : Request

-- A fault: its parameters and counts are lost, and it is spent.
unfoldable pub fault : Request → Cause → Change
fault r cause =
    record {
      events = Told (Event.Fault r.id cause) ∷ [];
      request = record { id = r.id; role = r.role; turn = r.turn; spent = true; list = []; shown = 0 };
    }

-- An abort spends it.
unfoldable pub abort : Request → Change
abort r =
    record {
      events = Told (Event.Abort r.id) ∷ [];
      request = record { id = r.id; role = r.role; turn = r.turn; spent = true; list = r.list; shown = r.shown };
    }

-- the turns: PARAMS, then STDIN (responder, filter), then DATA (filter)
unfoldable pub next_turn : ℕ → ℕ → ℕ
next_turn role turn =
    if turn =? PARAMS then (if role =? 2 then 0 else STDIN)
    else if turn =? STDIN then (if role =? 3 then DATA else 0)
    else 0

-- A stream ends.
unfoldable pub ends : Request → Event → Change
ends r e =
    record {
      events = Told e ∷ [];
      request = record { id = r.id; role = r.role; turn = next_turn r.role r.turn; spent = false; list = r.list; shown = 0 };
    }

-- Content of PARAMS is kept.
unfoldable pub keep : Request → List ℕ → Change
keep r x =
    record {
      events = [];
      request = record { id = r.id; role = r.role; turn = r.turn; spent = false; list = r.list ++ x; shown = r.shown };
    }

-- Content of STDIN and DATA is shown, byte by byte.
unfoldable pub bytes : ℕ → ℕ → List ℕ → List Note
bytes id stream [] = []
bytes id stream (b ∷ x) = Shown id stream b ∷ bytes id stream x

unfoldable pub show : Request → ℕ → List ℕ → Change
show r kind x =
    record {
      events = bytes r.id kind x;
      request = record { id = r.id; role = r.role; turn = r.turn; spent = false; list = r.list; shown = r.shown + length x };
    }

-- PARAMS end: a list that is malformed, a list in which a name comes twice, or ready.
unfoldable pub params_end : Request → Change
params_end r =
    if well_formed r.list then
    (if repeats r.list then fault r (Plain 26) else ends r (Event.Ready r.id (length r.list)))
    else fault r (At 25 (broken_at r.list))

unfoldable pub on_params : Request → ℕ → List ℕ → Change
on_params r n x =
    if 4096 <? length r.list + n then fault r (Plain 24)
    else if n =? 0 then params_end r
    else keep r x

-- What was shown against the length that the list states: CONTENT_LENGTH for STDIN, FCGI_DATA_LENGTH for DATA.
unfoldable pub against : ℕ → Option ℕ → Measure
against shown None = Measure.Unstated
against shown (Some n) =
    if shown =? n then Measure.Exact
    else if shown <? n then Measure.Short
    else Measure.Over

abbrev pub length_name : ℕ → List ℕ
length_name kind =
    if kind =? STDIN then 67 ∷ 79 ∷ 78 ∷ 84 ∷ 69 ∷ 78 ∷ 84 ∷ 95 ∷ 76 ∷ 69 ∷ 78 ∷ 71 ∷ 84 ∷ 72 ∷ []
    else 70 ∷ 67 ∷ 71 ∷ 73 ∷ 95 ∷ 68 ∷ 65 ∷ 84 ∷ 65 ∷ 95 ∷ 76 ∷ 69 ∷ 78 ∷ 71 ∷ 84 ∷ 72 ∷ []

unfoldable pub measure : Request → ℕ → Measure
measure r kind = against r.shown (stated_in r.list (length_name kind))

unfoldable pub on_body : Request → ℕ → ℕ → List ℕ → Change
on_body r kind n x = if n =? 0 then ends r (Event.End r.id kind (measure r kind)) else show r kind x

unfoldable pub on_stream : Request → ℕ → ℕ → List ℕ → Change
on_stream r kind n x =
    if kind =? r.turn then (if kind =? PARAMS then on_params r n x else on_body r kind n x) else fault r (Plain 22)

abbrev pub is_stream : ℕ → Bool
is_stream kind = if kind =? PARAMS then true else if kind =? STDIN then true else kind =? DATA

unfoldable pub on_live : Request → ℕ → ℕ → List ℕ → Change
on_live r kind n x =
    if kind =? BEGIN then fault r (Plain 21)
    else if kind =? ABORT then abort r
    else if is_stream kind then on_stream r kind n x
    else fault r (Plain 23)

-- ---- what a record comes to: what it tells and the requests after it, or a close. (Nothing is finished here, so
-- requests only become more, and they stay in the order in which they were opened.)
pub data Said : Type 0 where
  Goes : List Note → List Request → Said
  Closes : Cause → Said

abbrev pub silent : List Request → Said
silent rs = Said.Goes [] rs

-- the place of the first request with that id; past the last where none has it
unfoldable pub place_of : List Request → ℕ → ℕ
place_of [] id = 0
place_of (r ∷ rs) id = if r.id =? id then 0 else suc (place_of rs id)

-- Rule 5: the records of a spent request are skipped.
unfoldable pub on_active : List Request → ℕ → ℕ → ℕ → List ℕ → Said
on_active rs i kind n x =
    let r = get_or rs i nobody in
    if r.spent then silent rs else Said.Goes (on_live r kind n x).events (set rs i (on_live r kind n x).request)

-- Rule 4: an id that is not active; and a BEGIN body that is whole
abbrev pub is_role : ℕ → Bool
is_role role = if role =? 0 then false else role ≤? 3

abbrev pub opened : ℕ → ℕ → Request
opened id role = record { id = id; role = role; turn = PARAMS; spent = false; list = []; shown = 0 }

unfoldable pub opening : List Request → ℕ → List ℕ → Said
opening rs id x =
    let role = two x 0 in
    if is_role role then
    (if length rs <? 16 then Said.Goes (Told (Event.Open id role (get_or x 2 0 % 2 =? 1)) ∷ []) (rs ++ (opened id role ∷ []))
    else Said.Goes (Told (Event.Refuse id 2) ∷ []) rs)
    else Said.Goes (Told (Event.Refuse id 3) ∷ []) rs

unfoldable pub on_inactive : List Request → ℕ → ℕ → ℕ → List ℕ → Said
on_inactive rs id kind n x =
    if kind =? BEGIN then
    (if n =? 8 then (if length x =? 8 then opening rs id x else silent rs) else Said.Closes (Plain 12))
    else silent rs

-- Rules 2 and 3: id 0. Which of FCGI_MAX_CONNS, FCGI_MAX_REQS and FCGI_MPXS_CONNS a query names
unfoldable pub query : List ℕ → Event
query x =
    Event.Query
    (is_named (first_named x (70 ∷ 67 ∷ 71 ∷ 73 ∷ 95 ∷ 77 ∷ 65 ∷ 88 ∷ 95 ∷ 67 ∷ 79 ∷ 78 ∷ 78 ∷ 83 ∷ [])))
    (is_named (first_named x (70 ∷ 67 ∷ 71 ∷ 73 ∷ 95 ∷ 77 ∷ 65 ∷ 88 ∷ 95 ∷ 82 ∷ 69 ∷ 81 ∷ 83 ∷ [])))
    (is_named (first_named x (70 ∷ 67 ∷ 71 ∷ 73 ∷ 95 ∷ 77 ∷ 80 ∷ 88 ∷ 83 ∷ 95 ∷ 67 ∷ 79 ∷ 78 ∷ 78 ∷ 83 ∷ [])))

unfoldable pub on_query : List Request → ℕ → List ℕ → Said
on_query rs n x =
    if 512 <? n then Said.Closes (Plain 13)
    else if length x <? n then silent rs
    else if well_formed x then Said.Goes (Told (query x) ∷ []) rs
    else Said.Closes (At 14 (broken_at x))

unfoldable pub on_management : List Request → ℕ → ℕ → List ℕ → Said
on_management rs kind n x = if kind =? GET_VALUES then on_query rs n x else Said.Goes (Told (Event.Unknown kind) ∷ []) rs

-- Rules 1 to 10: a record by what its header says, with its content or as much as there is of it
unfoldable pub says : List Request → ℕ → ℕ → ℕ → ℕ → List ℕ → Said
says rs version kind id n x =
    if version =? 1 then
    (if id =? 0 then on_management rs kind n x
    else if place_of rs id <? length rs then on_active rs (place_of rs id) kind n x
    else on_inactive rs id kind n x)
    else Said.Closes (Plain 11)

-- ---- a connection: its records in order, to a close, to a record that is cut, or to the end
abbrev pub record_size : List ℕ → ℕ
record_size b = 8 + two b 4 + get_or b 6 0

abbrev pub stops : Word → Heard
stops w = record { events = []; word = w }

abbrev pub follow : Said → (List Request → Heard) → Heard
follow (Said.Goes events rs) f = record { events = events ++ (f rs).events; word = (f rs).word }
follow (Said.Closes cause) f = stops (Closed cause)

-- (The first argument bounds the number of records.)
unfoldable pub hear_in : ℕ → List Request → List ℕ → Heard
hear_in zero rs b = stops Open
hear_in (suc k) rs b =
    if length b =? 0 then stops Open
    else if length b <? 8 then stops Cut
    else follow (says rs (get_or b 0 0) (get_or b 1 0) (two b 2) (two b 4) (take (two b 4) (drop 8 b)))
    (λ rs'. if record_size b ≤? length b then hear_in k rs' (drop (record_size b) b) else stops Cut)

unfoldable pub heard : List ℕ → Heard
unfolding hear_in
heard b = hear_in (length b) [] b

-- ---- asked by number, from 0: the event of that number, or past the last one the last word
pub data Answer : Type 0 where
  Event_is : Note → Answer
  Last_is : Word → Answer

unfoldable pub answer_in : List Note → Word → ℕ → Answer
answer_in [] w k = Last_is w
answer_in (e ∷ es) w zero = Event_is e
answer_in (e ∷ es) w (suc k) = answer_in es w k

unfoldable pub answer : List ℕ → ℕ → Answer
unfolding heard answer_in
answer b k = answer_in (heard b).events (heard b).word k

-- The calls from the station program: refusals, then the request that is named answers.
use Rattle.std.specs.Prelude.{ℕ, Bool, true, false, not, List, [], ◌∷◌, ◌++◌, length, if◌then◌else◌}
use Rattle.wire.specs.Test.{◌<?◌, ◌=?◌}
use Rattle.wire.specs.Buffer.{put_at, zeros}
use Rattle.slot_word.specs.Word.{taken_count}
use Rattle.record.specs.Names.{END_REQUEST, GET_VALUES_RESULT, UNKNOWN_TYPE}
use Rattle.record.specs.Body.{end_body_bytes, unknown_type_bytes}
use Rattle.record_writer.specs.Written.{record_bytes}
use Rattle.pairs.specs.Pair.{pair_bytes}
use Rattle.connection.specs.declared.request.Request.{Request}
use Rattle.connection.specs.declared.state.Target.{Target}
use Rattle.connection.specs.declared.state.Conn.{Conn}
use Rattle.connection.specs.declared.answer.Output.{Output}
use Rattle.connection.specs.Sizes.{SLOTS, STORE}
use Rattle.connection.specs.Event.{Event}
use Rattle.connection.specs.Refusal.{◌when◌, refusal}
use Rattle.connection.specs.RequestCalls as Of
use Rattle.connection.specs.Slots.{request_at, area_at, held_at, put_request, put_area, free_slot, find, on_slot, is_found}
use Rattle.connection.specs.Shape.{in_shape}
use Rattle.connection.specs.Step.{MAX_CONNS, MAX_REQS, MPXS_CONNS, closed_conn}

-- Rows 2, 9, 1 and 3 of a call that is lent the store; rows 9, 1 and 3 of one that is not; rows 9 and 1 of the active
-- number.
unfoldable pub lent_refusal : Conn → List ℕ → ℕ → ℕ
lent_refusal c store id =
    refusal
    ((2 when not (length store =? STORE))
    ∷ (9 when not (in_shape c))
    ∷ (1 when not c.«open»)
    ∷ (3 when not (is_found (find c.table id)))
    ∷ [])

unfoldable pub call_refusal : Conn → ℕ → ℕ
call_refusal c id =
    refusal ((9 when not (in_shape c)) ∷ (1 when not c.«open») ∷ (3 when not (is_found (find c.table id))) ∷ [])

unfoldable pub count_refusal : Conn → ℕ
count_refusal c = refusal ((9 when not (in_shape c)) ∷ (1 when not c.«open») ∷ [])

-- The slot of an id that is active.
abbrev pub slot_of : Conn → ℕ → ℕ
slot_of c id = on_slot (find c.table id) (λ i. i) SLOTS

-- ---- calls that read: value, its sister, pair by number, walk, and what the request is
unfoldable pub value : Conn → List ℕ → ℕ → List ℕ → List ℕ → List ℕ
value c store id name fallback =
    if lent_refusal c store id =? 0 then Of.value_in (held_at c.table store (slot_of c id)) name fallback else fallback

unfoldable pub source : Conn → List ℕ → ℕ → List ℕ → Of.Source
source c store id name =
    if lent_refusal c store id =? 0 then Of.source_in (held_at c.table store (slot_of c id)) name
    else Of.SourceRefused (lent_refusal c store id)

unfoldable pub pair_at_number : Conn → List ℕ → ℕ → ℕ → Of.Numbered
pair_at_number c store id k =
    if lent_refusal c store id =? 0 then Of.pair_in (held_at c.table store (slot_of c id)) k
    else Of.PairRefused (lent_refusal c store id)

unfoldable pub walk : Conn → List ℕ → ℕ → Of.Walk
walk c store id =
    if lent_refusal c store id =? 0 then Of.walk_in (held_at c.table store (slot_of c id))
    else Of.no_walk (lent_refusal c store id)

-- What the request is. The call is not lent the store, so it has no row 2.
unfoldable pub request_named : Conn → ℕ → Of.RequestAnswer
request_named c id =
    if call_refusal c id =? 0 then Of.RequestIs (request_at c.table (slot_of c id)) else Of.RequestRefused (call_refusal c id)

-- ---- calls that write: say, end
pub record Written : Type 0 where
  pub refusal : ℕ
  pub written : ℕ
  pub conn : Conn
  pub buffer : List ℕ

abbrev pub unwritten : ℕ → Conn → List ℕ → Written
unwritten n c buffer = record { refusal = n; written = 0; conn = c; buffer = buffer }

-- the request of slot i is put back as the call left it
abbrev pub puts_request : Conn → ℕ → Request → Conn
puts_request c i r = record { table = put_request c.table i r; frame = c.frame; «open» = c.«open» }

abbrev pub written_by : Conn → ℕ → Of.Writing → Written
written_by c i w = record { refusal = w.refusal; written = w.written; conn = puts_request c i w.request; buffer = w.buffer }

unfoldable pub say : Conn → ℕ → Output → List ℕ → List ℕ → Written
say c id output bytes buffer =
    if call_refusal c id =? 0 then written_by c (slot_of c id) (Of.say_in (request_at c.table (slot_of c id)) output bytes buffer)
    else unwritten (call_refusal c id) c buffer

unfoldable pub end_stream : Conn → ℕ → Output → List ℕ → Written
end_stream c id output buffer =
    if call_refusal c id =? 0 then written_by c (slot_of c id) (Of.end_in (request_at c.table (slot_of c id)) output buffer)
    else unwritten (call_refusal c id) c buffer

-- ---- finish
pub record Finished : Type 0 where
  pub refusal : ℕ
  pub written : ℕ
  pub closed : Bool
  pub conn : Conn
  pub store : List ℕ
  pub buffer : List ℕ

abbrev pub unfinished : ℕ → Conn → List ℕ → List ℕ → Finished
unfinished n c store buffer = record { refusal = n; written = 0; closed = false; conn = c; store = store; buffer = buffer }

-- the rest of a half-read record of the request in slot i is skipped
abbrev pub redirected : ℕ → Target → Target
redirected i Target.Skip = Target.Skip
redirected i (Target.Begin id) = Target.Begin id
redirected i Target.Query = Target.Query
redirected i (Target.Params j) = if j =? i then Target.Skip else Target.Params j
redirected i (Target.Stdin j) = if j =? i then Target.Skip else Target.Stdin j
redirected i (Target.Data j) = if j =? i then Target.Skip else Target.Data j

-- the slot is freed, its record reset
unfoldable pub released : Conn → ℕ → Conn
released c i =
    record {
      table = free_slot c.table i;
      frame = record { position = c.frame.position; target = redirected i c.frame.target; gathered = c.frame.gathered; body = c.frame.body };
      «open» = c.«open»;
    }

-- With KEEP_CONN the slot and its area are given back; without, the connection closes, all requests are freed and the
-- store is zeroed.
unfoldable pub finishes : Conn → List ℕ → ℕ → Bool → Of.Writing → Finished
finishes c store i keep w =
    if w.refusal =? 0 then
    (if keep then record { refusal = 0; written = w.written; closed = false; conn = released c i; store = put_area store i (zeros (length (area_at store i))); buffer = w.buffer }
    else record { refusal = 0; written = w.written; closed = true; conn = closed_conn; store = zeros (length store); buffer = w.buffer })
    else unfinished w.refusal c store w.buffer

unfoldable pub finish : Conn → List ℕ → ℕ → ℕ → List ℕ → Finished
finish c store id appStatus buffer =
    if lent_refusal c store id =? 0 then
    finishes c store (slot_of c id) (request_at c.table (slot_of c id)).state.keep (Of.finish_in (request_at c.table (slot_of c id)) appStatus buffer)
    else unfinished (lent_refusal c store id) c store buffer

-- ---- the number of active requests
pub record Counted : Type 0 where
  pub refusal : ℕ
  pub count : ℕ

unfoldable pub active_count : Conn → Counted
active_count c =
    if count_refusal c =? 0 then record { refusal = 0; count = taken_count SLOTS c.table.occupied }
    else record { refusal = count_refusal c; count = 0 }

-- ---- the reply that an event owes
-- FCGI_MAX_CONNS is "1", FCGI_MAX_REQS "16", FCGI_MPXS_CONNS "1"
unfoldable pub values_of : Bool → Bool → Bool → List ℕ
values_of conns reqs mpxs =
    (if conns then pair_bytes MAX_CONNS (49 ∷ []) else [])
    ++ ((if reqs then pair_bytes MAX_REQS (49 ∷ 54 ∷ []) else []) ++ (if mpxs then pair_bytes MPXS_CONNS (49 ∷ []) else []))

unfoldable pub owed : Event → List ℕ
owed (Event.Refuse id n) = record_bytes END_REQUEST id (end_body_bytes 0 n)
owed (Event.Query conns reqs mpxs) = record_bytes GET_VALUES_RESULT 0 (values_of conns reqs mpxs)
owed (Event.Unknown kind) = record_bytes UNKNOWN_TYPE 0 (unknown_type_bytes kind)
owed Event.None = []
owed (Event.Open id role keep) = []
owed (Event.Ready id n) = []
owed (Event.Data id stream n) = []
owed (Event.End id stream measure) = []
owed (Event.Abort id) = []
owed (Event.Fault id n) = []
owed (Event.Closed n) = []

pub record Replied : Type 0 where
  pub refusal : ℕ
  pub written : ℕ
  pub buffer : List ℕ

unfoldable pub replied : Event → List ℕ → Replied
replied e buffer =
    if length buffer <? length (owed e) then record { refusal = 6; written = 0; buffer = buffer }
    else record { refusal = 0; written = length (owed e); buffer = put_at buffer 0 (owed e) }

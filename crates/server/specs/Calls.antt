-- The calls of the web server's end that write: refusals, then what is written, and the request afterwards.
use Rattle.std.specs.Prelude.{ℕ, Bool, true, false, not, List, [], ◌∷◌, length, if◌then◌else◌}
use Rattle.wire.specs.Test.{◌<?◌, ◌=?◌}
use Rattle.wire.specs.Buffer.{put_at}
use Rattle.slot_word.specs.Word.{taken_count}
use Rattle.record.specs.Names.{BEGIN_REQUEST, ABORT_REQUEST, PARAMS, GET_VALUES}
use Rattle.record.specs.Body.{begin_body_bytes}
use Rattle.record_writer.specs.Written.{record_bytes, stream_bytes}
use Rattle.pairs.specs.Pair.{pair_bytes}
use Rattle.pair_writer.specs.Write.{MAX_WRITTEN}
use Rattle.pair_list.specs.List.{well_formed}
use Rattle.connection.specs.declared.event.Stream.{Stream}
use Rattle.connection.specs.declared.request.Role.{Role}
use Rattle.connection.specs.declared.request.Turn.{Turn}
use Rattle.connection.specs.declared.request.Life.{Life}
use Rattle.connection.specs.declared.request.RequestState.{RequestState}
use Rattle.connection.specs.declared.request.Request.{Request}
use Rattle.connection.specs.Sizes.{SLOTS, QUERY, CHUNK}
use Rattle.connection.specs.Codes.{stream_type}
use Rattle.connection.specs.Request.{is_spent, after_params, after_stdin, turn_type, with_turn, with_life, with_state, opened}
use Rattle.connection.specs.Slots.{request_at, put_request, take_slot, free_slot_of, find, on_slot, is_found}
use Rattle.connection.specs.Step.{on_role}
use Rattle.connection.specs.Refusal.{◌when◌}
use Rattle.server.specs.declared.state.Input.{Input}
use Rattle.server.specs.declared.state.Server.{Server}
use Rattle.server.specs.Codes.{input_type, stream_input}
use Rattle.server.specs.Refusal.{refusal}
use Rattle.server.specs.Shape.{in_shape}
use Rattle.server.specs.Step.{step_refusal}

-- What a call that writes comes to: the number of its refusal, 0 for none; the bytes written; the state and the lent
-- buffer afterwards.
pub record Written : Type 0 where
  pub refusal : ℕ
  pub written : ℕ
  pub server : Server
  pub buffer : List ℕ

abbrev pub unwritten : ℕ → Server → List ℕ → Written
unwritten n c buffer = record { refusal = n; written = 0; server = c; buffer = buffer }

-- Refused, it changes nothing; else the bytes fill the buffer from its start.
abbrev pub writes : ℕ → Server → Server → List ℕ → List ℕ → Written
writes n c after bytes buffer =
    if n =? 0 then record { refusal = 0; written = length bytes; server = after; buffer = put_at buffer 0 bytes }
    else unwritten n c buffer

-- ---- open a request: one BEGIN_REQUEST record; it takes the lowest-numbered free slot
abbrev pub begin_bytes : ℕ → ℕ → Bool → List ℕ
begin_bytes id role keep = record_bytes BEGIN_REQUEST id (begin_body_bytes role keep)

abbrev pub is_role : ℕ → Bool
is_role n = on_role n (λ r. true) false

abbrev pub role_of : ℕ → Role
role_of n = on_role n (λ r. r) Role.Responder

-- Rows 9, 1, 57, 58, 59, 60 and 6, with so much room for so many bytes.
unfoldable pub open_refusal : Server → ℕ → ℕ → ℕ → ℕ → ℕ
open_refusal c id role room long =
    refusal
    ((9 when not (in_shape c))
    ∷ (1 when not c.«open»)
    ∷ (57 when (id =? 0))
    ∷ (58 when is_found (find c.table id))
    ∷ (59 when not (free_slot_of c.table <? SLOTS))
    ∷ (60 when not (is_role role))
    ∷ (6 when (room <? long))
    ∷ [])

abbrev pub with_taken : Server → ℕ → Request → Server
with_taken c i r = record { table = take_slot c.table i r; frame = c.frame; «open» = c.«open» }

unfoldable pub open_request : Server → ℕ → ℕ → Bool → List ℕ → Written
open_request c id role keep buffer =
    writes (open_refusal c id role (length buffer) (length (begin_bytes id role keep))) c
    (with_taken c (free_slot_of c.table) (opened id (role_of role) keep))
    (begin_bytes id role keep) buffer

-- ---- calls for a request that is open
-- What is written of a request: a pair of its PARAMS, content of its STDIN or DATA, the end of a stream, an abort.
pub data Part : Type 0 where
  APair : List ℕ → List ℕ → Part
  Content : Stream → List ℕ → Part
  EndOf : Input → Part
  Abort : Part

-- Whether it is its turn. An abort may come at any time.
abbrev pub is_turn : Turn → Input → Bool
is_turn t input = turn_type t =? input_type input

abbrev pub in_turn : Turn → Part → Bool
in_turn t (APair name value) = is_turn t Input.Params
in_turn t (Content stream bytes) = is_turn t (stream_input stream)
in_turn t (EndOf input) = is_turn t input
in_turn t Abort = true

-- The bytes: content as the station's say writes it, in records of CHUNK content bytes, the last one shorter; an end and
-- an abort are one empty record.
abbrev pub part_bytes : ℕ → Part → List ℕ
part_bytes id (APair name value) = stream_bytes CHUNK PARAMS id (pair_bytes name value)
part_bytes id (Content stream bytes) = stream_bytes CHUNK (stream_type stream) id bytes
part_bytes id (EndOf input) = record_bytes (input_type input) id []
part_bytes id Abort = record_bytes ABORT_REQUEST id []

-- The turn after the end of a stream: PARAMS, then STDIN (responder, filter), then DATA (filter), then nobody's.
abbrev pub turn_after : Role → Input → Turn
turn_after role Input.Params = after_params role
turn_after role Input.Stdin = after_stdin role
turn_after role Input.Data = Turn.Done

-- The request afterwards: an end moves its turn, an abort spends it.
abbrev pub state_after : RequestState → Part → RequestState
state_after m (APair name value) = m
state_after m (Content stream bytes) = m
state_after m (EndOf input) = with_turn m (turn_after m.role input)
state_after m Abort = with_life m Life.Aborted

-- a name or a value that is too long to write
abbrev pub too_long : Part → Bool
too_long (APair name value) = if MAX_WRITTEN <? length name then true else MAX_WRITTEN <? length value
too_long (Content stream bytes) = false
too_long (EndOf input) = false
too_long Abort = false

-- Rows 61, 8 and 6. 61: it is not that stream's turn, or the request is aborted.
abbrev pub own_refusal : Request → Part → ℕ → ℕ
own_refusal r part room =
    refusal
    ((61 when (if is_spent r.state.life then true else not (in_turn r.state.turn part)))
    ∷ (8 when too_long part)
    ∷ (6 when (room <? length (part_bytes r.id part)))
    ∷ [])

-- Rows 9, 1 and 3.
unfoldable pub call_refusal : Server → ℕ → ℕ
call_refusal c id =
    refusal ((9 when not (in_shape c)) ∷ (1 when not c.«open») ∷ (3 when not (is_found (find c.table id))) ∷ [])

abbrev pub slot_of : Server → ℕ → ℕ
slot_of c id = on_slot (find c.table id) (λ i. i) SLOTS

abbrev pub with_request : Server → ℕ → Request → Server
with_request c i r = record { table = put_request c.table i r; frame = c.frame; «open» = c.«open» }

-- the request of slot i writes a part, and is put back
unfoldable pub writes_part : Server → ℕ → Part → List ℕ → Written
writes_part c i part buffer =
    let r = request_at c.table i in
    writes (own_refusal r part (length buffer)) c (with_request c i (with_state r (state_after r.state part)))
    (part_bytes r.id part) buffer

unfoldable pub write_part : Server → ℕ → Part → List ℕ → Written
write_part c id part buffer =
    if call_refusal c id =? 0 then writes_part c (slot_of c id) part buffer else unwritten (call_refusal c id) c buffer

-- ---- ask for values: one GET_VALUES record with a list of pairs, the names with empty values
-- Rows 9, 1, 62 and 6.
unfoldable pub ask_refusal : Server → List ℕ → ℕ → ℕ
ask_refusal c list room =
    refusal
    ((9 when not (in_shape c))
    ∷ (1 when not c.«open»)
    ∷ (62 when (if QUERY <? length list then true else not (well_formed list)))
    ∷ (6 when (room <? length (record_bytes GET_VALUES 0 list)))
    ∷ [])

unfoldable pub ask_values : Server → List ℕ → List ℕ → Written
ask_values c list buffer = writes (ask_refusal c list (length buffer)) c c (record_bytes GET_VALUES 0 list) buffer

-- ---- the number of open requests
pub record Counted : Type 0 where
  pub refusal : ℕ
  pub count : ℕ

unfoldable pub open_count : Server → Counted
open_count c =
    if step_refusal c =? 0 then record { refusal = 0; count = taken_count SLOTS c.table.occupied }
    else record { refusal = step_refusal c; count = 0 }

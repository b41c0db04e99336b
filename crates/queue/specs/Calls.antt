-- The calls with a queue, on the whole state: queued say, end and finish; straight ones while something waits; the
-- pump.
-- Definitions only. What waits stands beside the connection's value, so that nothing below it changes.
use Rattle.std.specs.Prelude.{ℕ, zero, suc, ◌+◌, ◌*◌, Bool, true, false, not, length, take, drop, get_or, set, if◌then◌else◌}
use mathlib.Core.List.{List, [], ◌∷◌, ◌++◌, flatten}
use Rattle.std.proofs.Math.Option.{Option, none, some}
use Rattle.wire.specs.Test.{◌<?◌, ◌≤?◌, ◌=?◌}
use Rattle.wire.specs.Buffer.{put_at, zeros}
use Rattle.slot_word.specs.Word.{taken}
use Rattle.record.specs.Names.{END_REQUEST, REQUEST_COMPLETE}
use Rattle.record.specs.Body.{end_body_bytes}
use Rattle.record_writer.specs.Written.{record_bytes}
use Rattle.machine_queue.specs.Pump.{slot_after, next_waiting}
use Rattle.connection.specs.declared.request.Request.{Request}
use Rattle.connection.specs.declared.state.Conn.{Conn}
use Rattle.connection.specs.declared.answer.Output.{Output}
use Rattle.connection.specs.Sizes.{SLOTS, STORE}
use Rattle.connection.specs.Codes.{output_type}
use Rattle.connection.specs.Refusal.{Row, ◌when◌, refusal}
use Rattle.connection.specs.RequestCalls as Of
use Rattle.connection.specs.Slots.{request_at, area_at, put_area, find, is_found}
use Rattle.connection.specs.Shape.{in_shape, ◌and◌}
use Rattle.connection.specs.Step.{Stepped, stepped, stays, closed_conn}
use Rattle.connection.specs.Calls as C
use Rattle.connection.specs.Run.{Memory}
use Rattle.queue_slot.specs.Finishing.{spent_by}
use Rattle.queue.specs.Numbers.{NEXT, nobody_waits, count_at, front_at, last_at, status_at, numbers_at}
use Rattle.queue_slot.specs.Wait.{ROOM, Wait, nothing_in, some_waits, anything, has_room_for, wait_data, wait_end, wait_finish, Served, ServesNothing, ServesEnd, ServesData, ServesLast, served}

-- ---- the state
-- the queue: ROOM bytes to a slot
abbrev pub QUEUE : ℕ
QUEUE = SLOTS * ROOM

-- the most bytes that a record of the pump takes: a header, and RUN content bytes, which need no padding
abbrev pub PUMPED : ℕ
PUMPED = 520

-- State and store as before; what waits, by numbers and marks, which are lent beside the state as the gathered bytes
-- are; the queue.
pub record QueueMemory : Type 0 where
  pub memory : Memory
  pub waits : List ℕ
  pub marks : List ℕ
  pub queue : List ℕ

-- state and store with what waits beside them
abbrev pub beside : Memory → List ℕ → List ℕ → List ℕ → QueueMemory
beside memory waits marks queue = record { memory = memory; waits = waits; marks = marks; queue = queue }

-- a connection's value and all that is lent beside it
abbrev pub lent : Conn → List ℕ → List ℕ → List ℕ → List ℕ → List ℕ → QueueMemory
lent c gathered store waits marks queue = beside (record { state = record { conn = c; gathered = gathered }; store = store }) waits marks queue

-- the connection's value
abbrev pub conn_of : QueueMemory → Conn
conn_of m = m.memory.state.conn

-- slot i's part of the queue, or of the marks
abbrev pub room_at : List ℕ → ℕ → List ℕ
room_at l i = take ROOM (drop (i * ROOM) l)

-- the same with another part there
abbrev pub put_room : List ℕ → ℕ → List ℕ → List ℕ
put_room l i x = take (i * ROOM) l ++ (x ++ drop (i * ROOM + ROOM) l)

-- what waits in slot i
unfoldable pub wait_at : QueueMemory → ℕ → Wait
wait_at m i =
    record {
      count = count_at m.waits i;
      front = front_at m.waits i;
      last = last_at m.waits i;
      status = status_at m.waits i;
      bytes = room_at m.queue i;
      marks = room_at m.marks i;
    }

-- what waits in slot i is now this
unfoldable pub put_wait : QueueMemory → ℕ → Wait → QueueMemory
put_wait m i w = record { memory = m.memory; waits = numbers_at m.waits i w; marks = put_room m.marks i w.marks; queue = put_room m.queue i w.bytes }

-- with another value of the connection
abbrev pub with_conn : QueueMemory → Conn → QueueMemory
with_conn m c = record { memory = record { state = record { conn = c; gathered = m.memory.state.gathered }; store = m.memory.store }; waits = m.waits; marks = m.marks; queue = m.queue }

-- ---- shape: over ROOM waiting in an area, anything in a free slot
unfoldable pub wait_fits : List ℕ → ℕ → ℕ → Bool
wait_fits waits occupied i = (count_at waits i ≤? ROOM) and (if taken i occupied then true else not (some_waits (count_at waits i) (front_at waits i) (last_at waits i)))

-- n slots from i on
unfoldable pub waits_fit : ℕ → List ℕ → ℕ → ℕ → Bool
waits_fit zero waits occupied i = true
waits_fit (suc n) waits occupied i = wait_fits waits occupied i and waits_fit n waits occupied (i + 1)

-- row 9 is that this does not hold
unfoldable pub queue_in_shape : QueueMemory → Bool
queue_in_shape m = in_shape (conn_of m) and waits_fit SLOTS m.waits (conn_of m).table.occupied 0

-- rows 9, 1 and 3
abbrev pub rows_of : QueueMemory → ℕ → List Row → List Row
rows_of m id rows = (9 when not (queue_in_shape m)) ∷ (1 when not (conn_of m).«open») ∷ (3 when not (is_found (find (conn_of m).table id))) ∷ rows

-- the slot of an id that is active
abbrev pub slot_of : QueueMemory → ℕ → ℕ
slot_of m id = C.slot_of (conn_of m) id

-- its request
abbrev pub request_of : QueueMemory → ℕ → Request
request_of m id = request_at (conn_of m).table (slot_of m id)

-- the request is between its finish and its END
abbrev pub is_leaving : QueueMemory → ℕ → Bool
is_leaving m id = last_at m.waits (slot_of m id)

-- one of two conditions
abbrev pub or : Bool → Bool → Bool
or a b = if a then true else b

-- rows 4 and 5 of what writes on a stream; a request between finish and END is spent, so 4 is not for it
abbrev pub stream_rows : QueueMemory → ℕ → Output → List Row → List Row
stream_rows m id o rows =
    (4 when (if is_leaving m id then false else Of.no_output (request_of m id))) ∷ (5 when or (is_leaving m id) (Of.is_ended o (request_of m id).state)) ∷ rows

-- ---- a step
unfoldable pub queue_step_refusal : QueueMemory → ℕ
queue_step_refusal m = refusal ((2 when not (length m.memory.store =? STORE)) ∷ (9 when not (queue_in_shape m)) ∷ (1 when not (conn_of m).«open») ∷ [])

-- A step is as it is without a queue; only row 9 is wider. It does not look at what waits otherwise; where it closes
-- the connection, what waits is dropped (`kept_waits`, in `Run` and in the contract).
unfoldable pub queue_step : QueueMemory → List ℕ → Stepped
queue_step m piece =
    if queue_step_refusal m =? 0 then stepped m.memory.state m.memory.store piece else stays (queue_step_refusal m) m.memory.state m.memory.store

-- ---- queued calls: the refusal, 0 for none, and what is left
pub record Queueing : Type 0 where
  pub refusal : ℕ
  pub left : QueueMemory

-- the request of slot i and what waits there, put back
abbrev pub put_both : QueueMemory → ℕ → Request → Wait → QueueMemory
put_both m i r w = put_wait (with_conn m (C.puts_request (conn_of m) i r)) i w

-- rows of a queued say: the queue has its size; 10, last, where the data has no room
unfoldable pub say_refusal : QueueMemory → ℕ → Output → List ℕ → ℕ
say_refusal m id o content =
    refusal ((2 when not (length m.queue =? QUEUE)) ∷ rows_of m id (stream_rows m id o ((10 when not (has_room_for (wait_at m (slot_of m id)) content)) ∷ [])))

-- Data comes to wait, and the request is as if it had been said.
unfoldable pub queue_say : QueueMemory → ℕ → Output → List ℕ → Queueing
queue_say m id o content =
    if say_refusal m id o content =? 0 then record { refusal = 0; left = put_both m (slot_of m id) (Of.said_on (request_of m id) o content) (wait_data (wait_at m (slot_of m id)) o content) }
    else record { refusal = say_refusal m id o content; left = m }

-- The end of a stream comes to wait; the stream is ended at once.
unfoldable pub queue_end : QueueMemory → ℕ → Output → Queueing
queue_end m id o =
    if refusal (rows_of m id (stream_rows m id o [])) =? 0 then record { refusal = 0; left = put_both m (slot_of m id) (Of.ended_on (request_of m id) o) (wait_end (wait_at m (slot_of m id)) o) }
    else record { refusal = refusal (rows_of m id (stream_rows m id o [])); left = m }

-- the rest of a half-read record of the slot is skipped
abbrev pub skipping : Conn → ℕ → Conn
skipping c i =
    record {
      table = c.table;
      frame = record { position = c.frame.position; target = C.redirected i c.frame.target; gathered = c.frame.gathered; body = c.frame.body };
      «open» = c.«open»;
    }

-- The ends that are owed and END come to wait. The request is spent, and the rest of its half-read record is skipped.
unfoldable pub queue_finish : QueueMemory → ℕ → ℕ → Queueing
queue_finish m id status =
    if refusal (rows_of m id ((5 when is_leaving m id) ∷ [])) =? 0 then record {
      refusal = 0;
      left = put_both (with_conn m (skipping (conn_of m) (slot_of m id))) (slot_of m id) (spent_by (request_of m id)) (wait_finish (wait_at m (slot_of m id)) (request_of m id).state status);
    }
    else record { refusal = refusal (rows_of m id ((5 when is_leaving m id) ∷ [])); left = m }

-- ---- calls that read: as before, with what waits in shape
unfoldable pub lent_refusal : QueueMemory → ℕ → ℕ
lent_refusal m id = refusal ((2 when not (length m.memory.store =? STORE)) ∷ rows_of m id [])

-- the value of a name, or the fallback
unfoldable pub queue_value : QueueMemory → ℕ → List ℕ → List ℕ → List ℕ
queue_value m id name fallback = if lent_refusal m id =? 0 then C.value (conn_of m) m.memory.store id name fallback else fallback

-- where it comes from
unfoldable pub queue_source : QueueMemory → ℕ → List ℕ → Of.Source
queue_source m id name = if lent_refusal m id =? 0 then C.source (conn_of m) m.memory.store id name else Of.SourceRefused (lent_refusal m id)

-- the pair of a number
unfoldable pub queue_pair : QueueMemory → ℕ → ℕ → Of.Numbered
queue_pair m id k = if lent_refusal m id =? 0 then C.pair_at_number (conn_of m) m.memory.store id k else Of.PairRefused (lent_refusal m id)

-- the walk over all pairs
unfoldable pub queue_walk : QueueMemory → ℕ → Of.Walk
queue_walk m id = if lent_refusal m id =? 0 then C.walk (conn_of m) m.memory.store id else Of.no_walk (lent_refusal m id)

-- what the request is
unfoldable pub queue_request : QueueMemory → ℕ → Of.RequestAnswer
queue_request m id =
    if refusal (rows_of m id []) =? 0 then C.request_named (conn_of m) id else Of.RequestRefused (refusal (rows_of m id []))

-- how many requests are active; one between finish and END is
unfoldable pub queue_count : QueueMemory → C.Counted
queue_count m =
    let n = refusal ((9 when not (queue_in_shape m)) ∷ (1 when not (conn_of m).«open») ∷ []) in
    if n =? 0 then C.active_count (conn_of m) else record { refusal = n; count = 0 }

-- ---- straight calls: as before, but 5 between finish and END, and 10, last, while anything of the request waits
unfoldable pub straight_say : QueueMemory → ℕ → Output → List ℕ → List ℕ → C.Written
straight_say m id o content buffer =
    let n = refusal (rows_of m id (stream_rows m id o ((6 when (length buffer <? length (Of.say_bytes (request_of m id) o content))) ∷ (10 when anything (wait_at m (slot_of m id))) ∷ []))) in
    if n =? 0 then C.say (conn_of m) id o content buffer else C.unwritten n (conn_of m) buffer

-- the end of a stream, straight out
unfoldable pub straight_end : QueueMemory → ℕ → Output → List ℕ → C.Written
straight_end m id o buffer =
    let n = refusal (rows_of m id (stream_rows m id o ((6 when (length buffer <? length (Of.end_bytes (request_of m id) o))) ∷ (10 when anything (wait_at m (slot_of m id))) ∷ []))) in
    if n =? 0 then C.end_stream (conn_of m) id o buffer else C.unwritten n (conn_of m) buffer

-- finish, straight out
unfoldable pub straight_finish : QueueMemory → ℕ → ℕ → List ℕ → C.Finished
straight_finish m id status buffer =
    let n = refusal ((2 when not (length m.memory.store =? STORE)) ∷ rows_of m id ((5 when is_leaving m id) ∷ (6 when (length buffer <? length (Of.finish_bytes (request_of m id) status))) ∷ (10 when anything (wait_at m (slot_of m id))) ∷ [])) in
    if n =? 0 then C.finish (conn_of m) m.memory.store id status buffer else C.unfinished n (conn_of m) m.memory.store buffer

-- ---- the pump
-- One record: the bytes, and what is left.
pub record PumpedRecord : Type 0 where
  pub bytes : List ℕ
  pub left : QueueMemory

-- slot i was served: the next record is looked for from the slot after it on
abbrev pub served_last : QueueMemory → ℕ → QueueMemory
served_last m i = record { memory = m.memory; waits = set m.waits NEXT (slot_after SLOTS i); marks = m.marks; queue = m.queue }

-- END is written: slot, area and id are given back; without KEEP_CONN the connection closes
abbrev pub released_slot : QueueMemory → ℕ → Bool → QueueMemory
released_slot m i true =
    let c = m.memory in
    record {
      memory = record { state = record { conn = C.released c.state.conn i; gathered = c.state.gathered }; store = put_area c.store i (zeros (length (area_at c.store i))) };
      waits = numbers_at m.waits i (nothing_in [] []);
      marks = m.marks;
      queue = m.queue;
    }
released_slot m i false =
    record { memory = record { state = record { conn = closed_conn; gathered = m.memory.state.gathered }; store = zeros (length m.memory.store) }; waits = nobody_waits; marks = m.marks; queue = m.queue }

-- what is next in slot i, as a record; with END the slot is given back
unfoldable pub write_served : QueueMemory → ℕ → Request → Served → PumpedRecord
write_served m i r ServesNothing = record { bytes = []; left = m }
write_served m i r (ServesEnd o w) = record { bytes = record_bytes (output_type o) r.id []; left = put_wait m i w }
write_served m i r (ServesData o content w) = record { bytes = record_bytes (output_type o) r.id content; left = put_wait m i w }
write_served m i r (ServesLast status) = record { bytes = record_bytes END_REQUEST r.id (end_body_bytes status REQUEST_COMPLETE); left = released_slot m i r.state.keep }

-- one record of slot i
unfoldable pub pump_slot : QueueMemory → ℕ → PumpedRecord
pump_slot m i = write_served (served_last m i) i (request_at (conn_of m).table i) (served (wait_at m i))

-- A turn: the records, in order, and what is left.
pub record Turned : Type 0 where
  pub records : List (List ℕ)
  pub left : QueueMemory

-- by the slot that is served, if any
abbrev pub on_some : Option ℕ → (ℕ → Turned) → Turned → Turned
on_some none f other = other
on_some (some i) f other = f i

-- something waits in slot i
abbrev pub slot_waits : QueueMemory → ℕ → Bool
slot_waits m i = anything (wait_at m i)

-- the slot to begin with; every number names one
abbrev pub first_slot : ℕ → ℕ
first_slot n = if n <? SLOTS then n else 0

-- At most so many records, each of the first slot that waits, going round from the one after the last served.
unfoldable pub turned : ℕ → QueueMemory → Turned
turned zero m = record { records = []; left = m }
turned (suc k) m =
    on_some (next_waiting SLOTS SLOTS (slot_waits m) (first_slot (get_or m.waits NEXT 0)))
    (λ i. let p = pump_slot m i in let t = turned k p.left in record { records = p.bytes ∷ t.records; left = t.left })
    (record { records = []; left = m })

-- What the pump answers: the refusal, 0 for none; how many records and how many bytes it wrote; whether the connection
-- closed.
pub record Pumped : Type 0 where
  pub refusal : ℕ
  pub records : ℕ
  pub written : ℕ
  pub closed : Bool
  pub left : QueueMemory
  pub buffer : List ℕ

-- Row 6: the buffer has not PUMPED bytes for each record that is allowed, whether so many are written or not.
unfoldable pub pump_refusal : QueueMemory → ℕ → List ℕ → ℕ
pump_refusal m allowance buffer =
    refusal
    ((2 when or (not (length m.memory.store =? STORE)) (not (length m.queue =? QUEUE)))
    ∷ (9 when not (queue_in_shape m))
    ∷ (1 when not (conn_of m).«open»)
    ∷ (6 when (length buffer <? PUMPED * allowance))
    ∷ [])

-- the records of a turn one after another in the buffer; what is past them stays
abbrev pub pumped_with : Turned → List ℕ → Pumped
pumped_with t buffer =
    record {
      refusal = 0;
      records = length t.records;
      written = length (flatten t.records);
      closed = not (conn_of t.left).«open»;
      left = t.left;
      buffer = put_at buffer 0 (flatten t.records);
    }

-- The pump: refused, or a turn.
unfoldable pub pump : QueueMemory → ℕ → List ℕ → Pumped
pump m allowance buffer =
    if pump_refusal m allowance buffer =? 0 then pumped_with (turned allowance m) buffer
    else record { refusal = pump_refusal m allowance buffer; records = 0; written = 0; closed = false; left = m; buffer = buffer }

-- Runs with a queue: from a start, steps, straight and queued calls, and turns of the pump, in any order. Definitions
-- only.
use Rattle.std.specs.Prelude.{◌≡◌, Bool, false, List, [], ◌∷◌, ◌++◌, ℕ, length, take, if◌then◌else◌}
use Rattle.std.proofs.Math.Option.{Option}
use Rattle.wire.specs.Test.{◌=?◌}
use Rattle.record.specs.Split.{Record, split}
use Rattle.machine.specs.Timeline.{RequestCall, CountCall, Item, CallItem, byte_items}
use Rattle.connection.specs.declared.answer.Output.{Output}
use Rattle.connection.specs.Sizes.{STORE, QUERY}
use Rattle.connection.specs.Bytewise.{Note, notes}
use Rattle.connection.specs.Request.{Held}
use Rattle.connection.specs.Arguments.{Question, ValueOf, SourceOf, PairOf, WalkOf, Reply, ValueIs, SourceIs, PairAnswer, WalkIs, Argument, ForRead, ForSay, ForEnd, ForFinish, Answer, RepliedWith, Wrote, FinishedWith}
use Rattle.connection.specs.Slots.{find, on_slot}
use Rattle.connection.specs.Calls as C
use Rattle.connection.specs.Run.{Memory, request_of, event_id, start_of}
use Rattle.wire.proofs.Bytes.{AllBytes}
use Rattle.queue_slot.specs.Atoms.{Atom, record_atoms}
use Rattle.queue_slot.specs.Wait.{atoms_in}
use Rattle.queue.specs.Numbers.{nobody_waits, kept_waits, last_at}
use Rattle.queue.specs.Calls.{QUEUE, QueueMemory, conn_of, wait_at, queue_step, queue_say, queue_end, queue_finish, queue_value, queue_source, queue_pair, queue_walk, straight_say, straight_end, straight_finish, pump}

-- ---- operations
-- What is asked of a request: straight, or queued.
pub data Asking : Type 0 where
  Straight : Argument → Asking
  ToSay : Output → List ℕ → Asking
  ToEnd : Output → Asking
  ToFinish : ℕ → Asking

-- An operation: a step over a piece, a call that names an id, the active number, a turn of the pump.
pub data QueueOperation : Type 0 where
  StepOver : List ℕ → QueueOperation
  CallFor : ℕ → Asking → QueueOperation
  CountActive : QueueOperation
  -- a turn of the pump: its allowance and the lent buffer
  TurnWith : ℕ → List ℕ → QueueOperation

-- What is answered: as before; or the refusal of a queued call, 0 for none.
pub data Answering : Type 0 where
  Straightly : Answer → Answering
  Queued : ℕ → Answering

-- ---- one operation
pub record QueueResult : Type 0 where
  pub left : QueueMemory
  pub answer : Answering

-- with what a call left of state and store; a close drops what waits
abbrev pub with_memory : QueueMemory → Memory → QueueMemory
with_memory m n = record { memory = n; waits = kept_waits (conn_of m).«open» n.state.conn.«open» m.waits; marks = m.marks; queue = m.queue }

-- a call that writes
abbrev pub changed_by : QueueMemory → C.Written → QueueResult
changed_by m w =
    record {
      left = with_memory m (record { state = record { conn = w.conn; gathered = m.memory.state.gathered }; store = m.memory.store });
      answer = Straightly (Wrote w.refusal w.written w.buffer);
    }

-- finish, straight out
abbrev pub finished_by : QueueMemory → C.Finished → QueueResult
finished_by m w =
    record {
      left = with_memory m (record { state = record { conn = w.conn; gathered = m.memory.state.gathered }; store = w.store });
      answer = Straightly (FinishedWith w.refusal w.written w.closed w.buffer);
    }

-- what a call that only reads answers
abbrev pub queue_reply : QueueMemory → ℕ → Question → Reply
queue_reply m id (ValueOf name fallback) = ValueIs (queue_value m id name fallback)
queue_reply m id (SourceOf name) = SourceIs (queue_source m id name)
queue_reply m id (PairOf k) = PairAnswer (queue_pair m id k)
queue_reply m id WalkOf = WalkIs (queue_walk m id)

-- the calls that name an id
unfoldable pub queue_called : QueueMemory → ℕ → Asking → QueueResult
queue_called m id (Straight (ForRead q)) = record { left = m; answer = Straightly (RepliedWith (queue_reply m id q)) }
queue_called m id (Straight (ForSay o content buffer)) = changed_by m (straight_say m id o content buffer)
queue_called m id (Straight (ForEnd o buffer)) = changed_by m (straight_end m id o buffer)
queue_called m id (Straight (ForFinish status buffer)) = finished_by m (straight_finish m id status buffer)
queue_called m id (ToSay o content) = let q = queue_say m id o content in record { left = q.left; answer = Queued q.refusal }
queue_called m id (ToEnd o) = let q = queue_end m id o in record { left = q.left; answer = Queued q.refusal }
queue_called m id (ToFinish status) = let q = queue_finish m id status in record { left = q.left; answer = Queued q.refusal }

-- the bytes that a step used
abbrev pub used_of : QueueMemory → List ℕ → List ℕ
used_of m piece = take (queue_step m piece).used piece

-- what an operation leaves
unfoldable pub queue_after : QueueMemory → QueueOperation → QueueMemory
queue_after m (StepOver piece) = with_memory m (record { state = (queue_step m piece).state; store = (queue_step m piece).store })
queue_after m (CallFor id a) = (queue_called m id a).left
queue_after m CountActive = m
queue_after m (TurnWith allowance buffer) = (pump m allowance buffer).left

-- ---- what is R's
-- what waits of R, oldest first; nothing where R is not active or the connection is closed
unfoldable pub waits_of : ℕ → QueueMemory → List Atom
waits_of R m = if (conn_of m).«open» then on_slot (find (conn_of m).table R) (λ i. atoms_in (wait_at m i)) [] else []

-- R is between its finish and its END
unfoldable pub leaving_of : ℕ → QueueMemory → Bool
leaving_of R m = if (conn_of m).«open» then on_slot (find (conn_of m).table R) (λ i. last_at m.waits i) false else false

-- what the buffer that was lent to a call holds after it; nothing where none was lent
abbrev pub buffer_left : Answering → List ℕ
buffer_left (Straightly (Wrote n written buffer)) = buffer
buffer_left (Straightly (FinishedWith n written closed buffer)) = buffer
buffer_left (Straightly (RepliedWith r)) = []
buffer_left (Queued n) = []

-- What is shown of R: what a step tells of it; a call with its answer and R's request and area before and after it,
-- the queued finish too; a call between finish and END with its buffer, whose answer is not looked at.
pub data Shown : Type 0 where
  ShownNote : Note → Shown
  ShownAnswer : Asking → Answering → Option Held → Option Held → Shown
  ShownLeaving : Asking → List ℕ → Shown

-- the id that is told of; 0 for none
abbrev pub note_id : Note → ℕ
note_id (Note.Told e) = event_id e
note_id (Note.Shown id stream b) = id

-- what is told of R
unfoldable pub notes_of : ℕ → List Note → List Shown
notes_of R [] = []
notes_of R (n ∷ ns) = if note_id n =? R then ShownNote n ∷ notes_of R ns else notes_of R ns

-- what an operation shows of R
unfoldable pub shown_in : ℕ → QueueMemory → QueueOperation → List Shown
shown_in R m (StepOver piece) = notes_of R (notes (queue_step m piece).event (used_of m piece))
shown_in R m (CallFor id a) =
    let q = queue_called m id a in
    if id =? R then (if leaving_of R m then ShownLeaving a (buffer_left q.answer) else ShownAnswer a q.answer (request_of R m.memory) (request_of R q.left.memory)) ∷ []
    else []
shown_in R m CountActive = []
shown_in R m (TurnWith allowance buffer) = []

-- what was written of R's: the records of R among the bytes that a call or a turn wrote
unfoldable pub records_of : ℕ → List Record → List Atom
records_of R [] = []
records_of R (r ∷ rs) = (if r.id =? R then record_atoms r.kind r.content else []) ++ records_of R rs

-- the bytes that a call wrote
abbrev pub written_bytes : Answering → List ℕ
written_bytes (Straightly (Wrote n written buffer)) = take written buffer
written_bytes (Straightly (FinishedWith n written closed buffer)) = take written buffer
written_bytes (Straightly (RepliedWith r)) = []
written_bytes (Queued n) = []

-- the bytes that an operation wrote, as they stand in its buffer
unfoldable pub bytes_in : QueueMemory → QueueOperation → List ℕ
bytes_in m (StepOver piece) = []
bytes_in m (CallFor id a) = written_bytes (queue_called m id a).answer
bytes_in m CountActive = []
bytes_in m (TurnWith allowance buffer) = take (pump m allowance buffer).written (pump m allowance buffer).buffer

-- ---- runs
unfoldable pub final_queue : QueueMemory → List QueueOperation → QueueMemory
final_queue m [] = m
final_queue m (o ∷ os) = final_queue (queue_after m o) os

-- the timeline: bytes used and calls; turns are no items
unfoldable pub queue_items : QueueMemory → QueueOperation → List (Item Asking)
queue_items m (StepOver piece) = byte_items (used_of m piece)
queue_items m (CallFor id a) = CallItem (RequestCall id a) ∷ []
queue_items m CountActive = CallItem CountCall ∷ []
queue_items m (TurnWith allowance buffer) = []

-- the items of operations, one after another
unfoldable pub queue_timeline : QueueMemory → List QueueOperation → List (Item Asking)
queue_timeline m [] = []
queue_timeline m (o ∷ os) = queue_items m o ++ queue_timeline (queue_after m o) os

-- all that is shown of R on the way, in order
unfoldable pub shown_all : ℕ → QueueMemory → List QueueOperation → List Shown
shown_all R m [] = []
shown_all R m (o ∷ os) = shown_in R m o ++ shown_all R (queue_after m o) os

-- all that was written of R on the way, in order
unfoldable pub written_all : ℕ → QueueMemory → List QueueOperation → List Atom
written_all R m [] = []
written_all R m (o ∷ os) = records_of R (split (bytes_in m o)).records ++ written_all R (queue_after m o) os

-- the notes of all steps, for the premise on room
unfoldable pub notes_all : QueueMemory → List QueueOperation → List Note
notes_all m [] = []
notes_all m (StepOver piece ∷ os) = notes (queue_step m piece).event (used_of m piece) ++ notes_all (queue_after m (StepOver piece)) os
notes_all m (CallFor id a ∷ os) = notes_all (queue_after m (CallFor id a)) os
notes_all m (CountActive ∷ os) = notes_all m os
notes_all m (TurnWith allowance buffer ∷ os) = notes_all (queue_after m (TurnWith allowance buffer)) os

-- the pieces of steps are bytes
abbrev pub PiecesAreBytes : List QueueOperation → Type 0
PiecesAreBytes [] = Unit {0}
PiecesAreBytes (StepOver piece ∷ os) = AllBytes piece × PiecesAreBytes os
PiecesAreBytes (CallFor id a ∷ os) = PiecesAreBytes os
PiecesAreBytes (CountActive ∷ os) = PiecesAreBytes os
PiecesAreBytes (TurnWith allowance buffer ∷ os) = PiecesAreBytes os

-- A whole run: what gathered bytes, store, queue and marks held before the start, and its operations. In a run the
-- queue has its size and comes as it was last left.
pub record QueueRun : Type 0 where
  pub gathered : List ℕ
  pub store : List ℕ
  pub queue : List ℕ
  pub marks : List ℕ
  pub operations : List QueueOperation
  pub gathered_size : length gathered ≡ QUERY
  pub store_size : length store ≡ STORE
  pub queue_size : length queue ≡ QUEUE
  pub marks_size : length marks ≡ QUEUE
  pub pieces : PiecesAreBytes operations

-- its start
abbrev pub beginning : QueueRun → QueueMemory
beginning r = record { memory = start_of r.gathered r.store; waits = nobody_waits; marks = r.marks; queue = r.queue }

-- what it leaves
abbrev pub ending : QueueRun → QueueMemory
ending r = final_queue (beginning r) r.operations

-- its timeline
abbrev pub timeline_of : QueueRun → List (Item Asking)
timeline_of r = queue_timeline (beginning r) r.operations

-- all that it shows of R
abbrev pub shown : ℕ → QueueRun → List Shown
shown R r = shown_all R (beginning r) r.operations

-- all that it writes of R: bytes on streams, ends of streams and END, in one order
abbrev pub written : ℕ → QueueRun → List Atom
written R r = written_all R (beginning r) r.operations

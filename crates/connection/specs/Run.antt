-- Runs of the receiver: from a start, steps over pieces of any length and calls, in any order. Definitions only.
use Rattle.std.specs.Prelude.{◌≡◌, List, [], ◌∷◌, ◌++◌, map, ℕ, zero, suc, length, take, drop, if◌then◌else◌}
use Rattle.std.proofs.Math.Option.{Option, none, some}
use Rattle.wire.specs.Test.{◌=?◌}
use Rattle.machine.specs.Timeline.{RequestCall, CountCall, Item, CallItem, byte_items}
use Rattle.connection.specs.declared.state.Conn.{Conn}
use Rattle.connection.specs.Event.{Event}
use Rattle.connection.specs.Request.{Held}
use Rattle.connection.specs.Slots.{held_at, find, on_slot}
use Rattle.connection.specs.Step.{State, Stepped, stepped, started}
use Rattle.connection.specs.Calls as C
use Rattle.connection.specs.Bytewise.{Note, notes}
use Rattle.connection.specs.Arguments.{Question, ValueOf, SourceOf, PairOf, WalkOf, Reply, ValueIs, SourceIs, PairAnswer, WalkIs, Argument, ForRead, ForSay, ForEnd, ForFinish, Answer, RepliedWith, Wrote, FinishedWith}
use Rattle.wire.proofs.Bytes.{AllBytes}
use Rattle.connection.specs.Sizes.{STORE, QUERY}

-- The state and the store as they were last left.
pub record Memory : Type 0 where
  pub state : State
  pub store : List ℕ

-- An operation: a step over a piece, a call that names an id, the active number.
pub data Operation : Type 0 where
  StepOver : List ℕ → Operation
  CallFor : ℕ → Argument → Operation
  CountActive : Operation

-- What is observed: what a step tells, data byte by byte; and a call of an id with its arguments, its answer, and the
-- request of that id with its area before and after it.
pub data Observed : Type 0 where
  Heard : Note → Observed
  Answered : ℕ → Argument → Answer → Option Held → Option Held → Observed

-- the request of an id with its whole area, if the connection is open and the id is active
unfoldable pub request_of : ℕ → Memory → Option Held
request_of id m =
    if m.state.conn.«open» then on_slot (find m.state.conn.table id) (λ i. some (held_at m.state.conn.table m.store i)) none
    else none

-- ---- one operation
-- what a call leaves, and its answer
pub record CallResult : Type 0 where
  pub memory : Memory
  pub answer : Answer

-- what a call that only reads answers
abbrev pub replied_to : Conn → List ℕ → ℕ → Question → Reply
replied_to c store id (ValueOf name fallback) = ValueIs (C.value c store id name fallback)
replied_to c store id (SourceOf name) = SourceIs (C.source c store id name)
replied_to c store id (PairOf k) = PairAnswer (C.pair_at_number c store id k)
replied_to c store id WalkOf = WalkIs (C.walk c store id)

-- a call that only reads
abbrev pub unchanged : Memory → Answer → CallResult
unchanged m a = record { memory = m; answer = a }

-- a call that writes
abbrev pub changed_by : Memory → C.Written → CallResult
changed_by m w =
    record {
      memory = record { state = record { conn = w.conn; gathered = m.state.gathered }; store = m.store };
      answer = Wrote w.refusal w.written w.buffer;
    }

-- finish
abbrev pub finished_by : Memory → C.Finished → CallResult
finished_by m w =
    record {
      memory = record { state = record { conn = w.conn; gathered = m.state.gathered }; store = w.store };
      answer = FinishedWith w.refusal w.written w.closed w.buffer;
    }

-- the calls that name an id
unfoldable pub called : Memory → ℕ → Argument → CallResult
called m id (ForRead q) = unchanged m (RepliedWith (replied_to m.state.conn m.store id q))
called m id (ForSay output bytes buffer) = changed_by m (C.say m.state.conn id output bytes buffer)
called m id (ForEnd output buffer) = changed_by m (C.end_stream m.state.conn id output buffer)
called m id (ForFinish status buffer) = finished_by m (C.finish m.state.conn m.store id status buffer)

-- a step over a piece
abbrev pub step_of : Memory → List ℕ → Stepped
step_of m piece = stepped m.state m.store piece

-- what a step leaves
abbrev pub memory_of : Stepped → Memory
memory_of s = record { state = s.state; store = s.store }

-- the bytes that it used
abbrev pub used_of : Memory → List ℕ → List ℕ
used_of m piece = take (step_of m piece).used piece

-- what an operation leaves
unfoldable pub memory_after : Memory → Operation → Memory
memory_after m (StepOver piece) = memory_of (step_of m piece)
memory_after m (CallFor id a) = (called m id a).memory
memory_after m CountActive = m

-- what is observed of it
unfoldable pub seen_in : Memory → Operation → List Observed
seen_in m (StepOver piece) = map Heard (notes (step_of m piece).event (used_of m piece))
seen_in m (CallFor id a) = Answered id a (called m id a).answer (request_of id m) (request_of id (called m id a).memory) ∷ []
seen_in m CountActive = []

-- its items in a timeline: the bytes that a step used, or the call
unfoldable pub items_of : Memory → Operation → List (Item Argument)
items_of m (StepOver piece) = byte_items (used_of m piece)
items_of m (CallFor id a) = CallItem (RequestCall id a) ∷ []
items_of m CountActive = CallItem CountCall ∷ []

-- ---- runs
-- what operations leave
unfoldable pub final_memory : Memory → List Operation → Memory
final_memory m [] = m
final_memory m (o ∷ os) = final_memory (memory_after m o) os

-- all that is observed on the way, in order
unfoldable pub all_seen : Memory → List Operation → List Observed
all_seen m [] = []
all_seen m (o ∷ os) = seen_in m o ++ all_seen (memory_after m o) os

-- the timeline: the bytes that the steps used, and the calls, in order
unfoldable pub timeline : Memory → List Operation → List (Item Argument)
timeline m [] = []
timeline m (o ∷ os) = items_of m o ++ timeline (memory_after m o) os

-- the memory of a start
unfoldable pub start_of : List ℕ → List ℕ → Memory
start_of gathered store = record { state = (started gathered store).state; store = (started gathered store).store }

-- the pieces of operations are bytes
abbrev pub PiecesOk : List Operation → Type 0
PiecesOk [] = Unit {0}
PiecesOk (StepOver piece ∷ os) = AllBytes piece × PiecesOk os
PiecesOk (CallFor id a ∷ os) = PiecesOk os
PiecesOk (CountActive ∷ os) = PiecesOk os

-- A whole run: what the gathered bytes and the store held before its start, and its operations. The store has its
-- size, so the start is not refused; the other sizes are those of the code's types.
pub record WholeRun : Type 0 where
  pub gathered : List ℕ
  pub store : List ℕ
  pub operations : List Operation
  pub gathered_size : length gathered ≡ QUERY
  pub store_size : length store ≡ STORE
  pub pieces : PiecesOk operations

-- its start
abbrev pub beginning : WholeRun → Memory
beginning r = start_of r.gathered r.store

-- what it leaves
abbrev pub ending : WholeRun → Memory
ending r = final_memory (beginning r) r.operations

-- its timeline
abbrev pub timeline_of : WholeRun → List (Item Argument)
timeline_of r = timeline (beginning r) r.operations

-- all that is observed in it
abbrev pub observed_in : WholeRun → List Observed
observed_in r = all_seen (beginning r) r.operations

-- ---- pieces that are used up
-- A step may leave a part of its piece unused. To use a piece up: step over it, then over what that step left of it,
-- and so on until nothing is left. Here with at most n steps.
unfoldable pub stepped_through : ℕ → Memory → List ℕ → List Operation
stepped_through zero m x = []
stepped_through (suc n) m [] = []
stepped_through (suc n) m (b ∷ x) =
    StepOver (b ∷ x) ∷ stepped_through n (memory_after m (StepOver (b ∷ x))) (drop (step_of m (b ∷ x)).used (b ∷ x))

-- Each piece is stepped over until it is used up, and each call is made in its place. A piece of n bytes gets at most
-- n steps: a step that is not refused uses a byte.
unfoldable pub all_stepped : Memory → List Operation → List Operation
all_stepped m [] = []
all_stepped m (StepOver x ∷ os) = stepped_through (length x) m x ++ all_stepped (final_memory m (stepped_through (length x) m x)) os
all_stepped m (CallFor id a ∷ os) = CallFor id a ∷ all_stepped (memory_after m (CallFor id a)) os
all_stepped m (CountActive ∷ os) = CountActive ∷ all_stepped (memory_after m CountActive) os

-- all bytes of the pieces, whether steps use them or not, and the calls, in order
unfoldable pub items_in : List Operation → List (Item Argument)
items_in [] = []
items_in (StepOver x ∷ os) = byte_items x ++ items_in os
items_in (CallFor id a ∷ os) = CallItem (RequestCall id a) ∷ items_in os
items_in (CountActive ∷ os) = CallItem CountCall ∷ items_in os

-- ---- what is R's
-- the id that an event names; 0 for none
abbrev pub event_id : Event → ℕ
event_id Event.None = 0
event_id (Event.Open id role keep) = id
event_id (Event.Ready id n) = id
event_id (Event.Data id stream n) = id
event_id (Event.End id stream measure) = id
event_id (Event.Abort id) = id
event_id (Event.Refuse id n) = id
event_id (Event.Fault id n) = id
event_id (Event.Query conns reqs mpxs) = 0
event_id (Event.Unknown kind) = 0
event_id (Event.Closed n) = 0

-- the id that an observation names
abbrev pub id_of : Observed → ℕ
id_of (Heard (Note.Told e)) = event_id e
id_of (Heard (Note.Shown id stream b)) = id
id_of (Answered id a answer before after) = id

-- those that name R
unfoldable pub seen_of : ℕ → List Observed → List Observed
seen_of R [] = []
seen_of R (o ∷ os) = if id_of o =? R then o ∷ seen_of R os else seen_of R os

-- what is observed of R in a run
abbrev pub observed : ℕ → WholeRun → List Observed
observed R r = seen_of R (observed_in r)

-- The exported calls by which output comes to wait, and the pump, each with all that it leaves. A state with an unknown
-- code, and a number that is no output stream's, are refused by 9, and everything stays as it came.
use Rattle.std.specs.Prelude.{ℕ, Bool, ◌&&◌, List, [], if◌then◌else◌}
use Rattle.queue.specs.Calls.{Queueing, Pumped, lent, queue_say, queue_end, queue_finish, pump}
use Rattle.flat_state.specs.declared.FlatState.{FlatState}
use Rattle.flat_state.specs.Flat.{conn_of, known}
use Rattle.flat_answer.specs.declared.answer.FlatQueued.{FlatQueued}
use Rattle.flat_answer.specs.declared.answer.FlatPumped.{FlatPumped}
use Rattle.flat_answer.specs.WriteAnswers.{known_output, output_of, flat_queued, unqueued, flat_pumped, unpumped}

-- the state and the number of an output stream are known
abbrev pub both_known : FlatState → ℕ → Bool
both_known f stream = known f && known_output stream

-- What data leaves: the answer, and what was lent.
pub record DataWaits : Type 0 where
  pub answer : FlatQueued
  pub waits : List ℕ
  pub marks : List ℕ
  pub queue : List ℕ

abbrev pub data_left : Queueing → DataWaits
data_left q = record { answer = flat_queued q; waits = q.left.waits; marks = q.left.marks; queue = q.left.queue }

-- yot_queue_output
unfoldable pub exported_queue_output : FlatState → List ℕ → List ℕ → List ℕ → ℕ → ℕ → List ℕ → DataWaits
exported_queue_output f waits marks queue id stream bytes =
    if both_known f stream
    then data_left (queue_say (lent (conn_of f) [] [] waits marks queue) id (output_of stream) bytes)
    else record { answer = unqueued f 9; waits = waits; marks = marks; queue = queue }

-- What the end of a stream or of a request leaves. The queue is not lent.
pub record EndWaits : Type 0 where
  pub answer : FlatQueued
  pub waits : List ℕ
  pub marks : List ℕ

abbrev pub end_left : Queueing → EndWaits
end_left q = record { answer = flat_queued q; waits = q.left.waits; marks = q.left.marks }

-- yot_queue_end
unfoldable pub exported_queue_end : FlatState → List ℕ → List ℕ → ℕ → ℕ → EndWaits
exported_queue_end f waits marks id stream =
    if both_known f stream then end_left (queue_end (lent (conn_of f) [] [] waits marks []) id (output_of stream))
    else record { answer = unqueued f 9; waits = waits; marks = marks }

-- yot_queue_finish
unfoldable pub exported_queue_finish : FlatState → List ℕ → List ℕ → ℕ → ℕ → EndWaits
exported_queue_finish f waits marks id status =
    if known f then end_left (queue_finish (lent (conn_of f) [] [] waits marks []) id status)
    else record { answer = unqueued f 9; waits = waits; marks = marks }

-- What a turn of the pump leaves.
pub record AfterTurn : Type 0 where
  pub answer : FlatPumped
  pub store : List ℕ
  pub waits : List ℕ
  pub marks : List ℕ
  pub queue : List ℕ
  pub out : List ℕ

abbrev pub turn_left : Pumped → AfterTurn
turn_left p =
    record {
      answer = flat_pumped p;
      store = p.left.memory.store;
      waits = p.left.waits;
      marks = p.left.marks;
      queue = p.left.queue;
      out = p.buffer;
    }

-- yot_pump
unfoldable pub exported_pump : FlatState → List ℕ → List ℕ → List ℕ → List ℕ → ℕ → List ℕ → AfterTurn
exported_pump f store waits marks queue allowance out =
    if known f then turn_left (pump (lent (conn_of f) [] store waits marks queue) allowance out)
    else record { answer = unpumped f 9; store = store; waits = waits; marks = marks; queue = queue; out = out }

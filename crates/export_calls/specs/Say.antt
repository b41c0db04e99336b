-- The exported calls that write straight out, and those that take no connection, each with all that it leaves. A state
-- or an event with an unknown code, and a number that is no output stream's, are refused by 9, and everything stays as
-- it came.
use Rattle.std.specs.Prelude.{ℕ, List, [], if◌then◌else◌}
use Rattle.pair_writer.specs.Write as Pair
use Rattle.connection.specs.declared.state.Conn.{Conn}
use Rattle.connection.specs.Codes.{event_of}
use Rattle.connection.specs.Calls.{Written, Finished, Replied, replied}
use Rattle.queue.specs.Numbers.{kept_waits}
use Rattle.queue.specs.Calls.{lent, straight_say, straight_end, straight_finish}
use Rattle.flat_state.specs.declared.FlatState.{FlatState}
use Rattle.flat_state.specs.Flat.{conn_of, known}
use Rattle.flat_event.specs.declared.FlatEvent.{FlatEvent}
use Rattle.flat_event.specs.Flat.{read_event, known_event}
use Rattle.flat_answer.specs.declared.answer.FlatWritten.{FlatWritten}
use Rattle.flat_answer.specs.declared.answer.FlatFinished.{FlatFinished}
use Rattle.flat_answer.specs.declared.answer.FlatWrote.{FlatWrote}
use Rattle.flat_answer.specs.WriteAnswers.{output_of, flat_written, unwritten, flat_finished, unfinished}
use Rattle.flat_answer.specs.WriteAnswers.{flat_replied, flat_pair_written, wrote_nothing}
use Rattle.export_calls.specs.Wait.{both_known}

-- What a call that writes into a buffer leaves: the answer, and the buffer.
pub record Filled (A : Type 0) : Type 0 where
  pub answer : A
  pub out : List ℕ

abbrev pub output_left : Written → Filled FlatWritten
output_left w = record { answer = flat_written w; out = w.buffer }

-- yot_write_output
unfoldable pub exported_output : FlatState → List ℕ → ℕ → ℕ → List ℕ → List ℕ → Filled FlatWritten
exported_output f waits id stream bytes out =
    if both_known f stream
    then output_left (straight_say (lent (conn_of f) [] [] waits [] []) id (output_of stream) bytes out)
    else record { answer = unwritten f 9; out = out }

-- yot_end_output
unfoldable pub exported_end : FlatState → List ℕ → ℕ → ℕ → List ℕ → Filled FlatWritten
exported_end f waits id stream out =
    if both_known f stream
    then output_left (straight_end (lent (conn_of f) [] [] waits [] []) id (output_of stream) out)
    else record { answer = unwritten f 9; out = out }

-- What a finish leaves; where it closes the connection, what waits is dropped.
pub record AfterFinish : Type 0 where
  pub answer : FlatFinished
  pub waits : List ℕ
  pub store : List ℕ
  pub out : List ℕ

abbrev pub finish_left : Conn → List ℕ → Finished → AfterFinish
finish_left c waits x =
    record {
      answer = flat_finished x;
      waits = kept_waits c.«open» x.conn.«open» waits;
      store = x.store;
      out = x.buffer;
    }

-- yot_finish
unfoldable pub exported_finish : FlatState → List ℕ → List ℕ → ℕ → ℕ → List ℕ → AfterFinish
exported_finish f waits store id status out =
    if known f
    then finish_left (conn_of f) waits (straight_finish (lent (conn_of f) [] store waits [] []) id status out)
    else record { answer = unfinished f 9; waits = waits; store = store; out = out }

-- yot_owed_reply
abbrev pub reply_left : Replied → Filled FlatWrote
reply_left r = record { answer = flat_replied r; out = r.buffer }

unfoldable pub exported_reply : FlatEvent → List ℕ → Filled FlatWrote
exported_reply e out =
    if known_event e then reply_left (replied (event_of (read_event e)) out)
    else record { answer = wrote_nothing 9; out = out }

-- yot_write_pair
abbrev pub pair_left : Pair.Written → Filled FlatWrote
pair_left w = record { answer = flat_pair_written w; out = w.buffer }

abbrev pub exported_pair : List ℕ → List ℕ → List ℕ → Filled FlatWrote
exported_pair out name value = pair_left (Pair.pair_written out name value)

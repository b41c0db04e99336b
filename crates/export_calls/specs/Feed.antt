-- The exported calls that read the connection, each with all that it leaves. A state with an unknown code is refused by
-- 9, and everything stays as it came.
use Rattle.std.specs.Prelude.{ℕ, List, [], length, if◌then◌else◌}
use Rattle.wire.specs.Test.{◌=?◌}
use Rattle.connection.specs.declared.state.Conn.{Conn}
use Rattle.connection.specs.Sizes.{STORE}
use Rattle.connection.specs.Step.{Stepped, started}
use Rattle.queue.specs.Numbers.{nobody_waits, kept_waits}
use Rattle.queue.specs.Calls.{QueueMemory, lent, queue_step}
use Rattle.queue_read.specs.Next.{queue_next}
use Rattle.flat_state.specs.declared.FlatState.{FlatState}
use Rattle.flat_state.specs.Flat.{conn_of, known}
use Rattle.flat_answer.specs.declared.answer.FlatStarted.{FlatStarted}
use Rattle.flat_answer.specs.declared.answer.FlatStepped.{FlatStepped}
use Rattle.flat_answer.specs.ReadAnswers.{flat_started, flat_stepped, unstepped}

-- What a call that reads leaves: its answer, and what was lent to it.
pub record Left (A : Type 0) : Type 0 where
  pub answer : A
  pub store : List ℕ
  pub gathered : List ℕ
  pub waits : List ℕ

-- yot_start
unfoldable pub exported_start : List ℕ → List ℕ → List ℕ → Left FlatStarted
exported_start store gathered waits =
    let s = started gathered store in
    record {
      answer = flat_started s;
      store = s.store;
      gathered = s.state.gathered;
      waits = if length store =? STORE then nobody_waits else waits;
    }

-- what a step leaves; where it closes the connection, what waits is dropped
abbrev pub fed : Conn → List ℕ → Stepped → Left FlatStepped
fed c waits s =
    record {
      answer = flat_stepped s;
      store = s.store;
      gathered = s.state.gathered;
      waits = kept_waits c.«open» s.state.conn.«open» waits;
    }

-- a call over a piece, by its definition
unfoldable pub fed_by : (QueueMemory → List ℕ → Stepped) → FlatState → List ℕ → List ℕ → List ℕ → List ℕ
    → Left FlatStepped
fed_by call f store gathered waits piece =
    if known f then fed (conn_of f) waits (call (lent (conn_of f) gathered store waits [] []) piece)
    else record { answer = unstepped f 9; store = store; gathered = gathered; waits = waits }

-- yot_step
abbrev pub exported_step : FlatState → List ℕ → List ℕ → List ℕ → List ℕ → Left FlatStepped
exported_step = fed_by queue_step

-- yot_next_event
abbrev pub exported_next : FlatState → List ℕ → List ℕ → List ℕ → List ℕ → Left FlatStepped
exported_next = fed_by queue_next

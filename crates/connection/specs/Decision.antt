-- What the code decides in a step (its `Decision`), read as what the rules leave.
use Rattle.std.specs.Prelude.{ℕ, List, length}
use Rattle.wire.specs.Buffer.{zeros}
use Rattle.connection.specs.declared.state.Table.{Table}
use Rattle.connection.specs.declared.state.Frame.{Frame}
use Rattle.connection.specs.declared.state.Conn.{Conn}
use Rattle.connection.specs.declared.decision.Change.{Change}
use Rattle.connection.specs.declared.decision.Decision.{Decision}
use Rattle.connection.specs.Codes.{event_of}
use Rattle.connection.specs.Slots.{put_request, take_slot}
use Rattle.connection.specs.Step.{State, Left, open_with, closed_conn}

-- an open connection with this table and frame
abbrev pub open_state : Table → Frame → List ℕ → State
open_state t f gathered = record { conn = open_with t f; gathered = gathered }

abbrev pub conn_after : Change → Table → Frame → Conn
conn_after Change.Keep t f = open_with t f
conn_after (Change.Put i r) t f = open_with (put_request t i r) f
conn_after (Change.Take i r) t f = open_with (take_slot t i r) f
conn_after Change.Close t f = closed_conn

abbrev pub store_after : Change → List ℕ → List ℕ
store_after Change.Keep store = store
store_after (Change.Put i r) store = store
store_after (Change.Take i r) store = store
store_after Change.Close store = zeros (length store)

-- a decision applied to a table, the gathered bytes and the store
abbrev pub applied : Decision → Table → List ℕ → List ℕ → Left
applied m t gathered store =
    record {
      conn = conn_after m.change t m.frame;
      gathered = gathered;
      store = store_after m.change store;
      event = event_of m.event;
    }

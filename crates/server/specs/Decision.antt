-- What the code decides in a step (its `Decision`), read as what the rules leave.
use Rattle.std.specs.Prelude.{ℕ, true, false, List}
use Rattle.connection.specs.declared.state.Table.{Table}
use Rattle.connection.specs.declared.answer.Output.{Output}
use Rattle.connection.specs.RequestCalls.{ended_on}
use Rattle.connection.specs.Slots.{request_at, put_request, free_slot, no_requests}
use Rattle.server.specs.declared.state.Target.{Target}
use Rattle.server.specs.declared.state.Frame.{Frame}
use Rattle.server.specs.declared.decision.Change.{Change}
use Rattle.server.specs.declared.decision.Decision.{Decision}
use Rattle.server.specs.Codes.{event_of}
use Rattle.server.specs.Step.{Inner, Left, idle, told}

-- an open connection with this table, a record being read in this frame, and these lent bytes
abbrev pub inner_in : Table → Frame → List ℕ → Inner
inner_in t f values = record { table = t; target = f.target; gathered = f.gathered; body = f.body; «open» = true; values = values }

-- a stream of the request in slot i ended
abbrev pub stream_ended : Table → ℕ → Output → Table
stream_ended t i output = put_request t i (ended_on (request_at t i) output)

-- A close leaves nothing of a record; any other change leaves what was decided of it.
abbrev pub inner_after : Change → Table → Target → ℕ → List ℕ → List ℕ → Inner
inner_after Change.Keep t target n body values =
    record { table = t; target = target; gathered = n; body = body; «open» = true; values = values }
inner_after (Change.EndStream i output) t target n body values =
    record { table = stream_ended t i output; target = target; gathered = n; body = body; «open» = true; values = values }
inner_after (Change.Free i) t target n body values =
    record { table = free_slot t i; target = target; gathered = n; body = body; «open» = true; values = values }
inner_after Change.Close t target n body values = idle no_requests false values

-- a decision applied to a table and the lent bytes
abbrev pub applied : Decision → Table → List ℕ → Left
applied m t values =
    told (inner_after m.change t m.target m.gathered m.body values) (event_of m.event)

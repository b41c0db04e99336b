-- Row 9: a state of the web server's end out of shape, condition by condition. The table's conditions and the reader's
-- are the station's own.
use Rattle.std.specs.Prelude.{ℕ, ◌+◌, Bool, true}
use Rattle.wire.specs.Test.{◌≤?◌, ◌=?◌}
use Rattle.connection.specs.declared.state.Table.{Table}
use Rattle.connection.specs.Sizes.{SLOTS, QUERY}
use Rattle.connection.specs.Shape.{◌and◌, slots_fit, position_fits, due_fits}
use Rattle.server.specs.declared.state.Target.{Target}
use Rattle.server.specs.declared.state.Server.{Server}

-- What the content is for, with the bytes gathered and those left: output and END_REQUEST are due to a slot that is
-- taken; of a body of eight the bytes make 8; those of a result do not pass QUERY.
abbrev pub target_fits : Target → Table → ℕ → ℕ → Bool
target_fits Target.Skip t gathered left = true
target_fits (Target.Stdout i) t gathered left = due_fits t i
target_fits (Target.Stderr i) t gathered left = due_fits t i
target_fits (Target.End i) t gathered left = due_fits t i and (gathered + left =? 8)
target_fits Target.Values t gathered left = gathered + left ≤? QUERY
target_fits Target.Unknown t gathered left = gathered + left =? 8

unfoldable pub in_shape : Server → Bool
in_shape c =
    slots_fit SLOTS c.table.ids c.table.lengths c.table.occupied 0
    and (position_fits c.frame.position and target_fits c.frame.target c.table c.frame.gathered c.frame.position.content)

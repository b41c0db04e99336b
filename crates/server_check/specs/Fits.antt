-- The shape of a state of the web server's end, from the parts of it that it depends on.
use Rattle.std.specs.Prelude.{ℕ, Bool, true, List, []}
use Rattle.conn_check.specs.Fits.{table_of}
use Rattle.server.specs.declared.state.Target.{Target}
use Rattle.server.specs.declared.state.Frame.{Frame}
use Rattle.server.specs.Shape.{target_fits, in_shape}

abbrev pub target_of : Target → ℕ → ℕ → ℕ → Bool
target_of target occupied gathered left = target_fits target (table_of [] [] occupied) gathered left

abbrev pub shape_of : List ℕ → List ℕ → ℕ → Frame → Bool
shape_of ids lengths occupied f = in_shape (record { table = table_of ids lengths occupied; frame = f; «open» = true })

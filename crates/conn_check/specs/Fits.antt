-- The shape of a state, from the parts of it that it depends on.
use Rattle.std.specs.Prelude.{ℕ, Bool, true, List, []}
use Rattle.connection.specs.declared.state.Table.{Table}
use Rattle.connection.specs.declared.state.Target.{Target}
use Rattle.connection.specs.declared.state.Frame.{Frame}
use Rattle.connection.specs.Shape.{due_fits, target_fits, in_shape}

-- a table with these ids, lengths and slots taken; its standings and marks do not matter
abbrev pub table_of : List ℕ → List ℕ → ℕ → Table
table_of ids lengths occupied =
    record { ids = ids; lengths = lengths; standings = []; keep = 0; out_ended = 0; err_used = 0; err_ended = 0; stdin_shown = []; data_shown = []; occupied = occupied }

abbrev pub due_of : ℕ → ℕ → Bool
due_of occupied i = due_fits (table_of [] [] occupied) i

abbrev pub target_of : Target → List ℕ → List ℕ → ℕ → ℕ → ℕ → Bool
target_of target ids lengths occupied gathered left = target_fits target (table_of ids lengths occupied) gathered left

abbrev pub shape_of : List ℕ → List ℕ → ℕ → Frame → Bool
shape_of ids lengths occupied f = in_shape (record { table = table_of ids lengths occupied; frame = f; «open» = true })

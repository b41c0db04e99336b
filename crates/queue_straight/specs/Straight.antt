-- The rows of an output that is written straight out while something may wait.
use Rattle.std.specs.Prelude.{◌≡◌, ℕ, Bool, not, List, [], ◌∷◌, Result, ⊤}
use Rattle.connection.specs.declared.state.Conn.{Conn}
use Rattle.connection.specs.declared.answer.Output.{Output}
use Rattle.connection.specs.Refusal.{◌when◌, refusal}
use Rattle.request_output.specs.Answer.{check_number}
use Rattle.queue_slot.specs.Wait.{anything}
use Rattle.queue.specs.Calls.{lent, rows_of, stream_rows, wait_at, slot_of}
use Rattle.connection.specs.declared.answer.Refusal.{Refusal}

-- The number of a check is that of the first row that holds, whatever is lent beside what waits.
abbrev pub StraightCheck : Conn → List ℕ → ℕ → Output → Bool → Result ⊤ Refusal → Type 0
StraightCheck c waits id o fits x =
    (gathered store marks queue : List ℕ) → let m = lent c gathered store waits marks queue in
    check_number x ≡ refusal (rows_of m id (stream_rows m id o ((6 when not fits) ∷ (10 when anything (wait_at m (slot_of m id))) ∷ [])))

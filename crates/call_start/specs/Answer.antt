-- What start answers, read in the rules' numbers and values.
use Rattle.std.specs.Prelude.{ℕ, List, Ok, Err, Result, ⊤}
use Rattle.connection.specs.declared.answer.Started.{Started as Began}
use Rattle.connection.specs.Codes.{refusal_number}
use Rattle.connection.specs.Step.{state_of, Started}
use Rattle.connection.specs.declared.answer.Refusal.{Refusal}

-- a start's refusal, 0 for none
abbrev pub start_number : Result ⊤ Refusal → ℕ
start_number (Ok tt) = 0
start_number (Err r) = refusal_number r

abbrev pub started_by : Began → List ℕ → List ℕ → Started
started_by r gathered store =
    record { refusal = start_number r.result; state = state_of r.conn gathered; store = store }

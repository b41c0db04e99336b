-- What the code settles before it changes the table, read as what a step leaves.
use Rattle.std.specs.Prelude.{ℕ, List}
use Rattle.connection.specs.declared.state.Table.{Table}
use Rattle.connection.specs.declared.state.Conn.{Conn}
use Rattle.connection.specs.Decision.{conn_after, store_after}
use Rattle.connection.specs.Step.{Stepped, state_of}
use Rattle.conn_step.specs.declared.Outcome.{Outcome}
use Rattle.conn_step.specs.Answer.{told_number, told_event}

-- what a step answers, with this connection, these gathered bytes and this store after it
abbrev pub stepped_with : Outcome → Conn → List ℕ → List ℕ → Stepped
stepped_with o c gathered store =
    record { refusal = told_number o.result; used = o.used; event = told_event o.result; state = state_of c gathered; store = store }

abbrev pub outcome_of : Outcome → Table → List ℕ → List ℕ → Stepped
outcome_of o t gathered store = stepped_with o (conn_after o.change t o.frame) gathered (store_after o.change store)

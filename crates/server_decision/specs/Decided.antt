-- What is decided where a record goes on, and where nothing is left of it.
use Rattle.std.specs.Prelude.{ℕ, List}
use Rattle.server.specs.declared.state.Target.{Target}
use Rattle.server.specs.declared.event.ServerEvent.{ServerEvent}
use Rattle.server.specs.declared.decision.Change.{Change}
use Rattle.server.specs.declared.decision.Decision.{Decision}
use Rattle.server.specs.Step.{no_body, target_if}

abbrev pub goes_on : ℕ → Target → ℕ → List ℕ → ServerEvent → Decision
goes_on left target n body e = record { change = Change.Keep; target = target_if left target; gathered = n; body = body; event = e }

abbrev pub done_with : Change → ServerEvent → Decision
done_with change e = record { change = change; target = Target.Skip; gathered = 0; body = no_body; event = e }

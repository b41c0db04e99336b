-- What step_server answers, read in the rules' numbers and values.
use Rattle.std.specs.Prelude.{ℕ, List}
use Rattle.server.specs.declared.answer.ServerStepped.{ServerStepped}
use Rattle.server.specs.Codes.{result_event, result_refusal}
use Rattle.server.specs.Step.{state_of, Stepped}

abbrev pub stepped_by : ServerStepped → List ℕ → Stepped
stepped_by r values =
    record { refusal = result_refusal r.result; used = r.used; event = result_event r.result; state = state_of r.server values }

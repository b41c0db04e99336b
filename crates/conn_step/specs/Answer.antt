-- What step answers, read in the rules' numbers and values.
use Rattle.std.specs.Prelude.{ℕ, List, Ok, Err, Result}
use Rattle.connection.specs.declared.answer.Stepped.{Stepped as Step}
use Rattle.connection.specs.declared.event.Event.{Event as CodeEvent}
use Rattle.connection.specs.Event.{Event}
use Rattle.connection.specs.Codes.{event_of, refusal_number}
use Rattle.connection.specs.Step.{state_of, Stepped}
use Rattle.connection.specs.declared.answer.Refusal.{Refusal}

-- a step's refusal, 0 for none, and its event
abbrev pub told_number : Result CodeEvent Refusal → ℕ
told_number (Ok e) = 0
told_number (Err r) = refusal_number r

abbrev pub told_event : Result CodeEvent Refusal → Event
told_event (Ok e) = event_of e
told_event (Err r) = Event.None

abbrev pub stepped_by : Step → List ℕ → List ℕ → Stepped
stepped_by r gathered store =
    record {
      refusal = told_number r.result;
      used = r.used;
      event = told_event r.result;
      state = state_of r.conn gathered;
      store = store;
    }

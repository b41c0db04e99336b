-- What the calls of the lift answer, read in the rules' numbers and values.
use Rattle.std.specs.Prelude.{ℕ, List, Result, Ok, Err}
use Rattle.connection.specs.declared.answer.Refusal.{Refusal}
use Rattle.connection.specs.Codes.{refusal_number, close_cause}
use Rattle.call_start.specs.Answer.{start_number}
use Rattle.lifting.specs.declared.LiftStarted.{LiftStarted as Began}
use Rattle.lifting.specs.declared.Moved.{Moved}
use Rattle.lifting.specs.declared.Lifted.{Lifted as Went}
use Rattle.lifting.specs.declared.Verdict.{Verdict as Judged}
use Rattle.lifting.specs.Lift.{Verdict, Clean, Cut, ClosedAt}
use Rattle.lifting.specs.Call.{LiftStarted, Lifted, lifting_of}

abbrev pub lift_started_by : Began → List ℕ → List ℕ → LiftStarted
lift_started_by r gathered store =
    record { refusal = start_number r.result; lifting = lifting_of r.lift gathered; store = store }

-- a call's refusal, 0 for none, and the bytes that it used and wrote
abbrev pub lift_number : Result Moved Refusal → ℕ
lift_number (Ok m) = 0
lift_number (Err why) = refusal_number why

abbrev pub lift_used : Result Moved Refusal → ℕ
lift_used (Ok m) = m.used
lift_used (Err why) = 0

abbrev pub lift_written : Result Moved Refusal → ℕ
lift_written (Ok m) = m.written
lift_written (Err why) = 0

abbrev pub lifted_by : Went → List ℕ → List ℕ → List ℕ → Lifted
lifted_by r gathered store buffer =
    record {
      refusal = lift_number r.result;
      used = lift_used r.result;
      written = lift_written r.result;
      lifting = lifting_of r.lift gathered;
      store = store;
      buffer = buffer;
    }

abbrev pub verdict_by : Judged → Verdict
verdict_by Judged.Clean = Clean
verdict_by Judged.Cut = Cut
verdict_by (Judged.Closed cause place) = ClosedAt (close_cause cause) place

-- What finish answers, read in the rules' numbers and values.
use Rattle.std.specs.Prelude.{ℕ, Bool, true, false, List, [], if◌then◌else◌}
use Rattle.wire.specs.Test.{◌=?◌}
use Rattle.record_writer.specs.Written.{record_bytes}
use Rattle.connection.specs.declared.request.RequestState.{RequestState}
use Rattle.connection.specs.declared.state.Target.{Target}
use Rattle.connection.specs.Codes.{refusal_number}
use Rattle.connection.specs.RequestCalls.{owes_out, owes_err}
use Rattle.connection.specs.Calls.{Finished}
use Rattle.call_finish.specs.declared.FinishResult.{FinishResult}
use Rattle.call_finish.specs.declared.Finished.{Finished as Call}

-- how many bytes are owed
unfoldable pub owed_length : RequestState → ℕ
owed_length m = if owes_out m then (if owes_err m then 32 else 24) else (if owes_err m then 24 else 16)

-- an empty record, if it is owed
abbrev pub end_if : Bool → ℕ → ℕ → List ℕ
end_if owed kind id = if owed then record_bytes kind id [] else []

-- the target, or Skip if its slot j is the slot i given back
abbrev pub skip_own : ℕ → ℕ → Target → Target
skip_own i j target = if j =? i then Target.Skip else target

abbrev pub finish_refusal : FinishResult → ℕ
finish_refusal (FinishResult.Open n) = 0
finish_refusal (FinishResult.Closed n) = 0
finish_refusal (FinishResult.Refused r) = refusal_number r

abbrev pub finish_written : FinishResult → ℕ
finish_written (FinishResult.Open n) = n
finish_written (FinishResult.Closed n) = n
finish_written (FinishResult.Refused r) = 0

abbrev pub finish_closes : FinishResult → Bool
finish_closes (FinishResult.Open n) = false
finish_closes (FinishResult.Closed n) = true
finish_closes (FinishResult.Refused r) = false

abbrev pub finished_by : Call → List ℕ → List ℕ → Finished
finished_by r store buffer =
    record { refusal = finish_refusal r.result; written = finish_written r.result; closed = finish_closes r.result; conn = r.conn; store = store; buffer = buffer }

-- What the output of one request comes to, read in the rules' numbers and values.
use Rattle.std.specs.Prelude.{ℕ, List, Ok, Err, Result, ⊤}
use Rattle.connection.specs.Codes.{refusal_number, wrote_refusal, wrote_bytes}
use Rattle.connection.specs.RequestCalls.{Writing}
use Rattle.request_output.specs.declared.Said.{Said}
use Rattle.connection.specs.declared.answer.Refusal.{Refusal}

-- the refusal of a check, 0 for none
abbrev pub check_number : Result ⊤ Refusal → ℕ
check_number (Ok tt) = 0
check_number (Err r) = refusal_number r

-- of one request
abbrev pub said_by : Said → List ℕ → Writing
said_by r buffer =
    record { refusal = wrote_refusal r.wrote; written = wrote_bytes r.wrote; request = r.request; buffer = buffer }

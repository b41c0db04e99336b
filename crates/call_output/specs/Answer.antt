-- What the calls that write a request's output answer, read in the rules' numbers and values.
use Rattle.std.specs.Prelude.{ℕ, List}
use Rattle.connection.specs.declared.answer.Written.{Written as Call}
use Rattle.connection.specs.Codes.{wrote_refusal, wrote_bytes}
use Rattle.connection.specs.Calls.{Written}

abbrev pub written_by : Call → List ℕ → Written
written_by r buffer =
    record { refusal = wrote_refusal r.wrote; written = wrote_bytes r.wrote; conn = r.conn; buffer = buffer }

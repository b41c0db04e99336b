-- What the active number answers, read in the rules' numbers.
use Rattle.std.specs.Prelude.{Ok, Err, Result, ℕ}
use Rattle.connection.specs.Codes.{refusal_number}
use Rattle.connection.specs.Calls.{Counted}
use Rattle.connection.specs.declared.answer.Refusal.{Refusal}

abbrev pub counted_by : Result ℕ Refusal → Counted
counted_by (Ok n) = record { refusal = 0; count = n }
counted_by (Err r) = record { refusal = refusal_number r; count = 0 }

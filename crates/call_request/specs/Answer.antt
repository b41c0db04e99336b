-- What `request_of` answers, read in the rules' numbers.
use Rattle.std.specs.Prelude.{Ok, Err, Result}
use Rattle.connection.specs.Codes.{refusal_number}
use Rattle.connection.specs.RequestCalls as Of
use Rattle.connection.specs.declared.answer.Refusal.{Refusal}
use Rattle.connection.specs.declared.request.Request.{Request}

abbrev pub request_by : Result Request Refusal → Of.RequestAnswer
request_by (Ok r) = Of.RequestIs r
request_by (Err r) = Of.RequestRefused (refusal_number r)

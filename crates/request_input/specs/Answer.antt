-- What the end of PARAMS comes to, in the rules' values.
use Rattle.std.specs.Prelude.{Ok, Err, Result, ⊤, Some, None, Option}
use Rattle.machine.specs.Cause.{Cause}
use Rattle.connection.specs.Codes.{fault_cause}
use Rattle.connection.specs.declared.event.Fault.{Fault}

abbrev pub end_cause : Result ⊤ Fault → Option Cause
end_cause (Ok tt) = None
end_cause (Err f) = Some (fault_cause f)

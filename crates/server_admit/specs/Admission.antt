-- Whether a call is let through to its request: the number of its refusal, 0 for none, and the request's slot.
use Rattle.std.specs.Prelude.{ℕ, if◌then◌else◌, Ok, Err, Result, ⊤}
use Rattle.wire.specs.Test.{◌=?◌}
use Rattle.connection.specs.Sizes.{SLOTS}
use Rattle.server.specs.declared.state.Server.{Server}
use Rattle.server.specs.Codes.{refusal_number}
use Rattle.server.specs.Calls.{call_refusal, slot_of}
use Rattle.server.specs.declared.answer.ServerRefusal.{ServerRefusal}

-- the refusal of a check, 0 for none
abbrev pub check_number : Result ⊤ ServerRefusal → ℕ
check_number (Ok tt) = 0
check_number (Err r) = refusal_number r

pub record Admission : Type 0 where
  pub refusal : ℕ
  pub slot : ℕ

-- refused, there is no slot
abbrev pub admission : ℕ → ℕ → Admission
admission n i = if n =? 0 then record { refusal = 0; slot = i } else record { refusal = n; slot = SLOTS }

abbrev pub admitted_by : Result ℕ ServerRefusal → Admission
admitted_by (Ok i) = record { refusal = 0; slot = i }
admitted_by (Err r) = record { refusal = refusal_number r; slot = SLOTS }

unfoldable pub call_admission : Server → ℕ → Admission
call_admission c id = admission (call_refusal c id) (slot_of c id)

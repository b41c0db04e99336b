-- Whether a call is let through to its request: the number of its refusal, 0 for none, and the request's slot.
use Rattle.std.specs.Prelude.{ℕ, List, if◌then◌else◌, Ok, Err, Result}
use Rattle.wire.specs.Test.{◌=?◌}
use Rattle.connection.specs.declared.state.Conn.{Conn}
use Rattle.connection.specs.Sizes.{SLOTS}
use Rattle.connection.specs.Codes.{refusal_number}
use Rattle.connection.specs.Calls.{lent_refusal, call_refusal, slot_of}
use Rattle.connection.specs.declared.answer.Refusal.{Refusal}

pub record Admission : Type 0 where
  pub refusal : ℕ
  pub slot : ℕ

-- refused, there is no slot
abbrev pub admission : ℕ → ℕ → Admission
admission n i = if n =? 0 then record { refusal = 0; slot = i } else record { refusal = n; slot = SLOTS }

abbrev pub admitted_by : Result ℕ Refusal → Admission
admitted_by (Ok i) = record { refusal = 0; slot = i }
admitted_by (Err r) = record { refusal = refusal_number r; slot = SLOTS }

-- a call that is not lent the store, and one that is
unfoldable pub call_admission : Conn → ℕ → Admission
call_admission c id = admission (call_refusal c id) (slot_of c id)

unfoldable pub lent_admission : Conn → List ℕ → ℕ → Admission
lent_admission c store id = admission (lent_refusal c store id) (slot_of c id)

-- Whether a call may write on a stream: rows 9, 1 and 3, then rows 4 and 5 of the request that it names.
use Rattle.std.specs.Prelude.{◌≡◌, ◌⊎◌, ℕ, List, [], ◌∷◌, Bool, false, Ok, Err, Result, if◌then◌else◌}
use Rattle.connection.specs.declared.answer.Output.{Output}
use Rattle.connection.specs.declared.answer.Refusal.{Refusal}
use Rattle.connection.specs.declared.request.Request.{Request}
use Rattle.connection.specs.declared.state.Conn.{Conn}
use Rattle.connection.specs.Codes.{refusal_number}
use Rattle.connection.specs.Refusal.{◌when◌, refusal}
use Rattle.connection.specs.RequestCalls.{no_output, is_ended}
use Rattle.connection.specs.Slots.{request_at}
use Rattle.call_admit.specs.Admission.{admitted_by}
use Rattle.queue.specs.Numbers.{last_at}
use Rattle.queue.specs.Calls.{or}
use Rattle.queue_admit.specs.Admission.{queue_admission}

-- the number of row 4 or 5 of the request in slot i, 0 for neither
abbrev pub stream_row : Conn → List ℕ → ℕ → Output → ℕ
stream_row c waits i o =
    let r = request_at c.table i in
    let leaving = last_at waits i in
    refusal ((4 when (if leaving then false else no_output r)) ∷ (5 when or leaving (is_ended o r.state)) ∷ [])

-- Let through, the slot and its request; refused by the slot's admission, or by the request's own rows.
abbrev pub Writable : Conn → List ℕ → ℕ → Output → Result (ℕ × Request) Refusal → Type 0
Writable c waits id o (Ok (i, r)) =
    (admitted_by (Ok i) ≡ queue_admission c waits id) × (r ≡ request_at c.table i) × (0 ≡ stream_row c waits i o)
Writable c waits id o (Err why) =
    (admitted_by (Err why) ≡ queue_admission c waits id)
    ⊎ ((i : ℕ) × (admitted_by (Ok i) ≡ queue_admission c waits id) × (refusal_number why ≡ stream_row c waits i o))

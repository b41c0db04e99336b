-- Rows 4 and 5 of what writes on a stream, for a call that is let through to its slot.
use Rattle.std.specs.Prelude.{ℕ, ◌≡◌, Bool, true, false, List, [], ◌∷◌, if◌then◌else◌}
use Rattle.std.proofs.Common.{sym, ap, ◌∙◌, arith}
use Rattle.std.proofs.lemmas.Bool.{eqb-false}
use Rattle.connection.specs.declared.request.Request.{Request}
use Rattle.connection.specs.declared.answer.Output.{Output}
use Rattle.connection.specs.declared.answer.Refusal.{Refusal}
use Rattle.connection.specs.Codes.{refusal_number}
use Rattle.connection.specs.Refusal.{Row, ◌when◌, holds_in, refusal}
use Rattle.connection.specs.RequestCalls.{no_output, is_ended}
use Rattle.connection.specs.Slots.{request_at}
use Rattle.codes.proofs.Laws.{refusal_some}
use Rattle.queue.specs.Numbers.{last_at}
use Rattle.queue.specs.Calls.{QueueMemory, conn_of, rows_of, stream_rows, or}
use Rattle.queue_admit.proofs.AdmissionLaws.{Own, Through, own_decide}

-- rows 4 and 5 of a request that is between finish and END, or not
abbrev pub stream_rows_of : Bool → Request → Output → List Row → List Row
stream_rows_of leaving r o rows = (4 when (if leaving then false else no_output r)) ∷ (5 when or leaving (is_ended o r.state)) ∷ rows

-- the same of the request in slot i
abbrev pub stream_rows_at : QueueMemory → ℕ → Output → List Row → List Row
stream_rows_at m i o rows = stream_rows_of (last_at m.waits i) (request_at (conn_of m).table i) o rows

-- Let through to slot i, a call on a stream is decided by rows 4 and 5 of the request there, and by its other rows.
pub stream_decide : (m : QueueMemory) (id : ℕ) {i : ℕ} (o : Output) (rows : List Row) → Through m id i → Own rows
    → refusal (rows_of m id (stream_rows m id o rows)) ≡ refusal (stream_rows_at m i o rows)
stream_decide m id o rows t own =
    own_decide m id (stream_rows m id o rows) t (record { not_size = own.not_size; not_shape = own.not_shape; not_closed = own.not_closed; not_active = own.not_active })
    ∙ ap (λ (j : ℕ). refusal (stream_rows_at m j o rows)) t.slot

-- Rows 4 and 5 refuse before the others.
pub four_five_refuse : (a b : Bool) (why : Refusal) (rows : List Row) → Own rows → refusal_number why ≡ refusal ((4 when a) ∷ (5 when b) ∷ [])
    → refusal ((4 when a) ∷ (5 when b) ∷ rows) ≡ refusal_number why
four_five_refuse true b why rows own e = simp (own.not_size, own.not_shape, own.not_closed, own.not_active) (sym e)
four_five_refuse false true why rows own e = simp (own.not_size, own.not_shape, own.not_closed, own.not_active) (sym e)
four_five_refuse false false why rows own e = absurd (eqb-false (refusal_number why) 0 (refusal_some why) e)

-- Where neither holds, the others decide.
pub four_five_pass : (a b : Bool) (rows : List Row) → holds_in 4 rows ≡ false → holds_in 5 rows ≡ false → 0 ≡ refusal ((4 when a) ∷ (5 when b) ∷ [])
    → refusal ((4 when a) ∷ (5 when b) ∷ rows) ≡ refusal rows
four_five_pass true b rows no-four no-five e = absurd (omega arith)
four_five_pass false true rows no-four no-five e = absurd (omega arith)
four_five_pass false false rows no-four no-five e = simp (no-four, no-five)

-- The same of a call that is let through to slot i, where the request is r and is between finish and END, or not.
module _ (m : QueueMemory) (id : ℕ) {i : ℕ} (o : Output) (rows : List Row) (t : Through m id i) (own : Own rows) {r : Request} (er : r ≡ request_at (conn_of m).table i) {leaving : Bool} (el : leaving ≡ last_at m.waits i) where
  decide : refusal (rows_of m id (stream_rows m id o rows)) ≡ refusal (stream_rows_of leaving r o rows)
  decide = rw (er, el) (stream_decide m id o rows t own)

  -- refused by 4 or 5
  pub stream_refused : (why : Refusal) → refusal_number why ≡ refusal (stream_rows_of leaving r o []) → refusal (rows_of m id (stream_rows m id o rows)) ≡ refusal_number why
  stream_refused why e = decide ∙ four_five_refuse (if leaving then false else no_output r) (or leaving (is_ended o r.state)) why rows own e

  -- the other rows decide
  pub stream_passed : holds_in 4 rows ≡ false → holds_in 5 rows ≡ false → 0 ≡ refusal (stream_rows_of leaving r o []) → refusal (rows_of m id (stream_rows m id o rows)) ≡ refusal rows
  stream_passed no-four no-five e = decide ∙ four_five_pass (if leaving then false else no_output r) (or leaving (is_ended o r.state)) rows no-four no-five e

-- What asking for values needs: what the rows say together, and what is written.
use Rattle.std.specs.Prelude.{ℕ, ◌≤◌, ◌≡◌, refl, Bool, true, false, not, List, [], ◌∷◌, length, ltb, if◌then◌else◌, Ok}
use Rattle.std.proofs.Common.{arith, ltb-false}
use Rattle.wire.specs.Test.{by_test}
use Rattle.record.specs.Names.{GET_VALUES}
use Rattle.record_writer.specs.Written.{Placed, record_bytes, record_placed}
use Rattle.connection.specs.Sizes.{QUERY}
use Rattle.connection.specs.Refusal.{◌when◌}
use Rattle.server.specs.declared.answer.ServerRefusal.{ServerRefusal}
use Rattle.server.specs.declared.state.Server.{Server}
use Rattle.server.specs.Shape.{in_shape}
use Rattle.server.specs.Step.{step_refusal}
use Rattle.server.specs.Codes.{refusal_number}
use Rattle.server.specs.Calls.{ask_refusal, ask_values}
use Rattle.server.specs.Answer.{written_by}
use Rattle.server_admit.proofs.AdmissionLaws.{Passed, refused_first}
use Rattle.server_admit.proofs.Room.{record_filled, call_filled}
use Rattle.server_ask.specs.Rows.{bad_query, own_rows}

-- a list that row 62 lets through is not over 512 bytes
pub not_long : (list : List ℕ) → bad_query list ≡ false → length list ≤ QUERY
not_long list e =
    by_test (ltb QUERY (length list))
    (λ t. let z : ◌≡◌ {A = ℕ} 0 1 = cc (simp t at e) in absurd (omega arith))
    (λ t. ltb-false QUERY (length list) t)

-- rows 9 and 1 come first
pub rows_refused : (c : Server) (list : List ℕ) (room : ℕ) (why : ServerRefusal) → refusal_number why ≡ step_refusal c → ask_refusal c list room ≡ refusal_number why
unfolding ask_refusal
rows_refused c list room why e =
    refused_first c why ((62 when bad_query list) ∷ (6 when (ltb room (length (record_bytes GET_VALUES 0 list)))) ∷ []) e

-- past them the others decide
pub rows_own : (c : Server) (list : List ℕ) (room : ℕ) → Passed c → own_rows list room ≡ ask_refusal c list room
unfolding ask_refusal own_rows
rows_own c list room p = simp (p.shape, p.is_open)

-- where no row holds, the list is a good one and there is room
record Free (list : List ℕ) (room : ℕ) : Type 0 where
  good : bad_query list ≡ false
  enough : ltb room (length (record_bytes GET_VALUES 0 list)) ≡ false

free : (c : Server) (list : List ℕ) (room : ℕ) → 0 ≡ ask_refusal c list room → Free list room
unfolding ask_refusal
free c list room e =
    let f = rows (in_shape c) c.«open» (bad_query list) (ltb room (length (record_bytes GET_VALUES 0 list))) e in
    record { good = f.0; enough = f.1 }
  where
    rows : (a b q o : Bool) → ◌≡◌ {A = ℕ} 0 (if not a then 9 else if not b then 1 else if q then 62 else if o then 6 else 0) → (q ≡ false) × (o ≡ false)
    rows false b q o e = absurd (omega arith)
    rows true false q o e = absurd (omega arith)
    rows true true true o e = absurd (omega arith)
    rows true true false true e = absurd (omega arith)
    rows true true false false e = (refl, refl)

-- what the code made of it
pub ask_wrote : (c : Server) (list l : List ℕ) {n : ℕ} {l' : List ℕ} → 0 ≡ ask_refusal c list (length l)
    → ◌≡◌ {A = Placed} (record { next = n; buffer = l' }) (record_placed l 0 GET_VALUES 0 list)
    → written_by (record { wrote = Ok n; server = c }) l' ≡ ask_values c list l
unfolding ask_values
ask_wrote c list l e w =
    let f = free c list (length l) e in
    let short = not_long list f.good in
    call_filled (ask_refusal c list (length l)) c c (record_bytes GET_VALUES 0 list) l e (record_filled l GET_VALUES 0 list (omega arith) f.enough w)

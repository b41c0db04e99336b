-- What a check and the admission of a call say: of one let through, the state and the slot; of a refused one, the row.
use Rattle.std.specs.Prelude.{ℕ, ◌≡◌, refl, Bool, true, false, not, List, ◌∷◌, eqb, if◌then◌else◌, Ok, Err, Option, Some, None, ok_or}
use Rattle.std.proofs.Common.{sym, ap, arith, eqb-true}
use Rattle.std.proofs.lemmas.Bool.{eqb-false}
use Rattle.wire.specs.Test.{by_test}
use Rattle.connection.specs.Refusal.{Row, ◌when◌}
use Rattle.connection.specs.Sizes.{SLOTS}
use Rattle.connection.specs.Slots.{find, is_found, on_slot}
use Rattle.server.specs.Calls.{call_refusal}
use Rattle.server.specs.declared.answer.ServerRefusal.{ServerRefusal}
use Rattle.server.specs.declared.state.Server.{Server}
use Rattle.server.specs.Refusal.{refusal}
use Rattle.server.specs.Shape.{in_shape}
use Rattle.server.specs.Step.{step_refusal}
use Rattle.server.specs.Codes.{refusal_number}
use Rattle.server.specs.Answer.{refusal_some}
use Rattle.server_admit.specs.Admission.{Admission, admission, admitted_by, call_admission}

-- ---- rows 9 and 1
-- A state that they let through is in shape and open.
pub record Passed (c : Server) : Type 0 where
  pub shape : in_shape c ≡ true
  pub is_open : c.«open» ≡ true

pub passed : (c : Server) → 0 ≡ step_refusal c → Passed c
unfolding step_refusal
passed c e = let f = rows (in_shape c) c.«open» e in record { shape = f.0; is_open = f.1 }
  where
    rows : (a b : Bool) → ◌≡◌ {A = ℕ} 0 (if not a then 9 else if not b then 1 else 0) → (a ≡ true) × (b ≡ true)
    rows false b e = absurd (omega arith)
    rows true false e = absurd (omega arith)
    rows true true e = (refl, refl)

-- Where one of them refuses, a call that has them first is refused by it, whatever its other rows.
pub refused_first : (c : Server) (why : ServerRefusal) (rest : List Row) → refusal_number why ≡ step_refusal c
    → refusal ((9 when not (in_shape c)) ∷ (1 when not c.«open») ∷ rest) ≡ refusal_number why
unfolding step_refusal
refused_first c why rest e = rows (in_shape c) c.«open» e
  where
    rows : (a b : Bool) → refusal_number why ≡ (if not a then 9 else if not b then 1 else 0) → refusal ((9 when not a) ∷ (1 when not b) ∷ rest) ≡ refusal_number why
    rows false b e = sym e
    rows true false e = sym e
    rows true true e = absurd (eqb-false (refusal_number why) 0 (refusal_some why) e)

-- ---- admission
pub let_through : (n i j : ℕ) → admitted_by (Ok j) ≡ admission n i → (n ≡ 0) × (j ≡ i)
let_through n i j e =
    by_test (eqb n 0)
    (λ t. (eqb-true n 0 t, ap (λ (a : Admission). a.slot) (simp t at e)))
    (λ t. absurd (eqb-false n 0 t (sym (ap (λ (a : Admission). a.refusal) (simp t at e)))))

pub refused_by_lem : (n i : ℕ) (why : ServerRefusal) → admitted_by (Err why) ≡ admission n i → n ≡ refusal_number why
refused_by_lem n i why e =
    by_test (eqb n 0)
    (λ t. absurd (eqb-false (refusal_number why) 0 (refusal_some why) (ap (λ (a : Admission). a.refusal) (simp t at e))))
    (λ t. sym (ap (λ (a : Admission). a.refusal) (simp t at e)))

-- and back
pub by_refusal : (n i : ℕ) (why : ServerRefusal) → n ≡ refusal_number why → admitted_by (Err why) ≡ admission n i
by_refusal n i why e = rw e (simp (refusal_some why))

-- ---- past rows 9 and 1
-- The slot of the id decides: row 3, or the request's slot.
pub by_slot : (c : Server) (id : ℕ) → Passed c → admitted_by (ok_or (find c.table id) ServerRefusal.NotOpen) ≡ call_admission c id
unfolding call_admission call_refusal
by_slot c id p = simp (p.shape, p.is_open) (found (find c.table id))
  where
    found : (s : Option ℕ) → admitted_by (ok_or s ServerRefusal.NotOpen) ≡ admission (if not (is_found s) then 3 else 0) (on_slot s (λ i. i) SLOTS)
    found None = refl
    found (Some i) = refl

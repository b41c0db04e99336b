-- What the admission of a call says: of one let through, the slot; of a refused one, the row.
use Rattle.std.specs.Prelude.{ℕ, ◌≡◌, eqb, Ok, Err}
use Rattle.std.proofs.Common.{sym, ap, eqb-true}
use Rattle.std.proofs.lemmas.Bool.{eqb-false}
use Rattle.wire.specs.Test.{by_test}
use Rattle.connection.specs.declared.answer.Refusal.{Refusal}
use Rattle.connection.specs.Codes.{refusal_number}
use Rattle.codes.proofs.Laws.{refusal_some}
use Rattle.call_admit.specs.Admission.{Admission, admission, admitted_by}

pub let_through : (n i j : ℕ) → admitted_by (Ok j) ≡ admission n i → (n ≡ 0) × (j ≡ i)
let_through n i j e =
    by_test (eqb n 0)
    (λ t. (eqb-true n 0 t, ap (λ (a : Admission). a.slot) (simp t at e)))
    (λ t. absurd (eqb-false n 0 t (sym (ap (λ (a : Admission). a.refusal) (simp t at e)))))

pub refused_by_lem : (n i : ℕ) (why : Refusal) → admitted_by (Err why) ≡ admission n i → n ≡ refusal_number why
refused_by_lem n i why e =
    by_test (eqb n 0)
    (λ t. absurd (eqb-false (refusal_number why) 0 (refusal_some why) (ap (λ (a : Admission). a.refusal) (simp t at e))))
    (λ t. sym (ap (λ (a : Admission). a.refusal) (simp t at e)))

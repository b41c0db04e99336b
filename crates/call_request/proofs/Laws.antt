-- What `request_of` answers, by whether it is admitted.
use Rattle.std.specs.Prelude.{ℕ, ◌≡◌, Ok, Err}
use Rattle.std.proofs.Common.{◌∙◌}
use Rattle.std.proofs.Math.Path.{ap}
use Rattle.connection.specs.declared.answer.Refusal.{Refusal}
use Rattle.connection.specs.declared.request.Request.{Request}
use Rattle.connection.specs.declared.state.Conn.{Conn}
use Rattle.connection.specs.RequestCalls as Of
use Rattle.connection.specs.Slots.{request_at}
use Rattle.connection.specs.Calls.{call_refusal, slot_of, request_named}
use Rattle.codes.proofs.Laws.{refusal_some}
use Rattle.call_admit.specs.Admission.{admitted_by, call_admission}
use Rattle.call_admit.proofs.AdmissionLaws.{let_through, refused_by_lem}
use Rattle.call_request.specs.Answer.{request_by}

module _ (c : Conn) (id : ℕ) where
  pub request_refused : (why : Refusal) → admitted_by (Err why) ≡ call_admission c id → request_by (Err why) ≡ request_named c id
  unfolding request_named call_admission
  request_refused why e = simp (refused_by_lem (call_refusal c id) (slot_of c id) why e, refusal_some why)

  pub request_through : (i : ℕ) {r : Request} → admitted_by (Ok i) ≡ call_admission c id → r ≡ request_at c.table i → request_by (Ok r) ≡ request_named c id
  unfolding request_named call_admission
  request_through i e er =
      let at = let_through (call_refusal c id) (slot_of c id) i e in
      simp at.0 (ap Of.RequestIs (er ∙ ap (request_at c.table) at.1))

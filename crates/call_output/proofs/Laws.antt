-- What holds of a call that is let through or refused.
use Rattle.std.specs.Prelude.{ℕ, ◌≡◌, List, Ok, Err}
use Rattle.std.proofs.Common.{ap, ◌∙◌}
use Rattle.connection.specs.declared.request.Request.{Request}
use Rattle.connection.specs.declared.state.Conn.{Conn}
use Rattle.connection.specs.declared.answer.Output.{Output}
use Rattle.connection.specs.declared.answer.Refusal.{Refusal}
use Rattle.connection.specs.Codes.{refusal_number}
use Rattle.connection.specs.RequestCalls.{Writing, say_in, end_in}
use Rattle.connection.specs.Slots.{request_at}
use Rattle.connection.specs.Calls.{call_refusal, slot_of, puts_request, written_by as callWritten, say, end_stream}
use Rattle.call_admit.specs.Admission.{admitted_by, call_admission}
use Rattle.call_admit.proofs.AdmissionLaws.{let_through, refused_by_lem}
use Rattle.request_output.specs.declared.Said.{Said}
use Rattle.request_output.specs.Answer.{said_by}
use Rattle.codes.proofs.Laws.{refusal_some}
use Rattle.call_output.specs.Answer.{written_by}

-- ---- a call
-- one that was refused, and one that was let through to its slot
admitted_not : (c : Conn) (id : ℕ) (why : Refusal) → admitted_by (Err why) ≡ call_admission c id → call_refusal c id ≡ refusal_number why
unfolding call_admission
admitted_not c id why e = refused_by_lem (call_refusal c id) (slot_of c id) why e

admitted_at : (c : Conn) (id i : ℕ) → admitted_by (Ok i) ≡ call_admission c id → (call_refusal c id ≡ 0) × (i ≡ slot_of c id)
unfolding call_admission
admitted_at c id i e = let_through (call_refusal c id) (slot_of c id) i e

module _ (c : Conn) (id : ℕ) (output : Output) where
  -- refused, nothing is written and nothing changes
  pub say_refused : (bytes l : List ℕ) (why : Refusal) → admitted_by (Err why) ≡ call_admission c id
      → written_by (record { wrote = Err why; conn = c }) l ≡ say c id output bytes l
  unfolding say
  say_refused bytes l why e = simp (admitted_not c id why e, refusal_some why)

  pub end_refused : (l : List ℕ) (why : Refusal) → admitted_by (Err why) ≡ call_admission c id
      → written_by (record { wrote = Err why; conn = c }) l ≡ end_stream c id output l
  unfolding end_stream
  end_refused l why e = simp (admitted_not c id why e, refusal_some why)

  -- let through, the request of its slot is put back as its output left it
  through : (f : Request → Writing) (said : Said) (i : ℕ) {r : Request} {l : List ℕ} → i ≡ slot_of c id → r ≡ request_at c.table i → said_by said l ≡ f r
      → written_by (record { wrote = said.wrote; conn = puts_request c i said.request }) l ≡ callWritten c (slot_of c id) (f (request_at c.table (slot_of c id)))
  through f said i ei er e =
      ap (callWritten c i) (e ∙ ap f er) ∙ ap (λ (j : ℕ). callWritten c j (f (request_at c.table j))) ei

  pub say_through : (bytes l : List ℕ) (said : Said) (i : ℕ) {r : Request} {l' : List ℕ} → admitted_by (Ok i) ≡ call_admission c id
      → r ≡ request_at c.table i → said_by said l' ≡ say_in r output bytes l
      → written_by (record { wrote = said.wrote; conn = puts_request c i said.request }) l' ≡ say c id output bytes l
  unfolding say
  say_through bytes l said i a er e =
      let at = admitted_at c id i a in
      simp at.0 (through (λ (x : Request). say_in x output bytes l) said i at.1 er e)

  pub end_through : (l : List ℕ) (said : Said) (i : ℕ) {r : Request} {l' : List ℕ} → admitted_by (Ok i) ≡ call_admission c id
      → r ≡ request_at c.table i → said_by said l' ≡ end_in r output l
      → written_by (record { wrote = said.wrote; conn = puts_request c i said.request }) l' ≡ end_stream c id output l
  unfolding end_stream
  end_through l said i a er e =
      let at = admitted_at c id i a in
      simp at.0 (through (λ (x : Request). end_in x output l) said i at.1 er e)

-- What holds of a call that is let through or refused, whatever its part.
use Rattle.std.specs.Prelude.{ℕ, ◌≡◌, List, length, eqb, Ok, Err}
use Rattle.std.proofs.Math.Path.{ap}
use Rattle.std.proofs.Common.{◌∙◌}
use Rattle.wire.specs.Test.{by_test}
use Rattle.connection.specs.declared.request.Request.{Request}
use Rattle.connection.specs.declared.state.Table.{Table}
use Rattle.connection.specs.RequestCalls.{Writing, writes}
use Rattle.connection.specs.Slots.{request_at}
use Rattle.connection.proofs.Laws.SlotsLaws.{put_same}
use Rattle.server.specs.declared.answer.ServerRefusal.{ServerRefusal}
use Rattle.server.specs.declared.state.Server.{Server}
use Rattle.server.specs.Codes.{refusal_number}
use Rattle.server.specs.Calls.{Written, Part, own_refusal, call_refusal, slot_of, with_request, writes_part, write_part}
use Rattle.server.specs.Answer.{written_by, refusal_some}
use Rattle.server_admit.specs.Admission.{admitted_by, call_admission}
use Rattle.server_admit.proofs.AdmissionLaws.{let_through, refused_by_lem}
use Rattle.server_part.specs.declared.Said.{Said}
use Rattle.server_part.specs.Answer.{said_by, part_in}

-- what a request wrote, with the request put back into its slot
abbrev puts_back : Server → ℕ → Writing → Written
puts_back c i w = record { refusal = w.refusal; written = w.written; server = with_request c i w.request; buffer = w.buffer }

-- Where it is refused it is put back as it was, which changes nothing.
part_put : (c : Server) (i : ℕ) (part : Part) (l : List ℕ) → puts_back c i (part_in (request_at c.table i) part l) ≡ writes_part c i part l
unfolding writes_part part_in writes
part_put c i part l =
    let r = request_at c.table i in
    by_test (eqb (own_refusal r part (length l)) 0)
    (λ t. simp t)
    (λ t. simp t (ap (λ (u : Table). record { refusal = own_refusal r part (length l); written = 0; server = record { table = u; frame = c.frame; «open» = c.«open» }; buffer = l }) (put_same c.table i)))

admitted_not : (c : Server) (id : ℕ) (why : ServerRefusal) → admitted_by (Err why) ≡ call_admission c id → call_refusal c id ≡ refusal_number why
unfolding call_admission
admitted_not c id why e = refused_by_lem (call_refusal c id) (slot_of c id) why e

admitted_at : (c : Server) (id i : ℕ) → admitted_by (Ok i) ≡ call_admission c id → (call_refusal c id ≡ 0) × (i ≡ slot_of c id)
unfolding call_admission
admitted_at c id i e = let_through (call_refusal c id) (slot_of c id) i e

module _ (c : Server) (id : ℕ) (part : Part) (l : List ℕ) where
  -- refused, nothing is written and nothing changes
  pub call_refused : (why : ServerRefusal) → admitted_by (Err why) ≡ call_admission c id
      → written_by (record { wrote = Err why; server = c }) l ≡ write_part c id part l
  unfolding write_part
  call_refused why e = simp (admitted_not c id why e, refusal_some why)

  -- let through, the request of its slot is put back as its part left it
  pub call_through : (said : Said) (i : ℕ) {r : Request} {l' : List ℕ} → admitted_by (Ok i) ≡ call_admission c id
      → r ≡ request_at c.table i → said_by said l' ≡ part_in r part l
      → written_by (record { wrote = said.wrote; server = with_request c i said.request }) l' ≡ write_part c id part l
  unfolding write_part
  call_through said i a er e =
      let at = admitted_at c id i a in
      simp at.0
      (ap (puts_back c i) (e ∙ ap (λ (x : Request). part_in x part l) er) ∙ part_put c i part l ∙ ap (λ (j : ℕ). writes_part c j part l) at.1)

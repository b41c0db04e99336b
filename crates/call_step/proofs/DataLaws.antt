-- A data event shows just the bytes that its step used.
use Rattle.connection.specs.Slots.{Slot}
use Rattle.std.specs.Prelude.{◌≡◌, refl, ℕ, Bool, true, length, take, eqb, ltb, Some, None}
use Rattle.std.proofs.Common.{sym, ap, ◌∙◌, arith, length-take-le}
use Rattle.std.proofs.Math.Bool.{false}
use mathlib.Core.List.{List, []}
use Rattle.wire.specs.Test.{by_test}
use Rattle.record.specs.Names.{VERSION, BEGIN_REQUEST, GET_VALUES, RESPONDER, AUTHORIZER, FILTER}
use Rattle.record.specs.declared.body.BeginBody.{BeginBody}
use Rattle.record.specs.declared.header.Header.{Header}
use Rattle.record_reader.specs.Position.{advanced}
use Rattle.record_reader.specs.declared.Position.{Position}
use Rattle.record_reader.specs.declared.Phase.{Phase}
use Rattle.pair_list.specs.List.{well_formed}
use Rattle.connection.specs.declared.request.Role.{Role}
use Rattle.connection.specs.declared.state.Target.{Target}
use Rattle.connection.specs.declared.state.Frame.{Frame}
use Rattle.connection.specs.Sizes.{SLOTS, QUERY}
use Rattle.connection.specs.Event.{Event}
use Rattle.connection.specs.Request.{Held, Ruled, faulted, aborted, turned, on_header}
use Rattle.connection.specs.Slots.{held_at, find, on_slot, free_slot_of}
use Rattle.connection.specs.Step.{State, closes, query_of, queried, on_management, on_inactive, on_active, judged, opens, begun, of_begin, of_query, of_request, on_target, on_phase, advances, step_refusal, stepped}
use Rattle.connection.proofs.Laws.Rules.{by_rule}
use Rattle.connection.proofs.Laws.Progress.{step_uses_no_more}

abbrev pub is_data : Event → Bool
is_data Event.None = false
is_data (Event.Open id role keep) = false
is_data (Event.Ready id n) = false
is_data (Event.Data id stream n) = true
is_data (Event.End id stream measure) = false
is_data (Event.Abort id) = false
is_data (Event.Refuse id n) = false
is_data (Event.Fault id cause) = false
is_data (Event.Query conns reqs mpxs) = false
is_data (Event.Unknown kind) = false
is_data (Event.Closed cause) = false

-- ---- what tells no data: headers, BEGIN bodies and queries
header_no_data : (kind n : ℕ) (h : Held) → is_data (on_header kind n h).event ≡ false
unfolding faulted aborted turned
header_no_data kind n h = by_rule (λ (r : Ruled). is_data r.event ≡ false) h (λ d. refl) (λ cause f. refl) refl (λ t. refl) (λ t s m. refl) kind n

module _ (st : State) (store : List ℕ) where
  queried_no_data : (list : List ℕ) (f : Frame) → is_data (queried st store list f).event ≡ false
  unfolding queried query_of closes
  queried_no_data list f = by_test (well_formed list) (λ t. simp t) (λ t. simp t)

  judged_no_data : (h : Header) → is_data (judged st store h).event ≡ false
  unfolding judged on_management on_inactive on_active closes
  judged_no_data h =
      by_test (eqb h.version VERSION)
      (λ v.
      by_test (eqb h.id 0)
      (λ z.
      by_test (eqb h.kind GET_VALUES)
      (λ k.
      by_test (ltb QUERY h.content)
      (λ l. simp (v, z, k, l))
      (λ l. by_test (eqb h.content 0) (λ m. simp (v, z, k, l, m) (queried_no_data [] _)) (λ m. simp (v, z, k, l, m))))
      (λ k. simp (v, z, k)))
      (λ z. simp (v, z) (placed (find st.conn.table h.id))))
      (λ v. simp v)
    where
      placed : (k : Slot) → is_data (on_slot k (on_active st store h) (on_inactive st store h)).event ≡ false
      placed (Some i) = header_no_data h.kind h.content (held_at st.conn.table store i)
      placed None =
          by_test (eqb h.kind BEGIN_REQUEST) (λ k. by_test (eqb h.content 8) (λ m. simp (k, m)) (λ m. simp (k, m))) (λ k. simp k)

  opens_no_data : (id : ℕ) (b : BeginBody) (role : Role) (f : Frame) → is_data (opens st store id b role f).event ≡ false
  unfolding opens
  opens_no_data id b role f = by_test (ltb (free_slot_of st.conn.table) SLOTS) (λ t. simp t) (λ t. simp t)

  begun_no_data : (id : ℕ) (b : BeginBody) (f : Frame) → is_data (begun st store id b f).event ≡ false
  unfolding begun
  begun_no_data id b f =
      by_test (eqb b.role RESPONDER) (λ t. simp t (opens_no_data id b Role.Responder f))
      (λ t.
      by_test (eqb b.role AUTHORIZER) (λ q. simp (t, q) (opens_no_data id b Role.Authorizer f))
      (λ q. by_test (eqb b.role FILTER) (λ r. simp (t, q, r) (opens_no_data id b Role.Filter f)) (λ r. simp (t, q, r))))

  begin_no_data : (id : ℕ) (bytes : List ℕ) (p : Position) → is_data (of_begin st store id bytes p).event ≡ false
  unfolding of_begin
  begin_no_data id bytes p = by_test (eqb p.content 0) (λ t. simp t (begun_no_data id _ _)) (λ t. simp t)

query_no_data : (st : State) (store bytes : List ℕ) (p : Position) → is_data (of_query st store bytes p).event ≡ false
unfolding of_query
query_no_data st store bytes p = by_test (eqb p.content 0) (λ t. simp t (queried_no_data _ store _ _)) (λ t. simp t)

-- ---- content
never : {A : Type 0} {id stream n : ℕ} (e : Event) → is_data e ≡ false → e ≡ Event.Data id stream n → A
never e f q = let z : ◌≡◌ {A = ℕ} 0 1 = cc (sym f ∙ ap is_data q) in absurd (omega arith)

content_data : (target : Target) (st : State) (store bytes : List ℕ) (p : Position) (id stream n : ℕ) → (on_target target st store bytes p).event ≡ Event.Data id stream n
    → length bytes ≡ n
unfolding of_request
content_data Target.Skip st store bytes p id stream n e = never Event.None refl e
content_data (Target.Begin j) st store bytes p id stream n e = never _ (begin_no_data st store j bytes p) e
content_data Target.Query st store bytes p id stream n e = never _ (query_no_data st store bytes p) e
content_data (Target.Params i) st store bytes p id stream n e = never Event.None refl e
content_data (Target.Stdin i) st store bytes p id stream n e = cc
content_data (Target.Data i) st store bytes p id stream n e = cc

phase_data : (phase : Phase) (st : State) (store bytes : List ℕ) (p : Position) (id stream n : ℕ) → (on_phase phase st store bytes p).event ≡ Event.Data id stream n
    → length bytes ≡ n
phase_data Phase.Content st store bytes p id stream n e = content_data st.conn.frame.target st store bytes p id stream n e
phase_data Phase.Padding st store bytes p id stream n e = never Event.None refl e
phase_data Phase.Part st store bytes p id stream n e = never Event.None refl e
phase_data (Phase.Whole h) st store bytes p id stream n e = never _ (judged_no_data st store h) e

-- A data event has the count of the bytes used.
pub data_used : (st : State) (store piece : List ℕ) (id stream n : ℕ) → (stepped st store piece).event ≡ Event.Data id stream n
    → (stepped st store piece).used ≡ n
unfolding stepped advances
data_used st store piece id stream n e =
    by_test (eqb (step_refusal st.conn store) 0)
    (λ t.
    by_test (eqb (length piece) 0) (λ z. never Event.None refl (simp (t, z) at e))
    (λ z.
    let a = advanced st.conn.frame.position piece in
    let low = step_uses_no_more st store piece in
    simp (t, z)
    (sym (length-take-le a.used piece (simp (t, z) at low))
    ∙ phase_data a.phase st store (take a.used piece) a.position id stream n (simp (t, z) at e))))
    (λ t. never Event.None refl (simp t at e))

-- The events of headers, of BEGIN bodies and of queries show no bytes: what they tell does not depend on the bytes
-- they came with.
use Rattle.connection.specs.Slots.{Slot}
use Rattle.std.specs.Prelude.{ℕ, ◌≡◌, refl, List, [], ltb, eqb, Some, None}
use Rattle.wire.specs.Test.{by_test}
use Rattle.record.specs.Names.{VERSION, BEGIN_REQUEST, GET_VALUES, RESPONDER, AUTHORIZER, FILTER}
use Rattle.record.specs.declared.header.Header.{Header}
use Rattle.record.specs.declared.body.BeginBody.{BeginBody}
use Rattle.record_reader.specs.declared.Position.{Position}
use Rattle.pair_list.specs.List.{well_formed}
use Rattle.connection.specs.declared.request.Role.{Role}
use Rattle.connection.specs.declared.state.Frame.{Frame}
use Rattle.connection.specs.Sizes.{SLOTS, QUERY}
use Rattle.connection.specs.Event.{Event}
use Rattle.connection.specs.Request.{Held, Ruled, faulted, aborted, turned, on_header}
use Rattle.connection.specs.Slots.{held_at, find, on_slot, free_slot_of}
use Rattle.connection.specs.Step.{State, closes, query_of, queried, on_management, on_inactive, on_active, judged, opens, begun, of_begin, of_query}
use Rattle.connection.specs.Bytewise.{notes}
use Rattle.connection.proofs.Laws.Rules.{by_rule}

-- an event that shows no bytes
abbrev pub Plain : Event → Type 0
Plain e = (x y : List ℕ) → notes e x ≡ notes e y

-- ---- the rules of one request
plain_header : (kind n : ℕ) (h : Held) → Plain (on_header kind n h).event
unfolding faulted aborted turned
plain_header kind n h =
    by_rule (λ (r : Ruled). Plain r.event) h (λ d x y. refl) (λ cause fault x y. refl) (λ x y. refl) (λ t x y. refl) (λ t s m x y. refl) kind n

-- ---- queries, headers, BEGIN bodies
plain_queried : (st : State) (store list : List ℕ) (f : Frame) → Plain (queried st store list f).event
unfolding queried closes query_of
plain_queried st store list f x y = by_test (well_formed list) (λ t. simp t) (λ t. simp t)

-- every header
pub plain_judged : (st : State) (store : List ℕ) (h : Header) → Plain (judged st store h).event
unfolding judged on_management on_inactive on_active closes
plain_judged st store h x y =
    by_test (eqb h.version VERSION)
    (λ t. by_test (eqb h.id 0) (λ z. simp (t, z) management) (λ z. simp (t, z) (placed (find st.conn.table h.id))))
    (λ t. simp t)
  where
    management : notes (on_management st store h).event x ≡ notes (on_management st store h).event y
    management =
        by_test (eqb h.kind GET_VALUES)
        (λ t.
        by_test (ltb QUERY h.content) (λ q. simp (t, q))
        (λ q. by_test (eqb h.content 0) (λ z. simp (t, q, z) (plain_queried st store [] _ x y)) (λ z. simp (t, q, z))))
        (λ t. simp t)

    inactive : notes (on_inactive st store h).event x ≡ notes (on_inactive st store h).event y
    inactive =
        by_test (eqb h.kind BEGIN_REQUEST) (λ t. by_test (eqb h.content 8) (λ q. simp (t, q)) (λ q. simp (t, q))) (λ t. simp t)

    placed : (k : Slot) → notes (on_slot k (on_active st store h) (on_inactive st store h)).event x ≡ notes (on_slot k (on_active st store h) (on_inactive st store h)).event y
    placed (Some i) = plain_header h.kind h.content (held_at st.conn.table store i) x y
    placed None = inactive

plain_opens : (st : State) (store : List ℕ) (id : ℕ) (b : BeginBody) (role : Role) (f : Frame) → Plain (opens st store id b role f).event
unfolding opens
plain_opens st store id b role f x y = by_test (ltb (free_slot_of st.conn.table) SLOTS) (λ t. simp t) (λ t. simp t)

plain_begun : (st : State) (store : List ℕ) (id : ℕ) (b : BeginBody) (f : Frame) → Plain (begun st store id b f).event
unfolding begun
plain_begun st store id b f x y =
    by_test (eqb b.role RESPONDER) (λ t. simp t (plain_opens st store id b Role.Responder f x y))
    (λ t.
    by_test (eqb b.role AUTHORIZER) (λ q. simp (t, q) (plain_opens st store id b Role.Authorizer f x y))
    (λ q. by_test (eqb b.role FILTER) (λ r. simp (t, q, r) (plain_opens st store id b Role.Filter f x y)) (λ r. simp (t, q, r))))

-- content of a BEGIN body
pub plain_begin : (st : State) (store : List ℕ) (id : ℕ) (bytes : List ℕ) (p : Position) → Plain (of_begin st store id bytes p).event
unfolding of_begin
plain_begin st store id bytes p x y = by_test (eqb p.content 0) (λ t. simp t (plain_begun st store id _ _ x y)) (λ t. simp t)

-- content of a query
pub plain_query : (st : State) (store bytes : List ℕ) (p : Position) → Plain (of_query st store bytes p).event
unfolding of_query
plain_query st store bytes p x y = by_test (eqb p.content 0) (λ t. simp t (plain_queried _ store _ _ x y)) (λ t. simp t)

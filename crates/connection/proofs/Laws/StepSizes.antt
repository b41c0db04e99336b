-- The arrays of a state, the gathered bytes and the store keep their lengths in every step.
use Rattle.connection.specs.Slots.{Slot}
use Rattle.std.specs.Prelude.{ℕ, ◌+◌, ◌<◌, ◌≡◌, true, length, take, ltb, leb, eqb, Some, None}
use Rattle.std.proofs.Math.Path.{refl}
use Rattle.std.proofs.Common.{◌∙◌, arith, leb-true, eqb-true, eq-eqb}
use mathlib.Core.List.{List, [], ◌∷◌}
use Rattle.std.proofs.Math.ListN.{length-replicate}
use Rattle.std.proofs.lemmas.Bool.{eqb-false}
use Rattle.wire.specs.Test.{by_test}
use Rattle.wire.specs.Buffer.{copied, has_room}
use Rattle.wire.proofs.BufferLaws.{put_length}
use Rattle.record.specs.Names.{VERSION, BEGIN_REQUEST, GET_VALUES, RESPONDER, AUTHORIZER, FILTER}
use Rattle.record.specs.declared.header.Header.{Header}
use Rattle.record.specs.declared.body.BeginBody.{BeginBody}
use Rattle.record_reader.specs.Position.{advanced}
use Rattle.record_reader.proofs.PositionLaws.{stays_proper}
use Rattle.record_reader.specs.declared.Position.{Position}
use Rattle.record_reader.specs.declared.Phase.{Phase}
use Rattle.pair_list.specs.List.{well_formed, broken_at}
use Rattle.connection.specs.declared.request.Role.{Role}
use Rattle.connection.specs.declared.request.Due.{Due}
use Rattle.connection.specs.declared.state.Target.{Target}
use Rattle.connection.specs.declared.state.Frame.{Frame}
use Rattle.connection.specs.Sizes.{SLOTS, AREA, STORE, QUERY}
use Rattle.connection.specs.Event.{Event}
use Rattle.connection.specs.Request.{Held, Ruled, faulted, aborted, turned, on_header, grown, on_content}
use Rattle.connection.specs.Slots.{held_at, find, on_slot, free_slot_of}
use Rattle.connection.proofs.Laws.SlotsLaws.{Sized, put_sized, take_sized, area_length, put_area_length, find_at}
use Rattle.connection.specs.Fits.{Aimed}
use Rattle.connection.proofs.Laws.ShapeLaws.{shaped}
use Rattle.connection.specs.Step.{State, Left, reads, closes, puts_back, queried, on_management, on_inactive, on_active, judged, opens, begun, of_begin, of_query, of_request, on_target, on_phase, advances, step_refusal, stepped, started}
use Rattle.connection.proofs.Laws.Progress.{admitted_fits, step_advances, step_refused, step_nothing}
use Rattle.connection.proofs.Laws.Rules.{by_rule}
use Rattle.machine.specs.Cause.{Cause, Plain, At}

-- The lengths that the code's types give, and the store's.
pub record Sizes (st : State) (store : List ℕ) : Type 0 where
  pub table : Sized st.conn.table
  pub header : length st.conn.frame.position.header ≡ 8
  pub body : length st.conn.frame.body ≡ 8
  pub gathered : length st.gathered ≡ QUERY
  pub full : length store ≡ STORE

-- what a step leaves has them
abbrev pub Keeps : Left → Type 0
Keeps l = Sizes (record { conn = l.conn; gathered = l.gathered }) l.store

-- ---- bytes put into a buffer, or not for want of room
pub copied_length : (l : List ℕ) (at : ℕ) (x : List ℕ) → length (copied l at x) ≡ length l
unfolding copied
copied_length l at x =
    by_test (has_room l at (length x)) (λ t. simp t (put_length l at x (leb-true (at + length x) (length l) t))) (λ t. simp t)

-- ---- an area keeps its length under the rules of its request
pub header_area : (kind n : ℕ) (h : Held) → length (on_header kind n h).held.area ≡ length h.area
unfolding faulted aborted turned
header_area kind n h =
    by_rule (λ (r : Ruled). length r.held.area ≡ length h.area) h (λ d. refl) (λ cause fault. length-replicate (length h.area) 0) refl (λ t. refl) (λ t s m. refl) kind n

-- content: grown or as it was
pub content_area : (due : Due) (x : List ℕ) (h : Held) → length (on_content due x h).held.area ≡ length h.area
unfolding grown
content_area Due.Skip x h = refl
content_area Due.Params x h =
    by_test (leb (h.request.length + length x) AREA) (λ t. simp t (copied_length h.area h.request.length x)) (λ t. simp t)
content_area Due.Stdin x h = refl
content_area Due.Data x h = refl

-- ---- the ways in which a step ends, whatever it tells
module _ (st : State) (store : List ℕ) (s : Sizes st store) where
  reads_keeps : (f : Frame) → length f.position.header ≡ 8 → length f.body ≡ 8 → Keeps (reads st store f Event.None)
  reads_keeps f h b = record { table = s.table; header = h; body = b; gathered = s.gathered; full = s.full }

  closes_keeps : (cause : Cause) → Keeps (closes st store cause)
  unfolding closes
  closes_keeps n =
      record {
        table = record { ids = refl; lengths = refl; standings = refl; stdin = refl; «data» = refl };
        header = refl;
        body = refl;
        gathered = s.gathered;
        full = length-replicate (length store) 0 ∙ s.full;
      }

  puts_keeps : (i : ℕ) (h : Held) (f : Frame) → i < SLOTS → length h.area ≡ AREA → length f.position.header ≡ 8 → length f.body ≡ 8
      → Keeps (puts_back st store i h f Event.None)
  puts_keeps i h f low area head b =
      record {
        table = put_sized st.conn.table i h.request s.table;
        header = head;
        body = b;
        gathered = s.gathered;
        full = put_area_length store i h.area s.full low area;
      }

  queried_keeps : (list : List ℕ) (f : Frame) → length f.position.header ≡ 8 → length f.body ≡ 8 → Keeps (queried st store list f)
  unfolding queried
  queried_keeps list f h b = by_test (well_formed list) (λ t. simp t (reads_keeps f h b)) (λ t. simp t (closes_keeps (At 14 (broken_at list))))

  -- a header
  management_keeps : (h : Header) → Keeps (on_management st store h)
  unfolding on_management
  management_keeps h =
      by_test (eqb h.kind GET_VALUES)
      (λ t.
      by_test (ltb QUERY h.content) (λ q. simp (t, q) (closes_keeps (Plain 13)))
      (λ q. by_test (eqb h.content 0) (λ z. simp (t, q, z) (queried_keeps [] _ refl refl)) (λ z. simp (t, q, z) (reads_keeps _ refl refl))))
      (λ t. simp t (reads_keeps _ refl refl))

  inactive_keeps : (h : Header) → Keeps (on_inactive st store h)
  unfolding on_inactive
  inactive_keeps h =
      by_test (eqb h.kind BEGIN_REQUEST)
      (λ t. by_test (eqb h.content 8) (λ q. simp (t, q) (reads_keeps _ refl refl)) (λ q. simp (t, q) (closes_keeps (Plain 12))))
      (λ t. simp t (reads_keeps _ refl refl))

  active_keeps : (h : Header) (i : ℕ) → i < SLOTS → Keeps (on_active st store h i)
  unfolding on_active
  active_keeps h i low =
      puts_keeps i _ _ low (header_area h.kind h.content (held_at st.conn.table store i) ∙ area_length store i s.full low) refl refl

  judged_keeps : (h : Header) → Keeps (judged st store h)
  unfolding judged
  judged_keeps h =
      by_test (eqb h.version VERSION)
      (λ t. by_test (eqb h.id 0) (λ z. simp (t, z) (management_keeps h)) (λ z. simp (t, z) (go (find st.conn.table h.id) refl)))
      (λ t. simp t (closes_keeps (Plain 11)))
    where
      go : (k : Slot) → find st.conn.table h.id ≡ k → Keeps (on_slot k (on_active st store h) (on_inactive st store h))
      go (Some i) e = active_keeps h i (find_at st.conn.table h.id i e).low
      go None e = inactive_keeps h

  -- content
  opens_keeps : (id : ℕ) (b : BeginBody) (role : Role) (f : Frame) → length f.position.header ≡ 8 → length f.body ≡ 8 → Keeps (opens st store id b role f)
  unfolding opens
  opens_keeps id b role f h l =
      by_test (ltb (free_slot_of st.conn.table) SLOTS)
      (λ t. simp t (record { table = take_sized st.conn.table _ _ s.table; header = h; body = l; gathered = s.gathered; full = s.full }))
      (λ t. simp t (reads_keeps f h l))

  begun_keeps : (id : ℕ) (b : BeginBody) (f : Frame) → length f.position.header ≡ 8 → length f.body ≡ 8 → Keeps (begun st store id b f)
  unfolding begun
  begun_keeps id b f h l =
      by_test (eqb b.role RESPONDER) (λ t. simp t (opens_keeps id b Role.Responder f h l))
      (λ t.
      by_test (eqb b.role AUTHORIZER) (λ q. simp (t, q) (opens_keeps id b Role.Authorizer f h l))
      (λ q. by_test (eqb b.role FILTER) (λ r. simp (t, q, r) (opens_keeps id b Role.Filter f h l)) (λ r. simp (t, q, r) (reads_keeps f h l))))

  begin_keeps : (id : ℕ) (x : List ℕ) (p : Position) → length p.header ≡ 8 → Keeps (of_begin st store id x p)
  unfolding of_begin
  begin_keeps id x p h =
      by_test (eqb p.content 0) (λ t. simp t (begun_keeps id _ _ h refl)) (λ t. simp t (reads_keeps _ h (copied_length st.conn.frame.body _ x ∙ s.body)))

  request_keeps : (due : Due) (i : ℕ) (x : List ℕ) (p : Position) → i < SLOTS → length p.header ≡ 8 → Keeps (of_request st store due i x p)
  unfolding of_request
  request_keeps due i x p low h =
      puts_keeps i _ _ low (content_area due x (held_at st.conn.table store i) ∙ area_length store i s.full low) h s.body

query_keeps : (st : State) (store x : List ℕ) (p : Position) → Sizes st store → length p.header ≡ 8 → Keeps (of_query st store x p)
unfolding of_query
query_keeps st store x p s h =
    let st' : State = record { conn = st.conn; gathered = copied st.gathered st.conn.frame.gathered x } in
    let s' : Sizes st' store =
    record { table = s.table; header = s.header; body = s.body; gathered = copied_length st.gathered st.conn.frame.gathered x ∙ s.gathered; full = s.full } in
    by_test (eqb p.content 0) (λ t. simp t (queried_keeps st' store s' _ _ h s.body)) (λ t. simp t (reads_keeps st' store s' _ h s.body))

target_keeps : (t : Target) (st : State) (store x : List ℕ) (p : Position) → Sizes st store
    → Aimed t st.conn.table st.conn.frame.gathered st.conn.frame.position.content → length p.header ≡ 8 → Keeps (on_target t st store x p)
target_keeps Target.Skip st store x p s a h = reads_keeps st store s _ h s.body
target_keeps (Target.Begin id) st store x p s a h = begin_keeps st store s id x p h
target_keeps Target.Query st store x p s a h = query_keeps st store x p s h
target_keeps (Target.Params i) st store x p s a h = request_keeps st store s Due.Params i x p a.slot.low h
target_keeps (Target.Stdin i) st store x p s a h = request_keeps st store s Due.Stdin i x p a.low h
target_keeps (Target.Data i) st store x p s a h = request_keeps st store s Due.Data i x p a.low h

-- ---- every step
phase_keeps : (a : Phase) (st : State) (store x : List ℕ) (p : Position) → Sizes st store
    → Aimed st.conn.frame.target st.conn.table st.conn.frame.gathered st.conn.frame.position.content → length p.header ≡ 8
    → Keeps (on_phase a st store x p)
phase_keeps Phase.Content st store x p s a h = target_keeps st.conn.frame.target st store x p s a h
phase_keeps Phase.Padding st store x p s a h = reads_keeps st store s _ h s.body
phase_keeps Phase.Part st store x p s a h = reads_keeps st store s _ h s.body
phase_keeps (Phase.Whole head) st store x p s a h = judged_keeps st store s head

-- A step leaves the lengths as they are, whatever state and piece.
pub sizes_stay : (st : State) (store x : List ℕ) → Sizes st store → Sizes (stepped st store x).state (stepped st store x).store
unfolding advances
sizes_stay st store [] s = rw (step_nothing st store) s
sizes_stay st store (b ∷ x) s =
    by_test (eqb (step_refusal st.conn store) 0) admitted
    (λ t. rw (step_refused st store (b ∷ x) (eqb-false (step_refusal st.conn store) 0 t)) s)
  where
    admitted : eqb (step_refusal st.conn store) 0 ≡ true → Sizes (stepped st store (b ∷ x)).state (stepped st store (b ∷ x)).store
    admitted t =
        let e = eqb-true (step_refusal st.conn store) 0 t in
        let f = shaped st.conn (admitted_fits st.conn store e).shape in
        let p = st.conn.frame.position in
        let a = advanced p (b ∷ x) in
        let k = stays_proper p (record { held = omega (arith, f.position.held); eight = s.header }) (b ∷ x) in
        rw (step_advances st store (b ∷ x) e (omega arith)) (phase_keeps a.phase st store (take a.used (b ∷ x)) a.position s f.target k.eight)

-- a start gives them, where store and gathered bytes have their sizes
pub start_sizes : (gathered store : List ℕ) → length gathered ≡ QUERY → length store ≡ STORE → Sizes (started gathered store).state (started gathered store).store
unfolding started
start_sizes gathered store g f =
    simp (eq-eqb (length store) STORE f)
    (record {
      table = record { ids = refl; lengths = refl; standings = refl; stdin = refl; «data» = refl };
      header = refl;
      body = refl;
      gathered = length-replicate (length gathered) 0 ∙ g;
      full = length-replicate (length store) 0 ∙ f;
    })

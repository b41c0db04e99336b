-- How a step can end, case by case: one list of ways for all that is proved of every step.
use Rattle.connection.specs.Slots.{Slot}
use Rattle.std.specs.Prelude.{◌≡◌, ℕ, ◌+◌, ◌-◌, ◌<◌, min, Bool, true, false, length, take, ltb, leb, eqb, if◌then◌else◌, Some, None}
use Rattle.std.proofs.Math.Path.{refl}
use mathlib.Core.List.{List, []}
use Rattle.std.proofs.Common.{arith, ltb-true, eqb-true}
use Rattle.wire.specs.Test.{by_test, ◌=?◌}
use Rattle.record.specs.Names.{VERSION, BEGIN_REQUEST, GET_VALUES, RESPONDER, AUTHORIZER, FILTER}
use Rattle.record.specs.declared.header.Header.{Header}
use Rattle.record.specs.declared.body.BeginBody.{BeginBody}
use Rattle.record_reader.specs.Position.{in_header, advanced}
use Rattle.record_reader.specs.declared.Position.{Position}
use Rattle.record_reader.specs.declared.Phase.{Phase}
use Rattle.pair_list.specs.List.{well_formed, broken_at}
use Rattle.machine.specs.Cause.{Cause, Plain, At}
use Rattle.connection.specs.declared.request.Role.{Role}
use Rattle.connection.specs.declared.request.Due.{Due}
use Rattle.connection.specs.declared.state.Table.{Table}
use Rattle.connection.specs.declared.state.Target.{Target}
use Rattle.connection.specs.declared.state.Frame.{Frame}
use Rattle.connection.specs.declared.state.Conn.{Conn}
use Rattle.connection.specs.Sizes.{SLOTS, QUERY}
use Rattle.connection.specs.Event.{Event}
use Rattle.connection.specs.Codes.{role_number}
use Rattle.connection.specs.Request.{opened}
use Rattle.connection.specs.Slots.{take_slot, free_slot_of, find, on_slot}
use Rattle.connection.specs.Fits.{Aimed}
use Rattle.connection.proofs.Laws.ShapeLaws.{shaped}
use Rattle.connection.specs.Step.{State, Left, due_to, open_with, reads, closes, query_of, queried, on_management, on_inactive, on_active, judged, opens, begun, of_begin, of_query, of_request, on_target, on_phase, Stepped, stays, leaves, advances, step_refusal, stepped}
use Rattle.connection.proofs.Laws.Progress.{Fits, admitted_fits}

-- ---- the ways
-- an event that ends a connection or spends a request: a close, a fault, an abort
abbrev pub is_final : Event → Bool
is_final Event.None = false
is_final (Event.Open id role keep) = false
is_final (Event.Ready id n) = false
is_final (Event.Data id stream n) = false
is_final (Event.End id stream measure) = false
is_final (Event.Abort id) = true
is_final (Event.Refuse id status) = false
is_final (Event.Fault id n) = true
is_final (Event.Query conns reqs mpxs) = false
is_final (Event.Unknown kind) = false
is_final (Event.Closed n) = true

-- An event of no active request: nothing, what management records tell, and a refusal of an id that is not active.
abbrev pub Nameless : Table → Event → Type 0
Nameless t Event.None = Unit {0}
Nameless t (Event.Open id role keep) = ⊥
Nameless t (Event.Ready id n) = ⊥
Nameless t (Event.Data id stream n) = ⊥
Nameless t (Event.End id stream measure) = ⊥
Nameless t (Event.Abort id) = ⊥
Nameless t (Event.Refuse id status) = find t id ≡ None
Nameless t (Event.Fault id n) = ⊥
Nameless t (Event.Query conns reqs mpxs) = Unit {0}
Nameless t (Event.Unknown kind) = Unit {0}
Nameless t (Event.Closed n) = ⊥

-- It ends and spends nothing.
pub nameless_not_final : (t : Table) (e : Event) → Nameless t e → is_final e ≡ false
nameless_not_final t Event.None q = refl
nameless_not_final t (Event.Refuse id status) q = refl
nameless_not_final t (Event.Query conns reqs mpxs) q = refl
nameless_not_final t (Event.Unknown kind) q = refl
nameless_not_final t (Event.Open _ _ _) q = elim q [ ]
nameless_not_final t (Event.Ready _ _) q = elim q [ ]
nameless_not_final t (Event.Data _ _ _) q = elim q [ ]
nameless_not_final t (Event.End _ _ _) q = elim q [ ]
nameless_not_final t (Event.Abort _) q = elim q [ ]
nameless_not_final t (Event.Fault _ _) q = elim q [ ]
nameless_not_final t (Event.Closed _) q = elim q [ ]

-- the causes of closes: close 14 has a place, the others have none
abbrev pub is_close : Cause → Bool
is_close (Plain n) = if n =? 11 then true else if n =? 12 then true else n =? 13
is_close (At n place) = n =? 14

-- a connection with other gathered bytes
abbrev pub gathering : State → List ℕ → State
gathering st g = record { conn = st.conn; gathered = g }

-- A step that is about slot k, or about none: it reads on, closes the connection, rules by a header about the request
-- of slot k, feeds it, or takes slot k.
pub data Way (st : State) (store : List ℕ) (k : Slot) : Left → Type 0 where
  Reads : (g : List ℕ) (f : Frame) (e : Event) → Nameless st.conn.table e → Way st store k (reads (gathering st g) store f e)
  Closes : (g : List ℕ) (cause : Cause) → is_close cause ≡ true → Way st store k (closes (gathering st g) store cause)
  Rules : (h : Header) (i : ℕ) → k ≡ Some i → find st.conn.table h.id ≡ Some i → Way st store k (on_active st store h i)
  Feeds : (due : Due) (i : ℕ) (bytes : List ℕ) (p : Position) → k ≡ Some i → i < SLOTS → st.conn.frame.target ≡ due_to due i → 0 < st.conn.frame.position.content
      → Way st store k (of_request st store due i bytes p)
  Takes : (id : ℕ) (role : Role) (keep : Bool) (f : Frame) → k ≡ Some (free_slot_of st.conn.table) → free_slot_of st.conn.table < SLOTS
      → find st.conn.table id ≡ None
      → Way st store k
      (record {
        conn = open_with (take_slot st.conn.table (free_slot_of st.conn.table) (opened id role keep)) f;
        gathered = st.gathered;
        store = store;
        event = Event.Open id (role_number role) keep;
      })

-- by the two outcomes of a test
fork : {st : State} {store : List ℕ} {k : Slot} (b : Bool) {x y : Left} → (b ≡ true → Way st store k x) → (b ≡ false → Way st store k y)
    → Way st store k (if b then x else y)
fork true f g = f refl
fork false f g = g refl

module _ (st : State) (store : List ℕ) where
  way_queried : (k : Slot) (g list : List ℕ) (f : Frame) → Way st store k (queried (gathering st g) store list f)
  unfolding queried query_of
  way_queried k g list f = fork (well_formed list) (λ t. Way.Reads g f _ tt) (λ t. Way.Closes g (At 14 (broken_at list)) refl)

  -- ---- a header
  way_management : (k : Slot) (h : Header) → Way st store k (on_management st store h)
  unfolding on_management
  way_management k h =
      fork (eqb h.kind GET_VALUES)
      (λ t.
      fork (ltb QUERY h.content) (λ q. Way.Closes st.gathered (Plain 13) refl)
      (λ q. fork (eqb h.content 0) (λ z. way_queried k st.gathered [] _) (λ z. Way.Reads st.gathered _ Event.None tt)))
      (λ t. Way.Reads st.gathered _ (Event.Unknown h.kind) tt)

  way_inactive : (k : Slot) (h : Header) → Way st store k (on_inactive st store h)
  unfolding on_inactive
  way_inactive k h =
      fork (eqb h.kind BEGIN_REQUEST)
      (λ t. fork (eqb h.content 8) (λ q. Way.Reads st.gathered _ Event.None tt) (λ q. Way.Closes st.gathered (Plain 12) refl))
      (λ t. Way.Reads st.gathered _ Event.None tt)

  way_judged : (h : Header) → Way st store (find st.conn.table h.id) (judged st store h)
  unfolding judged
  way_judged h =
      fork (eqb h.version VERSION)
      (λ t. fork (eqb h.id 0) (λ z. way_management _ h) (λ z. go (find st.conn.table h.id) refl))
      (λ t. Way.Closes st.gathered (Plain 11) refl)
    where
      go : (k : Slot) → find st.conn.table h.id ≡ k → Way st store k (on_slot k (on_active st store h) (on_inactive st store h))
      go (Some i) e = Way.Rules h i refl e
      go None e = way_inactive None h

  -- ---- content
  way_opens : (id : ℕ) (b : BeginBody) (role : Role) (f : Frame) → find st.conn.table id ≡ None → Way st store (Some (free_slot_of st.conn.table)) (opens st store id b role f)
  unfolding opens
  way_opens id b role f idle =
      fork (ltb (free_slot_of st.conn.table) SLOTS)
      (λ t. Way.Takes id role b.keep f refl (ltb-true (free_slot_of st.conn.table) SLOTS t) idle)
      (λ t. Way.Reads st.gathered f _ idle)

  way_begun : (id : ℕ) (b : BeginBody) (f : Frame) → find st.conn.table id ≡ None → Way st store (Some (free_slot_of st.conn.table)) (begun st store id b f)
  unfolding begun
  way_begun id b f idle =
      fork (eqb b.role RESPONDER) (λ t. way_opens id b Role.Responder f idle)
      (λ t.
      fork (eqb b.role AUTHORIZER) (λ q. way_opens id b Role.Authorizer f idle)
      (λ q. fork (eqb b.role FILTER) (λ r. way_opens id b Role.Filter f idle) (λ r. Way.Reads st.gathered f _ idle)))

  way_begin : (id : ℕ) (bytes : List ℕ) (p : Position) → find st.conn.table id ≡ None → Way st store (Some (free_slot_of st.conn.table)) (of_begin st store id bytes p)
  unfolding of_begin
  way_begin id bytes p idle = fork (eqb p.content 0) (λ t. way_begun id _ _ idle) (λ t. Way.Reads st.gathered _ Event.None tt)

  way_query : (k : Slot) (bytes : List ℕ) (p : Position) → Way st store k (of_query st store bytes p)
  unfolding of_query
  way_query k bytes p = fork (eqb p.content 0) (λ t. way_queried k _ _ _) (λ t. Way.Reads _ _ Event.None tt)

-- ---- a step
-- the slot that content is for: a BEGIN body's is the one that an opening takes
abbrev pub slot_for : Target → Table → Slot
slot_for Target.Skip t = None
slot_for (Target.Begin id) t = Some (free_slot_of t)
slot_for Target.Query t = None
slot_for (Target.Params i) t = Some i
slot_for (Target.Stdin i) t = Some i
slot_for (Target.Data i) t = Some i

-- the slot that the bytes of a phase are about
abbrev pub slot_in : Phase → Conn → Slot
slot_in Phase.Content c = slot_for c.frame.target c.table
slot_in Phase.Padding c = None
slot_in Phase.Part c = None
slot_in (Phase.Whole h) c = find c.table h.id

-- The slot that a step is about: of content the slot that it is for, of a header the slot of its id.
abbrev pub concerned : State → List ℕ → Slot
concerned st piece = slot_in (advanced st.conn.frame.position piece).phase st.conn

-- Content is read only where some is left.
content_left : (p : Position) (piece : List ℕ) → (advanced p piece).phase ≡ Phase.Content → 0 < p.content
unfolding advanced in_header
content_left p piece =
    by_test (ltb 0 p.content) (λ t e. ltb-true 0 p.content t)
    (λ t.
    by_test (ltb 0 p.padding) (λ q. simp (t, q) (λ e. let z : ◌≡◌ {A = ℕ} 0 1 = cc in absurd (omega arith)))
    (λ q.
    by_test (leb 8 p.held) (λ w. simp (t, q, w) (λ e. let z : ◌≡◌ {A = ℕ} 0 1 = cc in absurd (omega arith)))
    (λ w.
    by_test (ltb (p.held + min (8 - p.held) (length piece)) 8) (λ v. simp (t, q, w, v) (λ e. let z : ◌≡◌ {A = ℕ} 0 1 = cc in absurd (omega arith)))
    (λ v. simp (t, q, w, v) (λ e. let z : ◌≡◌ {A = ℕ} 0 1 = cc in absurd (omega arith))))))

way_target : (target : Target) (st : State) (store bytes : List ℕ) (p : Position) (n left : ℕ) → st.conn.frame.target ≡ target → 0 < st.conn.frame.position.content
    → Aimed target st.conn.table n left → Way st store (slot_for target st.conn.table) (on_target target st store bytes p)
way_target Target.Skip st store bytes p n left e some a = Way.Reads st.gathered _ Event.None tt
way_target (Target.Begin id) st store bytes p n left e some a = way_begin st store id bytes p a.inactive
way_target Target.Query st store bytes p n left e some a = way_query st store None bytes p
way_target (Target.Params i) st store bytes p n left e some a = Way.Feeds Due.Params i bytes p refl a.slot.low e some
way_target (Target.Stdin i) st store bytes p n left e some a = Way.Feeds Due.Stdin i bytes p refl a.low e some
way_target (Target.Data i) st store bytes p n left e some a = Way.Feeds Due.Data i bytes p refl a.low e some

way_phase : (phase : Phase) (st : State) (store bytes : List ℕ) (p : Position) (n left : ℕ) → (phase ≡ Phase.Content → 0 < st.conn.frame.position.content)
    → Aimed st.conn.frame.target st.conn.table n left → Way st store (slot_in phase st.conn) (on_phase phase st store bytes p)
way_phase Phase.Content st store bytes p n left some a = way_target st.conn.frame.target st store bytes p n left refl (some refl) a
way_phase Phase.Padding st store bytes p n left some a = Way.Reads st.gathered _ Event.None tt
way_phase Phase.Part st store bytes p n left some a = Way.Reads st.gathered _ Event.None tt
way_phase (Phase.Whole h) st store bytes p n left some a = way_judged st store h

-- A step changes nothing, by whatever refusal or none; or it is not refused and ends in one of the ways.
pub by_way : (P : Stepped → Type 0) (st : State) (store piece : List ℕ) → ((n : ℕ) → P (stays n st store))
    → (Fits st.conn store → (used : ℕ) (l : Left) → Way st store (concerned st piece) l → P (leaves used l)) → P (stepped st store piece)
unfolding stepped advances
by_way P st store piece stay go =
    by_test (eqb (step_refusal st.conn store) 0)
    (λ t. by_test (eqb (length piece) 0) (λ z. simp (t, z) (stay 0))
    (λ z.
    let fits = admitted_fits st.conn store (eqb-true (step_refusal st.conn store) 0 t) in
    let a = advanced st.conn.frame.position piece in
    simp (t, z) (go fits a.used _ (way_phase a.phase st store (take a.used piece) a.position _ _ (content_left st.conn.frame.position piece) (shaped st.conn fits.shape).target))))
    (λ t. simp t (stay (step_refusal st.conn store)))

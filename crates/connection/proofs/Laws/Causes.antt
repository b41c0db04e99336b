-- Which header and which content closes a connection, and by which number and place.
use Rattle.connection.specs.Slots.{Slot}
use Rattle.std.proofs.Math.Path.{◌≡◌}
use Rattle.std.specs.Prelude.{refl, ℕ, ◌+◌, ◌<◌, Bool, true, false, ◌↔◌, ◌⊎◌, List, [], length, take, ltb, eqb, if◌then◌else◌, Some, None}
use Rattle.std.proofs.Common.{sym, ap, inl, inr, arith}
use borrow.Author.Tests.{ltb-true, eqb-true, eqb-false, lt-ltb, eq-eqb, ne_eqb}
use Rattle.wire.specs.Test.{by_test}
use Rattle.wire.specs.Buffer.{copied}
use Rattle.record.specs.Names.{VERSION, BEGIN_REQUEST, GET_VALUES, RESPONDER, AUTHORIZER, FILTER}
use Rattle.record.specs.declared.body.BeginBody.{BeginBody}
use Rattle.record.specs.declared.header.Header.{Header}
use Rattle.record_reader.specs.Position.{advanced}
use Rattle.record_reader.specs.declared.Position.{Position}
use Rattle.record_reader.specs.declared.Phase.{Phase}
use Rattle.pair_list.specs.List.{well_formed, broken_at}
use Rattle.connection.specs.declared.request.Role.{Role}
use Rattle.connection.specs.declared.state.Target.{Target}
use Rattle.connection.specs.declared.state.Frame.{Frame}
use Rattle.connection.specs.Sizes.{SLOTS, QUERY}
use Rattle.connection.specs.Event.{Event}
use Rattle.connection.specs.Slots.{held_at, find, on_slot, free_slot_of}
use Rattle.connection.specs.Step.{State, Left, closes, query_of, queried, on_management, on_inactive, on_active, judged, opens, begun, of_begin, of_query, of_request, on_target, on_phase, advances, step_refusal, stepped}
use Rattle.connection.proofs.Laws.Closing.{is_closing, header_goes_on}
use Rattle.machine.specs.Cause.{Cause, Plain, At}

-- ---- headers
-- a GET_VALUES record with more content than QUERY
pub record LongQuery (h : Header) : Type 0 where
  pub version : h.version ≡ VERSION
  pub none : h.id ≡ 0
  pub kind : h.kind ≡ GET_VALUES
  pub long : QUERY < h.content

-- a BEGIN_REQUEST for an id that is neither 0 nor active, with content that is not 8 bytes
pub record OddBegin (st : State) (h : Header) : Type 0 where
  pub version : h.version ≡ VERSION
  pub some : h.id ≡ 0 → ⊥
  pub inactive : find st.conn.table h.id ≡ None
  pub kind : h.kind ≡ BEGIN_REQUEST
  pub odd : h.content ≡ 8 → ⊥

-- what a header's event says of the header
data Verdict (st : State) (h : Header) : Event → Type 0 where
  Version : (h.version ≡ VERSION → ⊥) → Verdict st h (Event.Closed (Plain 11))
  Odd : OddBegin st h → Verdict st h (Event.Closed (Plain 12))
  Long : LongQuery h → Verdict st h (Event.Closed (Plain 13))
  Goes : (e : Event) → is_closing e ≡ false → Verdict st h e

choose : {st : State} {h : Header} (b : Bool) (x y : Left) → (b ≡ true → Verdict st h x.event) → (b ≡ false → Verdict st h y.event)
    → Verdict st h (if b then x else y).event
choose true x y f g = f refl
choose false x y f g = g refl

-- no pairs are well formed
nothing_asked : well_formed [] ≡ true
unfolding well_formed
nothing_asked = refl

module _ (st : State) (store : List ℕ) (h : Header) where
  verdict : Verdict st h (judged st store h).event
  unfolding judged on_management on_inactive on_active closes queried query_of
  verdict =
      choose (eqb h.version VERSION) _ _
      (λ v.
      let is = eqb-true h.version VERSION v in
      choose (eqb h.id 0) _ _
      (λ z.
      choose (eqb h.kind GET_VALUES) _ _
      (λ k.
      choose (ltb QUERY h.content) _ _
      (λ l. Verdict.Long (record { version = is; none = eqb-true h.id 0 z; kind = eqb-true h.kind GET_VALUES k; long = ltb-true QUERY h.content l }))
      (λ l. choose (eqb h.content 0) _ _ (λ m. Verdict.Goes _ (simp nothing_asked)) (λ m. Verdict.Goes _ refl)))
      (λ k. Verdict.Goes _ refl))
      (λ z. placed is (eqb-false h.id 0 z) (find st.conn.table h.id) refl))
      (λ v. Verdict.Version (eqb-false h.version VERSION v))
    where
      placed : h.version ≡ VERSION → (h.id ≡ 0 → ⊥) → (k : Slot) → find st.conn.table h.id ≡ k
          → Verdict st h (on_slot k (on_active st store h) (on_inactive st store h)).event
      placed is some (Some i) e = Verdict.Goes _ (header_goes_on h.kind h.content (held_at st.conn.table store i))
      placed is some None e =
          choose (eqb h.kind BEGIN_REQUEST) _ _
          (λ k.
          choose (eqb h.content 8) _ _ (λ m. Verdict.Goes _ refl)
          (λ m. Verdict.Odd (record { version = is; some = some; inactive = e; kind = eqb-true h.kind BEGIN_REQUEST k; odd = eqb-false h.content 8 m })))
          (λ k. Verdict.Goes _ refl)

  -- A header closes by 11 where its version is not 1, and only there.
  pub header_closes_11 : ((judged st store h).event ≡ Event.Closed (Plain 11)) ↔ (h.version ≡ VERSION → ⊥)
  unfolding judged closes
  header_closes_11 = (of (judged st store h).event verdict, λ v. simp (ne_eqb h.version VERSION v))
    where
      of : (e : Event) → Verdict st h e → e ≡ Event.Closed (Plain 11) → h.version ≡ VERSION → ⊥
      of _ (Verdict.Version v) q = v
      of _ (Verdict.Odd o) q = let z : ◌≡◌ {A = ℕ} 12 11 = cc in absurd (omega arith)
      of _ (Verdict.Long l) q = let z : ◌≡◌ {A = ℕ} 13 11 = cc in absurd (omega arith)
      of _ (Verdict.Goes e g) q = let z : ◌≡◌ {A = ℕ} 0 1 = cc (ap is_closing q) in absurd (omega arith)

  -- By 12 where it is a BEGIN_REQUEST, for an id that is neither 0 nor active, whose content is not 8 bytes, and only
  -- there.
  pub header_closes_12 : ((judged st store h).event ≡ Event.Closed (Plain 12)) ↔ OddBegin st h
  unfolding judged on_inactive closes
  header_closes_12 = (
    of (judged st store h).event verdict,
    λ o. simp (eq-eqb h.version VERSION o.version, ne_eqb h.id 0 o.some, o.inactive, eq-eqb h.kind BEGIN_REQUEST o.kind, ne_eqb h.content 8 o.odd),
  )
    where
      of : (e : Event) → Verdict st h e → e ≡ Event.Closed (Plain 12) → OddBegin st h
      of _ (Verdict.Version v) q = let z : ◌≡◌ {A = ℕ} 11 12 = cc in absurd (omega arith)
      of _ (Verdict.Odd o) q = o
      of _ (Verdict.Long l) q = let z : ◌≡◌ {A = ℕ} 13 12 = cc in absurd (omega arith)
      of _ (Verdict.Goes e g) q = let z : ◌≡◌ {A = ℕ} 0 1 = cc (ap is_closing q) in absurd (omega arith)

  -- By 13 where it is a GET_VALUES of id 0 with more content than QUERY, and only there.
  pub header_closes_13 : ((judged st store h).event ≡ Event.Closed (Plain 13)) ↔ LongQuery h
  unfolding judged on_management closes
  header_closes_13 = (
    of (judged st store h).event verdict,
    λ l. simp (eq-eqb h.version VERSION l.version, eq-eqb h.id 0 l.none, eq-eqb h.kind GET_VALUES l.kind, lt-ltb QUERY h.content l.long),
  )
    where
      of : (e : Event) → Verdict st h e → e ≡ Event.Closed (Plain 13) → LongQuery h
      of _ (Verdict.Version v) q = let z : ◌≡◌ {A = ℕ} 11 13 = cc in absurd (omega arith)
      of _ (Verdict.Odd o) q = let z : ◌≡◌ {A = ℕ} 12 13 = cc in absurd (omega arith)
      of _ (Verdict.Long l) q = l
      of _ (Verdict.Goes e g) q = let z : ◌≡◌ {A = ℕ} 0 1 = cc (ap is_closing q) in absurd (omega arith)

  -- By no other cause: by 14 never, as an empty query is well formed.
  pub header_closes_by : (cause : Cause) → (judged st store h).event ≡ Event.Closed cause → (cause ≡ Plain 11) ⊎ ((cause ≡ Plain 12) ⊎ (cause ≡ Plain 13))
  header_closes_by cause = of (judged st store h).event verdict
    where
      of : (e : Event) → Verdict st h e → e ≡ Event.Closed cause → (cause ≡ Plain 11) ⊎ ((cause ≡ Plain 12) ⊎ (cause ≡ Plain 13))
      of _ (Verdict.Version v) q = inl (cc)
      of _ (Verdict.Odd o) q = inr (inl (cc))
      of _ (Verdict.Long l) q = inr (inr (cc))
      of _ (Verdict.Goes e g) q = let z : ◌≡◌ {A = ℕ} 0 1 = cc (ap is_closing q) in absurd (omega arith)

-- ---- content
-- the list of a query, with these bytes gathered too
abbrev pub asked : State → List ℕ → List ℕ
asked st bytes = take (st.conn.frame.gathered + length bytes) (copied st.gathered st.conn.frame.gathered bytes)

-- Content of a query closes by 14, with the place where its list is malformed, where it is the last of it and the list is
-- malformed, and only there; and by no other cause.
pub query_closes : (st : State) (store bytes : List ℕ) (p : Position) (cause : Cause)
    → ((of_query st store bytes p).event ≡ Event.Closed cause) ↔ ((cause ≡ At 14 (broken_at (asked st bytes))) × (p.content ≡ 0) × (well_formed (asked st bytes) ≡ false))
unfolding of_query queried query_of closes
query_closes st store bytes p cause = (there, λ f. simp (eq-eqb p.content 0 f.1, f.2, f.0))
  where
    there : (of_query st store bytes p).event ≡ Event.Closed cause → (cause ≡ At 14 (broken_at (asked st bytes))) × (p.content ≡ 0) × (well_formed (asked st bytes) ≡ false)
    there e =
        by_test (eqb p.content 0)
        (λ z.
        by_test (well_formed (asked st bytes))
        (λ w. let q : ◌≡◌ {A = ℕ} 0 1 = cc (simp (z, w) at e) in absurd (omega arith))
        (λ w. let q : At 14 (broken_at (asked st bytes)) ≡ cause = cc (simp (z, w) at e) in (sym q, eqb-true p.content 0 z, w)))
        (λ z. let q : ◌≡◌ {A = ℕ} 0 1 = cc (simp z at e) in absurd (omega arith))

-- a BEGIN body tells an opening or a refusal
module _ (st : State) (store : List ℕ) (id : ℕ) where
  opens_goes_on : (b : BeginBody) (role : Role) (f : Frame) → is_closing (opens st store id b role f).event ≡ false
  unfolding opens
  opens_goes_on b role f = by_test (ltb (free_slot_of st.conn.table) SLOTS) (λ t. simp t) (λ t. simp t)

  begun_goes_on : (b : BeginBody) (f : Frame) → is_closing (begun st store id b f).event ≡ false
  unfolding begun
  begun_goes_on b f =
      by_test (eqb b.role RESPONDER) (λ t. simp t (opens_goes_on b Role.Responder f))
      (λ t.
      by_test (eqb b.role AUTHORIZER) (λ q. simp (t, q) (opens_goes_on b Role.Authorizer f))
      (λ q. by_test (eqb b.role FILTER) (λ r. simp (t, q, r) (opens_goes_on b Role.Filter f)) (λ r. simp (t, q, r))))

  begin_goes_on : (bytes : List ℕ) (p : Position) → is_closing (of_begin st store id bytes p).event ≡ false
  unfolding of_begin
  begin_goes_on bytes p = by_test (eqb p.content 0) (λ t. simp t (begun_goes_on _ _)) (λ t. simp t)

-- Of content only a query's closes, at its last byte, by 14, with its place.
pub content_closes : (target : Target) (st : State) (store bytes : List ℕ) (p : Position) (cause : Cause) → (on_target target st store bytes p).event ≡ Event.Closed cause
    → (target ≡ Target.Query) × (cause ≡ At 14 (broken_at (asked st bytes))) × (p.content ≡ 0) × (well_formed (asked st bytes) ≡ false)
unfolding of_request
content_closes Target.Skip st store bytes p cause e = let z : ◌≡◌ {A = ℕ} 0 1 = cc in absurd (omega arith)
content_closes (Target.Begin id) st store bytes p cause e = let z : ◌≡◌ {A = ℕ} 0 1 = cc (begin_goes_on st store id bytes p) in absurd (omega arith)
content_closes Target.Query st store bytes p cause e = let k = (query_closes st store bytes p cause).0 e in (refl, k.0, k.1, k.2)
content_closes (Target.Params i) st store bytes p cause e = let z : ◌≡◌ {A = ℕ} 0 1 = cc in absurd (omega arith)
content_closes (Target.Stdin i) st store bytes p cause e = let z : ◌≡◌ {A = ℕ} 0 1 = cc in absurd (omega arith)
content_closes (Target.Data i) st store bytes p cause e = let z : ◌≡◌ {A = ℕ} 0 1 = cc in absurd (omega arith)

-- ---- a step
-- Where a step closes by a cause: at a header that closes by it, or, by 14 and its place, at the last byte of a query with a malformed list.
pub data ClosesAt (st : State) (store bytes : List ℕ) (p : Position) (cause : Cause) : Phase → Type 0 where
  AtHeader : (h : Header) → (judged st store h).event ≡ Event.Closed cause → ClosesAt st store bytes p cause (Phase.Whole h)
  AtQuery : (st.conn.frame.target ≡ Target.Query) × (cause ≡ At 14 (broken_at (asked st bytes))) × (p.content ≡ 0) × (well_formed (asked st bytes) ≡ false) → ClosesAt st store bytes p cause Phase.Content

phase_closes : (phase : Phase) (st : State) (store bytes : List ℕ) (p : Position) (cause : Cause) → (on_phase phase st store bytes p).event ≡ Event.Closed cause
    → ClosesAt st store bytes p cause phase
phase_closes Phase.Content st store bytes p cause e = ClosesAt.AtQuery (content_closes st.conn.frame.target st store bytes p cause e)
phase_closes Phase.Padding st store bytes p cause e = let z : ◌≡◌ {A = ℕ} 0 1 = cc in absurd (omega arith)
phase_closes Phase.Part st store bytes p cause e = let z : ◌≡◌ {A = ℕ} 0 1 = cc in absurd (omega arith)
phase_closes (Phase.Whole h) st store bytes p cause e = ClosesAt.AtHeader h e

-- A step closes at one of these two places alone, by the bytes that it uses.
pub closing_place : (st : State) (store piece : List ℕ) (cause : Cause) → (stepped st store piece).event ≡ Event.Closed cause
    → ClosesAt st store (take (advanced st.conn.frame.position piece).used piece) (advanced st.conn.frame.position piece).position cause
    (advanced st.conn.frame.position piece).phase
unfolding stepped advances
closing_place st store piece cause e =
    by_test (eqb (step_refusal st.conn store) 0)
    (λ t.
    by_test (eqb (length piece) 0) (λ z. let q : ◌≡◌ {A = ℕ} 0 1 = cc (simp (t, z) at e) in absurd (omega arith))
    (λ z. phase_closes (advanced st.conn.frame.position piece).phase st store _ _ cause (simp (t, z) at e)))
    (λ t. let q : ◌≡◌ {A = ℕ} 0 1 = cc (simp t at e) in absurd (omega arith))

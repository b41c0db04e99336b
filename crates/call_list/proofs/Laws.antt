-- Where the list of a request that a call names lies, and each call that reads as a question to that part of the store.
use Rattle.std.specs.Prelude.{ℕ, ◌+◌, ◌-◌, ◌*◌, ◌≤◌, ◌<◌, ◌≡◌, refl, true, false, List, [], length, drop, if◌then◌else◌, Some, None, Ok, Err}
use Rattle.std.proofs.Common.{sym, subst, take-take, eqb-true, eq-eqb}
use native.Mathlib.Omega.{arith}
use Rattle.std.proofs.Math.ListN.{get_or}
use Rattle.wire.specs.Test.{◌=?◌, by_test}
use Rattle.pairs.specs.Pair.{value_of}
use Rattle.pair_list.specs.List.{first_named, pair_number}
use Rattle.connection.specs.declared.answer.Refusal.{Refusal}
use Rattle.connection.specs.declared.state.Conn.{Conn}
use Rattle.connection.specs.Sizes.{SLOTS, AREA, STORE}
use Rattle.connection.specs.Codes.{refusal_number}
use Rattle.connection.specs.Request.{list_of}
use Rattle.connection.specs.Slots.{request_at, area_at, held_at, find, is_found}
use Rattle.connection.specs.Shape.{in_shape}
use Rattle.connection.specs.RequestCalls as Of
use Rattle.connection.specs.Calls.{lent_refusal, slot_of, value, source, pair_at_number, walk}
use Rattle.connection.proofs.Laws.SlotsLaws.{find_at, found_true}
use Rattle.connection.proofs.Laws.ShapeLaws.{shaped}
use Rattle.call_admit.specs.Admission.{admitted_by, lent_admission}
use Rattle.call_admit.proofs.AdmissionLaws.{let_through, refused_by_lem}
use Rattle.call_list.specs.Listing.{Listing, unlisted, part_of, listing}

-- A call that rows 2, 9, 1 and 3 let through: the store has its size, the slot is one of the table's, and the list
-- fits its area.
pub record Through (c : Conn) (store : List ℕ) (id i : ℕ) : Type 0 where
  pub none : (lent_refusal c store id =? 0) ≡ true
  pub slot : slot_of c id ≡ i
  pub full : length store ≡ STORE
  pub low : i < SLOTS
  pub short : get_or c.table.lengths i 0 ≤ AREA

through : (c : Conn) (store : List ℕ) (id : ℕ) → (lent_refusal c store id =? 0) ≡ true → Through c store id (slot_of c id)
unfolding lent_refusal
through c store id none =
    let e = eqb-true (lent_refusal c store id) 0 none in
    by_test (length store =? STORE)
    (λ t1. by_test (in_shape c)
    (λ t2. by_test c.«open»
    (λ t3. by_test (is_found (find c.table id))
    (λ t4. facts t1 t2 (found_true (find c.table id) t4))
    (λ t4. let z : ◌≡◌ {A = ℕ} 3 0 = simp (t1, t2, t3, t4) at e in absurd (omega arith)))
    (λ t3. let z : ◌≡◌ {A = ℕ} 1 0 = simp (t1, t2, t3) at e in absurd (omega arith)))
    (λ t2. let z : ◌≡◌ {A = ℕ} 9 0 = simp (t1, t2) at e in absurd (omega arith)))
    (λ t1. let z : ◌≡◌ {A = ℕ} 2 0 = simp t1 at e in absurd (omega arith))
  where
    facts : (length store =? STORE) ≡ true → in_shape c ≡ true → (i : ℕ) × (find c.table id ≡ Some i) → Through c store id (slot_of c id)
    facts t1 t2 f =
        let slot : slot_of c id ≡ f.0 = rw f.1 in
        let low : f.0 < SLOTS = (find_at c.table id f.0 f.1).low in
        subst (Through c store id) (sym slot)
        (record { none = none; slot = slot; full = eqb-true (length store) STORE t1; low = low; short = (shaped c t2).table.lengths f.0 low })

-- What the admission of a call says: of one let through, the slot; of a refused one, the row.
pub admitted_at : (c : Conn) (store : List ℕ) (id i : ℕ) → lent_admission c store id ≡ admitted_by (Ok i) → Through c store id i
unfolding lent_admission
admitted_at c store id i e =
    let a = let_through (lent_refusal c store id) (slot_of c id) i (sym e) in
    subst (Through c store id) (sym a.1) (through c store id (eq-eqb (lent_refusal c store id) 0 a.0))

pub refused_at : (c : Conn) (store : List ℕ) (id : ℕ) (r : Refusal) → lent_admission c store id ≡ admitted_by (Err r)
    → lent_refusal c store id ≡ refusal_number r
unfolding lent_admission
refused_at c store id r e = refused_by_lem (lent_refusal c store id) (slot_of c id) r (sym e)

-- In no bytes there is no pair.
pub first_in_none : (name : List ℕ) → first_named [] name ≡ None
unfolding first_named
first_in_none name = refl

-- A part of the store: it ends within, and not before it begins.
pub record Within (store : List ℕ) (l : Listing) : Type 0 where
  pub ordered : l.from ≤ l.to
  pub inside : l.to ≤ length store

module _ (c : Conn) (store : List ℕ) (id : ℕ) where
  abbrev here : ℕ
  here = slot_of c id

  -- the three ways of a call: refused by one of the first rows, refused by row 4, or told where its list lies
  by_listing : {P : Type 0}
      → ((lent_refusal c store id =? 0) ≡ false → listing c store id ≡ unlisted (lent_refusal c store id) → P)
      → ((lent_refusal c store id =? 0) ≡ true → Of.no_list (request_at c.table here) ≡ true → listing c store id ≡ unlisted 4 → P)
      → ((lent_refusal c store id =? 0) ≡ true → Of.no_list (request_at c.table here) ≡ false
      → listing c store id ≡ record { refusal = 0; from = here * AREA; to = here * AREA + (request_at c.table here).length } → P)
      → P
  unfolding listing
  by_listing first fourth told =
      by_test (lent_refusal c store id =? 0)
      (λ t. by_test (Of.no_list (request_at c.table here)) (λ u. fourth t u (simp (t, u))) (λ u. told t u (simp (t, u))))
      (λ t. first t (simp t))

  -- The list of a request that has one is the part of the store from its area's first byte on.
  list_part : (lent_refusal c store id =? 0) ≡ true
      → list_of (held_at c.table store here) ≡ part_of store (record { refusal = 0; from = here * AREA; to = here * AREA + (request_at c.table here).length })
  unfolding request_at area_at
  list_part t =
      let h = through c store id t in
      let n : here * AREA + get_or c.table.lengths here 0 - here * AREA ≡ get_or c.table.lengths here 0 = omega arith in
      rw n (take-take (get_or c.table.lengths here 0) AREA (drop (here * AREA) store) h.short)

  -- What is listed lies in the store.
  pub listing_within : Within store (listing c store id)
  unfolding request_at
  listing_within =
      by_listing
      (λ t e. rw e (record { ordered = omega arith; inside = omega arith }))
      (λ t u e. rw e (record { ordered = omega arith; inside = omega arith }))
      (λ t u e. let h = through c store id t in rw e (record { ordered = omega arith; inside = omega arith }))

  -- Of a refused call no bytes are listed.
  pub refused_empty : ((listing c store id).refusal =? 0) ≡ false → part_of store (listing c store id) ≡ []
  refused_empty h =
      by_listing
      (λ t e. rw e)
      (λ t u e. rw e)
      (λ t u e. let z : true ≡ false = rw e at h in absurd (apart z))
    where
      apart : true ≡ false → ⊥
      apart e = let z : ◌≡◌ {A = ℕ} 0 1 = cc in omega arith

  -- Value looks the name up in what is listed: in no bytes, where the call is refused.
  pub value_listed : (name fallback : List ℕ)
      → value c store id name fallback ≡ Of.on_found (first_named (part_of store (listing c store id)) name) (value_of (part_of store (listing c store id))) fallback
  unfolding value Of.value_in
  value_listed name fallback =
      by_listing
      (λ t e. simp (t, e, first_in_none))
      (λ t u e. simp (t, u, e, first_in_none))
      (λ t u e. simp (t, u, e, list_part t))

  -- Its sister, and the pair by number, ask whether the call is refused.
  pub source_listed : (name : List ℕ) → source c store id name
      ≡ (if (listing c store id).refusal =? 0 then Of.on_found (first_named (part_of store (listing c store id)) name) (λ p. Of.FromStore) Of.FromFallback
      else Of.SourceRefused (listing c store id).refusal)
  unfolding source Of.source_in
  source_listed name =
      by_listing
      (λ t e. simp (t, e))
      (λ t u e. simp (t, u, e))
      (λ t u e. simp (t, u, e, list_part t))

  pub pair_listed : (k : ℕ) → pair_at_number c store id k
      ≡ (if (listing c store id).refusal =? 0 then Of.on_found (pair_number (part_of store (listing c store id)) k) Of.PairIs (Of.PairRefused 7)
      else Of.PairRefused (listing c store id).refusal)
  unfolding pair_at_number Of.pair_in
  pair_listed k =
      by_listing
      (λ t e. simp (t, e))
      (λ t u e. simp (t, u, e))
      (λ t u e. simp (t, u, e, list_part t))

  -- The walk holds what is listed, from its start on.
  pub walk_listed : walk c store id ≡ record { list = part_of store (listing c store id); place = 0; refusal = (listing c store id).refusal }
  unfolding walk Of.walk_in
  walk_listed =
      by_listing
      (λ t e. simp (t, e))
      (λ t u e. simp (t, u, e))
      (λ t u e. simp (t, u, e, list_part t))

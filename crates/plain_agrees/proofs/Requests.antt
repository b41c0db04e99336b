-- The requests of the plain receiver beside the table and the store of the stepping one: as long as nothing is
-- finished, the request in place i of the list is the one in slot i.
use Rattle.connection.specs.Slots.{Slot}
use Rattle.std.specs.Prelude.{ℕ, zero, suc, ◌+◌, ◌≤◌, ◌<◌, ◌%◌, ◌/◌, ◌≡◌, refl, Bool, true, false, List, [], ◌∷◌, ◌++◌, length, get_or, set, ltb, eqb, if◌then◌else◌, Some, None}
use Rattle.std.proofs.Common.{sym, ap, ◌∙◌, arith, length-append, length-set, get_or-set_same, get_or-set_other, lt-ltb, le-ltb, ltb-true, ltb-false, eqb-true}
use Rattle.std.proofs.Math.ListN.{get_or-append}
use Rattle.std.proofs.lemmas.List.{get_or_at}
use Rattle.std.proofs.lemmas.Bool.{eqb-false}
use Rattle.wire.specs.Test.{by_test, ◌<?◌, ◌=?◌}
use Rattle.slot_word.specs.Word.{taken, lowest_free}
use Rattle.slot_word.proofs.WordLaws.{least_free, least_below}
use Rattle.connection.specs.declared.state.Table.{Table}
use Rattle.connection.specs.declared.request.Request.{Request}
use Rattle.connection.specs.Sizes.{SLOTS, AREA, STORE}
use Rattle.connection.specs.Codes.{role_number}
use Rattle.connection.specs.Request.{Held, list_of, is_spent, turn_type}
use Rattle.connection.specs.Slots.{request_at, area_at, held_at, put_request, put_area, take_slot, holds_id, find_from, find, free_slot_of}
use Rattle.connection.proofs.Laws.SlotsLaws.{Sized, request_of_put, request_of_other, put_sized, put_occupied, area_length, put_area_length, area_of_put, area_of_other, request_of_take, other_of_take, taken_of_take, taken_of_take_other, take_sized}
use Rattle.plain.specs.Plain.{Request as PlainRequest, nobody, place_of}
use Rattle.plain_agrees.proofs.Counts.{SameCount}

-- One request in both receivers. (A spent one too, though nothing of it is told any more.)
pub record SameRequest (r : PlainRequest) (h : Held) : Type 0 where
  pub id : h.request.id ≡ r.id
  pub role : role_number h.request.state.role ≡ r.role
  pub turn : turn_type h.request.state.turn ≡ r.turn
  pub spent : is_spent h.request.state.life ≡ r.spent
  pub list : list_of h ≡ r.list
  pub long : h.request.length ≡ length r.list
  pub area : length h.area ≡ AREA
  pub shown : SameCount h.request.state.turn h.request.state.shown r.shown

-- All of them. Slots are taken from the lowest on, and none is freed.
pub record SameRequests (rs : List PlainRequest) (t : Table) (store : List ℕ) : Type 0 where
  pub few : length rs ≤ SLOTS
  pub sized : Sized t
  pub full : length store ≡ STORE
  pub used : (i : ℕ) → i < length rs → taken i t.occupied ≡ true
  pub free : (i : ℕ) → length rs ≤ i → i < SLOTS → taken i t.occupied ≡ false
  pub each : (i : ℕ) → i < length rs → SameRequest (get_or rs i nobody) (held_at t store i)

-- ---- the place of an id
abbrev slot_from : ℕ → List PlainRequest → ℕ → Slot
slot_from i rs id = if place_of rs id <? length rs then Some (i + place_of rs id) else None

slot_if : (b b' : Bool) (m n : ℕ) → b ≡ b' → m ≡ n
    → ◌≡◌ {A = Slot} (if b then Some m else None) (if b' then Some n else None)
slot_if b b' m n p q = rw (p, q)

ltb_suc : (m n : ℕ) → ltb m n ≡ ltb (suc m) (suc n)
ltb_suc m n =
    by_test (ltb m n)
    (λ e. e ∙ sym (lt-ltb (suc m) (suc n) (omega (arith, ltb-true m n e))))
    (λ e. e ∙ sym (le-ltb (suc m) (suc n) (omega (arith, ltb-false m n e))))

slot_next : (i : ℕ) (r : PlainRequest) (rs : List PlainRequest) (id : ℕ)
    → slot_from i (r ∷ rs) id ≡ (if r.id =? id then Some i else slot_from (i + 1) rs id)
unfolding place_of
slot_next i r rs id =
    by_test (eqb r.id id)
    (λ e.
    let z : i + 0 ≡ i = omega arith in
    let l = lt-ltb 0 (suc (length rs)) (omega arith) in
    simp (e, l) (ap Some z))
    (λ e. simp e (slot_if _ _ _ _ (sym (ltb_suc (place_of rs id) (length rs))) (omega arith)))

find_from_lem : (n i id : ℕ) (rs : List PlainRequest) (ids : List ℕ) (o : ℕ) → length rs ≤ n
    → ((j : ℕ) → j < length rs → (taken (i + j) o ≡ true) × (get_or ids (i + j) 0 ≡ (get_or rs j nobody).id))
    → ((j : ℕ) → length rs ≤ j → j < n → taken (i + j) o ≡ false)
    → find_from n ids o id i ≡ slot_from i rs id
unfolding find_from holds_id place_of
find_from_lem zero i id [] ids o few used free = refl
find_from_lem zero i id (r ∷ rs) ids o few used free = absurd (omega arith)
find_from_lem (suc n) i id [] ids o few used free =
    let z : i + 0 ≡ i = omega arith in
    let f : taken i o ≡ false = ap (λ k. taken k o) (sym z) ∙ free 0 (omega arith) (omega arith) in
    simp f
    (find_from_lem n (i + 1) id [] ids o (omega arith) (λ j l. absurd (omega arith))
    (λ j l m.
    let y : i + 1 + j ≡ i + (j + 1) = omega arith in
    ap (λ k. taken k o) y ∙ free (j + 1) (omega arith) (omega arith)))
find_from_lem (suc n) i id (r ∷ rs) ids o few used free =
    let z : i + 0 ≡ i = omega arith in
    let u = used 0 (omega arith) in
    let f : taken i o ≡ true = ap (λ k. taken k o) (sym z) ∙ u.0 in
    let g : get_or ids i 0 ≡ r.id = ap (λ k. get_or ids k 0) (sym z) ∙ u.1 in
    let ih =
    find_from_lem n (i + 1) id rs ids o (omega arith)
    (λ j l.
    let y : i + 1 + j ≡ i + suc j = omega arith in
    let v = used (suc j) (omega arith) in
    (ap (λ k. taken k o) y ∙ v.0, ap (λ k. get_or ids k 0) y ∙ v.1))
    (λ j l m.
    let y : i + 1 + j ≡ i + suc j = omega arith in
    ap (λ k. taken k o) y ∙ free (suc j) (omega arith) (omega arith)) in
    simp (f, g) (ap (λ s. if eqb r.id id then Some i else s) ih) ∙ sym (slot_next i r rs id)

id_of_slot : (t : Table) (i : ℕ) → (request_at t i).id ≡ get_or t.ids i 0
unfolding request_at
id_of_slot t i = refl

-- An id has the same place in both.
pub find_place : (rs : List PlainRequest) (t : Table) (store : List ℕ) (id : ℕ) → SameRequests rs t store
    → find t id ≡ (if place_of rs id <? length rs then Some (place_of rs id) else None)
find_place rs t store id a =
    find_from_lem SLOTS 0 id rs t.ids t.occupied a.few
    (λ j l.
    let z : 0 + j ≡ j = omega arith in
    let n = ap (λ k. get_or t.ids k 0) z ∙ sym (id_of_slot t j) ∙ (a.each j l).id in
    (ap (λ k. taken k t.occupied) z ∙ a.used j l, n))
    (λ j l m. let z : 0 + j ≡ j = omega arith in ap (λ k. taken k t.occupied) z ∙ a.free j l m)
    ∙ (let z : 0 + place_of rs id ≡ place_of rs id = omega arith in
    ap (λ k. if place_of rs id <? length rs then Some k else None) z)

-- ---- the lowest free slot
least_le : (k o : ℕ) → lowest_free k o ≤ k
unfolding lowest_free
least_le zero o = omega arith
least_le (suc k) o = by_test (o % 2 =? 1) (λ e. simp e (omega (arith, least_le k (o / 2)))) (λ e. simp e (omega arith))

not_both : (b : Bool) → b ≡ true → b ≡ false → ⊥
not_both b p q = let z : ◌≡◌ {A = ℕ} 0 1 = cc (sym p ∙ q) in omega arith

-- It is the place after the last request.
pub free_place : (rs : List PlainRequest) (t : Table) (store : List ℕ) → SameRequests rs t store
    → free_slot_of t ≡ length rs
free_place rs t store a =
    let o = t.occupied in
    let m = lowest_free SLOTS o in
    by_test (ltb m (length rs))
    (λ e.
    let l = ltb-true m (length rs) e in
    absurd (not_both (taken m o) (a.used m l) (least_free SLOTS o (omega (arith, a.few)))))
    (λ e.
    by_test (ltb (length rs) m)
    (λ f.
    let l = ltb-true (length rs) m f in
    absurd
    (not_both (taken (length rs) o) (least_below SLOTS o (length rs) l)
    (a.free (length rs) (omega arith) (omega (arith, least_le SLOTS o)))))
    (λ f. omega (arith, ltb-false m (length rs) e, ltb-false (length rs) m f)))

-- ---- a request put back
pub same_put : (rs : List PlainRequest) (t : Table) (store : List ℕ) (i : ℕ) (r : PlainRequest) (h : Held)
    → SameRequests rs t store → i < length rs → SameRequest r h
    → SameRequests (set rs i r) (put_request t i h.request) (put_area store i h.area)
same_put rs t store i r h a low l =
    let low' : i < SLOTS = omega (arith, a.few) in
    let n : length (set rs i r) ≡ length rs = length-set rs i r in
    let o = put_occupied t i h.request in
    let t' = put_request t i h.request in
    let store' = put_area store i h.area in
    let area = area_of_put store i h.area a.full low' l.area in
    let others = area_of_other store i h.area a.full low' l.area in
    record {
      few = omega (arith, a.few);
      sized = put_sized t i h.request a.sized;
      full = put_area_length store i h.area a.full low' l.area;
      used = λ j k. ap (taken j) o ∙ a.used j (omega arith);
      free = λ j k m. ap (taken j) o ∙ a.free j (omega arith) m;
      each = λ j k.
          by_test (eqb j i)
          (λ e.
          let q = eqb-true j i e in
          let same : held_at t' store' i ≡ h = rw (request_of_put t i h.request a.sized low', area) in
          rw (q, get_or-set_same rs i r nobody low, same) l)
          (λ e.
          let q = eqb-false j i e in
          let same : held_at t' store' j ≡ held_at t store j =
          rw (request_of_other t i j h.request q, others j q) in
          rw (get_or-set_other rs i j r nobody q, same) (a.each j (omega arith)));
    }

-- ---- a request opened
pub same_open : (rs : List PlainRequest) (t : Table) (store : List ℕ) (r : PlainRequest) (q : Request)
    → SameRequests rs t store → length rs < SLOTS
    → ((area : List ℕ) → length area ≡ AREA → SameRequest r (record { request = q; area = area }))
    → SameRequests (rs ++ (r ∷ [])) (take_slot t (length rs) q) store
same_open rs t store r q a low l =
    let i = length rs in
    let n : length (rs ++ (r ∷ [])) ≡ i + 1 = length-append rs (r ∷ []) in
    record {
      few = omega arith;
      sized = take_sized t i q a.sized;
      full = a.full;
      used = λ j k.
          by_test (eqb j i)
          (λ e. rw (eqb-true j i e) (taken_of_take t i q low))
          (λ e. let ne = eqb-false j i e in taken_of_take_other t i j q ne ∙ a.used j (less j k ne));
      free = λ j k m.
          let ne : j ≡ i → ⊥ = λ z. omega arith in
          taken_of_take_other t i j q ne ∙ a.free j (omega arith) m;
      each = λ j k.
          by_test (eqb j i)
          (λ e.
          rw (eqb-true j i e, get_or_at rs r [] nobody i refl, request_of_take t i q a.sized low)
          (l (area_at store i) (area_length store i a.full low)))
          (λ e.
          let ne = eqb-false j i e in
          let h = less j k ne in
          rw (get_or-append rs (r ∷ []) nobody j h, other_of_take t i j q ne) (a.each j h));
    }
  where
    less : (j : ℕ) → j < length (rs ++ (r ∷ [])) → (j ≡ length rs → ⊥) → j < length rs
    less j k ne =
        by_test (ltb j (length rs)) (λ e. ltb-true j (length rs) e)
        (λ e. absurd (ne (omega (arith, length-append rs (r ∷ []), ltb-false j (length rs) e))))

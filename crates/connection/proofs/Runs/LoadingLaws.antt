-- What holds of the slots as they are loaded: the slot of an id, the lowest free slot, a request and its area put back.
use Rattle.connection.specs.Slots.{Slot}
use Rattle.std.specs.Prelude.{◌≡◌, refl, List, ◌∷◌, Bool, true, false, ℕ, zero, suc, ◌+◌, ◌-◌, ◌%◌, ◌/◌, ◌≤◌, ◌<◌, eqb, ltb, if◌then◌else◌, Some, None}
use Rattle.std.proofs.Common.{ap, sym, ◌∙◌, arith, eqb-true, lt-ltb, le-ltb}
use Rattle.std.proofs.Math.Nat.{sub-zero, sub_self}
use lib.ListN.{length, get_or, set}
use Rattle.std.proofs.lemmas.List.{set-get_or}
use Rattle.std.proofs.lemmas.Bool.{eqb-false}
use Rattle.wire.specs.Test.{◌<?◌, by_test}
use Rattle.wire.specs.Buffer.{zeros}
use Rattle.slot_word.specs.Word.{taken, lowest_free}
use Rattle.slot_word.proofs.WordLaws.{least_free, least_below}
use Rattle.machine.specs.Slots.{Vacant, HeldBy, Lookup, Absent, FoundAt, NoVacancy, VacancyAt, lookup, lookup_further, first_vacancy, vacancy_further, slot_at}
use Rattle.connection.specs.declared.request.Request.{Request}
use Rattle.connection.specs.declared.state.Table.{Table}
use Rattle.connection.specs.Sizes.{SLOTS, AREA, STORE}
use Rattle.connection.specs.Request.{Held}
use Rattle.connection.specs.Slots.{request_at, area_at, held_at, put_request, put_area, take_slot, free_slot, free_slot_of, holds_id, find_from, find}
use Rattle.connection.proofs.Laws.SlotsLaws.{Sized, request_of_put, request_of_other, put_occupied, request_of_take, other_of_take, taken_of_take, taken_of_take_other, other_of_free, taken_of_free, taken_of_free_other, area_put_same, area_length, area_of_put, area_of_other}
use Rattle.connection.specs.Fits.{InUse}
use Rattle.connection.specs.Runs.Receiver.{clean_area}
use Rattle.connection.proofs.Runs.Loading.{elements, elements_set, elements_at, loaded_slot, slot_of, loaded_slots}

-- ---- one slot
-- slot i of those loaded
pub slot_loaded : (t : Table) (store : List ℕ) (i : ℕ) → i < SLOTS → slot_at clean_area (loaded_slots t store) i ≡ slot_of t store i
unfolding loaded_slots
slot_loaded t store i h =
    let e : 0 + i ≡ i = omega arith in
    elements_at (slot_of t store) (Vacant clean_area) 0 SLOTS i h ∙ ap (slot_of t store) e

-- a slot that is taken holds its request
pub taken_loaded : (t : Table) (store : List ℕ) (i : ℕ) → InUse t i
    → slot_at clean_area (loaded_slots t store) i ≡ HeldBy (request_at t i).id (held_at t store i)
unfolding slot_of loaded_slot
taken_loaded t store i u = slot_loaded t store i u.low ∙ rw u.slot_taken

-- ---- one slot written
-- two tables and stores that differ in slot i only
pub loaded_set : (t u : Table) (store other : List ℕ) (i : ℕ) → i < SLOTS → ((j : ℕ) → (j ≡ i → ⊥) → request_at u j ≡ request_at t j)
    → ((j : ℕ) → (j ≡ i → ⊥) → taken j u.occupied ≡ taken j t.occupied) → ((j : ℕ) → (j ≡ i → ⊥) → area_at other j ≡ area_at store j)
    → loaded_slots u other ≡ set (loaded_slots t store) i (slot_of u other i)
unfolding loaded_slots slot_of
loaded_set t u store other i h a b c =
    let e : 0 + i ≡ i = omega arith in
    elements_set (slot_of t store) (slot_of u other) 0 SLOTS i h
    (λ j x. let y : j ≡ i → ⊥ = λ q. x (q ∙ sym e) in rw (a j y, b j y, c j y))
    ∙ ap (λ m. set (elements (slot_of t store) 0 SLOTS) i (slot_of u other m)) e

-- a request put back with its area
pub loaded_put : (t : Table) (store : List ℕ) (i : ℕ) (h : Held) → Sized t → length store ≡ STORE → InUse t i → length h.area ≡ AREA
    → loaded_slots (put_request t i h.request) (put_area store i h.area) ≡ set (loaded_slots t store) i (HeldBy h.request.id h)
unfolding slot_of loaded_slot
loaded_put t store i h sized full u n =
    loaded_set t (put_request t i h.request) store (put_area store i h.area) i u.low (λ j x. request_of_other t i j h.request x)
    (λ j x. ap (taken j) (put_occupied t i h.request)) (area_of_other store i h.area full u.low n)
    ∙ ap (λ x. set (loaded_slots t store) i x) here
  where
    here : slot_of (put_request t i h.request) (put_area store i h.area) i ≡ HeldBy h.request.id h
    here = rw (request_of_put t i h.request sized u.low, area_of_put store i h.area full u.low n, put_occupied t i h.request, u.slot_taken)

-- a request put back alone
pub loaded_states : (t : Table) (store : List ℕ) (i : ℕ) (r : Request) → Sized t → length store ≡ STORE → InUse t i
    → loaded_slots (put_request t i r) store ≡ set (loaded_slots t store) i (HeldBy r.id (record { request = r; area = area_at store i }))
loaded_states t store i r sized full u =
    ap (loaded_slots (put_request t i r)) (sym (area_put_same store i))
    ∙ loaded_put t store i (record { request = r; area = area_at store i }) sized full u (area_length store i full u.low)

-- a request as it is
pub loaded_kept : (t : Table) (store : List ℕ) (i : ℕ) → InUse t i
    → loaded_slots t store ≡ set (loaded_slots t store) i (HeldBy (request_at t i).id (held_at t store i))
loaded_kept t store i u =
    sym (ap (λ x. set (loaded_slots t store) i x) (sym (taken_loaded t store i u)) ∙ set-get_or (loaded_slots t store) i (Vacant clean_area))

-- a slot taken
pub loaded_take : (t : Table) (store : List ℕ) (i : ℕ) (r : Request) → Sized t → i < SLOTS
    → loaded_slots (take_slot t i r) store ≡ set (loaded_slots t store) i (HeldBy r.id (record { request = r; area = area_at store i }))
unfolding slot_of loaded_slot
loaded_take t store i r sized h =
    loaded_set t (take_slot t i r) store store i h (λ j x. other_of_take t i j r x) (λ j x. taken_of_take_other t i j r x) (λ j x. refl)
    ∙ ap (λ x. set (loaded_slots t store) i x) here
  where
    here : slot_of (take_slot t i r) store i ≡ HeldBy r.id (record { request = r; area = area_at store i })
    here = rw (request_of_take t i r sized h, taken_of_take t i r h)

-- a slot freed, its area zeroed
pub loaded_free : (t : Table) (store : List ℕ) (i : ℕ) → length store ≡ STORE → i < SLOTS
    → loaded_slots (free_slot t i) (put_area store i (zeros (length (area_at store i)))) ≡ set (loaded_slots t store) i (Vacant clean_area)
unfolding slot_of loaded_slot clean_area
loaded_free t store i full h =
    let n = area_length store i full h in
    ap (λ k. loaded_slots (free_slot t i) (put_area store i (zeros k))) n
    ∙ loaded_set t (free_slot t i) store (put_area store i (zeros AREA)) i h (λ j x. other_of_free t i j x) (λ j x. taken_of_free_other t i j x)
    (area_of_other store i (zeros AREA) full h (lib.ListN.length-replicate {A = ℕ} AREA 0))
    ∙ ap (λ x. set (loaded_slots t store) i x) here
  where
    here : slot_of (free_slot t i) (put_area store i (zeros AREA)) i ≡ Vacant (zeros AREA)
    here = rw (area_of_put store i (zeros AREA) full h (lib.ListN.length-replicate {A = ℕ} AREA 0), taken_of_free t i h)

-- ---- the slot of an id
-- a slot found, counted from slot i on
abbrev found_from : Table → List ℕ → ℕ → Slot → Lookup Held
found_from t store i (Some j) = FoundAt (j - i) (held_at t store j)
found_from t store i None = Absent

-- it is not below i
abbrev NotBelow : ℕ → Slot → Type 0
NotBelow i (Some j) = i ≤ j
NotBelow i None = Unit {0}

below_suc : (i : ℕ) (s : Slot) → NotBelow (i + 1) s → NotBelow i s
below_suc i (Some j) h = omega arith
below_suc i None h = tt

not_below : (n : ℕ) (ids : List ℕ) (occupied id i : ℕ) → NotBelow i (find_from n ids occupied id i)
unfolding find_from
not_below zero ids occupied id i = tt
not_below (suc n) ids occupied id i = go (holds_id ids occupied id i) (below_suc i (find_from n ids occupied id (i + 1)) (not_below n ids occupied id (i + 1)))
  where
    go : (b : Bool) → NotBelow i (find_from n ids occupied id (i + 1)) → NotBelow i (if b then Some i else find_from n ids occupied id (i + 1))
    go true h = omega arith
    go false h = h

further_from : (t : Table) (store : List ℕ) (i : ℕ) (s : Slot) → NotBelow (i + 1) s → lookup_further (found_from t store (i + 1) s) ≡ found_from t store i s
unfolding lookup_further
further_from t store i (Some j) h = let e : suc (j - (i + 1)) ≡ j - i = omega arith in ap (λ m. FoundAt m (held_at t store j)) e
further_from t store i None h = refl

lookup_from : (n : ℕ) (t : Table) (store : List ℕ) (id i : ℕ)
    → lookup id (elements (slot_of t store) i n) ≡ found_from t store i (find_from n t.ids t.occupied id i)
unfolding elements find_from lookup holds_id slot_of loaded_slot request_at
lookup_from zero t store id i = refl
lookup_from (suc n) t store id i =
    go (taken i t.occupied) (eqb (get_or t.ids i 0) id) refl
    (ap lookup_further (ap (λ m. lookup id (elements (slot_of t store) m n)) same ∙ lookup_from n t store id (i + 1))
    ∙ further_from t store i (find_from n t.ids t.occupied id (i + 1)) (not_below n t.ids t.occupied id (i + 1)))
  where
    same : suc i ≡ i + 1
    same = omega arith

    go : (a b : Bool) → eqb (get_or t.ids i 0) id ≡ b
        → lookup_further (lookup id (elements (slot_of t store) (suc i) n)) ≡ found_from t store i (find_from n t.ids t.occupied id (i + 1))
        → lookup id (loaded_slot a (request_at t i) (area_at store i) ∷ elements (slot_of t store) (suc i) n)
        ≡ found_from t store i (if (if a then b else false) then Some i else find_from n t.ids t.occupied id (i + 1))
    go true true e h = rw (e, sub_self i)
    go true false e h = rw e h
    go false b e h = h

-- the slot found, with its request
abbrev pub found_as : Table → List ℕ → Slot → Lookup Held
found_as t store (Some i) = FoundAt i (held_at t store i)
found_as t store None = Absent

from_first : (t : Table) (store : List ℕ) (s : Slot) → found_from t store 0 s ≡ found_as t store s
from_first t store (Some j) = rw (sub-zero j)
from_first t store None = refl

-- To look an id up is to find its slot.
pub lookup_loaded : (t : Table) (store : List ℕ) (id : ℕ) → lookup id (loaded_slots t store) ≡ found_as t store (find t id)
unfolding loaded_slots
lookup_loaded t store id = lookup_from SLOTS t store id 0 ∙ from_first t store (find t id)

-- ---- the lowest free slot
least_le : (k o : ℕ) → lowest_free k o ≤ k
unfolding lowest_free
least_le zero o = omega arith
least_le (suc k) o = by_test (eqb (o % 2) 1) (λ e. simp e (omega (arith, least_le k (o / 2)))) (λ e. simp e (omega arith))

later_if : (b : Bool) (m k : ℕ) (area : List ℕ) → suc m ≡ k
    → vacancy_further (if b then VacancyAt m area else NoVacancy) ≡ (if b then VacancyAt k area else NoVacancy)
unfolding vacancy_further
later_if true m k area e = ap (λ n. VacancyAt n area) e
later_if false m k area e = refl

-- slots taken up to a free one, or to the end
vacancy_from : (n : ℕ) (t : Table) (store : List ℕ) (i m : ℕ) → i ≤ m → m ≤ i + n → ((j : ℕ) → j < m → taken j t.occupied ≡ true)
    → (m < i + n → taken m t.occupied ≡ false)
    → first_vacancy (elements (slot_of t store) i n) ≡ (if m <? i + n then VacancyAt (m - i) (area_at store m) else NoVacancy)
unfolding elements first_vacancy slot_of loaded_slot
vacancy_from zero t store i m a b u v = let e : i + 0 ≡ m = omega arith in rw (e, le-ltb m m (omega arith))
vacancy_from (suc n) t store i m a b u v =
    by_test (eqb i m) here
    (λ e. let q = eqb-false i m e in behind e (vacancy_from n t store (suc i) m (omega arith) (omega arith) u (λ w. v (omega arith))))
  where
    here : eqb i m ≡ true → first_vacancy (slot_of t store i ∷ elements (slot_of t store) (suc i) n) ≡ (if m <? i + suc n then VacancyAt (m - i) (area_at store m) else NoVacancy)
    here e =
        let q : i ≡ m = eqb-true i m e in
        let w : m < i + suc n = omega arith in
        rw (lt-ltb m (i + suc n) w, q, v w, sub_self m)

    behind : eqb i m ≡ false → first_vacancy (elements (slot_of t store) (suc i) n) ≡ (if m <? suc i + n then VacancyAt (m - suc i) (area_at store m) else NoVacancy)
        → first_vacancy (slot_of t store i ∷ elements (slot_of t store) (suc i) n) ≡ (if m <? i + suc n then VacancyAt (m - i) (area_at store m) else NoVacancy)
    behind e h =
        let q = eqb-false i m e in
        let w : i < m = omega arith in
        let z : i + suc n ≡ suc i + n = omega arith in
        rw (u i w, z) (ap vacancy_further h ∙ later_if (ltb m (suc i + n)) (m - suc i) (m - i) (area_at store m) (omega arith))

-- The lowest free slot is the one that a new request takes.
pub vacancy_loaded : (t : Table) (store : List ℕ)
    → first_vacancy (loaded_slots t store) ≡ (if free_slot_of t <? SLOTS then VacancyAt (free_slot_of t) (area_at store (free_slot_of t)) else NoVacancy)
unfolding loaded_slots
vacancy_loaded t store =
    let m = free_slot_of t in
    vacancy_from SLOTS t store 0 m (omega arith) (omega (arith, least_le SLOTS t.occupied)) (λ j h. least_below SLOTS t.occupied j h)
    (λ h. least_free SLOTS t.occupied h)
    ∙ rw (sub-zero m)

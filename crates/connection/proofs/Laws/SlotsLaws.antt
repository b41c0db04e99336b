-- What holds of the slots: a request or an area that is put is read back, all others stay; what a slot found is.
use Rattle.connection.specs.Slots.{Slot}
use Rattle.std.specs.Prelude.{◌≡◌, refl, ℕ, zero, suc, ◌+◌, ◌-◌, ◌*◌, ◌≤◌, ◌<◌, false, take, get_or, eqb, Some, None}
use Rattle.std.proofs.Math.Path.{sym, ap}
use Rattle.std.proofs.Common.{◌∙◌, length-append, length-drop, length-set, take-append-drop, get_or-set_same, get_or-set_other, drop-drop, drop_at}
use Rattle.std.proofs.Math.Bool.{true}
use mathlib.Core.List.{List, ◌++◌, append_assoc}
use native.Mathlib.Omega.{arith}
use Rattle.std.proofs.Math.ListN.{length, drop, length-take}
use Rattle.std.proofs.lemmas.List.{set-get_or, take-append-le, drop-append-le}
use Rattle.std.proofs.Math.Seq.{length-take-le, take_at, drop-append-add}
use Rattle.std.proofs.Math.Dec.{ltb}
use borrow.Author.Tests.{lt-ltb, ltb-true, ltb-false, eqb-true, eqb-false, eq-eqb}
use Rattle.wire.specs.Test.{by_test}
use Rattle.slot_word.specs.Word.{taken, with_slot, without_slot}
use Rattle.slot_word.proofs.WordLaws.{with_taken_lem, with_other, without_free, without_other, mark_same, mark_read, mark_other}
use Rattle.connection.specs.declared.request.Request.{Request}
use Rattle.connection.specs.declared.state.Table.{Table}
use Rattle.connection.specs.Sizes.{SLOTS, AREA, STORE}
use Rattle.connection.specs.Slots.{no_standing, standing_of, no_request, request_at, area_at, put_request, put_area, take_slot, free_slot, holds_id, find_from, find, is_found}

-- The arrays of a table have a place for each slot.
pub record Sized (t : Table) : Type 0 where
  pub ids : length t.ids ≡ SLOTS
  pub lengths : length t.lengths ≡ SLOTS
  pub standings : length t.standings ≡ SLOTS
  pub stdin : length t.stdin_shown ≡ SLOTS
  pub «data» : length t.data_shown ≡ SLOTS

-- ---- requests
-- A request put back where it came from changes nothing.
pub put_same : (t : Table) (i : ℕ) → put_request t i (request_at t i) ≡ t
unfolding put_request request_at
put_same t i =
    rw (
      set-get_or t.ids i 0,
      set-get_or t.lengths i 0,
      set-get_or t.standings i no_standing,
      mark_same i t.keep,
      mark_same i t.out_ended,
      mark_same i t.err_used,
      mark_same i t.err_ended,
      set-get_or t.stdin_shown i 0,
      set-get_or t.data_shown i 0,
    )

-- The request put is read back.
pub request_of_put : (t : Table) (i : ℕ) (r : Request) → Sized t → i < SLOTS → request_at (put_request t i r) i ≡ r
unfolding put_request request_at
request_of_put t i r s h =
    let a : i < length t.ids = omega arith in
    let b : i < length t.lengths = omega arith in
    let c : i < length t.standings = omega arith in
    let d : i < length t.stdin_shown = omega arith in
    let e : i < length t.data_shown = omega arith in
    let m = r.state in
    rw (
      get_or-set_same t.ids i r.id 0 a,
      get_or-set_same t.lengths i r.length 0 b,
      get_or-set_same t.standings i (standing_of m) no_standing c,
      mark_read i m.keep t.keep h,
      mark_read i m.out_ended t.out_ended h,
      mark_read i m.err_used t.err_used h,
      mark_read i m.err_ended t.err_ended h,
      get_or-set_same t.stdin_shown i m.shown.stdin 0 d,
      get_or-set_same t.data_shown i m.shown.«data» 0 e,
    )

-- Another slot's request stays.
pub request_of_other : (t : Table) (i j : ℕ) (r : Request) → (j ≡ i → ⊥) → request_at (put_request t i r) j ≡ request_at t j
unfolding put_request request_at
request_of_other t i j r h =
    let m = r.state in
    rw (
      get_or-set_other t.ids i j r.id 0 h,
      get_or-set_other t.lengths i j r.length 0 h,
      get_or-set_other t.standings i j (standing_of m) no_standing h,
      mark_other i j m.keep t.keep h,
      mark_other i j m.out_ended t.out_ended h,
      mark_other i j m.err_used t.err_used h,
      mark_other i j m.err_ended t.err_ended h,
      get_or-set_other t.stdin_shown i j m.shown.stdin 0 h,
      get_or-set_other t.data_shown i j m.shown.«data» 0 h,
    )

-- The arrays keep their lengths.
pub put_sized : (t : Table) (i : ℕ) (r : Request) → Sized t → Sized (put_request t i r)
unfolding put_request
put_sized t i r s =
    record {
      ids = length-set t.ids i r.id ∙ s.ids;
      lengths = length-set t.lengths i r.length ∙ s.lengths;
      standings = length-set t.standings i (standing_of r.state) ∙ s.standings;
      stdin = length-set t.stdin_shown i r.state.shown.stdin ∙ s.stdin;
      «data» = length-set t.data_shown i r.state.shown.«data» ∙ s.«data»;
    }

-- No slot is taken or freed by a request that is put.
pub put_occupied : (t : Table) (i : ℕ) (r : Request) → (put_request t i r).occupied ≡ t.occupied
unfolding put_request
put_occupied t i r = refl

-- A request put with the id that its slot has changes no id.
pub put_ids : (t : Table) (i : ℕ) (r : Request) → r.id ≡ (request_at t i).id → (put_request t i r).ids ≡ t.ids
unfolding put_request request_at
put_ids t i r e = rw (e, set-get_or t.ids i 0)

-- Each id is then found where it was.
pub find_put : (t : Table) (i : ℕ) (r : Request) (id : ℕ) → r.id ≡ (request_at t i).id → find (put_request t i r) id ≡ find t id
find_put t i r id e = rw (put_ids t i r e, put_occupied t i r)

-- ---- slots taken and freed
-- A slot taken holds the request.
pub request_of_take : (t : Table) (i : ℕ) (r : Request) → Sized t → i < SLOTS → request_at (take_slot t i r) i ≡ r
unfolding take_slot request_at
request_of_take t i r s h = request_of_put t i r s h

-- Another slot's request stays.
pub other_of_take : (t : Table) (i j : ℕ) (r : Request) → (j ≡ i → ⊥) → request_at (take_slot t i r) j ≡ request_at t j
unfolding take_slot request_at
other_of_take t i j r h = request_of_other t i j r h

-- It is taken.
pub taken_of_take : (t : Table) (i : ℕ) (r : Request) → i < SLOTS → taken i (take_slot t i r).occupied ≡ true
unfolding take_slot with_slot
taken_of_take t i r h = simp (lt-ltb i SLOTS h) (with_taken_lem i t.occupied)

-- Another slot is taken or free as it was.
pub taken_of_take_other : (t : Table) (i j : ℕ) (r : Request) → (j ≡ i → ⊥) → taken j (take_slot t i r).occupied ≡ taken j t.occupied
unfolding take_slot with_slot
taken_of_take_other t i j r h = by_test (ltb i SLOTS) (λ e. simp e (with_other i j t.occupied h)) (λ e. simp e)

-- The arrays keep their lengths.
pub take_sized : (t : Table) (i : ℕ) (r : Request) → Sized t → Sized (take_slot t i r)
unfolding take_slot
take_sized t i r s = let p = put_sized t i r s in record { ids = p.ids; lengths = p.lengths; standings = p.standings; stdin = p.stdin; «data» = p.«data» }

-- A slot freed holds no request.
pub request_of_free : (t : Table) (i : ℕ) → Sized t → i < SLOTS → request_at (free_slot t i) i ≡ no_request
unfolding free_slot request_at
request_of_free t i s h = request_of_put t i no_request s h

-- Another slot's request stays.
pub other_of_free : (t : Table) (i j : ℕ) → (j ≡ i → ⊥) → request_at (free_slot t i) j ≡ request_at t j
unfolding free_slot request_at
other_of_free t i j h = request_of_other t i j no_request h

-- It is free.
pub taken_of_free : (t : Table) (i : ℕ) → i < SLOTS → taken i (free_slot t i).occupied ≡ false
unfolding free_slot without_slot
taken_of_free t i h = simp (lt-ltb i SLOTS h) (without_free i t.occupied)

-- Another slot is taken or free as it was.
pub taken_of_free_other : (t : Table) (i j : ℕ) → (j ≡ i → ⊥) → taken j (free_slot t i).occupied ≡ taken j t.occupied
unfolding free_slot without_slot
taken_of_free_other t i j h = by_test (ltb i SLOTS) (λ e. simp e (without_other i j t.occupied h)) (λ e. simp e)

-- The arrays keep their lengths.
pub free_sized : (t : Table) (i : ℕ) → Sized t → Sized (free_slot t i)
unfolding free_slot
free_sized t i s = let p = put_sized t i no_request s in record { ids = p.ids; lengths = p.lengths; standings = p.standings; stdin = p.stdin; «data» = p.«data» }

-- ---- areas
-- An area put back where it came from changes nothing.
pub area_put_same : (store : List ℕ) (i : ℕ) → put_area store i (area_at store i) ≡ store
unfolding put_area area_at
area_put_same store i =
    ap (λ (l : List ℕ). take (i * AREA) store ++ (take AREA (drop (i * AREA) store) ++ l)) (sym (drop-drop AREA (i * AREA) store))
    ∙ ap (λ (l : List ℕ). take (i * AREA) store ++ l) (take-append-drop AREA (drop (i * AREA) store))
    ∙ take-append-drop (i * AREA) store

-- An area has AREA bytes.
pub area_length : (store : List ℕ) (i : ℕ) → length store ≡ STORE → i < SLOTS → length (area_at store i) ≡ AREA
unfolding area_at
area_length store i s h = simp (length-take, length-drop) (omega arith)

-- an area in the first of two lists, and one after it
area_front : (p q : List ℕ) (j : ℕ) → j * AREA + AREA ≤ length p → area_at (p ++ q) j ≡ area_at p j
unfolding area_at
area_front p q j h =
    let a : j * AREA ≤ length p = omega arith in
    let b : AREA ≤ length (drop (j * AREA) p) = simp length-drop (omega arith) in
    ap (take AREA) (drop-append-le (j * AREA) p q a) ∙ take-append-le AREA (drop (j * AREA) p) q b

area_back : (p p' q : List ℕ) (j : ℕ) → length p ≡ length p' → length p ≤ j * AREA → area_at (p ++ q) j ≡ area_at (p' ++ q) j
unfolding area_at
area_back p p' q j e h =
    let a : j * AREA ≡ length p + (j * AREA - length p) = omega arith in
    let b : j * AREA ≡ length p' + (j * AREA - length p) = omega arith in
    let l : drop (j * AREA) (p ++ q) ≡ drop (j * AREA - length p) q = ap (λ (n : ℕ). drop n (p ++ q)) a ∙ drop-append-add p q (j * AREA - length p) in
    let r : drop (j * AREA) (p' ++ q) ≡ drop (j * AREA - length p) q = ap (λ (n : ℕ). drop n (p' ++ q)) b ∙ drop-append-add p' q (j * AREA - length p) in
    ap (take AREA) (l ∙ sym r)

module _ (store : List ℕ) (i : ℕ) (area : List ℕ) (full : length store ≡ STORE) (low : i < SLOTS) (fits : length area ≡ AREA) where
  -- A store keeps its length.
  pub put_area_length : length (put_area store i area) ≡ STORE
  unfolding put_area
  put_area_length = simp (length-append, length-take, length-drop) (omega arith)

  -- The area put is read back.
  pub area_of_put : area_at (put_area store i area) i ≡ area
  unfolding put_area area_at
  area_of_put =
      ap (take AREA) (drop_at (take (i * AREA) store) (area ++ drop (i * AREA + AREA) store) (i * AREA) (length-take-le (i * AREA) store (omega arith)))
      ∙ take_at area (drop (i * AREA + AREA) store) AREA fits

  -- Another slot's area stays.
  pub area_of_other : (j : ℕ) → (j ≡ i → ⊥) → area_at (put_area store i area) j ≡ area_at store j
  unfolding put_area
  area_of_other j other = by_test (ltb j i) before behind
    where
      before : ltb j i ≡ true → area_at (put_area store i area) j ≡ area_at store j
      before t =
          let less : j < i = ltb-true j i t in
          let p : length (take (i * AREA) store) ≡ i * AREA = length-take-le (i * AREA) store (omega arith) in
          let q : j * AREA + AREA ≤ length (take (i * AREA) store) = omega arith in
          area_front (take (i * AREA) store) (area ++ drop (i * AREA + AREA) store) j q
          ∙ sym (area_front (take (i * AREA) store) (drop (i * AREA) store) j q)
          ∙ ap (λ (l : List ℕ). area_at l j) (take-append-drop (i * AREA) store)

      behind : ltb j i ≡ false → area_at (put_area store i area) j ≡ area_at store j
      behind t =
          let more : i ≤ j = ltb-false j i t in
          let p : length (take (i * AREA) store ++ area) ≡ i * AREA + AREA = simp (length-append, length-take) (omega arith) in
          let q : length (take (i * AREA + AREA) store) ≡ i * AREA + AREA = length-take-le (i * AREA + AREA) store (omega arith) in
          ap (λ (l : List ℕ). area_at l j) (sym (append_assoc (take (i * AREA) store) area (drop (i * AREA + AREA) store)))
          ∙ area_back (take (i * AREA) store ++ area) (take (i * AREA + AREA) store) (drop (i * AREA + AREA) store) j (omega arith) (omega arith)
          ∙ ap (λ (l : List ℕ). area_at l j) (take-append-drop (i * AREA + AREA) store)

-- ---- the slot of an id
-- A slot that holds an id: it is one of the slots, taken, and has that id.
pub record Holds (t : Table) (id i : ℕ) : Type 0 where
  pub low : i < SLOTS
  pub slot_taken : taken i t.occupied ≡ true
  pub has_id : get_or t.ids i 0 ≡ id

-- The same of n slots from slot i on, for the slot k.
pub record HoldsFrom (n : ℕ) (ids : List ℕ) (occupied id i k : ℕ) : Type 0 where
  pub low : i ≤ k
  pub high : k < i + n
  pub slot_taken : taken k occupied ≡ true
  pub has_id : get_or ids k 0 ≡ id

-- the test, as two facts
holds_true : (ids : List ℕ) (occupied id i : ℕ) → holds_id ids occupied id i ≡ true → (taken i occupied ≡ true) × (get_or ids i 0 ≡ id)
unfolding holds_id
holds_true ids occupied id i e =
    by_test (taken i occupied)
    (λ t. (t, eqb-true (get_or ids i 0) id (simp t at e)))
    (λ t. let z : ◌≡◌ {A = ℕ} 0 1 = cc (simp t at e) in absurd (omega arith))

true_holds : (ids : List ℕ) (occupied id i : ℕ) → taken i occupied ≡ true → get_or ids i 0 ≡ id → holds_id ids occupied id i ≡ true
unfolding holds_id
true_holds ids occupied id i t e = simp t (eq-eqb (get_or ids i 0) id e)

-- What a slot found among n slots is.
pub found_from : (n : ℕ) (ids : List ℕ) (occupied id i k : ℕ) → find_from n ids occupied id i ≡ Some k → HoldsFrom n ids occupied id i k
unfolding find_from
found_from zero ids occupied id i k e = let z : ◌≡◌ {A = ℕ} 0 1 = cc in absurd (omega arith)
found_from (suc n) ids occupied id i k e =
    by_test (holds_id ids occupied id i)
    (λ t. here t (cc (simp t at e)))
    (λ t. later (found_from n ids occupied id (i + 1) k (simp t at e)))
  where
    here : holds_id ids occupied id i ≡ true → i ≡ k → HoldsFrom (suc n) ids occupied id i k
    here t q =
        let h = holds_true ids occupied id i t in
        record { low = omega arith; high = omega arith; slot_taken = rw (← q) h.0; has_id = rw (← q) h.1 }

    later : HoldsFrom n ids occupied id (i + 1) k → HoldsFrom (suc n) ids occupied id i k
    later h = record { low = omega arith; high = omega arith; slot_taken = h.slot_taken; has_id = h.has_id }

-- Where none is found among n slots, none of them holds the id.
pub none_from : (n : ℕ) (ids : List ℕ) (occupied id i k : ℕ) → find_from n ids occupied id i ≡ None → HoldsFrom n ids occupied id i k → ⊥
unfolding find_from
none_from zero ids occupied id i k e h = omega arith
none_from (suc n) ids occupied id i k e h =
    by_test (holds_id ids occupied id i)
    (λ t. let z : ◌≡◌ {A = ℕ} 0 1 = cc (simp t at e) in omega arith)
    (λ t. by_test (eqb i k) (here t) (λ q. none_from n ids occupied id (i + 1) k (simp t at e) (later (eqb-false i k q))))
  where
    here : holds_id ids occupied id i ≡ false → eqb i k ≡ true → ⊥
    here t q =
        let s : i ≡ k = eqb-true i k q in
        let z : ◌≡◌ {A = ℕ} 0 1 = cc (t, true_holds ids occupied id i (rw s h.slot_taken) (rw s h.has_id)) in
        omega arith

    later : (i ≡ k → ⊥) → HoldsFrom n ids occupied id (i + 1) k
    later q = record { low = omega arith; high = omega arith; slot_taken = h.slot_taken; has_id = h.has_id }

-- Where none of n slots holds the id, none is found.
pub nowhere_from : (n : ℕ) (ids : List ℕ) (occupied id i : ℕ) → ((k : ℕ) → HoldsFrom n ids occupied id i k → ⊥) → find_from n ids occupied id i ≡ None
nowhere_from n ids occupied id i none = go (find_from n ids occupied id i) refl
  where
    go : (s : Slot) → find_from n ids occupied id i ≡ s → s ≡ None
    go (Some k) e = absurd (none k (found_from n ids occupied id i k e))
    go None e = refl

-- To hold an id is to hold it among the SLOTS slots from the first on.
pub all_slots : (t : Table) (id i : ℕ) → Holds t id i → HoldsFrom SLOTS t.ids t.occupied id 0 i
all_slots t id i h = record { low = omega arith; high = omega arith; slot_taken = h.slot_taken; has_id = h.has_id }

-- And back.
pub of_all_slots : (t : Table) (id i : ℕ) → HoldsFrom SLOTS t.ids t.occupied id 0 i → Holds t id i
of_all_slots t id i h = record { low = omega arith; slot_taken = h.slot_taken; has_id = h.has_id }

-- The slot found holds the id.
pub find_at : (t : Table) (id i : ℕ) → find t id ≡ Some i → Holds t id i
find_at t id i e = of_all_slots t id i (found_from SLOTS t.ids t.occupied id 0 i e)

-- Where none is found, no slot holds the id.
pub find_nowhere : (t : Table) (id : ℕ) → find t id ≡ None → (i : ℕ) → Holds t id i → ⊥
find_nowhere t id e i h = none_from SLOTS t.ids t.occupied id 0 i e (all_slots t id i h)

-- Where no slot holds the id, none is found.
pub nowhere_find : (t : Table) (id : ℕ) → ((i : ℕ) → Holds t id i → ⊥) → find t id ≡ None
nowhere_find t id none =
    nowhere_from SLOTS t.ids t.occupied id 0 (λ k h. none k (of_all_slots t id k h))

-- The ids of the slots taken are distinct.
abbrev pub Distinct : Table → Type 0
Distinct t = (id i j : ℕ) → Holds t id i → Holds t id j → i ≡ j

-- With the ids distinct, the slot that holds an id is the one found.
pub only_slot : (t : Table) → Distinct t → (id i : ℕ) → Holds t id i → find t id ≡ Some i
only_slot t distinct id i h = go (find t id) refl
  where
    go : (s : Slot) → find t id ≡ s → s ≡ Some i
    go (Some k) e = ap (λ (n : ℕ). Some n) (distinct id k i (find_at t id k e) h)
    go None e = absurd (find_nowhere t id e i h)

-- The test for a slot found: where it is true there is one.
pub found_true : (s : Slot) → is_found s ≡ true → (i : ℕ) × (s ≡ Some i)
found_true (Some i) e = (i, refl)
found_true None e = let z : ◌≡◌ {A = ℕ} 0 1 = cc in absurd (omega arith)

-- Where it is false there is none.
pub found_false : (s : Slot) → is_found s ≡ false → s ≡ None
found_false (Some i) e = let z : ◌≡◌ {A = ℕ} 0 1 = cc in absurd (omega arith)
found_false None e = refl

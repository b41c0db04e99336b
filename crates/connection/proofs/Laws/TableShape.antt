-- What keeps a table in shape: a request put back, a slot taken, a slot freed.
use Rattle.std.specs.Prelude.{◌≡◌, refl, ℕ, ◌≤◌, ◌<◌, true, get_or, eqb, None}
use Rattle.std.proofs.Common.{sym, ap, ◌∙◌, arith, eqb-true}
use Rattle.std.proofs.lemmas.Bool.{eqb-false}
use Rattle.wire.specs.Test.{by_test}
use Rattle.slot_word.specs.Word.{taken}
use Rattle.connection.specs.declared.request.Request.{Request}
use Rattle.connection.specs.declared.state.Table.{Table}
use Rattle.connection.specs.Sizes.{SLOTS, AREA}
use Rattle.connection.specs.Slots.{request_at, put_request, take_slot, free_slot, find}
use Rattle.connection.proofs.Laws.SlotsLaws.{Sized, Holds, put_ids, put_occupied, request_of_put, request_of_other, request_of_take, other_of_take, taken_of_take_other, request_of_free, other_of_free, taken_of_free, taken_of_free_other, find_nowhere}
use Rattle.connection.proofs.Laws.ShapeLaws.{Tidy}
use Rattle.connection.specs.Fits.{InUse}

-- the id that a table has for a slot is its request's
id_of_slot : (t : Table) (i : ℕ) → (request_at t i).id ≡ get_or t.ids i 0
unfolding request_at
id_of_slot t i = refl

-- The length that a table has for a slot is its request's.
pub length_of : (t : Table) (i : ℕ) → (request_at t i).length ≡ get_or t.lengths i 0
unfolding request_at
length_of t i = refl

-- lengths: a table in which one slot's length is not over AREA and the others are another table's
short : (t u : Table) (i : ℕ) → Tidy t → (i < SLOTS → (request_at u i).length ≤ AREA) → ((j : ℕ) → (j ≡ i → ⊥) → request_at u j ≡ request_at t j)
    → (j : ℕ) → j < SLOTS → get_or u.lengths j 0 ≤ AREA
short t u i good here others j h =
    by_test (eqb j i)
    (λ e. let s : j ≡ i = eqb-true j i e in rw (s, ← length_of u i) (here (rw s at h)))
    (λ e. rw (← length_of u j, others j (eqb-false j i e), length_of t j) (good.lengths j h))

-- ---- a request put back
module _ (t : Table) (i : ℕ) (r : Request) (same : r.id ≡ (request_at t i).id) where
  holds_put : (id j : ℕ) → Holds (put_request t i r) id j → Holds t id j
  holds_put id j h =
      record { low = h.low; slot_taken = rw (put_occupied t i r) at h.slot_taken; has_id = rw (put_ids t i r same) at h.has_id }

  -- A request put back with its id and a length not over AREA keeps the table in shape.
  pub tidy_put : Sized t → Tidy t → r.length ≤ AREA → Tidy (put_request t i r)
  tidy_put sized good fits =
      record {
        lengths = short t (put_request t i r) i good (λ h. rw (request_of_put t i r sized h) fits) (λ j ne. request_of_other t i j r ne);
        ids = λ j h. good.ids j (holds_put 0 j h);
        distinct = λ id j k h g. good.distinct id j k (holds_put id j h) (holds_put id k g);
      }

-- A slot in use stays so when a request is put back.
pub use_put : (t : Table) (i j : ℕ) (r : Request) → InUse t j → InUse (put_request t i r) j
use_put t i j r u = record { low = u.low; slot_taken = rw (put_occupied t i r) u.slot_taken }

-- The length put is the slot's.
pub length_put : (t : Table) (i : ℕ) (r : Request) → Sized t → i < SLOTS → get_or (put_request t i r).lengths i 0 ≡ r.length
length_put t i r sized low = sym (length_of (put_request t i r) i) ∙ ap (λ (x : Request). x.length) (request_of_put t i r sized low)

-- ---- a slot taken
module _ (t : Table) (i : ℕ) (r : Request) (sized : Sized t) where
  -- the slot taken holds the request's id
  id_taken : (id j : ℕ) → j ≡ i → Holds (take_slot t i r) id j → r.id ≡ id
  id_taken id j e h =
      let low : i < SLOTS = rw e at h.low in
      ap (λ (x : Request). x.id) (sym (request_of_take t i r sized low)) ∙ id_of_slot (take_slot t i r) i ∙ (rw e at h.has_id)

  -- another slot holds what it held
  holds_other : (id j : ℕ) → (j ≡ i → ⊥) → Holds (take_slot t i r) id j → Holds t id j
  holds_other id j ne h =
      record {
        low = h.low;
        slot_taken = sym (taken_of_take_other t i j r ne) ∙ h.slot_taken;
        has_id = sym (id_of_slot t j) ∙ ap (λ (x : Request). x.id) (sym (other_of_take t i j r ne)) ∙ id_of_slot (take_slot t i r) j ∙ h.has_id;
      }

  -- A slot taken for an id that is neither 0 nor active keeps the table in shape.
  pub tidy_take : Tidy t → r.length ≤ AREA → (r.id ≡ 0 → ⊥) → find t r.id ≡ None → Tidy (take_slot t i r)
  tidy_take good fits some inactive =
      record {
        lengths = short t (take_slot t i r) i good (λ h. rw (request_of_take t i r sized h) fits) (λ j ne. other_of_take t i j r ne);
        ids = λ j h. by_test (eqb j i) (λ e. some (id_taken 0 j (eqb-true j i e) h)) (λ e. good.ids j (holds_other 0 j (eqb-false j i e) h));
        distinct = λ id j k h g.
            by_test (eqb j i)
            (λ e. by_test (eqb k i) (λ e'. eqb-true j i e ∙ sym (eqb-true k i e')) (λ e'. absurd (clash id j k (eqb-true j i e) (eqb-false k i e') h g)))
            (λ e. by_test (eqb k i)
            (λ e'. absurd (clash id k j (eqb-true k i e') (eqb-false j i e) g h))
            (λ e'. good.distinct id j k (holds_other id j (eqb-false j i e) h) (holds_other id k (eqb-false k i e') g)));
      }
    where
      clash : (id j k : ℕ) → j ≡ i → (k ≡ i → ⊥) → Holds (take_slot t i r) id j → Holds (take_slot t i r) id k → ⊥
      clash id j k e ne h g = find_nowhere t r.id inactive k (rw (id_taken id j e h) (holds_other id k ne g))

-- ---- a slot freed
-- what a table with a slot freed holds, it held
holds_free : (t : Table) (i id j : ℕ) → Holds (free_slot t i) id j → Holds t id j
holds_free t i id j h = by_test (eqb j i) (λ e. absurd (freed (eqb-true j i e))) (λ e. other (eqb-false j i e))
  where
    freed : j ≡ i → ⊥
    freed e =
        let low : i < SLOTS = rw e at h.low in
        let is : taken i (free_slot t i).occupied ≡ true = rw e at h.slot_taken in
        let z : ◌≡◌ {A = ℕ} 0 1 = cc (taken_of_free t i low) in
        omega arith

    other : (j ≡ i → ⊥) → Holds t id j
    other ne =
        record {
          low = h.low;
          slot_taken = sym (taken_of_free_other t i j ne) ∙ h.slot_taken;
          has_id = sym (id_of_slot t j) ∙ ap (λ (x : Request). x.id) (sym (other_of_free t i j ne)) ∙ id_of_slot (free_slot t i) j ∙ h.has_id;
        }

-- A slot freed keeps the table in shape.
pub tidy_free : (t : Table) (i : ℕ) → Sized t → Tidy t → Tidy (free_slot t i)
tidy_free t i sized good =
    record {
      lengths = short t (free_slot t i) i good (λ h. rw (request_of_free t i sized h) (omega arith)) (λ j ne. other_of_free t i j ne);
      ids = λ j h. good.ids j (holds_free t i 0 j h);
      distinct = λ id j k h g. good.distinct id j k (holds_free t i id j h) (holds_free t i id k g);
    }

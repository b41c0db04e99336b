-- A table whose lowest-numbered free slot is taken for an id that is not active: that id is there, and every other where
-- it was.
use Rattle.std.specs.Prelude.{ℕ, ◌≤◌, ◌<◌, ◌≡◌, get_or, Some, None}
use Rattle.std.proofs.Common.{sym, ap, ◌∙◌, arith}
use Rattle.slot_word.specs.Word.{taken}
use Rattle.slot_word.proofs.WordLaws.{least_free}
use Rattle.connection.specs.declared.request.Request.{Request}
use Rattle.connection.specs.declared.state.Table.{Table}
use Rattle.connection.specs.Sizes.{SLOTS, AREA}
use Rattle.connection.specs.Slots.{take_slot, free_slot_of, find}
use Rattle.connection.proofs.Laws.SlotsLaws.{Sized, find_at, only_slot, request_of_take, other_of_take, taken_of_take, taken_of_take_other}
use Rattle.connection.proofs.Laws.ShapeLaws.{Tidy}
use Rattle.connection.proofs.Laws.TableShape.{tidy_take}
use Rattle.server.proofs.Writing.{id_at}

-- a slot holds one id
pub one_id : (t : Table) (a b i j : ℕ) → find t a ≡ Some i → find t b ≡ Some j → i ≡ j → a ≡ b
one_id t a b i j p q e = sym (find_at t a i p).has_id ∙ ap (λ (n : ℕ). get_or t.ids n 0) e ∙ (find_at t b j q).has_id

-- a slot that holds an id is not the free one
pub not_free : (t : Table) (a j : ℕ) → free_slot_of t < SLOTS → find t a ≡ Some j → j ≡ free_slot_of t → ⊥
not_free t a j room e z =
    let free = least_free SLOTS t.occupied room in
    let w : ◌≡◌ {A = ℕ} 0 1 = cc (sym free ∙ ap (λ (n : ℕ). taken n t.occupied) (sym z) ∙ (find_at t a j e).slot_taken) in
    omega arith

module _ (t : Table) (q : Request) (sized : Sized t) (tidy : Tidy t) (room : free_slot_of t < SLOTS) (some : q.id ≡ 0 → ⊥) (fits : q.length ≤ AREA)
    (none : find t q.id ≡ None) where
  abbrev now : Table
  now = take_slot t (free_slot_of t) q

  pub own_at : find now q.id ≡ Some (free_slot_of t)
  own_at =
      let i = free_slot_of t in
      only_slot now (tidy_take t i q sized tidy fits some none).distinct q.id i
      (record { low = room; slot_taken = taken_of_take t i q room; has_id = id_at now i ∙ ap (λ (r : Request). r.id) (request_of_take t i q sized room) })

  -- the id of another slot
  other_id : (j : ℕ) → (j ≡ free_slot_of t → ⊥) → get_or now.ids j 0 ≡ get_or t.ids j 0
  other_id j ne = id_at now j ∙ ap (λ (r : Request). r.id) (other_of_take t (free_slot_of t) j q ne) ∙ sym (id_at t j)

  pub still_at : (a j : ℕ) → find t a ≡ Some j → find now a ≡ Some j
  still_at a j e =
      let h = find_at t a j e in
      let ne = not_free t a j room e in
      only_slot now (tidy_take t (free_slot_of t) q sized tidy fits some none).distinct a j
      (record { low = h.low; slot_taken = taken_of_take_other t (free_slot_of t) j q ne ∙ h.slot_taken; has_id = other_id j ne ∙ h.has_id })

  pub was_at : (a j : ℕ) → find now a ≡ Some j → (a ≡ q.id → ⊥) → find t a ≡ Some j
  was_at a j e apart =
      let h = find_at now a j e in
      let ne : j ≡ free_slot_of t → ⊥ = λ z. apart (one_id now a q.id j (free_slot_of t) e own_at z) in
      only_slot t tidy.distinct a j
      (record { low = h.low; slot_taken = sym (taken_of_take_other t (free_slot_of t) j q ne) ∙ h.slot_taken; has_id = sym (other_id j ne) ∙ h.has_id })

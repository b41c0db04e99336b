-- The active number: how many distinct ids are active.
use Rattle.std.specs.Prelude.{◌≡◌, refl, ℕ, zero, suc, ◌+◌, ◌/◌, ◌^◌, true, ◌↔◌, length, get_or, eqb, if◌then◌else◌}
use Rattle.std.proofs.Common.{sym, ap, ◌∙◌, ⊎_elim, arith, pow-suc, div-one, eqb-true}
use mathlib.Core.List.Memᴰ
use mathlib.Core.List.{List, [], ◌∷◌, Memᴰ, Nodup, Nodup-nil, Nodup-cons}
use Rattle.std.proofs.Math.Logic.{∥∥₁_elim}
use mathlib.Core.HLevel.{⊥_prop}
use Rattle.std.proofs.Math.Nat.{div-div-eq-div-mul}
use Rattle.std.proofs.lemmas.Bool.{eqb-false}
use Rattle.wire.specs.Test.{by_test}
use Rattle.slot_word.specs.Word.{taken, taken_count}
use Rattle.slot_word.proofs.WordLaws.{taken_is}
use Rattle.connection.specs.declared.state.Table.{Table}
use Rattle.connection.specs.declared.state.Conn.{Conn}
use Rattle.connection.specs.Sizes.{SLOTS}
use Rattle.connection.specs.Slots.{find, is_found}
use Rattle.connection.specs.Shape.{in_shape}
use Rattle.connection.specs.Calls.{count_refusal, active_count}
use Rattle.connection.proofs.Laws.SlotsLaws.{HoldsFrom, Distinct, of_all_slots, found_from, none_from, found_true, found_false}
use Rattle.connection.proofs.Laws.ShapeLaws.{shaped}

-- The ids of the slots that are taken, among n slots from i on.
unfoldable pub active_from : ℕ → List ℕ → ℕ → ℕ → List ℕ
active_from zero ids occupied i = []
active_from (suc n) ids occupied i = if taken i occupied then get_or ids i 0 ∷ active_from n ids occupied (i + 1) else active_from n ids occupied (i + 1)

-- The ids that are active, in the order of their slots.
abbrev pub active_ids : Table → List ℕ
active_ids t = active_from SLOTS t.ids t.occupied 0

-- ---- n slots from i on
-- as many ids as bits, in the word shifted down to bit i
count_from : (n : ℕ) (ids : List ℕ) (occupied i : ℕ) → taken_count n (occupied / 2 ^ i) ≡ length (active_from n ids occupied i)
unfolding taken_count active_from
count_from zero ids occupied i = refl
count_from (suc n) ids occupied i =
    let next : suc i ≡ i + 1 = omega arith in
    let half : occupied / 2 ^ i / 2 ≡ occupied / 2 ^ (i + 1) = div-div-eq-div-mul occupied (2 ^ i) 2 ∙ ap (λ (m : ℕ). occupied / m) (sym (pow-suc 2 i) ∙ ap (λ (m : ℕ). 2 ^ m) next) in
    let ih : taken_count n (occupied / 2 ^ (i + 1)) ≡ length (active_from n ids occupied (i + 1)) = count_from n ids occupied (i + 1) in
    rw (half, ih, ← taken_is i occupied) (by_test (taken i occupied) (λ t. simp t (omega arith)) (λ t. simp t (omega arith)))

-- a slot after the first one is among them all
wider : (n : ℕ) (ids : List ℕ) (occupied id i k : ℕ) → HoldsFrom n ids occupied id (i + 1) k → HoldsFrom (suc n) ids occupied id i k
wider n ids occupied id i k h = record { low = omega arith; high = omega arith; slot_taken = h.slot_taken; has_id = h.has_id }

-- an id of the list has a slot
mem_holds : (n : ℕ) (ids : List ℕ) (occupied id i : ℕ) → Memᴰ id (active_from n ids occupied i) → (k : ℕ) × HoldsFrom n ids occupied id i k
unfolding active_from
mem_holds zero ids occupied id i m = absurd (Memᴰ.not-nil m)
mem_holds (suc n) ids occupied id i m =
    by_test (taken i occupied)
    (λ t. ⊎_elim (first t) (λ r. behind (mem_holds n ids occupied id (i + 1) r)) (Memᴰ.cases_cons (simp t at m)))
    (λ t. behind (mem_holds n ids occupied id (i + 1) (simp t at m)))
  where
    first : taken i occupied ≡ true → id ≡ get_or ids i 0 → (k : ℕ) × HoldsFrom (suc n) ids occupied id i k
    first t e = (i, record { low = omega arith; high = omega arith; slot_taken = t; has_id = sym e })

    behind : (k : ℕ) × HoldsFrom n ids occupied id (i + 1) k → (k : ℕ) × HoldsFrom (suc n) ids occupied id i k
    behind r = (r.0, wider n ids occupied id i r.0 r.1)

-- an id that has a slot is in the list
holds_mem : (n : ℕ) (ids : List ℕ) (occupied id i k : ℕ) → HoldsFrom n ids occupied id i k → Memᴰ id (active_from n ids occupied i)
unfolding active_from
holds_mem zero ids occupied id i k h = absurd (omega arith)
holds_mem (suc n) ids occupied id i k h =
    by_test (eqb i k)
    (λ q.
    let e : i ≡ k = eqb-true i k q in
    let t : taken i occupied ≡ true = rw e h.slot_taken in
    let g : id ≡ get_or ids i 0 = rw e (sym h.has_id) in
    simp t (Memᴰ.head g))
    (λ q.
    let e = eqb-false i k q in
    let r = holds_mem n ids occupied id (i + 1) k (record { low = omega arith; high = omega arith; slot_taken = h.slot_taken; has_id = h.has_id }) in
    by_test (taken i occupied) (λ t. simp t (Memᴰ.tail r)) (λ t. simp t r))

-- where no two slots have the same id, the list has no id twice
nodup_from : (n : ℕ) (ids : List ℕ) (occupied i : ℕ)
    → ((id k l : ℕ) → HoldsFrom n ids occupied id i k → HoldsFrom n ids occupied id i l → k ≡ l)
    → Nodup (active_from n ids occupied i)
unfolding active_from
nodup_from zero ids occupied i distinct = Nodup-nil
nodup_from (suc n) ids occupied i distinct =
    let rest = nodup_from n ids occupied (i + 1) (λ id k l h g. distinct id k l (wider n ids occupied id i k h) (wider n ids occupied id i l g)) in
    by_test (taken i occupied) (λ t. simp t (Nodup-cons.1 (λ m. ∥∥₁_elim m ⊥_prop (alone t), rest))) (λ t. simp t rest)
  where
    alone : taken i occupied ≡ true → Memᴰ (get_or ids i 0) (active_from n ids occupied (i + 1)) → ⊥
    alone t m =
        let r = mem_holds n ids occupied (get_or ids i 0) (i + 1) m in
        let here : HoldsFrom (suc n) ids occupied (get_or ids i 0) i i = record { low = omega arith; high = omega arith; slot_taken = t; has_id = refl } in
        let e : i ≡ r.0 = distinct (get_or ids i 0) i r.0 here (wider n ids occupied (get_or ids i 0) i r.0 r.1) in
        omega (arith, r.1.low)

-- ---- the table
-- As many slots are taken as there are ids.
pub count_ids : (t : Table) → taken_count SLOTS t.occupied ≡ length (active_ids t)
count_ids t = ap (taken_count SLOTS) (sym (div-one t.occupied)) ∙ count_from SLOTS t.ids t.occupied 0

-- With the ids distinct, none is there twice.
pub ids_nodup : (t : Table) → Distinct t → Nodup (active_ids t)
ids_nodup t distinct =
    nodup_from SLOTS t.ids t.occupied 0
    (λ id k l h g. distinct id k l (of_all_slots t id k h) (of_all_slots t id l g))

-- The ids are those that are found.
pub ids_found : (t : Table) (id : ℕ) → Memᴰ id (active_ids t) ↔ (is_found (find t id) ≡ true)
ids_found t id = (there, back)
  where
    there : Memᴰ id (active_ids t) → is_found (find t id) ≡ true
    there m =
        let r = mem_holds SLOTS t.ids t.occupied id 0 m in
        by_test (is_found (find t id)) (λ e. e) (λ e. absurd (none_from SLOTS t.ids t.occupied id 0 r.0 (found_false (find t id) e) r.1))

    back : is_found (find t id) ≡ true → Memᴰ id (active_ids t)
    back e =
        let s = found_true (find t id) e in
        holds_mem SLOTS t.ids t.occupied id 0 s.0 (found_from SLOTS t.ids t.occupied id 0 s.0 s.1)

-- ---- the call
-- Where the call is not refused, its number is the length of the list.
pub count_given : (c : Conn) → (active_count c).refusal ≡ 0 → (active_count c).count ≡ length (active_ids c.table)
unfolding active_count
count_given c e =
    by_test (eqb (count_refusal c) 0)
    (λ q. simp q (count_ids c.table))
    (λ q. absurd (eqb-false (count_refusal c) 0 q (simp q at e)))

-- What the active number is: the length of a list of ids in which none is twice, and in which an id is exactly when
-- it is active.
pub record ActiveNumber (c : Conn) : Type 0 where
  pub answer : active_count c ≡ record { refusal = 0; count = length (active_ids c.table) }
  pub distinct : Nodup (active_ids c.table)
  pub exactly : (id : ℕ) → Memᴰ id (active_ids c.table) ↔ (is_found (find c.table id) ≡ true)

-- In shape and open, the active number is the number of distinct ids that are active.
pub active_number : (c : Conn) → in_shape c ≡ true → c.«open» ≡ true → ActiveNumber c
unfolding active_count count_refusal
active_number c shape is_open =
    record {
      answer = simp (shape, is_open, count_ids c.table);
      distinct = ids_nodup c.table (shaped c shape).table.distinct;
      exactly = ids_found c.table;
    }

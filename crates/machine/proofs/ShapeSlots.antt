-- The slots stay in shape when one of them is written.
use Rattle.std.proofs.Math.Path.{◌≡◌, refl}
use Rattle.std.proofs.Common.{ap, sym, ◌∙◌, inl, inr, length-set}
use mathlib.Core.List.{List, [], ◌∷◌}
use Rattle.std.specs.Prelude.{Bool, ◌⊎◌, get_or, set, if◌then◌else◌}
use Rattle.std.proofs.Math.Bool.{true, false}
use Prim.Native.Nat.{ℕ, zero, suc, ◌<◌}
use native.Mathlib.Omega.{arith}
use Rattle.std.proofs.Math.Dec.{eqb}
use borrow.Author.Tests.{eqb-false}
use Rattle.machine.specs.Slots.{SlotState, Vacant, HeldBy, Lookup, Absent, FoundAt, Vacancy, NoVacancy, VacancyAt, lookup_further, vacancy_further, lookup, first_vacancy, slot_at}
use Rattle.machine.specs.Machine.{Machine, Slots}
use Rattle.machine.specs.Laws.{Laws}
use Rattle.machine.specs.Shape.{SlotOk, IsAbsent, SlotsOk}

-- after a write a slot is the one written or what it was
pub written_or_not : {A : Type 0} (d : A) (T : List A) (i j : ℕ) (s : A) → ((j ≡ i) × (get_or (set T i s) j d ≡ s)) ⊎ (get_or (set T i s) j d ≡ get_or T j d)
written_or_not d [] i j s = inr refl
written_or_not d (x ∷ T) zero zero s = inl (refl, refl)
written_or_not d (x ∷ T) zero (suc j) s = inr refl
written_or_not d (x ∷ T) (suc i) zero s = inr refl
written_or_not d (x ∷ T) (suc i) (suc j) s = go (written_or_not d T i j s)
  where
    go : ((j ≡ i) × (get_or (set T i s) j d ≡ s)) ⊎ (get_or (set T i s) j d ≡ get_or T j d)
        → ((suc j ≡ suc i) × (get_or (set T i s) j d ≡ s)) ⊎ (get_or (set T i s) j d ≡ get_or T j d)
    go (inl h) = inl (ap suc h.0, h.1)
    go (inr h) = inr h

module _ (M : Machine) (L : Laws M) where
  open M use {Leftover, clean, Request}
  open L use {RequestOk, clean_ok}

  -- ---- a write
  slots_written : (T : Slots M) (i : ℕ) (s : SlotState Leftover Request) → SlotsOk M L T → SlotOk M L s
      → ((j id : ℕ) (r q : Request) → s ≡ HeldBy id r → slot_at clean T j ≡ HeldBy id q → j ≡ i)
      → SlotsOk M L (set T i s)
  slots_written T i s t f u =
      record {
        size = length-set T i s ∙ t.size;
        fits = λ j. fits' j (written_or_not (Vacant clean) T i j s);
        once = λ a b id r q x y. once' a b id r q x y (written_or_not (Vacant clean) T i a s) (written_or_not (Vacant clean) T i b s);
      }
    where
      fits' : (j : ℕ) → ((j ≡ i) × (slot_at clean (set T i s) j ≡ s)) ⊎ (slot_at clean (set T i s) j ≡ slot_at clean T j) → SlotOk M L (slot_at clean (set T i s) j)
      fits' j (inl h) = rw h.1 f
      fits' j (inr h) = rw h (t.fits j)

      once' : (a b id : ℕ) (r q : Request) → slot_at clean (set T i s) a ≡ HeldBy id r → slot_at clean (set T i s) b ≡ HeldBy id q
          → ((a ≡ i) × (slot_at clean (set T i s) a ≡ s)) ⊎ (slot_at clean (set T i s) a ≡ slot_at clean T a)
          → ((b ≡ i) × (slot_at clean (set T i s) b ≡ s)) ⊎ (slot_at clean (set T i s) b ≡ slot_at clean T b)
          → a ≡ b
      once' a b id r q x y (inl h) (inl g) = h.0 ∙ sym g.0
      once' a b id r q x y (inl h) (inr g) = h.0 ∙ sym (u b id r q (sym h.1 ∙ x) (sym g ∙ y))
      once' a b id r q x y (inr h) (inl g) = u a id q r (sym g.1 ∙ y) (sym h ∙ x) ∙ sym g.0
      once' a b id r q x y (inr h) (inr g) = t.once a b id r q (sym h ∙ x) (sym g ∙ y)

  -- a request is put back into its slot
  pub slots_kept : (T : Slots M) (i id : ℕ) (r q : Request) → SlotsOk M L T → slot_at clean T i ≡ HeldBy id r → RequestOk q → SlotsOk M L (set T i (HeldBy id q))
  slots_kept T i id r q t e f =
      let h : SlotOk M L (HeldBy id r) = rw e at (t.fits i) in
      slots_written T i (HeldBy id q) t (h.0, f) (λ j id' r' q' x y. let z : id ≡ id' = cc in t.once j i id q' r (rw z y) e)

  pub slots_freed : (T : Slots M) (i : ℕ) → SlotsOk M L T → SlotsOk M L (set T i (Vacant clean))
  slots_freed T i t = slots_written T i (Vacant clean) t clean_ok (λ j id r q x y. cc)

  pub slots_opened : (T : Slots M) (i id : ℕ) (q : Request) → SlotsOk M L T → 0 < id → IsAbsent M L id T → RequestOk q → SlotsOk M L (set T i (HeldBy id q))
  slots_opened T i id q t z l f = slots_written T i (HeldBy id q) t (z, f) (λ j id' r' q' x y. let w : id ≡ id' = cc in absurd (l j q' (rw w y)))

  -- ---- ids that are not active
  -- such a write brings no request of that id
  pub absent_kept : (T : Slots M) (i : ℕ) (s : SlotState Leftover Request) (id : ℕ) → IsAbsent M L id T → ((r : Request) → s ≡ HeldBy id r → ⊥)
      → IsAbsent M L id (set T i s)
  absent_kept T i s id l n j r e = go (written_or_not (Vacant clean) T i j s)
    where
      go : ((j ≡ i) × (slot_at clean (set T i s) j ≡ s)) ⊎ (slot_at clean (set T i s) j ≡ slot_at clean T j) → ⊥
      go (inl h) = n r (sym h.1 ∙ e)
      go (inr h) = l j r (sym h ∙ e)

  absent_further : (o : Lookup Request) → lookup_further o ≡ Absent → o ≡ Absent
  unfolding lookup_further
  absent_further Absent e = refl
  absent_further (FoundAt i r) e = cc

  pub lookup_absent : (id : ℕ) (T : Slots M) → lookup id T ≡ Absent → IsAbsent M L id T
  unfolding lookup
  lookup_absent id [] e j r h = let z : ◌≡◌ {A = ℕ} 0 1 = cc in omega arith
  lookup_absent id (Vacant x ∷ T) e zero r h = let z : ◌≡◌ {A = ℕ} 0 1 = cc in omega arith
  lookup_absent id (Vacant x ∷ T) e (suc j) r h = lookup_absent id T (absent_further (lookup id T) e) j r h
  lookup_absent id (HeldBy k q ∷ T) e j r h = go (eqb k id) refl e j h (λ d i y. lookup_absent id T d i r y)
    where
      go : (o : Bool) → eqb k id ≡ o → (if o then FoundAt 0 q else lookup_further (lookup id T)) ≡ Absent → (i : ℕ) → slot_at clean (HeldBy k q ∷ T) i ≡ HeldBy id r
          → (lookup id T ≡ Absent → (i : ℕ) → slot_at clean T i ≡ HeldBy id r → ⊥) → ⊥
      go true o d i y f = let z : ◌≡◌ {A = ℕ} 0 1 = cc in omega arith
      go false o d zero y f = eqb-false k id o (cc)
      go false o d (suc i) y f = f (absent_further (lookup id T) d) i y

-- ---- the lowest free slot is free
module _ (M : Machine) where
  open M use {Leftover, clean, Request}

  abbrev pub VacancyThere : Slots M → Vacancy Leftover → Type 0
  VacancyThere T NoVacancy = Unit {0}
  VacancyThere T (VacancyAt i x) = slot_at clean T i ≡ Vacant x

  vacancy_there_further : (s : SlotState Leftover Request) (T : Slots M) (o : Vacancy Leftover) → VacancyThere T o → VacancyThere (s ∷ T) (vacancy_further o)
  unfolding vacancy_further
  vacancy_there_further s T NoVacancy h = tt
  vacancy_there_further s T (VacancyAt i x) h = h

  pub vacancy_there : (T : Slots M) → VacancyThere T (first_vacancy T)
  unfolding first_vacancy
  vacancy_there [] = tt
  vacancy_there (Vacant x ∷ T) = refl
  vacancy_there (HeldBy j r ∷ T) = vacancy_there_further (HeldBy j r) T (first_vacancy T) (vacancy_there T)

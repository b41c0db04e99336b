-- The slots of a connection: where an id stands, the lowest free slot, and what a write to one slot does to the
-- request of one id.
use Rattle.std.specs.Prelude.{◌≡◌, Bool, get_or, set, replicate, if◌then◌else◌}
use Rattle.std.proofs.Math.Path.{refl, ap, sym}
use Rattle.std.proofs.Common.{◌∙◌, arith, eqb-true, eq-eqb, ne_eqb}
use mathlib.Core.List.{List, [], ◌∷◌}
use Rattle.std.proofs.Math.Option.{Option, none, some}
use Rattle.std.proofs.Math.Bool.{true, false}
use Prim.Native.Nat.{ℕ, zero, suc}
use Rattle.std.proofs.Math.Dec.{eqb}
use Rattle.wire.specs.Test.{◌=?◌}

-- A slot is free and keeps what was left in it, or is held by an id with its request.
pub data SlotState (Leftover Request : Type 0) : Type 0 where
  Vacant : Leftover → SlotState Leftover Request
  HeldBy : ℕ → Request → SlotState Leftover Request

-- An id is in no slot, or in this one with its request.
pub data Lookup (Request : Type 0) : Type 0 where
  Absent : Lookup Request
  FoundAt : ℕ → Request → Lookup Request

-- No slot is free, or this one is, with what was left in it.
pub data Vacancy (Leftover : Type 0) : Type 0 where
  NoVacancy : Vacancy Leftover
  VacancyAt : ℕ → Leftover → Vacancy Leftover

-- found in the slots after the first: the numbers are one more
unfoldable pub lookup_further : {Request : Type 0} → Lookup Request → Lookup Request
lookup_further Absent = Absent
lookup_further (FoundAt i r) = FoundAt (suc i) r

-- free among the slots after the first
unfoldable pub vacancy_further : {Leftover : Type 0} → Vacancy Leftover → Vacancy Leftover
vacancy_further NoVacancy = NoVacancy
vacancy_further (VacancyAt i x) = VacancyAt (suc i) x

module _ {Leftover Request : Type 0} where
  -- the first slot that the id holds
  unfoldable pub lookup : ℕ → List (SlotState Leftover Request) → Lookup Request
  lookup id [] = Absent
  lookup id (Vacant x ∷ T) = lookup_further (lookup id T)
  lookup id (HeldBy j r ∷ T) = if j =? id then FoundAt 0 r else lookup_further (lookup id T)

  -- the lowest-numbered free slot
  unfoldable pub first_vacancy : List (SlotState Leftover Request) → Vacancy Leftover
  first_vacancy [] = NoVacancy
  first_vacancy (Vacant x ∷ T) = VacancyAt 0 x
  first_vacancy (HeldBy j r ∷ T) = vacancy_further (first_vacancy T)

-- clean: what a slot keeps that was never used or was given back
module _ {Leftover Request : Type 0} (clean : Leftover) where
  -- slot i; a slot beyond the last is free and clean
  abbrev pub slot_at : List (SlotState Leftover Request) → ℕ → SlotState Leftover Request
  slot_at T i = get_or T i (Vacant clean)

  -- the slot is free and clean, or another id than R holds it
  abbrev pub OfOthers : ℕ → SlotState Leftover Request → Type 0
  OfOthers R (Vacant x) = x ≡ clean
  OfOthers R (HeldBy j r) = j ≡ R → ⊥

  -- What the slots contain of R, which holds one of them at the most. All free slots are clean.
  pub data Contains (R : ℕ) : List (SlotState Leftover Request) → Option Request → Type 0 where
    ContainsEnd : Contains R [] none
    ContainsVacant : {T : List (SlotState Leftover Request)} {v : Option Request} {x : Leftover} → x ≡ clean → Contains R T v → Contains R (Vacant x ∷ T) v
    ContainsOther : {T : List (SlotState Leftover Request)} {v : Option Request} {j : ℕ} {r : Request} → (j ≡ R → ⊥) → Contains R T v → Contains R (HeldBy j r ∷ T) v
    ContainsOwn : {T : List (SlotState Leftover Request)} {r : Request} → Contains R T none → Contains R (HeldBy R r ∷ T) (some r)

  -- what the slots do not contain is not found
  pub contains_absent : {R : ℕ} {T : List (SlotState Leftover Request)} → Contains R T none → lookup R T ≡ Absent
  unfolding lookup lookup_further
  contains_absent ContainsEnd = refl
  contains_absent (ContainsVacant x s) = ap lookup_further (contains_absent s)
  contains_absent {R} (ContainsOther {j = j} n s) = rw (ne_eqb j R n, contains_absent s)

  -- The slot that R holds, and what the slots contain of R when it is written to.
  pub record OwnSlot (R : ℕ) (T : List (SlotState Leftover Request)) (r : Request) : Type 0 where
    pub index : ℕ
    pub is_found_lem : lookup R T ≡ FoundAt index r
    pub is_there : slot_at T index ≡ HeldBy R r
    pub rewritten : (q : Request) → Contains R (set T index (HeldBy R q)) (some q)
    pub found_again : (q : Request) → lookup R (set T index (HeldBy R q)) ≡ FoundAt index q
    pub vacated : Contains R (set T index (Vacant clean)) none

  pub own_slot : {R : ℕ} {T : List (SlotState Leftover Request)} {r : Request} → Contains R T (some r) → OwnSlot R T r
  unfolding lookup lookup_further
  own_slot (ContainsVacant x s) = let p = own_slot s in record {
    index = suc p.index;
    is_found_lem = ap lookup_further p.is_found_lem;
    is_there = p.is_there;
    rewritten = λ q. ContainsVacant x (p.rewritten q);
    found_again = λ q. ap lookup_further (p.found_again q);
    vacated = ContainsVacant x p.vacated;
  }
  own_slot {R} (ContainsOther {j = j} n s) = let p = own_slot s in record {
    index = suc p.index;
    is_found_lem = rw (ne_eqb j R n) (ap lookup_further p.is_found_lem);
    is_there = p.is_there;
    rewritten = λ q. ContainsOther n (p.rewritten q);
    found_again = λ q. rw (ne_eqb j R n) (ap lookup_further (p.found_again q));
    vacated = ContainsOther n p.vacated;
  }
  own_slot {R} (ContainsOwn s) = record {
    index = 0;
    is_found_lem = rw (eq-eqb R R refl);
    is_there = refl;
    rewritten = λ q. ContainsOwn s;
    found_again = λ q. rw (eq-eqb R R refl);
    vacated = ContainsVacant refl s;
  }

  -- the slot that was found is held by the id
  abbrev pub LookupRight : ℕ → List (SlotState Leftover Request) → Lookup Request → Type 0
  LookupRight k T Absent = Unit {0}
  LookupRight k T (FoundAt i r) = slot_at T i ≡ HeldBy k r

  lookup_right_further : (k : ℕ) (x : SlotState Leftover Request) (T : List (SlotState Leftover Request)) (o : Lookup Request) → LookupRight k T o
      → LookupRight k (x ∷ T) (lookup_further o)
  unfolding lookup_further
  lookup_right_further k x T Absent h = tt
  lookup_right_further k x T (FoundAt i r) h = h

  pub lookup_right : (k : ℕ) (T : List (SlotState Leftover Request)) → LookupRight k T (lookup k T)
  unfolding lookup
  lookup_right k [] = tt
  lookup_right k (Vacant x ∷ T) = lookup_right_further k (Vacant x) T (lookup k T) (lookup_right k T)
  lookup_right k (HeldBy j r ∷ T) = go (eqb j k) refl (lookup_right_further k (HeldBy j r) T (lookup k T) (lookup_right k T))
    where
      go : (b : Bool) → eqb j k ≡ b → LookupRight k (HeldBy j r ∷ T) (lookup_further (lookup k T))
          → LookupRight k (HeldBy j r ∷ T) (if b then FoundAt 0 r else lookup_further (lookup k T))
      go true e h = ap (λ n. HeldBy n r) (eqb-true j k e)
      go false e h = h

  -- what is written for others into a slot of others changes nothing of R
  contains_cons : {R : ℕ} {T : List (SlotState Leftover Request)} {v : Option Request} (s : SlotState Leftover Request) → OfOthers R s → Contains R T v
      → Contains R (s ∷ T) v
  contains_cons (Vacant x) g h = ContainsVacant g h
  contains_cons (HeldBy j r) g h = ContainsOther g h

  pub contains_set : {R : ℕ} {T : List (SlotState Leftover Request)} {v : Option Request} (i : ℕ) (s : SlotState Leftover Request) → OfOthers R (slot_at T i)
      → OfOthers R s → Contains R T v
      → Contains R (set T i s) v
  contains_set i s f g ContainsEnd = ContainsEnd
  contains_set zero s f g (ContainsVacant x h) = contains_cons s g h
  contains_set (suc i) s f g (ContainsVacant x h) = ContainsVacant x (contains_set i s f g h)
  contains_set zero s f g (ContainsOther n h) = contains_cons s g h
  contains_set (suc i) s f g (ContainsOther n h) = ContainsOther n (contains_set i s f g h)
  contains_set zero s f g (ContainsOwn h) = absurd (f refl)
  contains_set (suc i) s f g (ContainsOwn h) = ContainsOwn (contains_set i s f g h)

  lookup_cons : (R : ℕ) (s : SlotState Leftover Request) (T : List (SlotState Leftover Request)) → OfOthers R s → lookup R (s ∷ T) ≡ lookup_further (lookup R T)
  unfolding lookup
  lookup_cons R (Vacant x) T g = refl
  lookup_cons R (HeldBy j r) T g = rw (ne_eqb j R g)

  pub lookup_set : (R : ℕ) (T : List (SlotState Leftover Request)) (i : ℕ) (s : SlotState Leftover Request) → OfOthers R (slot_at T i) → OfOthers R s
      → lookup R (set T i s) ≡ lookup R T
  unfolding lookup
  lookup_set R [] i s f g = refl
  lookup_set R (x ∷ T) zero s f g = lookup_cons R s T g ∙ sym (lookup_cons R x T f)
  lookup_set R (Vacant x ∷ T) (suc i) s f g = ap lookup_further (lookup_set R T i s f g)
  lookup_set R (HeldBy j r ∷ T) (suc i) s f g = ap (λ o. if eqb j R then FoundAt 0 r else lookup_further o) (lookup_set R T i s f g)

  -- the lowest free slot is free, and clean
  abbrev pub VacancyClean : List (SlotState Leftover Request) → Vacancy Leftover → Type 0
  VacancyClean T NoVacancy = Unit {0}
  VacancyClean T (VacancyAt i x) = (slot_at T i ≡ Vacant x) × (x ≡ clean)

  vacancy_clean_further : (s : SlotState Leftover Request) (T : List (SlotState Leftover Request)) (o : Vacancy Leftover) → VacancyClean T o
      → VacancyClean (s ∷ T) (vacancy_further o)
  unfolding vacancy_further
  vacancy_clean_further s T NoVacancy h = tt
  vacancy_clean_further s T (VacancyAt i x) h = h

  pub vacancy_clean : {R : ℕ} {T : List (SlotState Leftover Request)} {v : Option Request} → Contains R T v → VacancyClean T (first_vacancy T)
  unfolding first_vacancy
  vacancy_clean ContainsEnd = tt
  vacancy_clean (ContainsVacant x s) = (refl, x)
  vacancy_clean (ContainsOther {T = T} {j = j} {r = r} n s) = vacancy_clean_further (HeldBy j r) T (first_vacancy T) (vacancy_clean s)
  vacancy_clean {R} (ContainsOwn {T = T} {r = r} s) = vacancy_clean_further (HeldBy R r) T (first_vacancy T) (vacancy_clean s)

  -- a new request of R fits there
  abbrev pub VacancyOpens : ℕ → List (SlotState Leftover Request) → Vacancy Leftover → Type 0
  VacancyOpens R T NoVacancy = Unit {0}
  VacancyOpens R T (VacancyAt i x) = (x ≡ clean) × ((q : Request) → Contains R (set T i (HeldBy R q)) (some q))

  vacancy_opens_further : (R j : ℕ) (r : Request) (T : List (SlotState Leftover Request)) (o : Vacancy Leftover) → (j ≡ R → ⊥) → VacancyOpens R T o
      → VacancyOpens R (HeldBy j r ∷ T) (vacancy_further o)
  unfolding vacancy_further
  vacancy_opens_further R j r T NoVacancy n h = tt
  vacancy_opens_further R j r T (VacancyAt i x) n h = (h.0, λ q. ContainsOther n (h.1 q))

  pub vacancy_opens : {R : ℕ} {T : List (SlotState Leftover Request)} → Contains R T none → VacancyOpens R T (first_vacancy T)
  unfolding first_vacancy
  vacancy_opens ContainsEnd = tt
  vacancy_opens (ContainsVacant x s) = (x, λ q. ContainsOwn s)
  vacancy_opens {R} (ContainsOther {T = T} {j = j} {r = r} n s) = vacancy_opens_further R j r T (first_vacancy T) n (vacancy_opens s)

  -- slots that are all free contain nothing of R
  pub contains_none : (R n : ℕ) → Contains R (replicate n (Vacant clean)) none
  contains_none R zero = ContainsEnd
  contains_none R (suc n) = ContainsVacant refl (contains_none R n)

  -- a slot of others stays one, whatever others write, and whatever is written into the slot that R holds
  pub others_set : (R : ℕ) (T : List (SlotState Leftover Request)) (i j : ℕ) (s : SlotState Leftover Request) → OfOthers R s → OfOthers R (slot_at T j)
      → OfOthers R (slot_at (set T i s) j)
  others_set R [] i j s g f = f
  others_set R (x ∷ T) zero zero s g f = g
  others_set R (x ∷ T) zero (suc j) s g f = f
  others_set R (x ∷ T) (suc i) zero s g f = f
  others_set R (x ∷ T) (suc i) (suc j) s g f = others_set R T i j s g f

  pub others_not_own : (R : ℕ) (r : Request) (s : SlotState Leftover Request) → s ≡ HeldBy R r → OfOthers R s → ⊥
  others_not_own R r (Vacant x) e f = let z : ◌≡◌ {A = ℕ} 0 1 = cc in omega arith
  others_not_own R r (HeldBy j q) e f = f (cc)

  pub others_kept : (R : ℕ) (T : List (SlotState Leftover Request)) (i j : ℕ) (r : Request) (s : SlotState Leftover Request) → slot_at T i ≡ HeldBy R r
      → OfOthers R (slot_at T j)
      → OfOthers R (slot_at (set T i s) j)
  others_kept R [] i j r s e f = f
  others_kept R (x ∷ T) zero zero r s e f = absurd (others_not_own R r x e f)
  others_kept R (x ∷ T) zero (suc j) r s e f = f
  others_kept R (x ∷ T) (suc i) zero r s e f = f
  others_kept R (x ∷ T) (suc i) (suc j) r s e f = others_kept R T i j r s e f

  -- a slot that is held takes what is written into it
  pub slot_written : (T : List (SlotState Leftover Request)) (i id : ℕ) (r : Request) (s : SlotState Leftover Request) → slot_at T i ≡ HeldBy id r
      → slot_at (set T i s) i ≡ s
  slot_written [] i id r s e = cc
  slot_written (y ∷ T) zero id r s e = refl
  slot_written (y ∷ T) (suc i) id r s e = slot_written T i id r s e

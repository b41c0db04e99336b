-- What holds of names compared.
use Rattle.std.specs.Prelude.{◌≡◌, refl, ℕ, suc, ◌+◌, ◌<◌, ◌≤◌, true, false, List, [], ◌∷◌, length, drop, if◌then◌else◌}
use Rattle.std.proofs.Common.{ap, ap₂, arith, add-one, zero-add, add-zero, drop_of_length-le, drop-cons, eqb-true, eq-eqb, ne_eqb}
use Rattle.wire.specs.declared.Compared.{Compared}
use Rattle.wire.specs.Test.{◌=?◌, by_test}
use Rattle.wire.specs.Buffer.{byte_at}
use Rattle.wire.specs.Compare.{same_bytes, places_up_to, compared}

-- names that test the same are equal
pub same_is : (a b : List ℕ) → same_bytes a b ≡ true → a ≡ b
unfolding same_bytes
same_is [] [] h = refl
same_is [] (y ∷ ys) h = let z : ◌≡◌ {A = ℕ} 0 1 = cc in absurd (omega arith)
same_is (x ∷ xs) [] h = let z : ◌≡◌ {A = ℕ} 0 1 = cc in absurd (omega arith)
same_is (x ∷ xs) (y ∷ ys) h =
    by_test (x =? y)
    (λ t. ap₂ (λ (b : ℕ) (l : List ℕ). b ∷ l) (eqb-true x y t) (same_is xs ys (simp t at h)))
    (λ t. let z : ◌≡◌ {A = ℕ} 0 1 = cc (simp t at h) in absurd (omega arith))

-- equal names test the same
pub same_refl : (a : List ℕ) → same_bytes a a ≡ true
unfolding same_bytes
same_refl [] = refl
same_refl (x ∷ xs) = simp (eq-eqb x x refl) (same_refl xs)

-- names of two lengths are not the same
pub same_long : (a b : List ℕ) → (length a ≡ length b → ⊥) → same_bytes a b ≡ false
unfolding same_bytes
same_long [] [] h = absurd (h refl)
same_long [] (y ∷ ys) h = refl
same_long (x ∷ xs) [] h = refl
same_long (x ∷ xs) (y ∷ ys) h = by_test (x =? y) (λ t. simp t (same_long xs ys (λ e. h (ap suc e)))) (λ t. simp t)

-- a turn of the comparison from place i on
pub same_step : (a b : List ℕ) (i : ℕ) → i < length a → i < length b
    → same_bytes (drop i a) (drop i b) ≡ (if byte_at a i =? byte_at b i then same_bytes (drop (i + 1) a) (drop (i + 1) b) else false)
unfolding same_bytes
same_step a b i ha hb = rw (drop-cons a i 0, drop-cons b i 0, add-one)

-- the end of the comparison
pub same_end : (a b : List ℕ) (i : ℕ) → length a ≤ i → length b ≤ i → same_bytes (drop i a) (drop i b) ≡ true
unfolding same_bytes
same_end a b i ha hb = rw (drop_of_length-le a ha, drop_of_length-le b hb)

-- ---- a comparison
-- names of two lengths: no place is compared
pub compared_long : (a b : List ℕ) → (length a ≡ length b → ⊥) → compared a b ≡ record { equal = false; places = 0 }
unfolding compared
compared_long a b h = simp (same_long a b h, ne_eqb (length a) (length b) h)

-- the comparison from place i on
abbrev pub compared_from : List ℕ → List ℕ → ℕ → Compared
compared_from a b i = record { equal = same_bytes (drop i a) (drop i b); places = i + places_up_to (drop i a) (drop i b) }

pub compared_start : (a b : List ℕ) → length a ≡ length b → compared a b ≡ compared_from a b 0
unfolding compared
compared_start a b h = simp (eq-eqb (length a) (length b) h, zero-add (places_up_to a b))

places_step : (a b : List ℕ) (i : ℕ) → i < length a → i < length b
    → places_up_to (drop i a) (drop i b) ≡ (if byte_at a i =? byte_at b i then suc (places_up_to (drop (i + 1) a) (drop (i + 1) b)) else 1)
unfolding places_up_to
places_step a b i ha hb = rw (drop-cons a i 0, drop-cons b i 0, add-one)

places_end : (a b : List ℕ) (i : ℕ) → length a ≤ i → places_up_to (drop i a) (drop i b) ≡ 0
unfolding places_up_to
places_end a b i ha = rw (drop_of_length-le a ha)

-- a place that agrees, one that differs, and the end
pub compared_next : (a b : List ℕ) (i : ℕ) → i < length a → i < length b → byte_at a i ≡ byte_at b i → compared_from a b i ≡ compared_from a b (i + 1)
compared_next a b i ha hb h =
    let t = eq-eqb (byte_at a i) (byte_at b i) h in
    let n : i + suc (places_up_to (drop (i + 1) a) (drop (i + 1) b)) ≡ i + 1 + places_up_to (drop (i + 1) a) (drop (i + 1) b) = omega arith in
    simp (same_step a b i ha hb, places_step a b i ha hb, t, n)

pub compared_differs : (a b : List ℕ) (i : ℕ) → i < length a → i < length b → (byte_at a i ≡ byte_at b i → ⊥)
    → compared_from a b i ≡ record { equal = false; places = i + 1 }
compared_differs a b i ha hb h = simp (same_step a b i ha hb, places_step a b i ha hb, ne_eqb (byte_at a i) (byte_at b i) h)

pub compared_end : (a b : List ℕ) (i : ℕ) → length a ≤ i → length b ≤ i → compared_from a b i ≡ record { equal = true; places = i }
compared_end a b i ha hb = simp (same_end a b i ha hb, places_end a b i ha, add-zero i)

-- Of equal names all places are compared.
all_places : (a b : List ℕ) → same_bytes a b ≡ true → places_up_to a b ≡ length a
unfolding same_bytes places_up_to
all_places [] b h = refl
all_places (x ∷ xs) [] h = let z : ◌≡◌ {A = ℕ} 0 1 = cc in absurd (omega arith)
all_places (x ∷ xs) (y ∷ ys) h =
    by_test (x =? y)
    (λ t. simp t (ap suc (all_places xs ys (simp t at h))))
    (λ t. let z : ◌≡◌ {A = ℕ} 0 1 = cc (simp t at h) in absurd (omega arith))

pub equal_all : (a b : List ℕ) → same_bytes a b ≡ true → (compared a b).places ≡ length a
unfolding compared
equal_all a b h = simp (eq-eqb (length a) (length b) (ap length (same_is a b h))) (all_places a b h)

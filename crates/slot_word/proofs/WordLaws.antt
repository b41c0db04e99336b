-- What holds of a word that has a bit for each slot: that of occupancy, and those of the marks.
use Rattle.std.specs.Prelude.{◌≡◌, refl, ℕ, zero, suc, ◌+◌, ◌-◌, ◌*◌, ◌/◌, ◌%◌, ◌^◌, ◌≤◌, ◌<◌, Bool, true, false, ltb, eqb, if◌then◌else◌}
use Rattle.std.proofs.Common.{sym, ap, ap₂, ◌∙◌, arith, pow-suc, le_of_suc-le-suc, mod-eq_of_lt, div-one, mul_comm, pow_pos, lt-ltb, le-ltb, ltb-true, ltb-false, eq-eqb, eqb-true}
use Rattle.std.proofs.Math.Nat.{div-div-eq-div-mul}
use Rattle.std.proofs.Math.Pow.{pow-lt}
use Rattle.std.specs.Int.Count.{ones, count_trailing_zeros, under, ones_step}
use Rattle.std.specs.Int.Bits.{bit_or, bit_and, or_step, and_step, or_zero_r}
use Rattle.std.proofs.lemmas.Nat.{and_mask}
use Rattle.std.proofs.lemmas.Bool.{eqb-false}
use Rattle.slot_word.specs.Word.{taken, lowest_free, taken_count, with_bit, without_bit, with_slot, without_slot, marked}
use Rattle.wire.specs.Test.{by_test}

-- a digit is 0 or 1: a statement of a number's lowest digit, by its two cases
pub digit : (P : ℕ → Type 0) (n : ℕ) → (n % 2 ≡ 0 → P 0) → (n % 2 ≡ 1 → P 1) → P (n % 2)
digit P n z o = go (n % 2) refl (omega arith)
  where
    go : (d : ℕ) → n % 2 ≡ d → d < 2 → P d
    go zero e h = z e
    go (suc zero) e h = o e
    go (suc (suc d)) e h = absurd (omega arith)

-- ---- lowest free: the code's count of trailing zeros of the complement
pub trailing_clear : (k o : ℕ) → o < 2 ^ k → count_trailing_zeros k (2 ^ k - 1 - o) ≡ lowest_free k o
unfolding count_trailing_zeros lowest_free
trailing_clear zero o h = refl
trailing_clear (suc k) o h =
    let half : (2 ^ suc k - 1 - o) / 2 ≡ 2 ^ k - 1 - o / 2 = omega (arith, pow-suc 2 k) in
    let low : (2 ^ suc k - 1 - o) % 2 ≡ 1 - o % 2 = omega (arith, pow-suc 2 k) in
    let ih : count_trailing_zeros k (2 ^ k - 1 - o / 2) ≡ lowest_free k (o / 2) = trailing_clear k (o / 2) (omega (arith, pow-suc 2 k)) in
    rw (half, low, ih)
    (digit (λ (d : ℕ). under (1 - d) (lowest_free k (o / 2)) ≡ if◌then◌else◌ (eqb d 1) (suc (lowest_free k (o / 2))) 0) o (λ _. refl) (λ _. refl))

-- the slot found is free, and every lower one is taken
pub least_free : (k o : ℕ) → lowest_free k o < k → taken (lowest_free k o) o ≡ false
unfolding lowest_free taken
least_free zero o h = absurd (omega arith)
least_free (suc k) o h =
    by_test (eqb (o % 2) 1)
    (λ e. simp e (least_free k (o / 2) (le_of_suc-le-suc (simp e at h))))
    (λ e. simp e)

pub least_below : (k o j : ℕ) → j < lowest_free k o → taken j o ≡ true
unfolding lowest_free taken
least_below zero o j h = absurd (omega arith)
least_below (suc k) o zero h = by_test (eqb (o % 2) 1) (λ e. e) (λ e. absurd (omega (arith, simp e at h)))
least_below (suc k) o (suc j) h =
    by_test (eqb (o % 2) 1)
    (λ e. least_below k (o / 2) j (le_of_suc-le-suc (simp e at h)))
    (λ e. absurd (omega (arith, simp e at h)))

-- ---- count
pub ones_taken : (k o : ℕ) → o < 2 ^ k → ones o ≡ taken_count k o
unfolding taken_count ones
ones_taken zero o h = let z : o ≡ 0 = omega arith in rw z
ones_taken (suc k) o h =
    let ih : ones (o / 2) ≡ taken_count k (o / 2) = ones_taken k (o / 2) (omega (arith, pow-suc 2 k)) in
    ones_step o ∙ ap₂ (λ (a b : ℕ). a + b) (digit (λ (d : ℕ). d ≡ if◌then◌else◌ (eqb d 1) 1 0) o (λ _. refl) (λ _. refl)) ih

-- ---- setting and clearing: the code's words
pub or_bit : (i o : ℕ) → bit_or o (2 ^ i) ≡ with_bit i o
unfolding with_bit
or_bit zero o = or_step o 1 ∙ ap₂ (λ (a b : ℕ). a * 2 + b) (or_zero_r (o / 2)) (omega arith)
or_bit (suc i) o =
    let half : 2 ^ suc i / 2 ≡ 2 ^ i = omega (arith, pow-suc 2 i) in
    let low : 2 ^ suc i % 2 ≡ 0 = omega (arith, pow-suc 2 i) in
    or_step o (2 ^ suc i) ∙ ap₂ (λ (a b : ℕ). a * 2 + b) (ap (bit_or (o / 2)) half ∙ or_bit i (o / 2)) (omega arith)

pub and_bit : (k i o : ℕ) → i < k → o < 2 ^ k → bit_and o (2 ^ k - 1 - 2 ^ i) ≡ without_bit i o
unfolding without_bit
and_bit zero i o hi h = absurd (omega arith)
and_bit (suc k) zero o hi h =
    let half : (2 ^ suc k - 1 - 1) / 2 ≡ 2 ^ k - 1 = omega (arith, pow-suc 2 k, pow_pos k) in
    let low : (2 ^ suc k - 1 - 1) % 2 ≡ 0 = omega (arith, pow-suc 2 k, pow_pos k) in
    let high : bit_and (o / 2) ((2 ^ suc k - 1 - 1) / 2) ≡ o / 2 = ap (bit_and (o / 2)) half ∙ and_mask (o / 2) k ∙ mod-eq_of_lt (omega (arith, pow-suc 2 k)) in
    and_step o (2 ^ suc k - 1 - 1) ∙ omega (arith, high)
and_bit (suc k) (suc i) o hi h =
    let less : 2 ^ i < 2 ^ k = pow-lt (le_of_suc-le-suc hi) in
    let half : (2 ^ suc k - 1 - 2 ^ suc i) / 2 ≡ 2 ^ k - 1 - 2 ^ i = omega (arith, pow-suc 2 k, pow-suc 2 i) in
    let low : (2 ^ suc k - 1 - 2 ^ suc i) % 2 ≡ 1 = omega (arith, pow-suc 2 k, pow-suc 2 i) in
    and_step o (2 ^ suc k - 1 - 2 ^ suc i) ∙ ap₂ (λ (a b : ℕ). a * 2 + b) (ap (bit_and (o / 2)) half ∙ and_bit k i (o / 2) (le_of_suc-le-suc hi) (omega (arith, pow-suc 2 k))) (omega arith)

-- ---- laws of a slot
pub with_taken_lem : (i o : ℕ) → taken i (with_bit i o) ≡ true
unfolding taken with_bit
with_taken_lem zero o = eq-eqb ((o / 2 * 2 + 1) % 2) 1 (omega arith)
with_taken_lem (suc i) o = let half : (with_bit i (o / 2) * 2 + o % 2) / 2 ≡ with_bit i (o / 2) = omega arith in rw half (with_taken_lem i (o / 2))

pub with_other : (i j o : ℕ) → (j ≡ i → ⊥) → taken j (with_bit i o) ≡ taken j o
unfolding taken with_bit
with_other zero zero o h = absurd (h refl)
with_other zero (suc j) o h = let half : (o / 2 * 2 + 1) / 2 ≡ o / 2 = omega arith in rw half
with_other (suc i) zero o h = let low : (with_bit i (o / 2) * 2 + o % 2) % 2 ≡ o % 2 = omega arith in rw low
with_other (suc i) (suc j) o h =
    let half : (with_bit i (o / 2) * 2 + o % 2) / 2 ≡ with_bit i (o / 2) = omega arith in
    rw half (with_other i j (o / 2) (λ e. h (ap suc e)))

pub without_free : (i o : ℕ) → taken i (without_bit i o) ≡ false
unfolding taken without_bit
without_free zero o = let low : o / 2 * 2 % 2 ≡ 0 = omega arith in rw low
without_free (suc i) o = let half : (without_bit i (o / 2) * 2 + o % 2) / 2 ≡ without_bit i (o / 2) = omega arith in rw half (without_free i (o / 2))

pub without_other : (i j o : ℕ) → (j ≡ i → ⊥) → taken j (without_bit i o) ≡ taken j o
unfolding taken without_bit
without_other zero zero o h = absurd (h refl)
without_other zero (suc j) o h = let half : o / 2 * 2 / 2 ≡ o / 2 = omega arith in rw half
without_other (suc i) zero o h = let low : (without_bit i (o / 2) * 2 + o % 2) % 2 ≡ o % 2 = omega arith in rw low
without_other (suc i) (suc j) o h =
    let half : (without_bit i (o / 2) * 2 + o % 2) / 2 ≡ without_bit i (o / 2) = omega arith in
    rw half (without_other i j (o / 2) (λ e. h (ap suc e)))

pub with_lt : (k i o : ℕ) → i < k → o < 2 ^ k → with_bit i o < 2 ^ k
unfolding with_bit
with_lt zero i o hi h = absurd (omega arith)
with_lt (suc k) zero o hi h = omega (arith, pow-suc 2 k)
with_lt (suc k) (suc i) o hi h = omega (arith, pow-suc 2 k, with_lt k i (o / 2) (le_of_suc-le-suc hi) (omega (arith, pow-suc 2 k)))

pub without_lt : (k i o : ℕ) → i < k → o < 2 ^ k → without_bit i o < 2 ^ k
unfolding without_bit
without_lt zero i o hi h = absurd (omega arith)
without_lt (suc k) zero o hi h = omega (arith, pow-suc 2 k)
without_lt (suc k) (suc i) o hi h = omega (arith, pow-suc 2 k, without_lt k i (o / 2) (le_of_suc-le-suc hi) (omega (arith, pow-suc 2 k)))

-- a slot taken is one more, a slot freed one less
pub count_with : (k i o : ℕ) → i < k → taken i o ≡ false → taken_count k (with_bit i o) ≡ suc (taken_count k o)
unfolding taken with_bit taken_count
count_with zero i o hi h = absurd (omega arith)
count_with (suc k) zero o hi h =
    let half : (o / 2 * 2 + 1) / 2 ≡ o / 2 = omega arith in
    let low : (o / 2 * 2 + 1) % 2 ≡ 1 = omega arith in
    simp (half, low, h) (omega arith)
count_with (suc k) (suc i) o hi h =
    let half : (with_bit i (o / 2) * 2 + o % 2) / 2 ≡ with_bit i (o / 2) = omega arith in
    let low : (with_bit i (o / 2) * 2 + o % 2) % 2 ≡ o % 2 = omega arith in
    rw (half, low) (omega (arith, count_with k i (o / 2) (le_of_suc-le-suc hi) h))

-- the test, as arithmetic
pub taken_is : (i o : ℕ) → taken i o ≡ eqb (o / 2 ^ i % 2) 1
unfolding taken
taken_is zero o = rw (div-one o)
taken_is (suc i) o = taken_is i (o / 2) ∙ ap (λ (n : ℕ). eqb (n % 2) 1) (div-div-eq-div-mul o 2 (2 ^ i) ∙ ap (λ (n : ℕ). o / n) (mul_comm 2 (2 ^ i) ∙ sym (pow-suc 2 i)))

-- a number of k bits has none from k on
pub taken_out : (k i o : ℕ) → o < 2 ^ k → k ≤ i → taken i o ≡ false
unfolding taken
taken_out zero zero o h l = let z : o ≡ 0 = omega arith in rw z
taken_out zero (suc i) o h l = taken_out zero i (o / 2) (omega arith) (omega arith)
taken_out (suc k) zero o h l = absurd (omega arith)
taken_out (suc k) (suc i) o h l = taken_out k i (o / 2) (omega (arith, pow-suc 2 k)) (le_of_suc-le-suc l)

-- ---- the mark of a slot
-- a bit set where it is 1, or cleared where it is 0, changes nothing
with_same : (i o : ℕ) → taken i o ≡ true → with_bit i o ≡ o
unfolding taken with_bit
with_same zero o h = omega (arith, eqb-true (o % 2) 1 h)
with_same (suc i) o h = omega (arith, with_same i (o / 2) h)

without_same : (i o : ℕ) → taken i o ≡ false → without_bit i o ≡ o
unfolding taken without_bit
without_same zero o h = omega (arith, eqb-false (o % 2) 1 h)
without_same (suc i) o h = omega (arith, without_same i (o / 2) h)

-- bit i, set or cleared
abbrev bit_as : ℕ → Bool → ℕ → ℕ
bit_as i b o = if b then with_bit i o else without_bit i o

bit_low : (b : Bool) (o : ℕ) → bit_as 0 b o / 2 ≡ o / 2
unfolding with_bit without_bit
bit_low true o = omega arith
bit_low false o = omega arith

bit_first : (b : Bool) (o p : ℕ) → o / 2 ≡ p / 2 → bit_as 0 b o ≡ bit_as 0 b p
unfolding with_bit without_bit
bit_first true o p e = omega arith
bit_first false o p e = omega arith

bit_next : (i : ℕ) (b : Bool) (o : ℕ) → bit_as (suc i) b o ≡ bit_as i b (o / 2) * 2 + o % 2
unfolding with_bit without_bit
bit_next i true o = refl
bit_next i false o = refl

-- of two the last counts
bit_twice : (i : ℕ) (b c : Bool) (o : ℕ) → bit_as i c (bit_as i b o) ≡ bit_as i c o
bit_twice zero b c o = bit_first c (bit_as 0 b o) o (bit_low b o)
bit_twice (suc i) b c o =
    let n = bit_as i b (o / 2) * 2 + o % 2 in
    let half : n / 2 ≡ bit_as i b (o / 2) = omega arith in
    let low : n % 2 ≡ o % 2 = omega arith in
    ap (bit_as (suc i) c) (bit_next i b o) ∙ bit_next i c n
    ∙ ap₂ (λ (a d : ℕ). a * 2 + d) (ap (bit_as i c) half ∙ bit_twice i b c (o / 2)) low ∙ sym (bit_next i c o)

-- of the 16 slots the mark is the bit; from 16 on there is none
mark_bit : (i : ℕ) (b : Bool) (o : ℕ) → i < 16 → marked i b o ≡ bit_as i b o
unfolding with_slot without_slot
mark_bit i true o h = simp (lt-ltb i 16 h)
mark_bit i false o h = simp (lt-ltb i 16 h)

pub mark_out : (i : ℕ) (b : Bool) (o : ℕ) → 16 ≤ i → marked i b o ≡ o
unfolding with_slot without_slot
mark_out i true o h = simp (le-ltb i 16 h)
mark_out i false o h = simp (le-ltb i 16 h)

-- by the two cases of a slot: one of the 16, or none
by_slot : (P : Type 0) (i : ℕ) → (i < 16 → P) → (16 ≤ i → P) → P
by_slot P i low high = by_test (ltb i 16) (λ e. low (ltb-true i 16 e)) (λ e. high (ltb-false i 16 e))

-- a mark put as it is changes nothing
pub mark_same : (i o : ℕ) → marked i (taken i o) o ≡ o
mark_same i o = by_slot (marked i (taken i o) o ≡ o) i
    (λ h. mark_bit i (taken i o) o h ∙ by_test (taken i o) (λ e. rw e (with_same i o e)) (λ e. rw e (without_same i o e)))
    (mark_out i (taken i o) o)

-- the mark put is read back
pub mark_read : (i : ℕ) (b : Bool) (o : ℕ) → i < 16 → taken i (marked i b o) ≡ b
mark_read i true o h = ap (taken i) (mark_bit i true o h) ∙ with_taken_lem i o
mark_read i false o h = ap (taken i) (mark_bit i false o h) ∙ without_free i o

-- another slot's mark stays
pub mark_other : (i j : ℕ) (b : Bool) (o : ℕ) → (j ≡ i → ⊥) → taken j (marked i b o) ≡ taken j o
mark_other i j b o h = by_slot (taken j (marked i b o) ≡ taken j o) i
    (λ l. ap (taken j) (mark_bit i b o l) ∙ go b)
    (λ l. ap (taken j) (mark_out i b o l))
  where
    go : (b : Bool) → taken j (bit_as i b o) ≡ taken j o
    go true = with_other i j o h
    go false = without_other i j o h

-- of two marks put the last one counts
pub mark_twice : (i : ℕ) (b c : Bool) (o : ℕ) → marked i c (marked i b o) ≡ marked i c o
mark_twice i b c o = by_slot (marked i c (marked i b o) ≡ marked i c o) i
    (λ h. ap (marked i c) (mark_bit i b o h) ∙ mark_bit i c (bit_as i b o) h ∙ bit_twice i b c o ∙ sym (mark_bit i c o h))
    (λ h. ap (marked i c) (mark_out i b o h))

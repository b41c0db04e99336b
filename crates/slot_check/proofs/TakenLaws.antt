-- What the word of occupancy tells the quick test: a slot's bit, from where on all slots are free, a single slot.
use Rattle.std.specs.Prelude.{ℕ, zero, suc, ◌+◌, ◌-◌, ◌*◌, ◌/◌, ◌%◌, ◌^◌, ◌<◌, ◌≡◌, refl, Bool, true, not, get_or, eqb, ltb}
use Rattle.std.proofs.Common.{sym, ap, ◌∙◌, arith, pow-suc, ltb-true, ltb-false, eqb-true, eq-eqb, ne_eqb}
use Rattle.std.specs.Int.Bits.{bit_and, and_step, and_self}
use Rattle.std.proofs.lemmas.Nat.{and_mask}
use Rattle.std.specs.Int.Count.{count_trailing_zeros, under}
use Rattle.std.proofs.lemmas.Bool.{eqb-false, not-false}
use Rattle.wire.specs.Test.{by_test}
use Rattle.slot_word.specs.Word.{taken}
use Rattle.slot_word.proofs.WordLaws.{digit, taken_out}
use Rattle.connection.specs.Sizes.{SLOTS}
use Rattle.slot_check.specs.Quick.{any_of, slot_bits, TakenBelow}
use Rattle.slot_check.proofs.QuickLaws.{none_of}

-- ---- a slot's bit
-- an entry of the table is not its power of 2: computed for all of them
amiss : ℕ → Bool
amiss i = not (eqb (get_or slot_bits i 0) (2 ^ i))

bit_is : (i : ℕ) → i < SLOTS → get_or slot_bits i 0 ≡ 2 ^ i
unfolding amiss any_of
bit_is i h =
    let right = none_of SLOTS amiss 0 refl i (omega arith) (omega arith) in
    eqb-true (get_or slot_bits i 0) (2 ^ i) (not-false (eqb (get_or slot_bits i 0) (2 ^ i)) right)

twice : (a b c : ℕ) → c ≡ b * 2 → eqb (a * 2) c ≡ eqb a b
twice a b c e =
    by_test (eqb a b)
    (λ t. let q = eqb-true a b t in eq-eqb (a * 2) c (omega arith) ∙ sym t)
    (λ t. let q = eqb-false a b t in ne_eqb (a * 2) c (λ z. q (omega arith)) ∙ sym t)

power_in : (i o : ℕ) → eqb (bit_and o (2 ^ i)) (2 ^ i) ≡ taken i o
unfolding taken
power_in zero o = ap (λ (n : ℕ). eqb n 1) (and_mask o 1)
power_in (suc i) o =
    let half : 2 ^ suc i / 2 ≡ 2 ^ i = omega (arith, pow-suc 2 i) in
    let low : 2 ^ suc i % 2 ≡ 0 = omega (arith, pow-suc 2 i) in
    let both : bit_and (o / 2) (2 ^ suc i / 2) ≡ bit_and (o / 2) (2 ^ i) = ap (bit_and (o / 2)) half in
    let all : bit_and o (2 ^ suc i) ≡ bit_and (o / 2) (2 ^ i) * 2 = and_step o (2 ^ suc i) ∙ omega arith in
    rw all (twice (bit_and (o / 2) (2 ^ i)) (2 ^ i) (2 ^ suc i) (pow-suc 2 i) ∙ power_in i (o / 2))

-- a slot is taken where its bit of the table is in the word
pub bit_in : (i o : ℕ) → i < SLOTS → eqb (bit_and o (get_or slot_bits i 0)) (get_or slot_bits i 0) ≡ taken i o
bit_in i o h = ap (λ (n : ℕ). eqb (bit_and o n) n) (bit_is i h) ∙ power_in i o

-- ---- the slots to look at
pub reach_below : (o : ℕ) → o < 65536 → TakenBelow o (8 + (o / 256 + 255) / 256 * 8)
reach_below o h =
    by_test (ltb o 256)
    (λ t. let l = ltb-true o 256 t in record { within = omega arith; free = λ i m. taken_out 8 i o l (omega arith) })
    (λ t. let l = ltb-false o 256 t in record { within = omega arith; free = λ i m. taken_out 16 i o h (omega arith) })

-- ---- a single slot
-- of a word that has no bit in common with the number before it: if it is odd, no slot but the first is taken
alone : (j o : ℕ) → bit_and o (o - 1) ≡ 0 → o % 2 ≡ 1 → taken j (o / 2) ≡ true → ⊥
alone j o a odd t =
    let half : (o - 1) / 2 ≡ o / 2 = omega arith in
    let both : bit_and (o / 2) ((o - 1) / 2) ≡ o / 2 = ap (bit_and (o / 2)) half ∙ and_self (o / 2) in
    let none = taken_out 0 j (o / 2) (omega (arith, and_step o (o - 1))) (omega arith) in
    let z : ◌≡◌ {A = ℕ} 0 1 = cc (none, t) in
    omega arith

-- if it is even, its half is such a word
halved : (o : ℕ) → bit_and o (o - 1) ≡ 0 → o % 2 ≡ 0 → bit_and (o / 2) (o / 2 - 1) ≡ 0
halved o a even =
    let half : (o - 1) / 2 ≡ o / 2 - 1 = omega arith in
    let both : bit_and (o / 2) ((o - 1) / 2) ≡ bit_and (o / 2) (o / 2 - 1) = ap (bit_and (o / 2)) half in
    omega (arith, and_step o (o - 1))

-- so it has no two slots taken
pub only_one : (i j o : ℕ) → bit_and o (o - 1) ≡ 0 → taken i o ≡ true → taken j o ≡ true → i ≡ j
unfolding taken
only_one zero zero o a s t = refl
only_one zero (suc j) o a s t = absurd (alone j o a (eqb-true (o % 2) 1 s) t)
only_one (suc i) zero o a s t = absurd (alone i o a (eqb-true (o % 2) 1 t) s)
only_one (suc i) (suc j) o a s t =
    by_test (eqb (o % 2) 1)
    (λ q. absurd (alone i o a (eqb-true (o % 2) 1 q) s))
    (λ q. let d = eqb-false (o % 2) 1 q in ap suc (only_one i j (o / 2) (halved o a (omega arith)) s t))

-- the lowest bit of a word that is not 0
pub lowest_taken : (k o : ℕ) → 0 < o → o < 2 ^ k → (count_trailing_zeros k o < k) × (taken (count_trailing_zeros k o) o ≡ true)
unfolding count_trailing_zeros taken
lowest_taken zero o some h = absurd (omega arith)
lowest_taken (suc k) o some h =
    let t = count_trailing_zeros k (o / 2) in
    digit (λ (d : ℕ). (under d t < suc k) × (taken (under d t) o ≡ true)) o
    (λ e. let ih = lowest_taken k (o / 2) (omega arith) (omega (arith, pow-suc 2 k)) in (omega arith, ih.1))
    (λ e. (omega arith, eq-eqb (o % 2) 1 e))

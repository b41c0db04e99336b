-- The bits of two words joined, of what two words have in common, and of a word's complement.
use Rattle.std.specs.Prelude.{◌≡◌, refl, Bool, true, false, not, ◌&&◌, ◌||◌}
use Rattle.std.proofs.Common.{sym, ◌∙◌, arith, pow-suc, le_of_suc-le-suc, pow_pos}
use Rattle.std.proofs.Math.Path.{ap}
use Prim.Native.Nat.{ℕ, zero, suc, ◌+◌, ◌-◌, ◌*◌, ◌/◌, ◌%◌, ◌^◌, ◌<◌, min, max}
use Rattle.std.proofs.Math.Bool.{and-false, and-true}
use Rattle.std.proofs.Math.Dec.{eqb}
use Rattle.std.specs.Int.Bits.{bit_or, bit_and, or_step, and_step}
use Rattle.std.proofs.lemmas.Nat.{and_le_r}
use Rattle.std.proofs.lemmas.Bool.{eqb-false}
use Rattle.slot_word.specs.Word.{taken}
use Rattle.slot_word.proofs.WordLaws.{digit, taken_out}
use Rattle.wire.specs.Test.{by_test}

-- an operation on words that goes digit by digit: its digit, and the digit's bit, are those of the operands
module _ (word digits : ℕ → ℕ → ℕ) (bits : Bool → Bool → Bool)
    (step : (a b : ℕ) → word a b ≡ word (a / 2) (b / 2) * 2 + digits (a % 2) (b % 2))
    (low : (a b : ℕ) → digits (a % 2) (b % 2) < 2)
    (bit : (a b : ℕ) → eqb (digits (a % 2) (b % 2)) 1 ≡ bits (eqb (a % 2) 1) (eqb (b % 2) 1)) where
  taken_op : (i a b : ℕ) → taken i (word a b) ≡ bits (taken i a) (taken i b)
  unfolding taken
  taken_op zero a b =
      let one : word a b % 2 ≡ digits (a % 2) (b % 2) = omega (arith, step a b, low a b) in
      ap (λ (n : ℕ). eqb n 1) one ∙ bit a b
  taken_op (suc i) a b =
      let half : word a b / 2 ≡ word (a / 2) (b / 2) = omega (arith, step a b, low a b) in
      ap (taken i) half ∙ taken_op i (a / 2) (b / 2)

-- a statement of two numbers' lowest digits, by its four cases
digits : (P : ℕ → ℕ → Type 0) (a b : ℕ) → P 0 0 → P 0 1 → P 1 0 → P 1 1 → P (a % 2) (b % 2)
digits P a b zz zo oz oo =
    digit (λ (d : ℕ). P d (b % 2)) a
    (λ _. digit (P 0) b (λ _. zz) (λ _. zo))
    (λ _. digit (P 1) b (λ _. oz) (λ _. oo))

-- a slot is taken in two words joined where it is in one of them
pub taken_or : (i a b : ℕ) → taken i (bit_or a b) ≡ (taken i a || taken i b)
taken_or =
    taken_op bit_or max ◌||◌ or_step
    (λ a b. digits (λ (c d : ℕ). max c d < 2) a b (omega arith) (omega arith) (omega arith) (omega arith))
    (λ a b. digits (λ (c d : ℕ). eqb (max c d) 1 ≡ (eqb c 1 || eqb d 1)) a b refl refl refl refl)

-- and in what they have in common where it is in both
pub taken_and : (i a b : ℕ) → taken i (bit_and a b) ≡ (taken i a && taken i b)
taken_and =
    taken_op bit_and min ◌&&◌ and_step
    (λ a b. digits (λ (c d : ℕ). min c d < 2) a b (omega arith) (omega arith) (omega arith) (omega arith))
    (λ a b. digits (λ (c d : ℕ). eqb (min c d) 1 ≡ (eqb c 1 && eqb d 1)) a b refl refl refl refl)

-- a slot is taken in the complement of a word where it is free in the word
pub taken_not : (k i o : ℕ) → i < k → o < 2 ^ k → taken i (2 ^ k - 1 - o) ≡ not (taken i o)
unfolding taken
taken_not zero i o hi h = absurd (omega arith)
taken_not (suc k) zero o hi h =
    let low : (2 ^ suc k - 1 - o) % 2 ≡ 1 - o % 2 = omega (arith, pow-suc 2 k) in
    ap (λ (n : ℕ). eqb n 1) low ∙ digit (λ (d : ℕ). eqb (1 - d) 1 ≡ not (eqb d 1)) o (λ _. refl) (λ _. refl)
taken_not (suc k) (suc i) o hi h =
    let half : (2 ^ suc k - 1 - o) / 2 ≡ 2 ^ k - 1 - o / 2 = omega (arith, pow-suc 2 k) in
    ap (taken i) half ∙ taken_not k i (o / 2) (le_of_suc-le-suc hi) (omega (arith, pow-suc 2 k))

-- a word with no slot taken is 0
pub none_taken : (k o : ℕ) → o < 2 ^ k → ((i : ℕ) → i < k → taken i o ≡ false) → o ≡ 0
unfolding taken
none_taken zero o h f = omega arith
none_taken (suc k) o h f =
    let high = none_taken k (o / 2) (omega (arith, pow-suc 2 k)) (λ i l. f (suc i) (omega arith)) in
    omega (arith, high, eqb-false (o % 2) 1 (f 0 (omega arith)))

-- where a word has nothing in common with the complement of another, all its slots are taken in the other
pub within : (k a o i : ℕ) → o < 2 ^ k → bit_and a (2 ^ k - 1 - o) ≡ 0 → i < k → taken i o ≡ false → taken i a ≡ false
within k a o i h e l t =
    let c : taken i (2 ^ k - 1 - o) ≡ true = taken_not k i o l h ∙ ap not t in
    let both : (taken i a && true) ≡ taken i 0 = rw (← c) (sym (taken_and i a (2 ^ k - 1 - o)) ∙ ap (taken i) e) in
    sym (and-true (taken i a)) ∙ both ∙ taken_out 0 i 0 (omega arith) (omega arith)

-- and where all its slots are taken in the other, it has nothing in common with the complement
pub apart : (k a o : ℕ) → o < 2 ^ k → ((i : ℕ) → i < k → taken i o ≡ false → taken i a ≡ false)
    → bit_and a (2 ^ k - 1 - o) ≡ 0
apart k a o h f =
    none_taken k (bit_and a (2 ^ k - 1 - o)) (omega (arith, and_le_r a (2 ^ k - 1 - o), pow_pos k)) none
  where
    none : (i : ℕ) → i < k → taken i (bit_and a (2 ^ k - 1 - o)) ≡ false
    none i l =
        by_test (taken i o)
        (λ t. simp (taken_and i a (2 ^ k - 1 - o), taken_not k i o l h, t, and-false))
        (λ t. simp (taken_and i a (2 ^ k - 1 - o), f i l t))

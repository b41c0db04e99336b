-- What the loop over the digits keeps: the value of all digits is that of the ones left, after those read.
use Rattle.std.specs.Prelude.{ℕ, zero, suc, ◌+◌, ◌*◌, ◌≤◌, ◌<◌, ◌≡◌, refl, true, false, List, length, drop, get_or, ltb, Some, None}
use Rattle.std.proofs.Common.{arith, drop_of_length-le, drop-cons, ltb-false, leb-true, le-ltb, ne_eqb}
use Rattle.wire.specs.Test.{by_test}
use Rattle.decimal.specs.Decimal.{is_digit, digit_value, digits_after, decimal_of}

-- A digit's byte.
pub digit_byte : (byte : ℕ) → is_digit byte ≡ true → (48 ≤ byte) × (byte ≤ 57)
digit_byte byte h =
    by_test (ltb byte 48)
    (λ t. let z : ◌≡◌ {A = ℕ} 0 1 = cc (simp t at h) in absurd (omega arith))
    (λ t. (ltb-false byte 48 t, leb-true byte 57 (simp t at h)))

-- A digit more.
pub digit_more : (n : ℕ) (text : List ℕ) (i : ℕ) → i < length text → is_digit (get_or text i 0) ≡ true
    → digits_after n (drop i text) ≡ digits_after (n * 10 + digit_value (get_or text i 0)) (drop (i + 1) text)
unfolding digits_after
digit_more n text i h d =
    let one : i + 1 ≡ suc i = omega arith in
    rw (drop-cons text i 0, one) (simp d)

-- Something else.
pub digit_none : (n : ℕ) (text : List ℕ) (i : ℕ) → i < length text → is_digit (get_or text i 0) ≡ false → digits_after n (drop i text) ≡ None
unfolding digits_after
digit_none n text i h d = rw (drop-cons text i 0) (simp d)

-- what so many digits stand for less than
unfoldable pub ten_to : ℕ → ℕ
ten_to zero = 1
ten_to (suc i) = ten_to i * 10

pub ten_next : (i : ℕ) → ten_to (i + 1) ≡ ten_to i * 10
unfolding ten_to
ten_next i = let one : i + 1 ≡ suc i = omega arith in rw one

pub ten_none : ten_to 0 ≡ 1
unfolding ten_to
ten_none = refl

-- Nine digits stand for less than a thousand million, so ten of them fit 64 bits.
pub ten_small : (i : ℕ) → i < 10 → ten_to i ≤ 1000000000
unfolding ten_to
ten_small zero h = omega arith
ten_small (suc zero) h = omega arith
ten_small (suc (suc zero)) h = omega arith
ten_small (suc (suc (suc zero))) h = omega arith
ten_small (suc (suc (suc (suc zero)))) h = omega arith
ten_small (suc (suc (suc (suc (suc zero))))) h = omega arith
ten_small (suc (suc (suc (suc (suc (suc zero)))))) h = omega arith
ten_small (suc (suc (suc (suc (suc (suc (suc zero))))))) h = omega arith
ten_small (suc (suc (suc (suc (suc (suc (suc (suc zero)))))))) h = omega arith
ten_small (suc (suc (suc (suc (suc (suc (suc (suc (suc zero))))))))) h = omega arith
ten_small (suc (suc (suc (suc (suc (suc (suc (suc (suc (suc i)))))))))) h = absurd (omega arith)

-- The end of the digits.
pub digits_end : (n : ℕ) (text : List ℕ) (i : ℕ) → length text ≤ i → digits_after n (drop i text) ≡ Some n
unfolding digits_after
digits_end n text i h = rw (drop_of_length-le text h)

-- A text of one to ten bytes is read as its digits.
pub whole : (text : List ℕ) → 0 < length text → length text ≤ 10 → decimal_of text ≡ digits_after 0 text
unfolding decimal_of
whole text some few = simp (ne_eqb (length text) 0 (omega arith), le-ltb 10 (length text) few)

-- How large a number of so many digits can be.
use Rattle.std.specs.Prelude.{ℕ, zero, suc, ◌+◌, ◌*◌, ◌≤◌, ◌<◌, ◌≡◌, refl, true, List, [], ◌∷◌, length, pos, Some, None, Option}
use Rattle.std.proofs.Common.{ap, ◌∙◌, arith, mul_assoc, mul_comm, mul-le-mul_right, lt_of_lt_of_le, le_trans, le_of_eq}
use Rattle.std.specs.Float.{binary64}
use Rattle.std.specs.Float.Ieee.{of_int, of_bits}
use Rattle.wire.specs.Test.{by_test, ◌<?◌, ◌=?◌}
use Rattle.decimal.specs.Decimal.{is_digit, digit_value, digits_after, decimal_of}
use Rattle.decimal.proofs.Laws.{digit_byte, ten_to}
use Rattle.station_cards.specs.Under.{Under}
use Rattle.station_cards.specs.Cards.{weight}

-- more digits stand for more
grows : (i k : ℕ) → i ≤ k → ten_to i ≤ ten_to k
unfolding ten_to
grows zero zero h = omega arith
grows zero (suc k) h = omega (arith, grows zero k (omega arith))
grows (suc i) zero h = absurd (omega arith)
grows (suc i) (suc k) h = omega (arith, grows i k (omega arith))

-- one, two or three digits, and no more
of_length : (i n : ℕ) → i ≤ 3 → n < ten_to i → n * weight i < 1000
unfolding ten_to
of_length zero n h l = omega arith
of_length (suc zero) n h l = omega arith
of_length (suc (suc zero)) n h l = omega arith
of_length (suc (suc (suc zero))) n h l = omega arith
of_length (suc (suc (suc (suc i)))) n h l = absurd (omega arith)

the_number : {n m : ℕ} → Some n ≡ Some m → n ≡ m
the_number e = cc e

-- digits after a number v that was read before them
one_more_lem : (byte v n t : ℕ) → is_digit byte ≡ true → n < (v * 10 + digit_value byte + 1) * t → n < (v + 1) * (t * 10)
one_more_lem byte v n t d less =
    let most = digit_byte byte d in
    let step : v * 10 + digit_value byte + 1 ≤ (v + 1) * 10 = omega (arith, most) in
    let same : (v + 1) * 10 * t ≡ (v + 1) * (t * 10) = mul_assoc (v + 1) 10 t ∙ ap (λ (z : ℕ). (v + 1) * z) (mul_comm 10 t) in
    lt_of_lt_of_le less (le_trans (mul-le-mul_right t step) (le_of_eq same))

digits_under : (text : List ℕ) (v n : ℕ) → digits_after v text ≡ Some n → n < (v + 1) * ten_to (length text)
unfolding digits_after ten_to
digits_under [] v n e = omega (arith, the_number e)
digits_under (byte ∷ text) v n e =
    by_test (is_digit byte) (λ t. one_more_lem byte v n (ten_to (length text)) t (digits_under text (v * 10 + digit_value byte) n (simp t at e)))
    (λ t. let z : ◌≡◌ {A = ℕ} 0 1 = cc (simp t at e) in absurd (omega arith))

pub decimal_under : (text : List ℕ) (n : ℕ) → decimal_of text ≡ Some n → n < ten_to (length text)
unfolding decimal_of
decimal_under text n e =
    by_test (length text =? 0) (λ t. let z : ◌≡◌ {A = ℕ} 0 1 = cc (simp t at e) in absurd (omega arith))
    (λ t. by_test (10 <? length text) (λ u. let z : ◌≡◌ {A = ℕ} 0 1 = cc (simp (t, u) at e) in absurd (omega arith))
    (λ u. omega (arith, digits_under text 0 n (simp (t, u) at e))))

-- Up to four digits before the point, and up to three after it.
fewer : (text : List ℕ) (k : ℕ) → length text ≤ k → ten_to (length text) ≤ ten_to k
fewer text k h = grows (length text) k h

pub whole_under : (text : List ℕ) (n : ℕ) → length text ≤ 4 → decimal_of text ≡ Some n → n < 10000
unfolding ten_to
whole_under text n h e = omega (arith, decimal_under text n e, fewer text 4 h)

pub fraction_under : (text : List ℕ) (n : ℕ) → length text ≤ 3 → decimal_of text ≡ Some n → n * weight (length text) < 1000
unfolding ten_to
fraction_under text n h e = of_length (length text) n h (decimal_under text n e)

-- A bound may be wider.
pub under_more : (d : Option ℕ) (m n : ℕ) → m ≤ n → Under d m → Under d n
under_more (Some k) m n h u = omega arith
under_more None m n h u = tt

-- The literal 1000.0.
pub thousand : of_bits binary64 4652007308841189376 ≡ of_int binary64 (pos 1000)
unfolding of_bits of_int
thousand = refl

-- The bit pattern of a float says which fraction it is, and so how many thousandths it has.
use Rattle.std.specs.Prelude.{◌≡◌, refl, Bool, true, false, cond, ℕ, zero, suc, ◌+◌, ◌-◌, ◌*◌, ◌/◌, ◌%◌, ◌^◌, ◌≤◌, ◌<◌, T, leb, eqb, Float}
use Rattle.std.proofs.Common.{sym, ap, ◌∙◌, subst, arith, mul_assoc, mul-one, mul-le-mul, pow-add, pow_pos, pow_mono, ltb-true, ltb-false, eq-eqb, ne_eqb, eqb-true}
use Rattle.std.specs.Float.{nan, inf, binary64}
use Rattle.std.specs.Float.Ieee.{odd, fits, of_fields, of_bits, to_bits}
use Rattle.std.specs.Float.Ieee.Exact.{HasValue, odd_sign}
use Rattle.std.specs.Float.Ieee.Bits.{of_bits-to_bits}
use Rattle.std.proofs.lemmas.Bool.{eqb-false}
use Rattle.wire.specs.Test.{by_test, ◌<?◌, ◌=?◌}
use Rattle.ice_correction.specs.FloatSize.{AtMost}
use Rattle.station_number.specs.Fixed.{signed, nearest_thousandths, thousandths}
use Rattle.station_number.specs.Pattern.{pattern_size}
use Rattle.station_number.proofs.FixedLaws.{nearest_same, nearest_small, thousandths_value, value_at_most}

-- ---- the fraction of a sign, a field and digits
-- A field of 0, and one that is neither 0 nor 2,047.
small_value : (s : Bool) (t : ℕ) → HasValue (of_fields binary64 s 0 t) s (t * 1) (2 ^ 1074)
unfolding of_fields
small_value s t = odd_sign 53 s t 0 1074

normal_value : (s : Bool) (k t : ℕ) → (suc k ≡ 2047 → ⊥) → HasValue (of_fields binary64 s (suc k) t) s ((4503599627370496 + t) * 2 ^ k) (2 ^ 1074)
unfolding of_fields
normal_value s k t h =
    subst (λ (b : Bool). HasValue (cond b (cond (eqb t 0) (inf s) nan) (odd 53 s (4503599627370496 + t) k 1074)) s ((4503599627370496 + t) * 2 ^ k) (2 ^ 1074)) (sym (ne_eqb (suc k) 2047 h))
    (odd_sign 53 s (4503599627370496 + t) k 1074)

-- 2,047 is the field of what is not finite.
no_value : (s : Bool) (t B : ℕ) → AtMost (of_fields binary64 s 2047 t) B → ⊥
unfolding of_fields
no_value s t B h = by_test (eqb t 0) (λ e. absurd (simp e at h)) (λ e. absurd (simp e at h))

-- The weight of a field, taken from the digits to the fraction's other half.
weighed : (d k : ℕ) → k ≤ 1074 → nearest_thousandths (d * 2 ^ k) (2 ^ 1074) ≡ nearest_thousandths d (2 ^ (1074 - k))
weighed d k h =
    let whole : k + (1074 - k) ≡ 1074 = omega arith in
    nearest_same (d * 2 ^ k) (2 ^ 1074) d (2 ^ (1074 - k)) (pow_pos 1074) (pow_pos (1074 - k))
    (mul_assoc d (2 ^ k) (2 ^ (1074 - k)) ∙ ap (λ (z : ℕ). d * z) (sym (pow-add 2 k (1074 - k)) ∙ ap (λ (z : ℕ). 2 ^ z) whole))

-- A field above 1,039 is that of a float of 131,072 or more.
too_large : (p q x : ℕ) → q ≡ p * 34359738368 → 4503599627370496 * p ≤ x → x ≤ 126535 * q → 0 < p → ⊥
too_large p q x whole least most some = omega arith

field_low : (s : Bool) (k t : ℕ) → AtMost (of_fields binary64 s (suc k) t) 126535 → k < 1039
field_low s k t h = by_test (k =? 2046) high other
  where
    high : (k =? 2046) ≡ true → k < 1039
    high e = absurd (no_value s t 126535 (subst (λ (f : ℕ). AtMost (of_fields binary64 s (suc f) t) 126535) (eqb-true k 2046 e) h))

    other : (k =? 2046) ≡ false → k < 1039
    other e =
        let v = normal_value s k t (λ z. eqb-false k 2046 e (omega (arith, z))) in
        let most = value_at_most (of_fields binary64 s (suc k) t) s ((4503599627370496 + t) * 2 ^ k) (2 ^ 1074) 126535 v h in
        let digits : 4503599627370496 ≤ 4503599627370496 + t = omega arith in
        by_test (k <? 1039) (λ l. ltb-true k 1039 l)
        (λ l. absurd
        (too_large (2 ^ 1039) (2 ^ 1074) ((4503599627370496 + t) * 2 ^ k) (pow-add 2 1039 35) (mul-le-mul digits (pow_mono (ltb-false k 1039 l))) most (pow_pos 1039)))

-- ---- the size from the pattern
size_at_zero : (pattern : ℕ) → pattern / 4503599627370496 ≡ 0 → pattern_size pattern ≡ nearest_thousandths (pattern % 4503599627370496) (2 ^ 1074)
unfolding pattern_size
size_at_zero pattern h = simp (eq-eqb _ _ h)

size_at : (pattern k : ℕ) → pattern / 4503599627370496 ≡ suc k
    → pattern_size pattern ≡ nearest_thousandths (4503599627370496 + pattern % 4503599627370496) (2 ^ (1074 - k))
unfolding pattern_size
size_at pattern k h =
    let some : pattern / 4503599627370496 ≡ 0 → ⊥ = λ z. omega (arith, z, h) in
    let places : 1075 - pattern / 4503599627370496 ≡ 1074 - k = omega (arith, h) in
    let digits : pattern % 4503599627370496 + 4503599627370496 ≡ 4503599627370496 + pattern % 4503599627370496 = omega arith in
    simp (ne_eqb _ _ some, places, digits)

-- What a pattern says of its float.
pub record PatternOf (x : Float) (s : Bool) (pattern : ℕ) : Type 0 where
  pub low : pattern < 4683743612465315840
  pub small : pattern_size pattern < 2147483648
  pub is : thousandths x ≡ signed s (pattern_size pattern)

by_fraction : (x : Float) (s : Bool) (pattern a c : ℕ) → pattern < 4683743612465315840 → 0 < c → HasValue x s a c → AtMost x 126535
    → pattern_size pattern ≡ nearest_thousandths a c → PatternOf x s pattern
by_fraction x s pattern a c low C v h e =
    record {
      low = low;
      small = subst (λ (n : ℕ). n < 2147483648) (sym e) (nearest_small a c C (value_at_most x s a c 126535 v h));
      is = thousandths_value x s a c C v ∙ ap (signed s) (sym e);
    }

by_field_lem : (x : Float) (s : Bool) (f pattern : ℕ) → pattern / 4503599627370496 ≡ f → of_fields binary64 s f (pattern % 4503599627370496) ≡ x
    → AtMost x 126535 → PatternOf x s pattern
by_field_lem x s zero pattern p e h =
    let t = pattern % 4503599627370496 in
    by_fraction x s pattern (t * 1) (2 ^ 1074) (omega (arith, p)) (pow_pos 1074)
    (subst (λ (y : Float). HasValue y s (t * 1) (2 ^ 1074)) e (small_value s t)) h
    (size_at_zero pattern p ∙ ap (λ (n : ℕ). nearest_thousandths n (2 ^ 1074)) (sym (mul-one t)))
by_field_lem x s (suc k) pattern p e h =
    let t = pattern % 4503599627370496 in
    let less = field_low s k t (subst (λ (y : Float). AtMost y 126535) (sym e) h) in
    by_fraction x s pattern ((4503599627370496 + t) * 2 ^ k) (2 ^ 1074) (omega (arith, p, less)) (pow_pos 1074)
    (subst (λ (y : Float). HasValue y s ((4503599627370496 + t) * 2 ^ k) (2 ^ 1074)) e (normal_value s k t (λ z. omega (arith, z, less)))) h
    (size_at pattern k p ∙ sym (weighed (4503599627370496 + t) k (omega (arith, less))))

pub pattern_of : (x : Float) → T (fits binary64 x) → AtMost x 126535
    → PatternOf x (leb 9223372036854775808 (to_bits binary64 x)) (to_bits binary64 x % 9223372036854775808)
unfolding of_bits
pattern_of x f h =
    let b = to_bits binary64 x in
    let s = leb 9223372036854775808 b in
    let pattern = b % 9223372036854775808 in
    let digits : pattern % 4503599627370496 ≡ b % 4503599627370496 = omega arith in
    by_field_lem x s (pattern / 4503599627370496) pattern refl
    (ap (λ (t : ℕ). of_fields binary64 s (pattern / 4503599627370496) t) digits ∙ of_bits-to_bits binary64 x f) h

-- A float in thousandths: equal fractions round alike, and the bit pattern says which fraction a float is.
use Rattle.std.specs.Prelude.{◌≡◌, refl, Bool, true, ℕ, zero, suc, ◌+◌, ◌-◌, ◌*◌, ◌/◌, ◌^◌, ◌≤◌, ◌<◌, negsuc, Float}
use Rattle.std.proofs.Common.{sym, ap, ◌∙◌, arith, mul_assoc, mul_comm, mul_right_comm, add-mul, le_trans, le_of_eq, mul-le-mul_right, le_of_mul-le-mul_right, le-div_iff_mul-le, div-lt_iff_lt-mul, mul_left_comm, pow-add, pow_pos, pow_mono}
use Rattle.std.proofs.Math.Nat.{div-eq_of_lt}
use Rattle.std.specs.Float.{nan, inf, fin}
use Rattle.std.specs.Float.Ieee.{up, down}
use Rattle.std.specs.Float.Ieee.Fits.{down_pos}
use Rattle.std.specs.Float.Ieee.Exact.{HasValue}
use Rattle.std.specs.Float.Ieee.Nearest.{div_same}
use Rattle.ice_correction.specs.FloatSize.{AtMost}
use Rattle.station_number.specs.Fixed.{signed, nearest_thousandths, thousandths}

-- ---- equal fractions
crossed : (a b d : ℕ) → (a * 2000 + b) * (d * 2) ≡ (a * d * 2000 + b * d) * 2
crossed a b d = sym (mul_assoc (a * 2000 + b) d 2) ∙ ap (λ (z : ℕ). z * 2) (add-mul (a * 2000) b d ∙ ap (λ (z : ℕ). z + b * d) (mul_right_comm a 2000 d))

pub nearest_same : (a b c d : ℕ) → 0 < b → 0 < d → a * d ≡ c * b → nearest_thousandths a b ≡ nearest_thousandths c d
unfolding nearest_thousandths
nearest_same a b c d B D e =
    let bd : b * d ≡ d * b = mul_comm b d in
    div_same (a * 2000 + b) (b * 2) (c * 2000 + d) (d * 2) (omega arith) (omega arith)
    (crossed a b d ∙ (let same : (a * d * 2000 + b * d) * 2 ≡ (c * b * 2000 + d * b) * 2 = omega (arith, e, bd) in same) ∙ sym (crossed c d b))

-- A fraction of at most 126,535 has at most so many thousandths.
pub nearest_small : (a b : ℕ) → 0 < b → a ≤ 126535 * b → nearest_thousandths a b < 2147483648
unfolding nearest_thousandths
nearest_small a b B h =
    let wide : 0 < b * 2 = omega arith in
    (div-lt_iff_lt-mul wide).1 (omega arith)

-- Rounding: n thousandths are nearest to a / b, and a half goes up.
pub nearest_is : (a b n : ℕ) → 0 < b → (2 * n * b ≤ 2000 * a + b) → (2000 * a + b < 2 * (n + 1) * b) → nearest_thousandths a b ≡ n
unfolding nearest_thousandths
nearest_is a b n B low high =
    let wide : 0 < b * 2 = omega arith in
    let twice : n * (b * 2) ≡ 2 * n * b = simp (mul_assoc, mul_comm, mul_left_comm) in
    let next : (n + 1) * (b * 2) ≡ 2 * (n + 1) * b = simp (mul_assoc, mul_comm) in
    let least : n ≤ (a * 2000 + b) / (b * 2) = (le-div_iff_mul-le wide).1 (omega (arith, twice, low)) in
    let less : (a * 2000 + b) / (b * 2) < n + 1 = (div-lt_iff_lt-mul wide).1 (omega (arith, next, high)) in
    omega (arith, least, less)

-- Halves, shifted out: what the code computes for up to 63 places, and that more places leave nothing.
pub nearest_shifted : (d p : ℕ) → 0 < p → (d * 1000 + 2 ^ (p - 1)) / 2 ^ p ≡ nearest_thousandths d (2 ^ p)
unfolding nearest_thousandths
nearest_shifted d p h =
    let place : p - 1 + 1 ≡ p = omega arith in
    let half : 2 ^ p ≡ 2 ^ (p - 1) * 2 = ap (λ (k : ℕ). 2 ^ k) (sym place) ∙ pow-add 2 (p - 1) 1 in
    let twice : (d * 1000 + 2 ^ (p - 1)) * 2 ≡ d * 2000 + 2 ^ p = omega (arith, half) in
    div_same (d * 1000 + 2 ^ (p - 1)) (2 ^ p) (d * 2000 + 2 ^ p) (2 ^ p * 2) (pow_pos p) (omega (arith, pow_pos p))
    (ap (λ (z : ℕ). (d * 1000 + 2 ^ (p - 1)) * z) (mul_comm (2 ^ p) 2)
    ∙ sym (mul_assoc (d * 1000 + 2 ^ (p - 1)) 2 (2 ^ p))
    ∙ ap (λ (z : ℕ). z * 2 ^ p) twice)

pub nearest_none : (d p : ℕ) → d < 9007199254740992 → 63 < p → nearest_thousandths d (2 ^ p) ≡ 0
unfolding nearest_thousandths
nearest_none d p h g =
    let large : 18446744073709551616 ≤ 2 ^ p = pow_mono g in
    div-eq_of_lt (omega (arith, large))

-- ---- a float that is a / c
pub thousandths_value : (x : Float) (s : Bool) (a c : ℕ) → 0 < c → HasValue x s a c → thousandths x ≡ signed s (nearest_thousandths a c)
unfolding thousandths
thousandths_value nan s a c h v = absurd v
thousandths_value (inf t) s a c h v = absurd v
thousandths_value (fin t m e) s a c h v =
    ap (λ (b : Bool). signed b (nearest_thousandths (m * up e) (down e))) v.0
    ∙ ap (signed s) (nearest_same (m * up e) (down e) a c (down_pos e) h v.1)

pub value_at_most : (x : Float) (s : Bool) (a c B : ℕ) → HasValue x s a c → AtMost x B → a ≤ B * c
value_at_most nan s a c B v h = absurd v
value_at_most (inf t) s a c B v h = absurd v
value_at_most (fin t m e) s a c B v h =
    le_of_mul-le-mul_right (le_trans (le_of_eq (sym v.1)) (le_trans (mul-le-mul_right c h) (le_of_eq (mul_right_comm B (down e) c)))) (down_pos e)

-- ---- signs
-- Below zero by n, which is not 0.
pub signed_below : (n : ℕ) → (n ≡ 0 → ⊥) → negsuc (n - 1) ≡ signed true n
signed_below zero h = absurd (h refl)
signed_below (suc n) h = let e : suc n - 1 ≡ n = omega arith in ap negsuc e

-- The answer of a correction, row by row, and the test of a float as the code makes it.
use Rattle.std.specs.Prelude.{◌≡◌, refl, Bool, true, false, ◌&&◌, ◌||◌, ℕ, ◌+◌, ◌*◌, ◌<◌, ℤ, pos, ltb, leb, eqb, Float}
use Rattle.std.proofs.Common.{ap, ◌∙◌, arith, mul-one, le-leb, lt-ltb, ltb-true, ltb-false, eqb-true}
use Rattle.std.proofs.lemmas.Bool.{lt-leb, eqb-false}
use Rattle.std.specs.Float.{nan, inf, fin, binary64}
use Rattle.std.specs.Float.Ieee.{up, down, of_bits, of_int, neg, le, lt, eq}
use Rattle.std.specs.Float.Ieee.Fits.{down_pos}
use Rattle.wire.specs.Test.{by_test, ◌<?◌}
use Rattle.reading.specs.Temperature.{sent_of, sent_fits}
use Rattle.ice_correction.specs.declared.Calibration.{Calibration}
use Rattle.ice_correction.specs.Correction.{Count, Refused, allowed, is_thawed, is_frozen, floats_allowed, by_curve, curve_at, corrected}

-- ---- rows
abbrev pub kinds : Calibration → Bool
kinds c = is_thawed c.thawed.curve && is_frozen c.frozen.curve

abbrev pub floats : Calibration → Bool
floats c = floats_allowed c.thawed.curve && floats_allowed c.frozen.curve

pub row_41 : (c : Calibration) (t : ℤ) (raw : ℕ) → 65535 <? raw ≡ true → corrected c t raw ≡ Refused 41
unfolding corrected
row_41 c t raw e = simp e

pub row_42 : (c : Calibration) (t : ℤ) (raw : ℕ) → 65535 <? raw ≡ false → sent_fits (sent_of t) ≡ false
    → corrected c t raw ≡ Refused 42
unfolding corrected
row_42 c t raw e f = simp (e, f)

pub row_43 : (c : Calibration) (t : ℤ) (raw : ℕ) → 65535 <? raw ≡ false → sent_fits (sent_of t) ≡ true → kinds c ≡ false
    → corrected c t raw ≡ Refused 43
unfolding corrected
row_43 c t raw e f g = simp (e, f, g)

pub row_44 : (c : Calibration) (t : ℤ) (raw : ℕ) → 65535 <? raw ≡ false → sent_fits (sent_of t) ≡ true → kinds c ≡ true
    → floats c ≡ false → corrected c t raw ≡ Refused 44
unfolding corrected
row_44 c t raw e f g h = simp (e, f, g, h)

pub row_count : (c : Calibration) (t : ℤ) (raw : ℕ) → 65535 <? raw ≡ false → sent_fits (sent_of t) ≡ true → kinds c ≡ true
    → floats c ≡ true → corrected c t raw ≡ Count (by_curve (curve_at c t) t raw)
unfolding corrected
row_count c t raw e f g h = simp (e, f, g, h)

-- ---- a float between -1,000 and 1,000
-- less, or equal
less_or_equal : (a b : ℕ) → (ltb a b || (eqb a b && true)) ≡ leb a b
less_or_equal a b =
    by_test (ltb a b) (λ t. simp (t, le-leb a b (omega (arith, ltb-true a b t))))
    (λ t. by_test (eqb a b) (λ q. simp (t, q, le-leb a b (omega (arith, eqb-true a b q))))
    (λ q. simp (t, q, lt-leb a b (omega (arith, ltb-false a b t, eqb-false a b q)))))

equal_or_less : (a b : ℕ) → (ltb a b || (eqb b a && true)) ≡ leb a b
equal_or_less a b =
    by_test (ltb a b) (λ t. simp (t, le-leb a b (omega (arith, ltb-true a b t))))
    (λ t. by_test (eqb b a) (λ q. simp (t, q, le-leb a b (omega (arith, eqb-true b a q))))
    (λ q. simp (t, q, lt-leb a b (omega (arith, ltb-false a b t, eqb-false b a q)))))

-- u / d is the size of a float
some_above : (u d : ℕ) → 0 < d → ltb 0 (1000 * d + u * 1) ≡ true
some_above u d h = lt-ltb 0 (1000 * d + u * 1) (omega (arith, h))

some_below : (u d : ℕ) → 0 < d → ltb 0 (u * 1 + 1000 * d) ≡ true
some_below u d h = lt-ltb 0 (u * 1 + 1000 * d) (omega (arith, h))

-- -1,000 and 1,000 beside a float
low_negative : (m : ℕ) (e : ℤ) → le (fin true 125 (pos 3)) (fin true m e) ≡ leb (m * up e) (1000 * down e)
unfolding le lt eq
low_negative m e = equal_or_less (m * up e * 1) (1000 * down e) ∙ ap (λ (u : ℕ). leb u (1000 * down e)) (mul-one (m * up e))

low_positive : (m : ℕ) (e : ℤ) → le (fin true 125 (pos 3)) (fin false m e) ≡ true
unfolding le lt eq
low_positive m e = simp (some_above (m * up e) (down e) (down_pos e))

high_negative : (m : ℕ) (e : ℤ) → le (fin true m e) (fin false 125 (pos 3)) ≡ true
unfolding le lt eq
high_negative m e = simp (some_below (m * up e) (down e) (down_pos e))

high_positive : (m : ℕ) (e : ℤ) → le (fin false m e) (fin false 125 (pos 3)) ≡ leb (m * up e) (1000 * down e)
unfolding le lt eq
high_positive m e = less_or_equal (m * up e * 1) (1000 * down e) ∙ ap (λ (u : ℕ). leb u (1000 * down e)) (mul-one (m * up e))

both : (a b c : Bool) → a ≡ c → b ≡ true → (a && b) ≡ c
both true b c e f = f ∙ e
both false b c e f = e

-- the first is true
second : (a b c : Bool) → a ≡ true → b ≡ c → (a && b) ≡ c
second a b c e f = ap (λ (x : Bool). x && b) e ∙ f

pub between_thousands : (x : Float)
    → (le (neg (of_bits binary64 4652007308841189376)) x && le x (of_bits binary64 4652007308841189376)) ≡ allowed x
unfolding le lt eq neg allowed of_bits
between_thousands nan = refl
between_thousands (inf true) = refl
between_thousands (inf false) = refl
between_thousands (fin true m e) = both _ _ _ (low_negative m e) (high_negative m e)
between_thousands (fin false m e) = second _ _ _ (low_positive m e) (high_positive m e)

-- ---- ten, as the code writes it
pub ten : of_bits binary64 4621819117588971520 ≡ of_int binary64 (pos 10)
unfolding of_bits of_int
ten = refl

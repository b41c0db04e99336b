-- A card's float is the one that is nearest to its thousandths: the two whole numbers are floats exactly, so that only
-- the division rounds.
use Rattle.std.specs.Prelude.{ℕ, suc, ◌*◌, ◌≤◌, ◌<◌, ◌≡◌, refl, Bool, true, false, cond, eqb, pos, negsuc, Float}
use Rattle.std.proofs.Common.{sym, ap, ap₂, ◌∙◌, subst, arith, mul-one, mul_assoc, mul_comm, mul_left_comm, mul-pos, ne_eqb}
use Rattle.std.specs.Float.{nan, inf, fin, binary64}
use Rattle.std.specs.Float.Ieee.{up, down, round, div, of_int, unlike}
use Rattle.std.specs.Float.Ieee.Exact.{HasValue}
use Rattle.std.specs.Float.Ieee.Back.{round_whole}
use Rattle.std.specs.Float.Ieee.Fits.{down_pos}
use Rattle.std.specs.Float.Ieee.Scale.{round_same}

same_sign : (s : Bool) → unlike s false ≡ s
same_sign true = refl
same_sign false = refl

crossed : (n k a b : ℕ) → n * a * b * k ≡ n * (k * b * a)
crossed n k a b = simp (mul_assoc, mul_comm, mul_left_comm)

-- A whole number divided by another is rounded once.
whole_quotient : (x y : Float) (s : Bool) (n k : ℕ) → 0 < k → HasValue x s n 1 → HasValue y false k 1 → div binary64 x y ≡ round binary64 s n k
unfolding div
whole_quotient nan y s n k K v w = absurd v
whole_quotient (inf t) y s n k K v w = absurd v
whole_quotient (fin t m e) nan s n k K v w = absurd w
whole_quotient (fin t m e) (inf u) s n k K v w = absurd w
whole_quotient (fin t m e) (fin u j d) s n k K v w =
    let top : m * up e ≡ n * down e = sym (mul-one (m * up e)) ∙ v.1 in
    let under : j * up d ≡ k * down d = sym (mul-one (j * up d)) ∙ w.1 in
    let large : 0 < k * down d = mul-pos K (down_pos d) in
    let some : j ≡ 0 → ⊥ = λ z. omega (arith, under, large, ap (λ (q : ℕ). q * up d) z) in
    let wide : 0 < j * up d * down e = mul-pos (subst (λ (q : ℕ). 0 < q) (sym under) large) (down_pos e) in
    ap (λ (b : Bool). cond b (cond (eqb m 0) nan (inf (unlike t u))) (round binary64 (unlike t u) (m * up e * down d) (j * up d * down e))) (ne_eqb j 0 some)
    ∙ ap (λ (b : Bool). round binary64 b (m * up e * down d) (j * up d * down e)) (ap₂ unlike v.0 w.0 ∙ same_sign s)
    ∙ round_same binary64 s (m * up e * down d) (j * up d * down e) n k wide K
    (ap (λ (q : ℕ). q * down d * k) top ∙ crossed n k (down e) (down d) ∙ ap (λ (q : ℕ). n * (q * down e)) (sym under))

-- From zero up, and below zero.
pub card_nearest : (n : ℕ) → n ≤ 9007199254740992 → div binary64 (of_int binary64 (pos n)) (of_int binary64 (pos 1000)) ≡ round binary64 false n 1000
unfolding of_int
card_nearest n h =
    whole_quotient (round binary64 false n 1) (round binary64 false 1000 1) false n 1000 (omega arith) (round_whole binary64 false n h) (round_whole binary64 false 1000 (omega arith))

pub card_nearest_below : (n : ℕ) → suc n ≤ 9007199254740992
    → div binary64 (of_int binary64 (negsuc n)) (of_int binary64 (pos 1000)) ≡ round binary64 true (suc n) 1000
unfolding of_int
card_nearest_below n h =
    whole_quotient (round binary64 true (suc n) 1) (round binary64 false 1000 1) true (suc n) 1000 (omega arith) (round_whole binary64 true (suc n) h)
    (round_whole binary64 false 1000 (omega arith))

-- How large a float can become: a bound in whole numbers through rounding, products, sums and the division by ten. What
-- has a bound is finite.
use Rattle.std.specs.Prelude.{◌≡◌, refl, Bool, true, false, cond, ◌&&◌, ◌||◌, ℕ, zero, suc, ◌+◌, ◌-◌, ◌*◌, ◌^◌, ◌≤◌, ◌<◌, pos, negsuc, T, ltb, eqb, Float}
use Rattle.std.proofs.Common.{sym, ap, ◌∙◌, subst, arith, mul-one, mul-le-mul, mul-le-mul_right, mul_assoc, mul_comm, mul_right_comm, mul-pos, add-mul, le_trans, le_of_eq, le_of_mul-le-mul_right, ltb-true, eqb-true}
use Rattle.std.specs.Bool.{beq}
use Rattle.std.proofs.Math.Nat.{mul-mul-mul_comm}
use Rattle.std.specs.Float.{nan, inf, fin, Format, binary64}
use Rattle.std.specs.Float.Ieee.{prec, emax, low, up, down, odd, units, round, sum, add, mul, div, of_int, unlike, le, lt, eq}
use Rattle.std.specs.Float.Ieee.Exact.{HasValue}
use Rattle.std.specs.Float.Ieee.Back.{round_whole}
use Rattle.std.specs.Float.Ieee.Fits.{down_pos}
use Rattle.std.specs.Float.Ieee.Order.{round_mono}
use Rattle.std.specs.Float.Ieee.Scale.{finite}
use Rattle.wire.specs.Test.{by_test}

-- at most B in size
abbrev pub AtMost : Float → ℕ → Type 0
AtMost nan B = ⊥
AtMost (inf s) B = ⊥
AtMost (fin s m e) B = m * up e ≤ B * down e

pub at_most_finite : (x : Float) (B : ℕ) → AtMost x B → T (finite x)
at_most_finite nan B h = absurd h
at_most_finite (inf s) B h = absurd h
at_most_finite (fin s m e) B h = tt

pub at_most_grows : (x : Float) (A B : ℕ) → A ≤ B → AtMost x A → AtMost x B
at_most_grows nan A B h p = p
at_most_grows (inf s) A B h p = p
at_most_grows (fin s m e) A B h p = le_trans p (mul-le-mul_right (down e) h)

-- ---- the sign has no part in rounding
abbrev pub with_sign : Bool → Float → Float
with_sign s nan = nan
with_sign s (inf t) = inf s
with_sign s (fin t m e) = fin s m e

odd_sign : (d : ℕ) (s : Bool) (q k l : ℕ) → odd d s q k l ≡ with_sign s (odd d false q k l)
unfolding odd
odd_sign d s zero k l = refl
odd_sign d s (suc q) k l = refl

units_sign : (f : Format) (s : Bool) (q k : ℕ) → units f s q k ≡ with_sign s (units f false q k)
unfolding units
units_sign f s q k = go (ltb (q * 2 ^ k) (2 ^ (low f + suc (emax f))))
  where
    go : (b : Bool) → cond b (odd (suc (prec f)) s q k (low f)) (inf s) ≡ with_sign s (cond b (odd (suc (prec f)) false q k (low f)) (inf false))
    go true = odd_sign (suc (prec f)) s q k (low f)
    go false = refl

pub round_sign : (f : Format) (s : Bool) (a b : ℕ) → round f s a b ≡ with_sign s (round f false a b)
unfolding round
round_sign f s a b = units_sign f s _ _

sized_sign : (s : Bool) (x : Float) (B : ℕ) → AtMost x B → AtMost (with_sign s x) B
sized_sign s nan B h = h
sized_sign s (inf t) B h = h
sized_sign s (fin t m e) B h = h

-- ---- what is no larger than a float that is B has the bound B
not_above : (a b : ℕ) (x : Bool) → T (ltb a b || (eqb a b && x)) → a ≤ b
not_above a b x h = by_test (ltb a b) (λ t. omega (arith, ltb-true a b t))
    (λ t. by_test (eqb a b) (λ q. omega (arith, eqb-true a b q)) (λ q. absurd (simp (t, q) at h)))

below_whole : (x y : Float) (B : ℕ) → T (le (with_sign false x) y) → HasValue y false B 1 → AtMost x B
unfolding le lt eq
below_whole nan y B h v = absurd h
below_whole (inf s) nan B h v = absurd v
below_whole (inf s) (inf t) B h v = absurd v
below_whole (inf s) (fin t n d) B h v = absurd h
below_whole (fin s m e) nan B h v = absurd v
below_whole (fin s m e) (inf t) B h v = absurd v
below_whole (fin s m e) (fin true n d) B h v = let z : ◌≡◌ {A = ℕ} 0 1 = cc v.0 in absurd (omega arith)
below_whole (fin s m e) (fin false n d) B h v =
    let le-cross = not_above (m * up e * down d) (n * up d * down e) _ h in
    let is : n * up d * down e ≡ B * down e * down d =
    ap (λ (x : ℕ). x * down e) (sym (mul-one (n * up d)) ∙ v.1) ∙ mul_right_comm B (down d) (down e) in
    le_of_mul-le-mul_right (le_trans le-cross (le_of_eq is)) (down_pos d)

-- ---- a fraction of at most B, rounded, is at most B
pub round_at_most : (s : Bool) (a b B : ℕ) → 0 < b → B ≤ 9007199254740992 → a ≤ B * b → AtMost (round binary64 s a b) B
round_at_most s a b B bp small h =
    let under = round_mono binary64 a b B 1 bp (omega arith) (le_trans (le_of_eq (mul-one a)) h) in
    let unsigned = subst (λ (x : Float). T (le x (round binary64 false B 1))) (round_sign binary64 false a b) under in
    subst (λ (x : Float). AtMost x B) (sym (round_sign binary64 s a b))
    (sized_sign s (round binary64 false a b) B
    (below_whole (round binary64 false a b) (round binary64 false B 1) B unsigned (round_whole binary64 false B small)))

-- ---- a whole number
pub whole_size : (n : ℕ) → n ≤ 9007199254740992 → AtMost (of_int binary64 (pos n)) n
unfolding of_int
whole_size n h = round_at_most false n 1 n (omega arith) h (le_of_eq (sym (mul-one n)))

pub negative_size : (n : ℕ) → suc n ≤ 9007199254740992 → AtMost (of_int binary64 (negsuc n)) (suc n)
unfolding of_int
negative_size n h = round_at_most true (suc n) 1 (suc n) (omega arith) h (le_of_eq (sym (mul-one (suc n))))

-- ---- a product
pub product_size : (x y : Float) (A B : ℕ) → A * B ≤ 9007199254740992 → AtMost x A → AtMost y B → AtMost (mul binary64 x y) (A * B)
unfolding mul
product_size nan y A B h p q = absurd p
product_size (inf s) y A B h p q = absurd p
product_size (fin s m e) nan A B h p q = absurd q
product_size (fin s m e) (inf t) A B h p q = absurd q
product_size (fin s m e) (fin t n d) A B h p q =
    round_at_most (unlike s t) (m * up e * (n * up d)) (down e * down d) (A * B) (mul-pos (down_pos e) (down_pos d)) h
    (le_trans (mul-le-mul p q) (le_of_eq (mul-mul-mul_comm A (down e) B (down d))))

-- ---- a sum
sum_size : (s t : Bool) (a b c A B : ℕ) → 0 < c → A + B ≤ 9007199254740992 → a ≤ A * c → b ≤ B * c
    → AtMost (sum binary64 s a t b c) (A + B)
unfolding sum
sum_size s t a b c A B cp h p q = same (beq s t)
  where
    both : a + b ≤ (A + B) * c
    both = le_trans (omega (arith, p, q)) (le_of_eq (sym (add-mul A B c)))

    one : (r : Bool) (x : ℕ) → x ≤ a + b → AtMost (round binary64 r x c) (A + B)
    one r x k = round_at_most r x c (A + B) cp h (le_trans k both)

    larger : (r : Bool) → AtMost (cond r (round binary64 t (b - a) c) (round binary64 (s && ltb b a) (a - b) c)) (A + B)
    larger true = one t (b - a) (omega arith)
    larger false = one (s && ltb b a) (a - b) (omega arith)

    same : (r : Bool) → AtMost (cond r (round binary64 s (a + b) c) (cond (ltb a b) (round binary64 t (b - a) c) (round binary64 (s && ltb b a) (a - b) c))) (A + B)
    same true = one s (a + b) (omega arith)
    same false = larger (ltb a b)

pub addition_size : (x y : Float) (A B : ℕ) → A + B ≤ 9007199254740992 → AtMost x A → AtMost y B → AtMost (add binary64 x y) (A + B)
unfolding add
addition_size nan y A B h p q = absurd p
addition_size (inf s) y A B h p q = absurd p
addition_size (fin s m e) nan A B h p q = absurd q
addition_size (fin s m e) (inf t) A B h p q = absurd q
addition_size (fin s m e) (fin t n d) A B h p q =
    sum_size s t (m * up e * down d) (n * up d * down e) (down e * down d) A B (mul-pos (down_pos e) (down_pos d)) h
    (le_trans (mul-le-mul_right (down d) p) (le_of_eq (mul_assoc A (down e) (down d))))
    (le_trans (mul-le-mul_right (down e) q) (le_of_eq (mul_right_comm B (down d) (down e) ∙ mul_assoc B (down e) (down d))))

-- ---- a tenth
pub tenth_size : (x : Float) (B : ℕ) → B ≤ 9007199254740992 → AtMost x (10 * B) → AtMost (div binary64 x (fin false 5 (pos 1))) B
unfolding div
tenth_size nan B h p = absurd p
tenth_size (inf s) B h p = absurd p
tenth_size (fin s m e) B h p =
    round_at_most (unlike s false) (m * up e * 1) (10 * down e) B (omega (arith, down_pos e)) h
    (le_trans (le_of_eq (mul-one (m * up e))) (le_trans p (le_of_eq (ap (λ (x : ℕ). x * down e) (mul_comm 10 B) ∙ mul_assoc B 10 (down e)))))

-- Which floats and which bit patterns are a NaN's, as the code tests for them.
use Rattle.std.specs.Prelude.{◌≡◌, refl, Bool, true, false, not, ℕ, ◌%◌, ◌<◌, ◌≤◌, T, Float}
use Rattle.std.proofs.Common.{sym, ap, ◌∙◌, subst, arith, lt-ltb, le-ltb}
use Rattle.std.specs.Float.{nan, inf, fin, binary64}
use Rattle.std.specs.Float.Ieee.{of_bits, to_bits, is_nan, nan_bits, ne, div}
use Rattle.std.specs.Float.Ieee.Compare.{differs_from_itself, nan_differs}
use Rattle.std.specs.Float.Ieee.Bits.{nan_bits_is, nan_bits_above}

nan_only : (x : Float) → is_nan x ≡ true → x ≡ nan
unfolding is_nan
nan_only nan e = refl
nan_only (inf s) e = let z : ◌≡◌ {A = ℕ} 0 1 = cc e in absurd (omega arith)
nan_only (fin s m k) e = let z : ◌≡◌ {A = ℕ} 0 1 = cc e in absurd (omega arith)

-- what differs from itself is the NaN, whose pattern the definition names
pub nan_pattern : (x : Float) → ne x x ≡ true → 9221120237041090560 ≡ to_bits binary64 x
unfolding to_bits
nan_pattern x e = sym (ap (to_bits binary64) (differs_from_itself x (subst T (sym e) tt)))

pub no_nan : (x : Float) → ne x x ≡ false → T (not (is_nan x))
unfolding is_nan
no_nan nan e = let z : ◌≡◌ {A = ℕ} 0 1 = cc (sym nan_differs ∙ e) in absurd (omega arith)
no_nan (inf s) e = tt
no_nan (fin s m k) e = tt

-- a pattern above that of an infinity, the sign's bit taken off, is a NaN's
pub from_nan_pattern : (bits : ℕ) → 9218868437227405312 < bits % 9223372036854775808 → div binary64 (of_bits binary64 0) (of_bits binary64 0) ≡ of_bits binary64 bits
unfolding div of_bits
from_nan_pattern bits h =
    sym (nan_only (of_bits binary64 bits) (sym (nan_bits_is binary64 bits) ∙ nan_bits_above binary64 bits ∙ lt-ltb 9218868437227405312 (bits % 9223372036854775808) h))

pub no_nan_pattern : (bits : ℕ) → bits % 9223372036854775808 ≤ 9218868437227405312 → T (not (nan_bits binary64 bits))
no_nan_pattern bits h =
    subst (λ (b : Bool). T (not b)) (sym (nan_bits_above binary64 bits ∙ le-ltb 9218868437227405312 (bits % 9223372036854775808) h)) tt

-- Numbers in a line, worked out from the definitions as bytes.
use Rattle.std.specs.Prelude.{◌≡◌, refl, [], ◌∷◌, pos, negsuc}
use Rattle.std.specs.Float.{binary64}
use Rattle.std.specs.Float.Ieee.{of_bits}
use Rattle.event_text.specs.Line.{decimal_in, decimal}
use Rattle.station_number.specs.Fixed.{degrees_text, thousandths_text, nearest_thousandths, thousandths}

pub record Rows : Type 0 where
  -- -18.4 degrees, half a degree below zero, and zero
  pub cold : degrees_text (negsuc 183) ≡ 45 ∷ 49 ∷ 56 ∷ 46 ∷ 52 ∷ []
  pub half_below : degrees_text (negsuc 4) ≡ 45 ∷ 48 ∷ 46 ∷ 53 ∷ []
  pub at_zero : degrees_text (pos 0) ≡ 48 ∷ 46 ∷ 48 ∷ []
  pub warm : degrees_text (pos 400) ≡ 52 ∷ 48 ∷ 46 ∷ 48 ∷ []
  -- 62.5 thousandths go up to 63, and below zero down to -63
  pub half_up : thousandths_text (thousandths (of_bits binary64 0x3fb0000000000000)) ≡ 48 ∷ 46 ∷ 48 ∷ 54 ∷ 51 ∷ []
  pub half_down : thousandths_text (thousandths (of_bits binary64 0xbfb0000000000000)) ≡ 45 ∷ 48 ∷ 46 ∷ 48 ∷ 54 ∷ 51 ∷ []
  -- the float before a half, and one that is nearly -0.0004: no sign stands before a zero
  pub below_half : thousandths_text (thousandths (of_bits binary64 0x3fafffffffffffff)) ≡ 48 ∷ 46 ∷ 48 ∷ 54 ∷ 50 ∷ []
  pub no_sign : thousandths_text (thousandths (of_bits binary64 0xbf3a36e2eb1c432d)) ≡ 48 ∷ 46 ∷ 48 ∷ 48 ∷ 48 ∷ []
  -- the smallest float, and the largest count that is corrected
  pub smallest : thousandths_text (thousandths (of_bits binary64 1)) ≡ 48 ∷ 46 ∷ 48 ∷ 48 ∷ 48 ∷ []
  pub largest : thousandths_text (thousandths (of_bits binary64 0x40fee47000000000)) ≡ 49 ∷ 50 ∷ 54 ∷ 53 ∷ 51 ∷ 53 ∷ 46 ∷ 48 ∷ 48 ∷ 48 ∷ []

pub rows : Rows
unfolding of_bits decimal_in decimal degrees_text thousandths_text nearest_thousandths thousandths
rows = record {
  cold = refl;
  half_below = refl;
  at_zero = refl;
  warm = refl;
  half_up = refl;
  half_down = refl;
  below_half = refl;
  no_sign = refl;
  smallest = refl;
  largest = refl;
}

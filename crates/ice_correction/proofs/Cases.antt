-- Corrections computed from bits. Each row is one that another order of operations, another rounding or another order of
-- refusals would answer otherwise.
use Rattle.std.specs.Prelude.{◌≡◌, refl, ℕ, ℤ, pos, negsuc, Float}
use Rattle.std.specs.Float.{binary64}
use Rattle.std.specs.Float.Ieee.{of_bits, to_bits, add, mul, div, of_int}
use Rattle.ice_correction.specs.declared.Curve.{Curve}
use Rattle.ice_correction.specs.declared.Calibration.{Calibration}
use Rattle.ice_correction.specs.Correction.{Answer, Count, Refused, allowed, degrees_of, by_curve, corrected}

-- a float by its bits
abbrev bits : ℕ → Float
bits n = of_bits binary64 n

-- a thawed and a frozen card: the offset of the first, the slope and the offset of the second
abbrev cards : ℕ → ℕ → ℕ → Calibration
cards offset slope ice =
    record {
      thawed = record { serial = 1; curve = Curve.Thawed (bits offset) };
      frozen = record { serial = 2; curve = Curve.Frozen (bits slope) (bits ice) };
    }

-- the answer's bits, or the number of the refusal
abbrev answered : Answer → ℕ
answered (Count x) = to_bits binary64 x
answered (Refused n) = n

abbrev at : Calibration → ℤ → ℕ → ℕ
at c tenths raw = answered (corrected c tenths raw)

pub record Rows : Type 0 where
  -- slope 10 at -0.1 degrees: the product is -1 once it is rounded. In one rounding the sum would not be 0.
  pub rounds_the_product : at (cards 0 0x4024000000000000 0) (negsuc 0) 1 ≡ 0
  -- a product of 2 ^ -53 is lost beside 1, and then the offset takes the 1 away; added before, the offset would leave it
  pub offset_last : at (cards 0 0xbca0000000000000 0xbff0000000000000) (negsuc 9) 1 ≡ 0
  -- -3 tenths, divided by 10 and not multiplied by 0.1
  pub divides : at (cards 0 0x3ff0000000000000 0) (negsuc 2) 0 ≡ 0xbfd3333333333333
  -- at zero the thawed card adds 1, a tenth below it the frozen one adds 2
  pub zero_is_thawed : at (cards 0x3ff0000000000000 0 0x4000000000000000) (pos 0) 5 ≡ 0x4018000000000000
  pub below_is_frozen : at (cards 0x3ff0000000000000 0 0x4000000000000000) (negsuc 0) 5 ≡ 0x401c000000000000
  -- a raw count and a temperature out of range; a temperature, and a float of a card
  pub raw_first : at (cards 0 0 0) (pos 401) 65536 ≡ 41
  pub range_next : at (cards 0x7ff8000000000000 0 0) (negsuc 600) 65535 ≡ 42
  -- a NaN on a thawed card, with another thawed card in the place of the frozen one: the kind comes first
  pub kinds_next : answered
      (corrected
      (record {
        thawed = record { serial = 1; curve = Curve.Thawed (bits 0x7ff8000000000000) };
        frozen = record { serial = 2; curve = Curve.Thawed (bits 0) };
      })
      (pos 0) 0)
      ≡ 43
  -- a NaN and an infinity on the card that is not used
  pub unused_nan : at (cards 0x7ff0000000000001 0 0) (negsuc 0) 0 ≡ 44
  pub unused_infinity : at (cards 0 0xfff0000000000000 0) (pos 0) 0 ≡ 44

pub rows : Rows
unfolding of_bits to_bits add mul div of_int allowed degrees_of by_curve corrected
rows =
    record {
      rounds_the_product = refl;
      offset_last = refl;
      divides = refl;
      zero_is_thawed = refl;
      below_is_frozen = refl;
      raw_first = refl;
      range_next = refl;
      kinds_next = refl;
      unused_nan = refl;
      unused_infinity = refl;
    }

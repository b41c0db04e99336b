-- The calibration cards of a station, from the texts of three parameters.
use Rattle.std.specs.Prelude.{ℕ, suc, ◌+◌, ◌*◌, Bool, true, false, List, [], ◌∷◌, length, take, drop, ℤ, pos, Float, if◌then◌else◌, Some, None, Option}
use Rattle.std.specs.Float.{binary64}
use Rattle.std.specs.Float.Ieee.{div, of_int}
use Rattle.wire.specs.Test.{◌<?◌, ◌=?◌}
use Rattle.wire.specs.Buffer.{byte_at}
use Rattle.decimal.specs.Decimal.{decimal_of}
use Rattle.ice_correction.specs.declared.Curve.{Curve}
use Rattle.ice_correction.specs.declared.Calibration.{Calibration}
use Rattle.station_number.specs.Fixed.{signed}

-- Where a byte stands first in a text; the text's length where it stands nowhere.
unfoldable pub index_of : ℕ → List ℕ → ℕ
index_of b [] = 0
index_of b (x ∷ xs) = if x =? b then 0 else suc (index_of b xs)

-- ---- a number without a sign, in thousandths
abbrev pub times : ℕ → Option ℕ → Option ℕ
times k None = None
times k (Some n) = Some (n * k)

abbrev pub plus : Option ℕ → Option ℕ → Option ℕ
plus None m = None
plus (Some n) None = None
plus (Some n) (Some m) = Some (n + m)

-- Before the point stand one to four digits.
unfoldable pub whole_of : List ℕ → Option ℕ
whole_of text = if 4 <? length text then None else times 1000 (decimal_of text)

-- After it stand one to three digits: tenths, hundredths or thousandths.
abbrev pub weight : ℕ → ℕ
weight n = if n =? 1 then 100 else if n =? 2 then 10 else 1

unfoldable pub fraction_of : List ℕ → Option ℕ
fraction_of text = if 3 <? length text then None else times (weight (length text)) (decimal_of text)

-- The first point, 46, parts the two; without a point there is no fraction.
unfoldable pub unsigned_of : List ℕ → Option ℕ
unsigned_of text =
    let point = index_of 46 text in
    if point =? length text then whole_of text
    else plus (whole_of (take point text)) (fraction_of (drop (point + 1) text))

-- ---- a card's float
-- What is no number stands for 2,000, which no card may have.
abbrev pub NO_NUMBER : ℤ
NO_NUMBER = pos 2000000

abbrev pub card_number : Bool → Option ℕ → ℤ
card_number below None = NO_NUMBER
card_number below (Some n) = signed below n

-- A minus sign, 45, or nothing, and then a number.
unfoldable pub thousandths_in : List ℕ → ℤ
thousandths_in text =
    if length text =? 0 then NO_NUMBER
    else if byte_at text 0 =? 45 then card_number true (unsigned_of (drop 1 text))
    else card_number false (unsigned_of text)

-- The float equal to the number of thousandths, divided by 1,000.
unfoldable pub card_float : List ℕ → Float
card_float text = div binary64 (of_int binary64 (thousandths_in text)) (of_int binary64 (pos 1000))

-- The cards have the serial numbers 1 and 2.
unfoldable pub calibration_of : List ℕ → List ℕ → List ℕ → Calibration
calibration_of thawedOffset frozenSlope frozenOffset =
    record {
      thawed = record { serial = 1; curve = Curve.Thawed (card_float thawedOffset) };
      frozen = record { serial = 2; curve = Curve.Frozen (card_float frozenSlope) (card_float frozenOffset) };
    }

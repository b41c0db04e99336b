-- Numbers of cards, worked out from the definitions.
use Rattle.std.specs.Prelude.{◌≡◌, refl, [], ◌∷◌, pos, negsuc}
use Rattle.decimal.specs.Decimal.{digits_after, decimal_of}
use Rattle.station_cards.specs.Cards.{index_of, whole_of, fraction_of, unsigned_of, NO_NUMBER, thousandths_in}

pub record Rows : Type 0 where
  -- numbers of cards: with a point, a sign, without a fraction, the largest
  pub card_point : thousandths_in (45 ∷ 50 ∷ 46 ∷ 53 ∷ []) ≡ negsuc 2499
  pub card_whole : thousandths_in (52 ∷ []) ≡ pos 4000
  pub card_thousandth : thousandths_in (48 ∷ 46 ∷ 48 ∷ 48 ∷ 49 ∷ []) ≡ pos 1
  pub card_largest : thousandths_in (57 ∷ 57 ∷ 57 ∷ 57 ∷ 46 ∷ 57 ∷ 57 ∷ 57 ∷ []) ≡ pos 9999999
  pub card_minus_zero : thousandths_in (45 ∷ 48 ∷ []) ≡ pos 0
  -- and what is no number: nothing, a sign alone, five digits, a point without digits on either side, four digits behind
  -- it, a blank, a second point
  pub card_empty : thousandths_in [] ≡ NO_NUMBER
  pub card_sign : thousandths_in (45 ∷ []) ≡ NO_NUMBER
  pub card_five : thousandths_in (49 ∷ 50 ∷ 51 ∷ 52 ∷ 53 ∷ []) ≡ NO_NUMBER
  pub card_no_fraction : thousandths_in (49 ∷ 46 ∷ []) ≡ NO_NUMBER
  pub card_no_whole : thousandths_in (46 ∷ 53 ∷ []) ≡ NO_NUMBER
  pub card_four : thousandths_in (49 ∷ 46 ∷ 50 ∷ 51 ∷ 52 ∷ 53 ∷ []) ≡ NO_NUMBER
  pub card_blank : thousandths_in (32 ∷ 49 ∷ []) ≡ NO_NUMBER
  pub card_points : thousandths_in (49 ∷ 46 ∷ 50 ∷ 46 ∷ 51 ∷ []) ≡ NO_NUMBER

pub rows : Rows
unfolding index_of digits_after decimal_of whole_of fraction_of unsigned_of thousandths_in
rows = record {
  card_point = refl;
  card_whole = refl;
  card_thousandth = refl;
  card_largest = refl;
  card_minus_zero = refl;
  card_empty = refl;
  card_sign = refl;
  card_five = refl;
  card_no_fraction = refl;
  card_no_whole = refl;
  card_four = refl;
  card_blank = refl;
  card_points = refl;
}

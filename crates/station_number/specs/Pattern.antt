-- The size of a float in thousandths, from its bit pattern without the sign.
use Rattle.std.specs.Prelude.{ℕ, ◌+◌, ◌-◌, ◌/◌, ◌%◌, ◌^◌, if◌then◌else◌}
use Rattle.wire.specs.Test.{◌=?◌}
use Rattle.station_number.specs.Fixed.{nearest_thousandths}

-- Of the pattern's digits there are 52. A field of 0 stands for no leading digit, any other for one, and for a weight of
-- 2 to the power of the field less 1,075.
unfoldable pub pattern_size : ℕ → ℕ
pattern_size pattern =
    if pattern / 4503599627370496 =? 0 then nearest_thousandths (pattern % 4503599627370496) (2 ^ 1074)
    else nearest_thousandths (pattern % 4503599627370496 + 4503599627370496) (2 ^ (1075 - pattern / 4503599627370496))

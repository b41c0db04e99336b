-- The length that a list states under a name (request [8]).
use Rattle.std.specs.Prelude.{ℕ, List, if◌then◌else◌, Some, None, Option}
use Rattle.wire.specs.Test.{◌<?◌}
use Rattle.decimal.specs.Decimal.{decimal_of}
use Rattle.pairs.specs.Pair.{value_of}
use Rattle.pair_list.specs.List.{first_named}
use Rattle.pairs.specs.declared.pair.Pair.{Pair}

-- one less than the count that a stream stays at, so that a count can always pass what is stated
abbrev pub LARGEST : ℕ
LARGEST = 4294967294

abbrev pub up_to_largest : Option ℕ → Option ℕ
up_to_largest None = None
up_to_largest (Some n) = if LARGEST <? n then None else Some n

abbrev pub of_found : List ℕ → Option Pair → Option ℕ
of_found list (Some p) = up_to_largest (decimal_of (value_of list p))
of_found list None = None

-- One to ten decimal digits with a value of at most LARGEST, as the value of the first pair with that name; anything else
-- states nothing.
unfoldable pub stated_in : List ℕ → List ℕ → Option ℕ
stated_in list name = of_found list (first_named list name)

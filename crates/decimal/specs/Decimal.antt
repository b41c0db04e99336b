-- Numbers written in decimal digits, as the text of a parameter has them.
use Rattle.std.specs.Prelude.{ℕ, ◌+◌, ◌*◌, ◌-◌, Bool, false, List, [], ◌∷◌, length, if◌then◌else◌, Some, None, Option}
use Rattle.wire.specs.Test.{◌<?◌, ◌≤?◌, ◌=?◌}

-- the bytes 30 to 39 (hex)
abbrev pub is_digit : ℕ → Bool
is_digit byte = if byte <? 48 then false else byte ≤? 57

abbrev pub digit_value : ℕ → ℕ
digit_value byte = byte - 48

-- digits after a number that was read before them, the highest first
unfoldable pub digits_after : ℕ → List ℕ → Option ℕ
digits_after n [] = Some n
digits_after n (byte ∷ text) = if is_digit byte then digits_after (n * 10 + digit_value byte) text else None

-- One to ten digits, and nothing else: no sign, no blank. Leading zeros are allowed.
unfoldable pub decimal_of : List ℕ → Option ℕ
decimal_of text =
    if length text =? 0 then None
    else if 10 <? length text then None
    else digits_after 0 text

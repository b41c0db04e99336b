-- The length of a name or a value (FastCGI 1.0, section 3.4).
use Rattle.std.specs.Prelude.{ℕ, ◌+◌, ◌-◌, List, [], ◌∷◌, length, if◌then◌else◌, Some, None, Option}
use Rattle.wire.specs.Test.{◌<?◌, ◌≤?◌}
use Rattle.wire.specs.Number.{number4, bytes4}
use Rattle.wire.specs.Buffer.{byte_at}

-- The first byte of the four-byte form has its top bit set, 128, which is dropped from the number.
unfoldable pub four_at : List ℕ → ℕ → ℕ
four_at s at = number4 (byte_at s at - 128) (byte_at s (at + 1)) (byte_at s (at + 2)) (byte_at s (at + 3))

-- The length at a cursor, and the cursor after it: one byte below 128, or four bytes for any number. A length that the
-- list ends inside is malformed.
unfoldable pub length_at : List ℕ → ℕ → Option (ℕ × ℕ)
length_at s at =
    if length s ≤? at then None
    else if byte_at s at <? 128 then Some (byte_at s at, at + 1)
    else if length s - at <? 4 then None
    else Some (four_at s at, at + 4)

-- A length as it is written, in the shorter form (house rule).
unfoldable pub length_bytes : ℕ → List ℕ
length_bytes n = if n <? 128 then n ∷ [] else bytes4 (n + 2147483648)

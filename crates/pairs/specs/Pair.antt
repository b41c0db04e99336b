-- A name-value pair in a list (FastCGI 1.0, section 3.4): both lengths, then the name, then the value.
use Rattle.std.specs.Prelude.{ℕ, ◌+◌, ◌-◌, List, ◌++◌, length, take, drop, if◌then◌else◌, Some, None, Option}
use Rattle.wire.specs.Test.{◌<?◌, ◌≤?◌}
use Rattle.pairs.specs.Length.{length_at, length_bytes}
use Rattle.pairs.specs.declared.pair.Pair.{Pair}
use Rattle.pairs.specs.declared.pair.Read.{Read}

-- with a length that was read, or else
abbrev pub on_length : Option (ℕ × ℕ) → (ℕ → ℕ → Read) → Read → Read
on_length (Some (n, next)) f other = f n next
on_length None f other = other

-- Name and value of n and v bytes at a cursor, if the list has so many; the place is that of the pair's first byte.
abbrev pub body_at : List ℕ → ℕ → ℕ → ℕ → ℕ → Read
body_at s place n v at =
    if length s - at <? n then Read.Malformed place
    else if length s - (at + n) <? v then Read.Malformed place
    else Read.Pair (record { name = at; name_len = n; value = at + n; value_len = v }) (at + n + v)

-- The pair at a cursor with the cursor after it; the end; or malformed, with the place where the unreadable pair
-- starts.
unfoldable pub pair_at : List ℕ → ℕ → Read
pair_at s at =
    if length s ≤? at then Read.End
    else on_length (length_at s at) (λ n a. on_length (length_at s a) (λ v b. body_at s at n v b) (Read.Malformed at)) (Read.Malformed at)

-- a pair's name and value
abbrev pub name_of : List ℕ → Pair → List ℕ
name_of s p = take p.name_len (drop p.name s)

abbrev pub value_of : List ℕ → Pair → List ℕ
value_of s p = take p.value_len (drop p.value s)

-- A pair as it is written, each length in its shorter form.
unfoldable pub pair_bytes : List ℕ → List ℕ → List ℕ
pair_bytes name value = length_bytes (length name) ++ length_bytes (length value) ++ name ++ value

-- Bytes put into a lent buffer.
use Rattle.std.specs.Prelude.{ℕ, ◌+◌, Bool, List, ◌++◌, length, take, drop, get_or, replicate, if◌then◌else◌}
use Rattle.wire.specs.Test.{◌≤?◌}

-- the byte at a place, counted from 0
abbrev pub byte_at : List ℕ → ℕ → ℕ
byte_at bytes k = get_or bytes k 0

-- so many bytes of 0
abbrev pub zeros : ℕ → List ℕ
zeros n = replicate n 0

-- the buffer with these bytes from place `at` on; what lies before and after them stays
abbrev pub put_at : List ℕ → ℕ → List ℕ → List ℕ
put_at buffer at bytes = take at buffer ++ bytes ++ drop (at + length bytes) buffer

-- there is room for so many bytes at that place
abbrev pub has_room : List ℕ → ℕ → ℕ → Bool
has_room buffer at n = at + n ≤? length buffer

-- the bytes, where there is room for them; else the buffer stays as it is
unfoldable pub copied : List ℕ → ℕ → List ℕ → List ℕ
copied buffer at bytes = if has_room buffer at (length bytes) then put_at buffer at bytes else buffer

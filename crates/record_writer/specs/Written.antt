-- Records as they are written: one record, and a stream cut into records.
use Rattle.std.specs.Prelude.{ℕ, zero, suc, ◌+◌, ◌*◌, ◌-◌, ◌/◌, ◌%◌, Bool, false, length, take, drop, if◌then◌else◌}
use mathlib.Core.List.{List, [], ◌∷◌, ◌++◌, map, flatten}
use Rattle.wire.specs.Test.{◌≤?◌, ◌<?◌, ◌=?◌}
use Rattle.wire.specs.Buffer.{put_at, zeros}
use Rattle.record.specs.Names.{HEADER_LEN, MAX_CONTENT}
use Rattle.record.specs.Header.{header_bytes}

-- Padding to a multiple of eight (section 3.3 recommends it; the house always does it).
unfoldable pub padding_of : ℕ → ℕ
padding_of n = (8 - n % 8) % 8

-- The length of a record with n content bytes.
unfoldable pub record_length : ℕ → ℕ
record_length n = HEADER_LEN + n + padding_of n

-- A record: header, content, padding bytes of 0.
unfoldable pub record_bytes : ℕ → ℕ → List ℕ → List ℕ
record_bytes kind id content =
    header_bytes kind id (length content) (padding_of (length content)) ++ content ++ zeros (padding_of (length content))

-- Data cut into chunks of a given size, the last one shorter; no data, no chunk. (The first argument bounds their
-- number.)
unfoldable pub chunks_in : ℕ → ℕ → List ℕ → List (List ℕ)
chunks_in zero size bytes = []
chunks_in (suc k) size [] = []
chunks_in (suc k) size (b ∷ bs) = take size (b ∷ bs) ∷ chunks_in k size (drop size (b ∷ bs))

unfoldable pub chunks : ℕ → List ℕ → List (List ℕ)
unfolding chunks_in
chunks size bytes = chunks_in (length bytes) size bytes

-- A stream's data in records of at most `size` content bytes. Its end, an empty record, is not part of it.
unfoldable pub stream_bytes : ℕ → ℕ → ℕ → List ℕ → List ℕ
stream_bytes size kind id bytes = flatten (map (record_bytes kind id) (chunks size bytes))

-- How many bytes these are, from the number of data bytes alone: whole chunks, and one record for what is left.
unfoldable pub stream_length : ℕ → ℕ → ℕ
stream_length size n =
    n / size * record_length size + (if n % size =? 0 then 0 else record_length (n % size))

-- What was written into a buffer from a place on, and the place after it.
pub record Placed : Type 0 where
  pub next : ℕ
  pub buffer : List ℕ

-- All of the bytes, if they fit; else none of them.
abbrev pub placed : Bool → List ℕ → ℕ → List ℕ → Placed
placed fits buffer at bytes =
    if fits then record { next = at + length bytes; buffer = put_at buffer at bytes }
    else record { next = at; buffer = buffer }

-- A record fits whose content a two-byte length can say, and that there is room for.
unfoldable pub record_fits : ℕ → ℕ → ℕ → Bool
record_fits n at room = if n ≤? MAX_CONTENT then at + record_length n ≤? room else false

-- A stream fits whose chunks are not empty, and that there is room for.
unfoldable pub stream_fits : ℕ → ℕ → ℕ → ℕ → Bool
stream_fits size n at room = if 0 <? size then at + stream_length size n ≤? room else false

unfoldable pub record_placed : List ℕ → ℕ → ℕ → ℕ → List ℕ → Placed
record_placed buffer at kind id content =
    placed (record_fits (length content) at (length buffer)) buffer at (record_bytes kind id content)

unfoldable pub stream_placed : List ℕ → ℕ → ℕ → ℕ → List ℕ → ℕ → Placed
stream_placed buffer at kind id bytes size =
    placed (stream_fits size (length bytes) at (length buffer)) buffer at (stream_bytes size kind id bytes)

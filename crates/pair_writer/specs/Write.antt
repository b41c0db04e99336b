-- The call that writes a pair into a lent buffer.
use Rattle.pairs.specs.Pair.{pair_bytes}
use Rattle.std.specs.Prelude.{ℕ, List, length, if◌then◌else◌, Ok, Err, Result}
use Rattle.wire.specs.Test.{◌<?◌}
use Rattle.wire.specs.Buffer.{put_at}
use Rattle.pair_writer.specs.declared.PairRefusal.{PairRefusal}

-- The most bytes of a name or a value that is written.
abbrev pub MAX_WRITTEN : ℕ
MAX_WRITTEN = 65535

-- What a call that writes comes to: the number of its refusal, 0 for none; the bytes written; the buffer afterwards.
pub record Written : Type 0 where
  pub refusal : ℕ
  pub bytes : ℕ
  pub buffer : List ℕ

-- The number of each answer in the table of refusals, and the bytes written.
abbrev pub answered : Result ℕ PairRefusal → List ℕ → Written
answered (Ok n) buffer = record { refusal = 0; bytes = n; buffer = buffer }
answered (Err PairRefusal.TooLong) buffer = record { refusal = 8; bytes = 0; buffer = buffer }
answered (Err PairRefusal.NoRoom) buffer = record { refusal = 6; bytes = 0; buffer = buffer }

-- 8: name or value too long to write; then 6: output longer than the lent buffer; else the pair at the buffer's start.
unfoldable pub pair_written : List ℕ → List ℕ → List ℕ → Written
pair_written buffer name value =
    if MAX_WRITTEN <? length name then record { refusal = 8; bytes = 0; buffer = buffer }
    else if MAX_WRITTEN <? length value then record { refusal = 8; bytes = 0; buffer = buffer }
    else if length buffer <? length (pair_bytes name value) then record { refusal = 6; bytes = 0; buffer = buffer }
    else record { refusal = 0; bytes = length (pair_bytes name value); buffer = put_at buffer 0 (pair_bytes name value) }

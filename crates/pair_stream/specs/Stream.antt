-- The call that writes a pair as a stream into a lent buffer.
use Rattle.std.specs.Prelude.{ℕ, List, length, if◌then◌else◌}
use Rattle.wire.specs.Test.{◌<?◌}
use Rattle.wire.specs.Buffer.{put_at}
use Rattle.record_writer.specs.Written.{stream_bytes, stream_fits}
use Rattle.pairs.specs.Pair.{pair_bytes}
use Rattle.pair_writer.specs.Write.{Written, MAX_WRITTEN}

-- 8: name or value too long to write; then 6: the records do not fit into the buffer; else they stand at its start.
unfoldable pub pair_streamed : List ℕ → ℕ → ℕ → List ℕ → List ℕ → ℕ → Written
pair_streamed buffer kind id name value size =
    if MAX_WRITTEN <? length name then record { refusal = 8; bytes = 0; buffer = buffer }
    else if MAX_WRITTEN <? length value then record { refusal = 8; bytes = 0; buffer = buffer }
    else if stream_fits size (length (pair_bytes name value)) 0 (length buffer) then record {
      refusal = 0;
      bytes = length (stream_bytes size kind id (pair_bytes name value));
      buffer = put_at buffer 0 (stream_bytes size kind id (pair_bytes name value));
    }
    else record { refusal = 6; bytes = 0; buffer = buffer }

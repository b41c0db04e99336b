-- What the call that writes an owed reply answers, read in the rules' numbers.
use Rattle.std.specs.Prelude.{Bool, List, [], length, ℕ, if◌then◌else◌, Result}
use Rattle.wire.specs.Test.{◌<?◌}
use Rattle.wire.specs.Buffer.{put_at}
use Rattle.pairs.specs.Pair.{pair_bytes}
use Rattle.connection.specs.Codes.{wrote_refusal, wrote_bytes}
use Rattle.connection.specs.Calls.{Replied}
use Rattle.connection.specs.declared.answer.Refusal.{Refusal}

abbrev pub replied_by : Result ℕ Refusal → List ℕ → Replied
replied_by r buffer = record { refusal = wrote_refusal r; written = wrote_bytes r; buffer = buffer }

-- those bytes at the buffer's start, or 6 where they do not fit
abbrev pub filled_by : List ℕ → List ℕ → Replied
filled_by bytes buffer =
    if length buffer <? length bytes then record { refusal = 6; written = 0; buffer = buffer }
    else record { refusal = 0; written = length bytes; buffer = put_at buffer 0 bytes }

-- a pair, if it is asked for
abbrev pub named_pair : Bool → List ℕ → List ℕ → List ℕ
named_pair asked name value = if asked then pair_bytes name value else []

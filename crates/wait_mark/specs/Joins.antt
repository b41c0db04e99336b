-- The code's forms: ends doubled, whether two bytes go into one record, and how many are known to.
use Rattle.std.specs.Prelude.{ℕ, ◌+◌, ◌-◌, ◌*◌, ◌%◌, Bool, false, not, List, drop, if◌then◌else◌}
use Rattle.wire.specs.Test.{◌=?◌}
use Rattle.wire.specs.Buffer.{byte_at}
use Rattle.queue_slot.specs.declared.Ends.{Ends}
use Rattle.queue_slot.specs.Atoms.{RUN}
use Rattle.queue_slot.specs.Wait.{ends_number, no_ends, mark_ends, run_length}

-- the part of a mark that is of ends
abbrev pub doubled : Ends → ℕ
doubled e = 2 * ends_number e

-- no end is behind the first byte, and the next is of the same stream
abbrev pub joins : ℕ → ℕ → Bool
joins mark next = if no_ends (mark_ends mark) then mark % 2 =? next % 2 else false

-- the mark of byte i is not this one
abbrev pub is_other : List ℕ → ℕ → ℕ → Bool
is_other marks mark i = not (byte_at marks i =? mark)

-- the run where its first k bytes are known to join
abbrev pub run_from : List ℕ → ℕ → ℕ
run_from marks k = (k - 1) + run_length (RUN - (k - 1)) (drop (k - 1) marks)

-- The word of occupancy, read from its lowest bit on.
use Rattle.std.specs.Prelude.{ℕ, zero, suc, ◌+◌, ◌*◌, ◌/◌, ◌%◌, Bool, if◌then◌else◌}
use Rattle.wire.specs.Test.{◌<?◌, ◌=?◌}

-- slot i is taken: its bit is 1
unfoldable pub taken : ℕ → ℕ → Bool
taken zero o = o % 2 =? 1
taken (suc i) o = taken i (o / 2)

-- the lowest-numbered of n slots that is free, or n
unfoldable pub lowest_free : ℕ → ℕ → ℕ
lowest_free zero o = zero
lowest_free (suc n) o = if o % 2 =? 1 then suc (lowest_free n (o / 2)) else zero

-- how many of n slots are taken
unfoldable pub taken_count : ℕ → ℕ → ℕ
taken_count zero o = zero
taken_count (suc n) o = (if o % 2 =? 1 then 1 else 0) + taken_count n (o / 2)

-- the word with bit i set, and clear
unfoldable pub with_bit : ℕ → ℕ → ℕ
with_bit zero o = o / 2 * 2 + 1
with_bit (suc i) o = with_bit i (o / 2) * 2 + o % 2

unfoldable pub without_bit : ℕ → ℕ → ℕ
without_bit zero o = o / 2 * 2
without_bit (suc i) o = without_bit i (o / 2) * 2 + o % 2

-- one of the 16 slots taken, and freed
unfoldable pub with_slot : ℕ → ℕ → ℕ
unfolding with_bit
with_slot i o = if i <? 16 then with_bit i o else o

unfoldable pub without_slot : ℕ → ℕ → ℕ
unfolding without_bit
without_slot i o = if i <? 16 then without_bit i o else o

-- the mark of slot i, set or cleared
abbrev pub marked : ℕ → Bool → ℕ → ℕ
marked i b o = if b then with_slot i o else without_slot i o

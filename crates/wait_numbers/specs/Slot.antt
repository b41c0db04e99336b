-- The numbers of one slot, read and put; what waits by the words; the slot that is served next.
use Rattle.connection.specs.Slots.{Slot}
use Rattle.std.specs.Prelude.{ℕ, Bool, List, get_or, Some, None}
use Rattle.std.proofs.Math.Option.{Option, none, some}
use Rattle.std.specs.Int.Bits.{bit_or}
use Rattle.wire.specs.Test.{◌<?◌, ◌≤?◌}
use Rattle.connection.specs.Sizes.{SLOTS}
use Rattle.machine_queue.specs.Pump.{next_waiting}
use Rattle.queue_slot.specs.declared.Numbers.{Numbers}
use Rattle.queue_slot.specs.Wait.{ROOM, some_waits}
use Rattle.queue.specs.Numbers.{HOLDING, OUT_ENDS, ERR_ENDS, LEAVING, count_at, front_at, last_at, status_at}
use Rattle.queue.specs.Numbers.{put_count, put_front, put_last}

-- the numbers of slot i
abbrev pub numbers_in : List ℕ → ℕ → Numbers
numbers_in waits i =
    record { count = count_at waits i; front = front_at waits i; last = last_at waits i; status = status_at waits i }

-- with other numbers of slot i
abbrev pub put_numbers : List ℕ → ℕ → Numbers → List ℕ
put_numbers waits i n = put_last (put_front (put_count waits i n.count) i n.front) i n.last n.status

-- anything waits in slot i
abbrev pub waits_in : List ℕ → ℕ → Bool
waits_in waits i = some_waits (count_at waits i) (front_at waits i) (last_at waits i)

-- the slots where anything waits, a bit for each: what the code computes
abbrev pub some_word : List ℕ → ℕ
some_word waits =
    let place : ℕ → ℕ = λ p. get_or waits p 0 in
    bit_or (bit_or (bit_or (place HOLDING) (place OUT_ENDS)) (place ERR_ENDS)) (place LEAVING)

-- a slot found, as an option
abbrev pub slot_of : Slot → Option ℕ
slot_of (Some i) = some i
slot_of None = none

-- the first slot that waits, going round from a slot on
abbrev pub next_from : List ℕ → ℕ → Option ℕ
next_from waits first = next_waiting SLOTS SLOTS (waits_in waits) first

-- slot i's number is over ROOM - 1, whether data waits there or not
abbrev pub is_long : List ℕ → ℕ → Bool
is_long waits i = ROOM ≤? get_or waits i 0

-- over ROOM data bytes wait in slot i
abbrev pub is_over : List ℕ → ℕ → Bool
is_over waits i = ROOM <? count_at waits i

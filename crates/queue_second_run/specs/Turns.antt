-- Turns of the pump: when nothing waits, and how much can.
use Rattle.std.specs.Prelude.{◌≡◌, ℕ, zero, suc, ◌+◌, ◌*◌, ◌<◌, false, length}
use Rattle.connection.specs.Sizes.{SLOTS}
use Rattle.queue_slot.specs.Wait.{ROOM, atoms_in}
use Rattle.queue.specs.Calls.{QueueMemory, wait_at, slot_waits, turned}

-- Nothing waits in any slot.
abbrev pub NothingWaits : QueueMemory → Type 0
NothingWaits m = (i : ℕ) → i < SLOTS → slot_waits m i ≡ false

-- how many things wait in slot i: bytes, ends and END
abbrev pub waiting_at : QueueMemory → ℕ → ℕ
waiting_at m i = length (atoms_in (wait_at m i))

-- f 0 + .. + f (n - 1)
unfoldable pub sum_below : ℕ → (ℕ → ℕ) → ℕ
sum_below zero f = 0
sum_below (suc n) f = f n + sum_below n f

-- how many things wait in all slots
abbrev pub waiting_in : QueueMemory → ℕ
waiting_in m = sum_below SLOTS (waiting_at m)

-- The most that can wait, 49,200: in each slot two ends before all bytes, two behind each byte, and END.
unfoldable pub MOST : ℕ
MOST = SLOTS * (3 * ROOM + 3)

-- A turn that writes fewer records than it may leaves nothing waiting in any slot.
abbrev pub StopsEarly : Type 0
StopsEarly = (k : ℕ) (m : QueueMemory) → length (turned k m).records < k → NothingWaits (turned k m).left

-- The numbers of a slot as the code reads them, and the slots going round.
use Rattle.std.specs.Prelude.{ℕ, suc, ◌+◌, ◌-◌, ◌≤◌, ◌<◌, ◌≡◌, refl, Bool, true, false, List, get_or}
use Rattle.std.proofs.Common.{◌∙◌, arith, lt-ltb, le-ltb}
use Rattle.std.proofs.Math.Option.{none, some}
use Rattle.wire.specs.Test.{by_test}
use Rattle.connection.specs.Sizes.{SLOTS}
use Rattle.machine_queue.specs.Pump.{slot_after, next_waiting}
use Rattle.machine_queue.proofs.Pumping.{after_below}
use Rattle.queue_slot.specs.Wait.{ROOM}
use Rattle.queue.specs.Numbers.{HOLDING, bit_at, count_at, kept_waits}
use Rattle.queue.specs.Calls.{first_slot}
use Rattle.wait_numbers.specs.Slot.{waits_in, next_from}

-- a number of the pump that is below SLOTS is its first slot
pub first_low : (n r : ℕ) → r ≡ n → r < SLOTS → r ≡ first_slot n
first_low n r e h = e ∙ simp (lt-ltb n SLOTS (omega arith))

-- any other number stands for slot 0
pub first_out : (n r : ℕ) → r ≡ n → SLOTS ≤ r → 0 ≡ first_slot n
first_out n r e h = simp (le-ltb n SLOTS (omega arith))

-- where the bit of slot i is 1, one more data byte waits there than its number says
pub count_some : (waits : List ℕ) (i r : ℕ) → bit_at waits HOLDING i ≡ true → r ≡ get_or waits i 0 + 1
    → r ≡ count_at waits i
unfolding count_at
count_some waits i r t e = simp t (omega arith)

-- where it is 0, none does
pub count_none : (waits : List ℕ) (i : ℕ) → bit_at waits HOLDING i ≡ false → 0 ≡ count_at waits i
unfolding count_at
count_none waits i t = simp t

-- where a slot's number is below ROOM, at most ROOM data bytes wait there
pub count_short : (waits : List ℕ) (i : ℕ) → get_or waits i 0 < ROOM → count_at waits i ≤ ROOM
count_short waits i h =
    by_test (bit_at waits HOLDING i)
    (λ t. omega (arith, count_some waits i (get_or waits i 0 + 1) t refl))
    (λ t. omega (arith, count_none waits i t))

-- A connection that is as it was keeps what waits.
pub kept_as_was : (b : Bool) (waits : List ℕ) → kept_waits b b waits ≡ waits
kept_as_was true waits = refl
kept_as_was false waits = refl

-- ---- going round
-- The search for a slot that waits has come to slot i: the first slot from i on, among so many, is the first of all.
pub record Going (waits : List ℕ) (first i left : ℕ) : Type 0 where
  pub low : i < SLOTS
  pub same : next_waiting SLOTS left (waits_in waits) i ≡ next_from waits first

-- it starts at the first slot, with all slots to look at
pub going_start : {waits : List ℕ} {first : ℕ} → first < SLOTS → Going waits first first SLOTS
going_start h = record { low = h; same = refl }

-- nothing waits in slot i: it comes to the slot after it
pub going_next : {waits : List ℕ} {first i left : ℕ} → Going waits first i left → 0 < left → waits_in waits i ≡ false
    → Going waits first (slot_after SLOTS i) (left - 1)
unfolding next_waiting
going_next {waits} {first} {i} {left} g h t =
    let m : left ≡ suc (left - 1) = omega arith in
    record { low = after_below SLOTS i g.low; same = simp t at (rw m at g.same) }

-- something waits there: slot i is the first of all
pub going_found : {waits : List ℕ} {first i left : ℕ} → Going waits first i left → 0 < left → waits_in waits i ≡ true
    → some i ≡ next_from waits first
unfolding next_waiting
going_found {waits} {first} {i} {left} g h t =
    let m : left ≡ suc (left - 1) = omega arith in
    simp t at (rw m at g.same)

-- no slot is left to look at: nothing waits anywhere
pub going_done : {waits : List ℕ} {first i left : ℕ} → Going waits first i left → left ≤ 0 → none ≡ next_from waits first
unfolding next_waiting
going_done {waits} {first} {i} {left} g h = let m : left ≡ 0 = omega arith in rw m at g.same

-- The slots' part of row 9 in the form that is quick to compute: keys, and each compared with the eight after it,
-- going round.
use Rattle.std.specs.Prelude.{ℕ, zero, suc, ◌+◌, ◌-◌, ◌≤◌, ◌<◌, ◌≡◌, Bool, false, not, ◌&&◌, ◌||◌, List, [], ◌∷◌, length, get_or, if◌then◌else◌}
use Rattle.wire.specs.Test.{◌<?◌, ◌=?◌}
use Rattle.slot_word.specs.Word.{taken}
use Rattle.connection.specs.Sizes.{SLOTS, AREA}

-- some of the n numbers from i on
unfoldable pub any_of : ℕ → (ℕ → Bool) → ℕ → Bool
any_of zero test i = false
any_of (suc n) test i = test i || any_of n test (i + 1)

-- A loop over n numbers has come to i: what it found, or what is found from i on, is what is found of all of them.
pub record Gathers (n : ℕ) (test : ℕ → Bool) (any : Bool) (i : ℕ) : Type 0 where
  pub all : (any || any_of (n - i) test i) ≡ any_of n test 0

-- the bit of each slot
abbrev pub slot_bits : List ℕ
slot_bits = 1 ∷ 2 ∷ 4 ∷ 8 ∷ 16 ∷ 32 ∷ 64 ∷ 128 ∷ 256 ∷ 512 ∷ 1024 ∷ 2048 ∷ 4096 ∷ 8192 ∷ 16384 ∷ 32768 ∷ []

-- All slots taken are among the first n.
pub record TakenBelow (occupied n : ℕ) : Type 0 where
  pub within : n ≤ SLOTS
  pub free : (i : ℕ) → n ≤ i → taken i occupied ≡ false

-- the key of a slot: its id, 0 where it is free
abbrev pub key_if : Bool → ℕ → ℕ
key_if is_taken id = if is_taken then id else 0

abbrev pub key_of : List ℕ → ℕ → ℕ → ℕ
key_of ids occupied i = key_if (taken i occupied) (get_or ids i 0)

-- the key of slot i where only the first n slots have theirs
abbrev pub key_below : List ℕ → ℕ → ℕ → ℕ → ℕ
key_below ids occupied n i = if i <? n then key_of ids occupied i else 0

-- The keys of the first n slots, and 0 for the others, stand in a list at 0 and again at 16.
pub record KeysOf (ids : List ℕ) (occupied n : ℕ) (keys : List ℕ) : Type 0 where
  pub size : length keys ≡ 32
  pub here : (i : ℕ) → i < SLOTS → get_or keys i 0 ≡ key_below ids occupied n i
  pub again : (i : ℕ) → i < SLOTS → get_or keys (i + 16) 0 ≡ key_below ids occupied n i

-- slot i is taken and its key is 0
abbrev pub is_nameless : List ℕ → ℕ → ℕ → Bool
is_nameless ids occupied i = taken i occupied && (key_of ids occupied i =? 0)

abbrev pub is_long : List ℕ → ℕ → Bool
is_long lengths i = AREA <? get_or lengths i 0

-- the key of place i is d places on
abbrev pub same_at : List ℕ → ℕ → ℕ → Bool
same_at keys i d = get_or keys i 0 =? get_or keys (i + d) 0

unfoldable pub repeats : List ℕ → ℕ → Bool
repeats keys i =
    not (get_or keys i 0 =? 0)
    && (same_at keys i 1 || same_at keys i 2 || same_at keys i 3 || same_at keys i 4
    || same_at keys i 5 || same_at keys i 6 || same_at keys i 7 || same_at keys i 8)

-- A count of bytes at a buffer's start.
use Rattle.std.specs.Prelude.{ℕ, ◌≤◌, ◌≡◌, List, length, take}

-- The list has a first n of its elements, and these are n. (The second follows from the first.)
abbrev pub IsPrefix : ℕ → List ℕ → Type 0
IsPrefix n xs = (n ≤ length xs) × (n ≡ length (take n xs))

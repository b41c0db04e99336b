-- The pool of 1,024 blocks of 4,096 bytes, and for each block the number of the one behind it; behind the number 1,024
-- stands the first free one.
use Rattle.std.specs.Prelude.{ℕ, ◌+◌, ◌-◌, ◌*◌, ◌%◌, min, List, [], get_or, set, take, drop, if◌then◌else◌}
use Rattle.wire.specs.Test.{◌<?◌, ◌≤?◌}

unfoldable pub behind_of : List ℕ → ℕ → ℕ
behind_of chains block = if 1024 <? block then 1024 else get_or chains block 0

unfoldable pub linked : List ℕ → ℕ → ℕ → List ℕ
linked chains block next = if block ≤? 1024 then set chains block next else chains

-- The bytes of a body from a place on that lie in one block.
unfoldable pub rest_of_block : List ℕ → ℕ → ℕ → ℕ → List ℕ
rest_of_block pool block place length =
    if 1024 ≤? block then []
    else if length ≤? place then []
    else take (min (4096 - place % 4096) (length - place)) (drop (block * 4096 + place % 4096) pool)

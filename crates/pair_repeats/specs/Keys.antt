-- Names by their keys. A key is made from its name alone, so names with different keys are different names; nothing else
-- is asked of it.
use Rattle.std.specs.Prelude.{ℕ, ◌+◌, ◌*◌, ◌%◌, ◌≤◌, ◌≡◌, Bool, true, false, List, [], ◌∷◌, length, take, drop, if◌then◌else◌}
use Rattle.wire.specs.Test.{◌<?◌, ◌=?◌}
use Rattle.pairs.specs.Pair.{name_of}
use Rattle.pairs.specs.declared.pair.Pair.{Pair}
use Rattle.pair_list.specs.List.{pairs_from}

-- a key with one byte more at its end; only its last eight bytes stay
unfoldable pub key_with : ℕ → ℕ → ℕ
key_with key b = key % 72057594037927936 * 256 + b

unfoldable pub key_from : ℕ → List ℕ → ℕ
key_from key [] = key
key_from key (b ∷ bs) = key_from (key_with key b) bs

unfoldable pub key_of : List ℕ → ℕ
key_of name = key_from (length name) name

unfoldable pub keys_of : List ℕ → List Pair → List ℕ
keys_of s [] = []
keys_of s (p ∷ ps) = key_of (name_of s p) ∷ keys_of s ps

unfoldable pub holds : List ℕ → ℕ → Bool
holds [] key = false
holds (k ∷ ks) key = if k =? key then true else holds ks key

-- whether a key may be among the entries `start` up to n; if the table is shorter than n, it may
unfoldable pub may_hold : List ℕ → ℕ → ℕ → ℕ → Bool
may_hold keys start n key = if length keys <? n then true else holds (drop start (take n keys)) key

-- the entries `start` up to n are the keys of the pairs from the cursor on, unless the table is shorter than n
abbrev pub Filled : List ℕ → ℕ → List ℕ → ℕ → ℕ → Type 0
Filled s at keys start n = n ≤ length keys → drop start (take n keys) ≡ keys_of s (pairs_from s at).pairs

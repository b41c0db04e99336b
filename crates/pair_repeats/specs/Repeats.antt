-- Two pairs of a list with the same name.
use Rattle.std.specs.Prelude.{ℕ, Bool, true, false, List, [], ◌∷◌, if◌then◌else◌}
use Rattle.pairs.specs.Pair.{name_of}
use Rattle.pairs.specs.declared.pair.Pair.{Pair}
use Rattle.pair_list.specs.List.{pairs_from, first_in, is_named}

-- The name of a pair comes again among the pairs after it. An empty name is a name.
unfoldable pub repeats_in : List ℕ → List Pair → Bool
repeats_in s [] = false
repeats_in s (p ∷ ps) = if is_named (first_in s (name_of s p) ps) then true else repeats_in s ps

unfoldable pub repeats : List ℕ → Bool
repeats s = repeats_in s (pairs_from s 0).pairs

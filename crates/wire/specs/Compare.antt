-- Two names are the same where they have the same length and the same bytes.
use Rattle.std.specs.Prelude.{ℕ, suc, Bool, true, false, List, [], ◌∷◌, length, if◌then◌else◌}
use Rattle.wire.specs.Test.{◌=?◌}
use Rattle.wire.specs.declared.Compared.{Compared}

unfoldable pub same_bytes : List ℕ → List ℕ → Bool
same_bytes [] [] = true
same_bytes [] (y ∷ ys) = false
same_bytes (x ∷ xs) [] = false
same_bytes (x ∷ xs) (y ∷ ys) = if x =? y then same_bytes xs ys else false

-- How many places of two names of one length are compared: all up to the first that differs, it included.
unfoldable pub places_up_to : List ℕ → List ℕ → ℕ
places_up_to [] ys = 0
places_up_to (x ∷ xs) [] = 0
places_up_to (x ∷ xs) (y ∷ ys) = if x =? y then suc (places_up_to xs ys) else 1

-- What a comparison finds: equal or not, and the places compared. Where the lengths differ, none is.
unfoldable pub compared : List ℕ → List ℕ → Compared
compared a b = record { equal = same_bytes a b; places = if length a =? length b then places_up_to a b else 0 }

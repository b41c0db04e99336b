-- A list of pairs, read from a cursor on.
use Rattle.std.specs.Prelude.{ℕ, zero, suc, ◌-◌, Bool, true, false, List, [], ◌∷◌, length, if◌then◌else◌, Some, None, Option}
use Rattle.wire.specs.Test.{◌=?◌}
use Rattle.pairs.specs.Pair.{pair_at, name_of}
use Rattle.wire.specs.Compare.{same_bytes}
use Rattle.pairs.specs.declared.pair.Pair.{Pair}
use Rattle.pairs.specs.declared.pair.Read.{Read}
use Rattle.pair_list.specs.declared.Ending.{Ending}

-- The pairs up to the end or to the first malformed one, and which of the two it is.
pub record Pairs : Type 0 where
  pub pairs : List Pair
  pub ending : Ending

abbrev pub on_read {ℓ} : {A : Type ℓ} → Read → (Pair → ℕ → A) → (Ending → A) → A
on_read (Read.Pair p next) f g = f p next
on_read Read.End f g = g Ending.End
on_read (Read.Malformed place) f g = g (Ending.Malformed place)

abbrev pub and_pairs : Pair → Pairs → Pairs
and_pairs p ps = record { pairs = p ∷ ps.pairs; ending = ps.ending }

-- (The first argument bounds the number of pairs.)
unfoldable pub pairs_in : ℕ → List ℕ → ℕ → Pairs
pairs_in zero s at = record { pairs = []; ending = Ending.End }
pairs_in (suc k) s at = on_read (pair_at s at) (λ p next. and_pairs p (pairs_in k s next)) (λ e. record { pairs = []; ending = e })

unfoldable pub pairs_from : List ℕ → ℕ → Pairs
unfolding pairs_in
pairs_from s at = pairs_in (length s - at) s at

-- How the list ends: well formed when pairs use up all its bytes. The empty list is.
unfoldable pub ending_of : List ℕ → Ending
unfolding pairs_from
ending_of s = (pairs_from s 0).ending

abbrev pub is_end : Ending → Bool
is_end Ending.End = true
is_end (Ending.Malformed place) = false

unfoldable pub well_formed : List ℕ → Bool
unfolding ending_of
well_formed s = is_end (ending_of s)

-- Where a list is malformed: at the first byte of the pair that cannot be read. (This is asked of malformed lists only.)
abbrev pub place_of : Ending → ℕ
place_of Ending.End = 0
place_of (Ending.Malformed place) = place

unfoldable pub broken_at : List ℕ → ℕ
unfolding ending_of
broken_at s = place_of (ending_of s)

-- The first of some pairs with a name, and the one of number k, counted from 0.
unfoldable pub first_in : List ℕ → List ℕ → List Pair → Option Pair
first_in s name [] = None
first_in s name (p ∷ ps) = if same_bytes (name_of s p) name then Some p else first_in s name ps

unfoldable pub number_in : List Pair → ℕ → Option Pair
number_in [] k = None
number_in (p ∷ ps) k = if k =? 0 then Some p else number_in ps (k - 1)

-- whether one was found
abbrev pub is_named : Option Pair → Bool
is_named (Some p) = true
is_named None = false

-- The same in a whole list: of a list that is malformed somewhere, the pairs before that place count.
unfoldable pub first_named : List ℕ → List ℕ → Option Pair
unfolding pairs_from first_in
first_named s name = first_in s name (pairs_from s 0).pairs

unfoldable pub pair_number : List ℕ → ℕ → Option Pair
unfolding pairs_from number_in
pair_number s k = number_in (pairs_from s 0).pairs k

-- The first pair with a name among those from a cursor on.
unfoldable pub first_from : List ℕ → ℕ → List ℕ → Option Pair
unfolding pairs_from first_in
first_from s at name = first_in s name (pairs_from s at).pairs

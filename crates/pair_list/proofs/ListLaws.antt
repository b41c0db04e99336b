-- What holds of the pairs of a list. The bound of the definition is seen in `enough` only, and in the proof of
-- `pairs_step`.
use Rattle.std.specs.Prelude.{◌≡◌, refl, ℕ, zero, suc, ◌+◌, ◌-◌, ◌≤◌, ◌<◌, true, false, length, take, drop, if◌then◌else◌, Some}
use Rattle.std.proofs.Common.{sym, ap, ◌∙◌, subst, arith, ⊎_elim}
use mathlib.Core.List.Memᴰ
use mathlib.Core.List.{List, [], ◌∷◌, Memᴰ}
use Rattle.wire.specs.Test.{◌=?◌, by_test}
use Rattle.pairs.specs.Pair.{pair_at, name_of}
use Rattle.wire.specs.Compare.{same_bytes}
use Rattle.pair_list.specs.List.{Pairs, on_read, and_pairs, pairs_in, pairs_from, ending_of, is_end, well_formed, place_of, broken_at, first_in, number_in, first_named, pair_number}
use Rattle.pairs.proofs.PairLaws.{end_past, PairIn, pair_in_lem, pair_end, malformed_place, no_pair_lem}
use Rattle.wire.proofs.CompareLaws.{same_is}
use Rattle.pairs.specs.declared.pair.Pair.{Pair}
use Rattle.pairs.specs.declared.pair.Read.{Read}
use Rattle.pair_list.specs.declared.Ending.{Ending}

-- no pairs, and an ending
abbrev pub ended : Ending → Pairs
ended e = record { pairs = []; ending = e }

-- a bound that is large enough is as good as another
enough : (k k' : ℕ) (s : List ℕ) (at : ℕ) → length s - at ≤ k → length s - at ≤ k' → pairs_in k s at ≡ pairs_in k' s at
unfolding pairs_in
enough zero zero s at h h' = refl
enough zero (suc k') s at h h' = simp (pair_end s at (omega arith))
enough (suc k) zero s at h h' = simp (pair_end s at (omega arith))
enough (suc k) (suc k') s at h h' = go (λ (next : ℕ). enough k k' s next) (pair_at s at) refl
  where
    go : ((next : ℕ) → length s - next ≤ k → length s - next ≤ k' → pairs_in k s next ≡ pairs_in k' s next)
        → (r : Read) → pair_at s at ≡ r → on_read r (λ p next. and_pairs p (pairs_in k s next)) ended ≡ on_read r (λ p next. and_pairs p (pairs_in k' s next)) ended
    go f (Read.Pair p next) q = let i = pair_in_lem s at p next q in ap (and_pairs p) (f next (omega arith) (omega arith))
    go f Read.End q = refl
    go f (Read.Malformed place) q = refl

-- the pairs from a cursor on: a turn, without the bound
pub pairs_step : (s : List ℕ) (at : ℕ) → pairs_from s at ≡ on_read (pair_at s at) (λ p next. and_pairs p (pairs_from s next)) ended
unfolding pairs_from pairs_in
pairs_step s at = enough (length s - at) (suc (length s - at)) s at (omega arith) (omega arith) ∙ go (pair_at s at) refl
  where
    go : (r : Read) → pair_at s at ≡ r → on_read r (λ p next. and_pairs p (pairs_in (length s - at) s next)) ended ≡ on_read r (λ p next. and_pairs p (pairs_in (length s - next) s next)) ended
    go (Read.Pair p next) q = let i = pair_in_lem s at p next q in ap (and_pairs p) (enough (length s - at) (length s - next) s next (omega arith) (omega arith))
    go Read.End q = refl
    go (Read.Malformed place) q = refl

-- where a pair is read, it and the pairs after it
pub pairs_next : (s : List ℕ) (at : ℕ) (p : Pair) (next : ℕ) → pair_at s at ≡ Read.Pair p next → pairs_from s at ≡ and_pairs p (pairs_from s next)
pairs_next s at p next e = pairs_step s at ∙ simp e

-- at the end or past it, none
pub pairs_end : (s : List ℕ) (at : ℕ) → length s ≤ at → pairs_from s at ≡ ended Ending.End
pairs_end s at h = pairs_step s at ∙ simp (pair_end s at h)

-- at a malformed pair none, and its place
pub pairs_malformed : (s : List ℕ) (at place : ℕ) → pair_at s at ≡ Read.Malformed place → pairs_from s at ≡ ended (Ending.Malformed place)
pairs_malformed s at place e = pairs_step s at ∙ simp e

-- where no pair can be read before the end, none, and the cursor is the place
pub pairs_none : (s : List ℕ) (at : ℕ) → at < length s → ((p : Pair) (next : ℕ) → pair_at s at ≡ Read.Pair p next → ⊥) → pairs_from s at ≡ ended (Ending.Malformed at)
pairs_none s at h none = pairs_malformed s at at (no_pair_lem s at h none)

-- where no pair can be read, no pair is left
pub pairs_stop : (s : List ℕ) (at : ℕ) → ((p : Pair) (next : ℕ) → pair_at s at ≡ Read.Pair p next → ⊥) → (pairs_from s at).pairs ≡ []
pairs_stop s at none = ap (λ (ps : Pairs). ps.pairs) (pairs_step s at) ∙ go (pair_at s at) refl
  where
    go : (r : Read) → pair_at s at ≡ r → (on_read r (λ p next. and_pairs p (pairs_from s next)) ended).pairs ≡ []
    go (Read.Pair p next) q = absurd (none p next q)
    go Read.End q = refl
    go (Read.Malformed place) q = refl

-- a turn of the search by name, which compares the bytes from the name up to the value
pub first_next : (s name : List ℕ) (at : ℕ) (p : Pair) (next : ℕ) → pair_at s at ≡ Read.Pair p next
    → first_in s name (pairs_from s at).pairs ≡ (if same_bytes (take (p.value - p.name) (drop p.name s)) name then Some p else first_in s name (pairs_from s next).pairs)
unfolding first_in
first_next s name at p next e =
    let i = pair_in_lem s at p next e in
    let n : p.value - p.name ≡ p.name_len = omega arith in
    rw (n, pairs_next s at p next e)

-- a turn of the search by number
pub number_next : (s : List ℕ) (k at : ℕ) (p : Pair) (next : ℕ) → pair_at s at ≡ Read.Pair p next
    → number_in (pairs_from s at).pairs k ≡ (if k =? 0 then Some p else number_in (pairs_from s next).pairs (k - 1))
unfolding number_in
number_next s k at p next e = rw (pairs_next s at p next e)

-- what holds of no pairs, at the end or before a malformed one, and of a pair put in front of those after it, holds
-- from any cursor
pub pairs_induction : (s : List ℕ) (P : ℕ → Pairs → Type 0)
    → ((at : ℕ) → length s ≤ at → P at (ended Ending.End))
    → ((at place : ℕ) → pair_at s at ≡ Read.Malformed place → P at (ended (Ending.Malformed place)))
    → ((at : ℕ) (p : Pair) (next : ℕ) → pair_at s at ≡ Read.Pair p next → P next (pairs_from s next) → P at (and_pairs p (pairs_from s next)))
    → (at : ℕ) → P at (pairs_from s at)
pairs_induction s P ends stops goes at = from (length s - at) at (omega arith)
  where
    turn : (at : ℕ) → ((p : Pair) (next : ℕ) → pair_at s at ≡ Read.Pair p next → P next (pairs_from s next)) → (r : Read) → pair_at s at ≡ r
        → P at (on_read r (λ p next. and_pairs p (pairs_from s next)) ended)
    turn at f (Read.Pair p next) e = goes at p next e (f p next e)
    turn at f Read.End e = ends at (end_past s at e)
    turn at f (Read.Malformed place) e = stops at place e

    from : (k at : ℕ) → length s - at ≤ k → P at (pairs_from s at)
    from zero at h = rw (pairs_end s at (omega arith)) (ends at (omega arith))
    from (suc k) at h = rw (pairs_step s at) (turn at (λ p next e. from k next (omega (arith, pair_in_lem s at p next e))) (pair_at s at) refl)

-- what an ending says of a place
abbrev Stops : List ℕ → Ending → Type 0
Stops s Ending.End = Unit {0}
Stops s (Ending.Malformed place) = (place < length s) × (pair_at s place ≡ Read.Malformed place)

stops_there : (s : List ℕ) (at place : ℕ) → pair_at s at ≡ Read.Malformed place → Stops s (Ending.Malformed place)
stops_there s at place e =
    let m = malformed_place s at place e in
    (omega arith, subst (λ (k : ℕ). pair_at s k ≡ Read.Malformed place) (sym m.0) e)

-- the place where a list is malformed is before its end, and the pair there is malformed
pub ending_place : (s : List ℕ) (place : ℕ) → ending_of s ≡ Ending.Malformed place → (place < length s) × (pair_at s place ≡ Read.Malformed place)
unfolding ending_of
ending_place s place e =
    subst (Stops s) e
    (pairs_induction s (λ (at : ℕ) (ps : Pairs). Stops s ps.ending) (λ at h. tt) (stops_there s) (λ at p next q h. h) 0)

-- a list that ends with its bytes used up is well formed, and one that is malformed somewhere is not
pub ended_formed : (s : List ℕ) → ending_of s ≡ Ending.End → well_formed s ≡ true
unfolding well_formed
ended_formed s e = simp e

pub broken_formed : (s : List ℕ) (place : ℕ) → ending_of s ≡ Ending.Malformed place → (well_formed s ≡ false) × (broken_at s ≡ place)
unfolding well_formed broken_at
broken_formed s place e = (simp e, simp e)

-- a list that is not well formed is malformed at its place, which is before its end
pub broken_place : (s : List ℕ) → well_formed s ≡ false → (ending_of s ≡ Ending.Malformed (broken_at s)) × (broken_at s < length s)
unfolding well_formed broken_at
broken_place s e = go (ending_of s) refl e
  where
    go : (r : Ending) → ending_of s ≡ r → is_end r ≡ false → (r ≡ Ending.Malformed (place_of r)) × (place_of r < length s)
    go Ending.End q h = let z : ◌≡◌ {A = ℕ} 0 1 = cc in absurd (omega arith)
    go (Ending.Malformed place) q h = (refl, (ending_place s place q).0)

-- a well-formed list ends with its bytes used up
pub well_formed_end : (s : List ℕ) → well_formed s ≡ true → ending_of s ≡ Ending.End
unfolding well_formed
well_formed_end s e = go (ending_of s) e
  where
    go : (r : Ending) → is_end r ≡ true → r ≡ Ending.End
    go Ending.End q = refl
    go (Ending.Malformed place) q = let z : ◌≡◌ {A = ℕ} 0 1 = cc in absurd (omega arith)

-- a pair lies within a list, its value after its name
pub record LiesIn (s : List ℕ) (p : Pair) : Type 0 where
  pub named : p.name + p.name_len ≡ p.value
  pub within : p.value + p.value_len ≤ length s

-- each of the pairs does
pub pairs_lie : (s : List ℕ) (at : ℕ) (p : Pair) → Memᴰ p (pairs_from s at).pairs → LiesIn s p
pairs_lie s at p m =
    pairs_induction s (λ (a : ℕ) (ps : Pairs). Memᴰ p ps.pairs → LiesIn s p)
    (λ a h n. absurd (Memᴰ.not-nil n))
    (λ a place e n. absurd (Memᴰ.not-nil n))
    (λ a q next e h n. ⊎_elim (λ z. subst (LiesIn s) (sym z) (lies a q next (pair_in_lem s a q next e))) h (Memᴰ.cases_cons n))
    at m
  where
    lies : (a : ℕ) (q : Pair) (next : ℕ) → PairIn s a q next → LiesIn s q
    lies a q next i = record { named = i.named; within = omega arith }

-- a pair found by its name is one of the pairs, and has that name
pub first_one : (s name : List ℕ) (ps : List Pair) (p : Pair) → first_in s name ps ≡ Some p → Memᴰ p ps × (name_of s p ≡ name)
unfolding first_in
first_one s name [] p e = let z : ◌≡◌ {A = ℕ} 0 1 = cc in absurd (omega arith)
first_one s name (q ∷ ps) p e =
    by_test (same_bytes (name_of s q) name)
    (λ t. let z : p ≡ q = cc (simp t at e) in (Memᴰ.head z, ap (name_of s) z ∙ same_is (name_of s q) name t))
    (λ t. let r = first_one s name ps p (simp t at e) in (Memᴰ.tail r.0, r.1))

-- a pair found by its number is one of the pairs
pub number_one : (ps : List Pair) (k : ℕ) (p : Pair) → number_in ps k ≡ Some p → Memᴰ p ps
unfolding number_in
number_one [] k p e = let z : ◌≡◌ {A = ℕ} 0 1 = cc in absurd (omega arith)
number_one (q ∷ ps) k p e =
    by_test (k =? 0)
    (λ t. let z : p ≡ q = cc (simp t at e) in Memᴰ.head z)
    (λ t. Memᴰ.tail (number_one ps (k - 1) p (simp t at e)))

-- the pair found by its name lies within the list
pub first_within : (s name : List ℕ) (p : Pair) → first_named s name ≡ Some p → LiesIn s p
unfolding first_named
first_within s name p e = pairs_lie s 0 p (first_one s name (pairs_from s 0).pairs p e).0

-- the pair found by its name has that name
pub first_has_name : (s name : List ℕ) (p : Pair) → first_named s name ≡ Some p → name_of s p ≡ name
unfolding first_named
first_has_name s name p e = (first_one s name (pairs_from s 0).pairs p e).1

-- the pair found by its number lies within the list
pub number_within : (s : List ℕ) (k : ℕ) (p : Pair) → pair_number s k ≡ Some p → LiesIn s p
unfolding pair_number
number_within s k p e = pairs_lie s 0 p (number_one (pairs_from s 0).pairs k p e)

-- What holds of a list that repeats no name.
use Rattle.std.specs.Prelude.{◌≡◌, ℕ, ◌-◌, true, false, take, drop, if◌then◌else◌, Some}
use Rattle.std.proofs.Common.{sym, ap, ◌∙◌, subst, arith, ⊎_elim}
use mathlib.Core.List.Memᴰ
use mathlib.Core.List.{List, [], ◌∷◌, Memᴰ}
use Rattle.wire.specs.Test.{by_test}
use Rattle.wire.specs.Compare.{same_bytes}
use Rattle.wire.proofs.CompareLaws.{same_is, same_refl}
use Rattle.pairs.specs.Pair.{pair_at, name_of}
use Rattle.pairs.proofs.PairLaws.{pair_in_lem}
use Rattle.pairs.specs.declared.pair.Pair.{Pair}
use Rattle.pairs.specs.declared.pair.Read.{Read}
use Rattle.pair_list.specs.List.{pairs_from, first_in, first_from, first_named, is_named}
use Rattle.pair_list.proofs.ListLaws.{pairs_next}
use Rattle.pair_repeats.specs.Repeats.{repeats_in, repeats}

-- a round of the test
pub repeats_next : (s : List ℕ) (at : ℕ) (p : Pair) (next : ℕ) → pair_at s at ≡ Read.Pair p next
    → repeats_in s (pairs_from s at).pairs
    ≡ (if is_named (first_from s next (take (p.value - p.name) (drop p.name s))) then true else repeats_in s (pairs_from s next).pairs)
unfolding repeats_in first_from
repeats_next s at p next e =
    let i = pair_in_lem s at p next e in
    let n : p.value - p.name ≡ p.name_len = omega arith in
    rw (n, pairs_next s at p next e)

-- where no pair is left, nothing is repeated
pub repeats_end : (s : List ℕ) (at : ℕ) → (pairs_from s at).pairs ≡ [] → repeats_in s (pairs_from s at).pairs ≡ false
unfolding repeats_in
repeats_end s at e = rw e

-- a pair that is there is found by its name
there_found : (s : List ℕ) (ps : List Pair) (q : Pair) → Memᴰ q ps → is_named (first_in s (name_of s q) ps) ≡ true
unfolding first_in
there_found s [] q m = absurd (Memᴰ.not-nil m)
there_found s (p ∷ ps) q m =
    by_test (same_bytes (name_of s p) (name_of s q))
    (λ t. simp t)
    (λ t.
    ⊎_elim
    (λ e. let z : ◌≡◌ {A = ℕ} 0 1 = cc (t, ap (λ (r : Pair). same_bytes (name_of s p) (name_of s r)) e ∙ same_refl (name_of s p)) in absurd (omega arith))
    (λ n. simp t (there_found s ps q n))
    (Memᴰ.cases_cons m))

-- Where no name is repeated, each pair is the one that its name finds.
first_only : (s : List ℕ) (ps : List Pair) (q : Pair) → repeats_in s ps ≡ false → Memᴰ q ps → first_in s (name_of s q) ps ≡ Some q
unfolding repeats_in first_in
first_only s [] q h m = absurd (Memᴰ.not-nil m)
first_only s (p ∷ ps) q h m =
    by_test (is_named (first_in s (name_of s p) ps))
    (λ f. let z : ◌≡◌ {A = ℕ} 0 1 = cc (simp f at h) in absurd (omega arith))
    (λ f.
    ⊎_elim
    (λ e. subst (λ (r : Pair). first_in s (name_of s r) (p ∷ ps) ≡ Some r) (sym e) (simp (same_refl (name_of s p))))
    (λ n.
    by_test (same_bytes (name_of s p) (name_of s q))
    (λ t.
    let same = same_is (name_of s p) (name_of s q) t in
    let z : ◌≡◌ {A = ℕ} 0 1 = cc (f, ap (λ (name : List ℕ). is_named (first_in s name ps)) same ∙ there_found s ps q n) in
    absurd (omega arith))
    (λ t. simp t (first_only s ps q (simp f at h) n)))
    (Memᴰ.cases_cons m))

-- So in a list that repeats no name, a pair with a name is the first with it: there is at most one.
pub named_once : (s name : List ℕ) (q : Pair) → repeats s ≡ false → Memᴰ q (pairs_from s 0).pairs → name_of s q ≡ name → first_named s name ≡ Some q
unfolding repeats first_named
named_once s name q h m e = ap (λ (n : List ℕ). first_in s n (pairs_from s 0).pairs) (sym e) ∙ first_only s (pairs_from s 0).pairs q h m

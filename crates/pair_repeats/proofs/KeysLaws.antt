-- What holds of the keys of a list's names.
use Rattle.std.specs.Prelude.{◌≡◌, refl, ℕ, ◌+◌, ◌-◌, ◌≤◌, ◌<◌, true, false, List, [], ◌∷◌, ◌++◌, length, take, drop, set, get_or, if◌then◌else◌}
use Rattle.std.proofs.Common.{sym, ap, ◌∙◌, arith, add-one, append_assoc, append-nil, drop_of_length-le, drop-cons, drop-drop, get_or-take, take-suc-set, length-take-le, eq-eqb, ltb-false}
use Rattle.wire.specs.Test.{◌<?◌, ◌=?◌, by_test}
use Rattle.wire.specs.Compare.{same_bytes}
use Rattle.wire.proofs.CompareLaws.{same_is}
use Rattle.pairs.specs.Pair.{pair_at, name_of}
use Rattle.pairs.proofs.PairLaws.{pair_in_lem}
use Rattle.pairs.specs.declared.pair.Pair.{Pair}
use Rattle.pairs.specs.declared.pair.Read.{Read}
use Rattle.pair_list.specs.List.{pairs_from, first_in, first_from, is_named}
use Rattle.pair_list.proofs.ListLaws.{pairs_next}
use Rattle.pair_repeats.specs.Keys.{key_with, key_from, key_of, keys_of, holds, may_hold, Filled}

-- ---- a key
-- a round of its making from byte i on
pub key_step : (name : List ℕ) (key i : ℕ) → i < length name
    → key_from key (drop i name) ≡ key_from (key_with key (get_or name i 0)) (drop (i + 1) name)
unfolding key_from
key_step name key i h = rw (drop-cons name i 0, add-one)

pub key_end : (name : List ℕ) (key i : ℕ) → length name ≤ i → key_from key (drop i name) ≡ key
unfolding key_from
key_end name key i h = rw (drop_of_length-le name h)

-- ---- a key looked for
holds_step : (ks : List ℕ) (key i : ℕ) → i < length ks
    → holds (drop i ks) key ≡ (if get_or ks i 0 =? key then true else holds (drop (i + 1) ks) key)
unfolding holds
holds_step ks key i h = rw (drop-cons ks i 0, add-one)

-- a round of the search among the first n keys
pub held_step : (keys : List ℕ) (n key i : ℕ) → n ≤ length keys → i < n
    → holds (drop i (take n keys)) key ≡ (if get_or keys i 0 =? key then true else holds (drop (i + 1) (take n keys)) key)
held_step keys n key i l h =
    holds_step (take n keys) key i (omega (arith, length-take-le n keys l))
    ∙ ap (λ (k : ℕ). if k =? key then true else holds (drop (i + 1) (take n keys)) key) (get_or-take n keys i 0 h)

pub held_end : (keys : List ℕ) (n key i : ℕ) → n ≤ length keys → n ≤ i → holds (drop i (take n keys)) key ≡ false
unfolding holds
held_end keys n key i l h =
    let e : length (take n keys) ≤ i = omega (arith, length-take-le n keys l) in
    rw (drop_of_length-le (take n keys) e)

-- ---- the keys of a list's names
-- where a pair is read, the key of its name comes first
pub keys_next : (s : List ℕ) (at : ℕ) (p : Pair) (next : ℕ) → pair_at s at ≡ Read.Pair p next
    → keys_of s (pairs_from s at).pairs ≡ key_of (take (p.value - p.name) (drop p.name s)) ∷ keys_of s (pairs_from s next).pairs
unfolding keys_of
keys_next s at p next e =
    let i = pair_in_lem s at p next e in
    let n : p.value - p.name ≡ p.name_len = omega arith in
    rw (n, pairs_next s at p next e)

-- a key that none of the names has is that of no pair
pub no_key : (s name : List ℕ) (ps : List Pair) → holds (keys_of s ps) (key_of name) ≡ false → is_named (first_in s name ps) ≡ false
unfolding holds keys_of first_in
no_key s name [] h = refl
no_key s name (p ∷ ps) h =
    by_test (key_of (name_of s p) =? key_of name)
    (λ t. let z : ◌≡◌ {A = ℕ} 0 1 = cc (simp t at h) in absurd (omega arith))
    (λ t.
    by_test (same_bytes (name_of s p) name)
    (λ q.
    let z : ◌≡◌ {A = ℕ} 0 1 = cc (t, eq-eqb (key_of (name_of s p)) (key_of name) (ap key_of (same_is (name_of s p) name q))) in
    absurd (omega arith))
    (λ q. simp q (no_key s name ps (simp t at h))))

-- so a name whose key the table cannot hold is that of no pair from the cursor on
pub not_held : (s : List ℕ) (at : ℕ) (keys : List ℕ) (start n : ℕ) (name : List ℕ) → Filled s at keys start n
    → may_hold keys start n (key_of name) ≡ false → is_named (first_from s at name) ≡ false
unfolding may_hold first_from
not_held s at keys start n name filled h =
    by_test (length keys <? n)
    (λ t. let z : ◌≡◌ {A = ℕ} 0 1 = cc (simp t at h) in absurd (omega arith))
    (λ t.
    let e = filled (ltb-false (length keys) n t) in
    no_key s name (pairs_from s at).pairs (ap (λ (ks : List ℕ). holds ks (key_of name)) (sym e) ∙ simp t at h))

-- ---- the table filled
-- the keys put down so far, and those that are still to come, are the keys of all names
abbrev pub Filling : List ℕ → List ℕ → ℕ → ℕ → Type 0
Filling s keys at n = take n keys ++ keys_of s (pairs_from s at).pairs ≡ keys_of s (pairs_from s 0).pairs

-- a round of the filling
pub fill_next : (s keys : List ℕ) (at n : ℕ) (p : Pair) (next : ℕ) → pair_at s at ≡ Read.Pair p next → n < length keys → Filling s keys at n
    → Filling s (set keys n (key_of (take (p.value - p.name) (drop p.name s)))) next (n + 1)
fill_next s keys at n p next e h f =
    let k = key_of (take (p.value - p.name) (drop p.name s)) in
    ap (λ (ks : List ℕ). ks ++ keys_of s (pairs_from s next).pairs) (ap (λ (m : ℕ). take m (set keys n k)) (add-one n) ∙ take-suc-set keys n k h)
    ∙ append_assoc (take n keys) (k ∷ []) (keys_of s (pairs_from s next).pairs)
    ∙ ap (λ (ks : List ℕ). take n keys ++ ks) (sym (keys_next s at p next e)) ∙ f

-- the table is filled where no pair is left
pub fill_done : (s keys : List ℕ) (at n : ℕ) → (pairs_from s at).pairs ≡ [] → Filling s keys at n → Filled s 0 keys 0 n
unfolding keys_of
fill_done s keys at n e f = λ h. sym (append-nil (take n keys)) ∙ ap (λ (ps : List Pair). take n keys ++ keys_of s ps) (sym e) ∙ f

-- the keys after a pair's are those of the pairs after it
pub filled_next : (s keys : List ℕ) (at start n : ℕ) (p : Pair) (next : ℕ) → pair_at s at ≡ Read.Pair p next → Filled s at keys start n
    → Filled s next keys (start + 1) n
filled_next s keys at start n p next e f =
    λ h.
    sym (drop-drop 1 start (take n keys)) ∙ ap (drop 1) (f h ∙ keys_next s at p next e)

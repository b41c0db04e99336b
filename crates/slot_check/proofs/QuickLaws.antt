-- The loops of the quick test, turn by turn, and what they tell.
use Rattle.std.specs.Prelude.{ℕ, zero, suc, ◌+◌, ◌-◌, ◌≤◌, ◌<◌, ◌≡◌, refl, Bool, false, ◌||◌, List, length, get_or, set, replicate, eqb, ltb}
use Rattle.std.proofs.Common.{sym, ◌∙◌, arith, length-set, get_or-set_same, get_or-set_other, eqb-true, lt-ltb, le-ltb, ltb-true, ltb-false}
use Rattle.std.proofs.Math.Bool.{or-false, or_assoc}
use Rattle.std.proofs.lemmas.List.{get_or-replicate}
use Rattle.std.proofs.lemmas.Bool.{eqb-false}
use Rattle.wire.specs.Test.{by_test}
use Rattle.connection.specs.Sizes.{SLOTS}
use Rattle.slot_check.specs.Quick.{any_of, Gathers, key_of, key_below, KeysOf}

-- ---- a loop that gathers: its start, a turn, its end
pub any_start : {n : ℕ} {test : ℕ → Bool} → Gathers n test false 0
any_start {n} {test} = let m : n - 0 ≡ n = omega arith in record { all = rw m }

pub any_next : {n : ℕ} {test : ℕ → Bool} {any : Bool} {i : ℕ} → Gathers n test any i → i < n
    → Gathers n test (any || test i) (i + 1)
unfolding any_of
any_next {n} {test} {any} {i} g h =
    let m : n - i ≡ suc (n - (i + 1)) = omega arith in
    record { all = or_assoc any (test i) (any_of (n - (i + 1)) test (i + 1)) ∙ rw m at g.all }

pub any_done : {n : ℕ} {test : ℕ → Bool} {any : Bool} {i : ℕ} → Gathers n test any i → n ≤ i → any ≡ any_of n test 0
unfolding any_of
any_done {n} {test} {any} {i} g h = let m : n - i ≡ 0 = omega arith in sym (or-false any) ∙ rw m at g.all

-- none of some numbers
pub none_of : (n : ℕ) (test : ℕ → Bool) (i : ℕ) → any_of n test i ≡ false → (k : ℕ) → i ≤ k → k < i + n → test k ≡ false
unfolding any_of
none_of zero test i e k a b = absurd (omega arith)
none_of (suc n) test i e k a b =
    by_test (test i)
    (λ t. let z : ◌≡◌ {A = ℕ} 0 1 = cc (simp t at e) in absurd (omega arith))
    (λ t. by_test (eqb i k)
    (λ q. rw (← eqb-true i k q) t)
    (λ q. let d = eqb-false i k q in none_of n test (i + 1) (simp t at e) k (omega arith) (omega arith)))

pub of_none : (n : ℕ) (test : ℕ → Bool) (i : ℕ) → ((k : ℕ) → i ≤ k → k < i + n → test k ≡ false)
    → any_of n test i ≡ false
unfolding any_of
of_none zero test i f = refl
of_none (suc n) test i f =
    simp (f i (omega arith) (omega arith)) (of_none n test (i + 1) (λ k a b. f k (omega arith) (omega arith)))

-- ---- the loop of the keys
-- one slot more changes the key of no other slot
below_other : (ids : List ℕ) (occupied i j : ℕ) → (j ≡ i → ⊥)
    → key_below ids occupied i j ≡ key_below ids occupied (i + 1) j
below_other ids occupied i j d =
    by_test (ltb j i)
    (λ t. let l = ltb-true j i t in simp (t, lt-ltb j (i + 1) (omega arith)))
    (λ t. let l = ltb-false j i t in simp (t, le-ltb j (i + 1) (omega arith)))

below_same : (ids : List ℕ) (occupied i : ℕ) → key_of ids occupied i ≡ key_below ids occupied (i + 1) i
below_same ids occupied i = simp (lt-ltb i (i + 1) (omega arith))

-- before the first slot: zeros
pub keys_none : {ids : List ℕ} {occupied : ℕ} → KeysOf ids occupied 0 (replicate 32 0)
keys_none {ids} {occupied} =
    record { size = refl; here = λ j l. none j j (omega arith); again = λ j l. none j (j + 16) (omega arith) }
  where
    none : (j p : ℕ) → p < 32 → get_or (replicate 32 0) p 0 ≡ key_below ids occupied 0 j
    none j p l = get_or-replicate 32 p 0 0 l ∙ simp (le-ltb j 0 (omega arith))

-- the key of slot i stored at both its places
pub keys_next : {ids : List ℕ} {occupied i : ℕ} {keys : List ℕ} → KeysOf ids occupied i keys → i < SLOTS
    → KeysOf ids occupied (i + 1) (set (set keys i (key_of ids occupied i)) (i + 16) (key_of ids occupied i))
keys_next {ids} {occupied} {i} {keys} k h =
    record { size = length-set first (i + 16) key ∙ sized; here = here; again = again }
  where
    key : ℕ
    key = key_of ids occupied i

    first : List ℕ
    first = set keys i key

    sized : length first ≡ 32
    sized = length-set keys i key ∙ k.size

    -- place q is that of slot j, and p that of slot i
    stored : (l : List ℕ) (j p q : ℕ) → p < length l → (j ≡ i → q ≡ p) → (q ≡ p → j ≡ i)
        → get_or l q 0 ≡ key_below ids occupied i j → get_or (set l p key) q 0 ≡ key_below ids occupied (i + 1) j
    stored l j p q low to from old =
        by_test (eqb j i)
        (λ t. let e = eqb-true j i t in rw (to e, e) (get_or-set_same l p key 0 low ∙ below_same ids occupied i))
        (λ t.
        let d = eqb-false j i t in
        get_or-set_other l p q key 0 (λ e. d (from e)) ∙ old ∙ below_other ids occupied i j d)

    here : (j : ℕ) → j < SLOTS → get_or (set first (i + 16) key) j 0 ≡ key_below ids occupied (i + 1) j
    here j l =
        get_or-set_other first (i + 16) j key 0 (λ e. omega arith)
        ∙ stored keys j i j (omega (arith, k.size)) (λ e. e) (λ e. e) (k.here j l)

    again : (j : ℕ) → j < SLOTS → get_or (set first (i + 16) key) (j + 16) 0 ≡ key_below ids occupied (i + 1) j
    again j l =
        let old = get_or-set_other keys i (j + 16) key 0 (λ e. omega arith) ∙ k.again j l in
        stored first j (i + 16) (j + 16) (omega (arith, sized)) (λ e. omega arith) (λ e. omega arith) old

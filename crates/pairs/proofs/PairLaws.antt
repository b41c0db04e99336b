-- What holds of a length and of a pair that were read.
use Rattle.std.specs.Prelude.{◌≡◌, refl, ℕ, ◌+◌, ◌-◌, ◌≤◌, ◌<◌, List, length, Some, None, Option, unwrap_or}
use Rattle.std.proofs.Common.{ap, ◌∙◌, subst, arith, ltb-false, leb-true, leb-false, le-leb}
use Rattle.wire.specs.Test.{by_test, ◌<?◌, ◌≤?◌}
use Rattle.wire.specs.Buffer.{byte_at}
use Rattle.pairs.specs.Length.{length_at}
use Rattle.pairs.specs.Pair.{on_length, body_at, pair_at}
use Rattle.pairs.specs.declared.pair.Pair.{Pair}
use Rattle.pairs.specs.declared.pair.Read.{Read}

-- the same length and the same cursor
pub same_length : {n next m after : ℕ} → ◌≡◌ {A = Option (ℕ × ℕ)} (Some (n, next)) (Some (m, after)) → (n ≡ m) × (next ≡ after)
same_length e = (ap (λ (o : Option (ℕ × ℕ)). (unwrap_or o (0, 0)).0) e, ap (λ (o : Option (ℕ × ℕ)). (unwrap_or o (0, 0)).1) e)

-- a length that was read moves the cursor on, and stays within the list
pub length_next : (s : List ℕ) (at n next : ℕ) → length_at s at ≡ Some (n, next) → (at < next) × (next ≤ length s)
unfolding length_at
length_next s at n next e =
    by_test (length s ≤? at)
    (λ t1. let z : ◌≡◌ {A = ℕ} 0 1 = cc (simp t1 at e) in absurd (omega arith))
    (λ t1. by_test (byte_at s at <? 128)
    (λ t2. let q = (same_length (simp (t1, t2) at e)).1 in omega (arith, leb-false (length s) at t1))
    (λ t2. by_test (length s - at <? 4)
    (λ t3. let z : ◌≡◌ {A = ℕ} 0 1 = cc (simp (t1, t2, t3) at e) in absurd (omega arith))
    (λ t3. let q = (same_length (simp (t1, t2, t3) at e)).1 in omega (arith, ltb-false (length s - at) 4 t3, leb-false (length s) at t1))))

-- a pair that was read takes two bytes or more, lies within the list, and its name, its value and the cursor after it
-- adjoin
pub record PairIn (s : List ℕ) (at : ℕ) (p : Pair) (next : ℕ) : Type 0 where
  pub further : at + 2 ≤ next
  pub within : next ≤ length s
  pub behind : at < p.name
  pub named : p.name + p.name_len ≡ p.value
  pub valued : p.value + p.value_len ≡ next

-- what a reading says: of a pair, where it lies; of the end, that the cursor is there or past it; of a malformed
-- pair, that it starts at the cursor
abbrev pub ReadSays : List ℕ → ℕ → Read → Type 0
ReadSays s at (Read.Pair p next) = PairIn s at p next
ReadSays s at Read.End = length s ≤ at
ReadSays s at (Read.Malformed place) = (place ≡ at) × (at < length s)

-- each reading says so
pub read_says : (s : List ℕ) (at : ℕ) → ReadSays s at (pair_at s at)
unfolding pair_at
read_says s at =
    by_test (length s ≤? at)
    (λ t. rw t (leb-true (length s) at t))
    (λ t. rw t (first (leb-false (length s) at t) (length_at s at) refl))
  where
    body : (n a v b : ℕ) → at < length s → at < a → a < b → b ≤ length s → ReadSays s at (body_at s at n v b)
    body n a v b h h1 h2 h3 =
        by_test (length s - b <? n)
        (λ t1. rw t1 (refl, h))
        (λ t1. by_test (length s - (b + n) <? v)
        (λ t2. rw (t1, t2) (refl, h))
        (λ t2. rw (t1, t2)
        (record {
          further = omega arith;
          within = omega (arith, ltb-false (length s - b) n t1, ltb-false (length s - (b + n)) v t2);
          behind = omega arith;
          named = refl;
          valued = refl;
        })))

    second : (n a : ℕ) → at < length s → at < a → (m : Option (ℕ × ℕ)) → length_at s a ≡ m → ReadSays s at (on_length m (λ v b. body_at s at n v b) (Read.Malformed at))
    second n a h h1 (Some (v, b)) q = let k = length_next s a v b q in body n a v b h h1 k.0 k.1
    second n a h h1 None q = (refl, h)

    first : at < length s → (l : Option (ℕ × ℕ)) → length_at s at ≡ l
        → ReadSays s at (on_length l (λ n a. on_length (length_at s a) (λ v b. body_at s at n v b) (Read.Malformed at)) (Read.Malformed at))
    first h (Some (n, a)) q = second n a h (length_next s at n a q).0 (length_at s a) refl
    first h None q = (refl, h)

-- where a pair that was read lies
pub pair_in_lem : (s : List ℕ) (at : ℕ) (p : Pair) (next : ℕ) → pair_at s at ≡ Read.Pair p next → PairIn s at p next
pair_in_lem s at p next e = subst (ReadSays s at) e (read_says s at)

-- at the end or past it the end is read
pub pair_end : (s : List ℕ) (at : ℕ) → length s ≤ at → pair_at s at ≡ Read.End
unfolding pair_at
pair_end s at h = simp (le-leb (length s) at h)

-- the end is read nowhere else
pub end_past : (s : List ℕ) (at : ℕ) → pair_at s at ≡ Read.End → length s ≤ at
end_past s at e = subst (ReadSays s at) e (read_says s at)

-- a malformed pair starts at the cursor given, which is before the end
pub malformed_place : (s : List ℕ) (at place : ℕ) → pair_at s at ≡ Read.Malformed place → (place ≡ at) × (at < length s)
malformed_place s at place e = subst (ReadSays s at) e (read_says s at)

-- where no pair can be read before the end, the list is malformed at the cursor
pub no_pair_lem : (s : List ℕ) (at : ℕ) → at < length s → ((p : Pair) (next : ℕ) → pair_at s at ≡ Read.Pair p next → ⊥) → pair_at s at ≡ Read.Malformed at
no_pair_lem s at h none = go (pair_at s at) refl
  where
    go : (r : Read) → pair_at s at ≡ r → pair_at s at ≡ Read.Malformed at
    go (Read.Pair p next) e = absurd (none p next e)
    go Read.End e = absurd (omega (arith, end_past s at e))
    go (Read.Malformed place) e = e ∙ ap Read.Malformed (malformed_place s at place e).0

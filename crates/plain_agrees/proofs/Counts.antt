-- The two counts of what was shown. The plain receiver counts the bytes of the stream whose turn it is, and its count
-- has no largest number; the stepping one keeps a count for STDIN and one for DATA, and each stays at MOST. No list
-- can state as much as MOST, so both measure the same.
use Rattle.std.specs.Prelude.{ℕ, ◌+◌, ◌≤◌, ◌<◌, ◌≡◌, refl, false, List, ltb, eqb, Some, None, Option}
use Rattle.std.proofs.Common.{sym, ap, ◌∙◌, arith, lt-ltb, le-ltb, ltb-true, ltb-false, eqb-true, ne_eqb}
use Rattle.std.proofs.lemmas.Bool.{eqb-false}
use Rattle.wire.specs.Test.{by_test}
use Rattle.stated_length.specs.Stated.{LARGEST, stated_in}
use Rattle.stated_length.proofs.Laws.{stated_largest}
use Rattle.connection.specs.declared.request.Turn.{Turn}
use Rattle.connection.specs.declared.request.Shown.{Shown}
use Rattle.connection.specs.Request.{MOST, unshown, counted, measured}
use Rattle.connection.proofs.Laws.Counting.{counted_twice}
use Rattle.plain.specs.Plain.{against}

-- The counts of the stepping receiver, by the turn, beside the n bytes that the plain one counted in that turn.
-- Nothing was shown of a stream whose turn has not come.
abbrev pub SameCount : Turn → Shown → ℕ → Type 0
SameCount Turn.Params c n = (c.stdin ≡ 0) × (c.«data» ≡ 0)
SameCount Turn.Stdin c n = (c.stdin ≡ counted 0 n) × (c.«data» ≡ 0)
SameCount Turn.Data c n = c.«data» ≡ counted 0 n
SameCount Turn.Done c n = Unit {0}

pub nothing_counted : counted 0 0 ≡ 0
unfolding counted
nothing_counted = refl

-- nothing shown, in every turn
pub none_shown : (t : Turn) → SameCount t unshown 0
none_shown Turn.Params = (refl, refl)
none_shown Turn.Stdin = (sym nothing_counted, refl)
none_shown Turn.Data = sym nothing_counted
none_shown Turn.Done = tt

-- more shown
pub more_shown : (count n m : ℕ) → count ≡ counted 0 n → counted count m ≡ counted 0 (n + m)
more_shown count n m e = ap (λ (k : ℕ). counted k m) e ∙ counted_twice 0 n m

-- ---- the measure
-- a count below MOST is the number itself
counted_low : (n : ℕ) → n < MOST → counted 0 n ≡ n
unfolding counted
counted_low n l = let z : 0 + n ≡ n = omega arith in simp (lt-ltb (0 + n) MOST (omega arith)) z

counted_high : (n : ℕ) → MOST ≤ n → counted 0 n ≡ MOST
unfolding counted
counted_high n l = simp (le-ltb (0 + n) MOST (omega arith))

-- the same tests in another order
same_tests : (n m : ℕ) → measured n (Some m) ≡ against n (Some m)
unfolding measured against
same_tests n m =
    by_test (ltb n m)
    (λ t. let ne = ne_eqb n m (λ e. omega (arith, ltb-true n m t)) in simp (t, ne))
    (λ t.
    by_test (eqb n m)
    (λ e. let le = le-ltb m n (omega (arith, eqb-true n m e)) in simp (t, e, le))
    (λ e. let lt = lt-ltb m n (over n m t e) in simp (t, e, lt)))
  where
    over : (n m : ℕ) → ltb n m ≡ false → eqb n m ≡ false → m < n
    over n m t e =
        by_test (ltb m n) (λ w. ltb-true m n w)
        (λ w. absurd (eqb-false n m e (omega (arith, ltb-false n m t, ltb-false m n w))))

-- Both are over what any list can state.
both_over : (n m : ℕ) → MOST ≤ n → m ≤ LARGEST → measured MOST (Some m) ≡ against n (Some m)
unfolding measured against
both_over n m l h =
    simp (
      le-ltb MOST m (omega arith),
      lt-ltb m MOST (omega arith),
      ne_eqb n m (λ e. omega arith),
      le-ltb n m (omega arith),
    )

-- What was shown measures the same against what a list states.
pub same_measure : (n : ℕ) (list name : List ℕ)
    → measured (counted 0 n) (stated_in list name) ≡ against n (stated_in list name)
unfolding measured against
same_measure n list name = go (stated_in list name) refl
  where
    go : (o : Option ℕ) → stated_in list name ≡ o → measured (counted 0 n) o ≡ against n o
    go None e = refl
    go (Some m) e =
        by_test (ltb n MOST)
        (λ t. ap (λ (k : ℕ). measured k (Some m)) (counted_low n (ltb-true n MOST t)) ∙ same_tests n m)
        (λ t.
        let l = ltb-false n MOST t in
        ap (λ (k : ℕ). measured k (Some m)) (counted_high n l) ∙ both_over n m l (stated_largest list name m e))

-- What is shown in two parts is counted as what is shown at once, also where the count stays at its largest number.
use Rattle.std.specs.Prelude.{ℕ, ◌+◌, ◌≤◌, ◌≡◌, refl, List, ◌++◌, length, ltb, Some}
use Rattle.std.proofs.Common.{arith, length-append, ltb-true, ltb-false, lt-ltb, le-ltb}
use Rattle.wire.specs.Test.{by_test}
use Rattle.stated_length.specs.Stated.{stated_in}
use Rattle.stated_length.proofs.Laws.{stated_largest}
use Rattle.connection.specs.declared.event.Measure.{Measure}
use Rattle.connection.specs.declared.request.Due.{Due}
use Rattle.connection.specs.declared.request.Shown.{Shown}
use Rattle.connection.specs.Request.{Held, MOST, counted, shown_more, showed, measured}

pub counted_twice : (count a b : ℕ) → counted (counted count a) b ≡ counted count (a + b)
unfolding counted
counted_twice count a b =
    let sum : count + a + b ≡ count + (a + b) = omega arith in
    by_test (ltb (count + a) MOST)
    (λ t. simp t (rw sum))
    (λ t.
    let low : MOST ≤ count + a = ltb-false (count + a) MOST t in
    simp (t, le-ltb (MOST + b) MOST (omega arith), le-ltb (count + (a + b)) MOST (omega arith)))

-- A count never passes that number.
pub counted_most : (count n : ℕ) → counted count n ≤ MOST
unfolding counted
counted_most count n =
    by_test (ltb (count + n) MOST) (λ t. simp t (omega (arith, ltb-true (count + n) MOST t))) (λ t. simp t (omega arith))

more_twice : (due : Due) (a b : ℕ) (c : Shown) → shown_more due b (shown_more due a c) ≡ shown_more due (a + b) c
more_twice Due.Skip a b c = refl
more_twice Due.Params a b c = refl
more_twice Due.Stdin a b c = rw (counted_twice c.stdin a b)
more_twice Due.Data a b c = rw (counted_twice c.«data» a b)

pub showed_twice : (due : Due) (x y : List ℕ) (h : Held) → showed due (length y) (showed due (length x) h) ≡ showed due (length (x ++ y)) h
showed_twice due x y h = rw (length-append x y, more_twice due (length x) (length y) h.request.state.shown)

-- A count that stays at its largest number is over against every stated length.
pub most_is_over : (list name : List ℕ) (n : ℕ) → stated_in list name ≡ Some n → measured MOST (stated_in list name) ≡ Measure.Over
unfolding measured
most_is_over list name n e =
    let low = stated_largest list name n e in
    rw e (simp (le-ltb MOST n (omega arith), lt-ltb n MOST (omega arith)))

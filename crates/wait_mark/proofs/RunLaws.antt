-- How the search for the next record's bytes goes on from a place.
use Rattle.std.specs.Prelude.{◌≡◌, refl, ℕ, zero, suc, ◌+◌, ◌-◌, ◌%◌, ◌<◌, min, true, false, List, [], ◌∷◌, length, drop, if◌then◌else◌}
use Rattle.std.proofs.Common.{sym, ◌∙◌, arith, zero-add, length-drop, drop-cons, leb-true, leb-false}
use Rattle.wire.specs.Test.{◌=?◌, ◌≤?◌, by_test}
use Rattle.wire.specs.Buffer.{byte_at}
use Rattle.queue_slot.specs.Atoms.{RUN}
use Rattle.queue_slot.specs.Wait.{no_ends, mark_ends, run_length}
use Rattle.wait_mark.specs.Joins.{joins, run_from}

-- two bytes that join, or not
two_turn : (k m next : ℕ) (l : List ℕ) → run_length (suc k) (m ∷ (next ∷ l)) ≡ (if joins m next then suc (run_length k (next ∷ l)) else 1)
unfolding run_length
two_turn k m next l =
    by_test (no_ends (mark_ends m))
    (λ t. by_test (m % 2 =? next % 2) (λ e. simp (t, e)) (λ e. simp (t, e)))
    (λ t. simp t)

-- one byte may go into the record
one_turn : (l : List ℕ) → 0 < length l → run_length 1 l ≡ 1
unfolding run_length
one_turn [] h = absurd (omega arith)
one_turn (m ∷ []) h = refl
one_turn (m ∷ (next ∷ l)) h = two_turn 0 m next l ∙ by_test (joins m next) (λ t. simp t) (λ t. simp t)

-- one byte waits
last_turn : (k : ℕ) (l : List ℕ) → 0 < k → length l ≡ 1 → run_length k l ≡ 1
unfolding run_length
last_turn zero l h e = absurd (omega arith)
last_turn (suc k) [] h e = absurd (omega arith)
last_turn (suc k) (m ∷ []) h e = refl
last_turn (suc k) (m ∷ (next ∷ l)) h e = absurd (omega arith)

-- a turn at place j
run_turn : (marks : List ℕ) (j : ℕ) → j < RUN → suc j < length marks
    → run_length (RUN - j) (drop j marks) ≡ (if joins (byte_at marks j) (byte_at marks (suc j)) then suc (run_length (RUN - suc j) (drop (suc j) marks)) else 1)
run_turn marks j h n =
    let e : RUN - j ≡ suc (RUN - suc j) = omega arith in
    let m : j < length marks = omega arith in
    rw (e, drop-cons marks j 0 m, drop-cons marks (suc j) 0 n) (two_turn (RUN - suc j) (byte_at marks j) (byte_at marks (suc j)) (drop (suc (suc j)) marks))

-- before the loop
pub run_start : (marks : List ℕ) → run_length RUN marks ≡ run_from marks 1
run_start marks = sym (zero-add (run_length RUN marks))

-- nothing waits, or one byte
pub run_few : (marks : List ℕ) → length marks < 2 → run_length RUN marks ≡ length marks
unfolding run_length
run_few [] h = refl
run_few (m ∷ []) h = refl
run_few (m ∷ (next ∷ marks)) h = absurd (omega arith)

-- the next byte joins, or not
run_next : (marks : List ℕ) (k : ℕ) → 0 < k → k < RUN → k < length marks
    → run_from marks k ≡ (if joins (byte_at marks (k - 1)) (byte_at marks k) then run_from marks (k + 1) else k)
run_next marks zero p h n = absurd (omega arith)
run_next marks (suc j) p h n =
    let e : suc j - 1 ≡ j = omega arith in
    let d : suc j + 1 - 1 ≡ suc j = omega arith in
    let f : j + 1 ≡ suc j = omega arith in
    rw (e, d, run_turn marks j (omega arith) n) (by_test (joins (byte_at marks j) (byte_at marks (suc j))) (λ t. simp t (omega arith)) (λ t. simp t f))

-- the run goes on
pub run_joins : (marks : List ℕ) (k : ℕ) → 0 < k → k < RUN → k < length marks → joins (byte_at marks (k - 1)) (byte_at marks k) ≡ true → run_from marks k ≡ run_from marks (k + 1)
run_joins marks k p h n t = run_next marks k p h n ∙ simp t

-- the run ends before the next byte
pub run_stops : (marks : List ℕ) (k : ℕ) → 0 < k → k < RUN → k < length marks → joins (byte_at marks (k - 1)) (byte_at marks k) ≡ false → run_from marks k ≡ k
run_stops marks k p h n t = run_next marks k p h n ∙ simp t

-- The run ends with the last byte, or with the last that may go into a record.
pub run_ends : (marks : List ℕ) (k : ℕ) → 0 < k → k ≡ min RUN (length marks) → run_from marks k ≡ k
run_ends marks k p e = by_test (RUN ≤? length marks) full whole
  where
    rest : length (drop (k - 1) marks) ≡ length marks - (k - 1)
    rest = length-drop (k - 1) marks

    full : (RUN ≤? length marks) ≡ true → run_from marks k ≡ k
    full t =
        let h : k ≡ RUN = omega (arith, e, leb-true RUN (length marks) t) in
        let one : RUN - (k - 1) ≡ 1 = omega arith in
        let more : 0 < length (drop (k - 1) marks) = omega (arith, rest, e) in
        let turn : run_length (RUN - (k - 1)) (drop (k - 1) marks) ≡ 1 = rw one (one_turn (drop (k - 1) marks) more) in
        omega (arith, turn)

    whole : (RUN ≤? length marks) ≡ false → run_from marks k ≡ k
    whole t =
        let h : k ≡ length marks = omega (arith, e, leb-false RUN (length marks) t) in
        let some : 0 < RUN - (k - 1) = omega (arith, e) in
        let one : length (drop (k - 1) marks) ≡ 1 = omega (arith, rest) in
        omega (arith, last_turn (RUN - (k - 1)) (drop (k - 1) marks) some one)

-- Bytes that have one mark without an end go into one record.
use Rattle.std.specs.Prelude.{◌≡◌, refl, ℕ, zero, suc, ◌+◌, ◌-◌, ◌%◌, ◌≤◌, ◌<◌, min, true, false, List, length, if◌then◌else◌}
use Rattle.std.proofs.Common.{◌∙◌, arith, eq-eqb, eqb-true}
use Rattle.std.proofs.lemmas.Bool.{not-false}
use Rattle.wire.specs.Test.{◌=?◌, by_test}
use Rattle.wire.specs.Buffer.{byte_at}
use Rattle.slot_check.specs.Quick.{any_of}
use Rattle.slot_check.proofs.QuickLaws.{none_of}
use Rattle.queue_slot.specs.Atoms.{RUN}
use Rattle.queue_slot.specs.Wait.{no_ends, ends_of, mark_ends, run_length}
use Rattle.wait_mark.specs.Joins.{joins, is_other, run_from}
use Rattle.wait_mark.proofs.RunLaws.{run_start, run_joins, run_stops, run_ends}

-- a mark below 2 has no end
no_end : (m : ℕ) → m < 2 → no_ends (mark_ends m) ≡ true
unfolding mark_ends ends_of
no_end zero h = refl
no_end (suc zero) h = refl
no_end (suc (suc m)) h = absurd (omega arith)

-- behind such a mark the stream decides
stream_joins : (m next : ℕ) → m < 2 → joins m next ≡ (m % 2 =? next % 2)
stream_joins m next h = simp (no_end m h)

-- The first k bytes have one mark, without an end: they are known to join.
pub run_same : (marks : List ℕ) (m k : ℕ) → m < 2 → 0 < k → k ≤ RUN → k ≤ length marks → ((i : ℕ) → i < k → byte_at marks i ≡ m)
    → run_length RUN marks ≡ run_from marks k
run_same marks m zero h p a b f = absurd (omega arith)
run_same marks m (suc zero) h p a b f = run_start marks
run_same marks m (suc (suc j)) h p a b f =
    let e : suc j - 1 ≡ j = omega arith in
    let g : suc j + 1 ≡ suc (suc j) = omega arith in
    let t : joins (byte_at marks (suc j - 1)) (byte_at marks (suc j)) ≡ true = rw (e, f j (omega arith), f (suc j) (omega arith)) (stream_joins m m h ∙ eq-eqb (m % 2) (m % 2) refl) in
    run_same marks m (suc j) h (omega arith) (omega arith) (omega arith) (λ i l. f i (omega arith))
    ∙ rw g at (run_joins marks (suc j) (omega arith) (omega arith) (omega arith) t)

-- No mark of the first k is another: each is that one.
pub none_other : (marks : List ℕ) (m k : ℕ) → any_of k (is_other marks m) 0 ≡ false → (i : ℕ) → i < k → byte_at marks i ≡ m
none_other marks m k e i l = eqb-true (byte_at marks i) m (not-false (byte_at marks i =? m) (none_of k (is_other marks m) 0 e i (omega arith) (omega arith)))

-- All but the last of the bytes that may go into the next record have one mark, without an end: the record has them
-- all, or all but the last where that is of the other stream.
pub run_alike : (marks : List ℕ) (m n : ℕ) → m < 2 → 1 < n → n ≡ min RUN (length marks) → ((i : ℕ) → i < n - 1 → byte_at marks i ≡ m)
    → run_length RUN marks ≡ (if m % 2 =? byte_at marks (n - 1) % 2 then n else n - 1)
run_alike marks m n h p e f =
    run_same marks m (n - 1) h (omega arith) (omega (arith, e)) (omega (arith, e)) f
    ∙ by_test (m % 2 =? byte_at marks (n - 1) % 2)
    (λ t. run_joins marks (n - 1) (omega arith) (omega (arith, e)) (omega (arith, e)) (last ∙ t) ∙ all ∙ simp t)
    (λ t. run_stops marks (n - 1) (omega arith) (omega (arith, e)) (omega (arith, e)) (last ∙ t) ∙ simp t)
  where
    all : run_from marks (n - 1 + 1) ≡ n
    all = let whole : n - 1 + 1 ≡ n = omega arith in rw whole (run_ends marks n (omega arith) e)

    last : joins (byte_at marks (n - 1 - 1)) (byte_at marks (n - 1)) ≡ (m % 2 =? byte_at marks (n - 1) % 2)
    last = rw (f (n - 1 - 1) (omega arith)) (stream_joins m (byte_at marks (n - 1)) h)

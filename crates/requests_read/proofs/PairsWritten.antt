-- Pairs that are written, one after another: their bytes, the names among them, and that names which differ do not
-- repeat.
use Rattle.std.specs.Prelude.{ℕ, ◌+◌, ◌≤◌, ◌<◌, ◌≡◌, refl, false, List, [], ◌∷◌, ◌++◌, map, length, ltb}
use Rattle.std.proofs.Common.{sym, ap, ◌∙◌, append-nil, append_assoc, arith, length-append}
use Rattle.wire.specs.Test.{by_test}
use Rattle.wire.specs.Compare.{same_bytes}
use Rattle.wire.proofs.CompareLaws.{same_is}
use Rattle.pairs.specs.Length.{length_bytes}
use Rattle.pairs.specs.Pair.{pair_bytes, name_of}
use Rattle.pairs.specs.declared.pair.Pair.{Pair}
use Rattle.pair_list.specs.List.{pairs_from, first_in, first_named, is_named}
use Rattle.pair_list.proofs.ReadBackList.{Named, Writable, written, named_in, contents, contents_from, written_contents}
use Rattle.pair_repeats.specs.Repeats.{repeats_in, repeats}
use Rattle.connection.specs.Step.{names}
use Rattle.requests_read.specs.Parts.{NotAmong, NamesDiffer}
use Rattle.requests_read.specs.AskedNames.{is_among}

-- ---- one pair more
pub written_more : (ps : List Named) (q : Named) → written (ps ++ (q ∷ [])) ≡ written ps ++ pair_bytes q.name q.value
unfolding written
written_more [] q = append-nil (pair_bytes q.name q.value)
written_more (p ∷ ps) q =
    let x = pair_bytes p.name p.value in
    ap (λ (u : List ℕ). x ++ u) (written_more ps q) ∙ sym (append_assoc x (written ps) (pair_bytes q.name q.value))

pub longer_by : (ps : List Named) (q : Named) → length (written (ps ++ (q ∷ []))) ≡ length (written ps) + length (pair_bytes q.name q.value)
longer_by ps q = ap length (written_more ps q) ∙ length-append (written ps) (pair_bytes q.name q.value)

pub writable_more : (ps : List Named) (q : Named) → Writable ps → length q.name ≤ 65535 → length q.value ≤ 65535 → Writable (ps ++ (q ∷ []))
writable_more [] q w n v = (omega arith, omega arith, tt)
writable_more (p ∷ ps) q w n v = (w.0, w.1, writable_more ps q w.2 n v)

-- a list that is not too long has names and values that can be written
pub short_writable : (ps : List Named) → length (written ps) < 2147483648 → Writable ps
unfolding written pair_bytes
short_writable [] h = tt
short_writable (p ∷ ps) h =
    let x = length_bytes (length p.name) in
    let y = length_bytes (length p.value) in
    let all : length (x ++ y ++ p.name ++ p.value ++ written ps) ≡ length x + length y + length p.name + length p.value + length (written ps) = simp length-append in
    (omega arith, omega arith, short_writable ps (omega arith))

-- where names differ, they do so before the last
not_among_before : (name : List ℕ) (ps : List Named) (q : Named) → NotAmong name (ps ++ (q ∷ [])) → NotAmong name ps
not_among_before name [] q k = tt
not_among_before name (p ∷ ps) q k = (k.0, not_among_before name ps q k.1)

pub differ_before : (ps : List Named) (q : Named) → NamesDiffer (ps ++ (q ∷ [])) → NamesDiffer ps
differ_before [] q k = tt
differ_before (p ∷ ps) q k = (not_among_before p.name ps q k.0, differ_before ps q k.1)

-- ---- a pair is written as some bytes
some_length : (n : ℕ) → 0 < length (length_bytes n)
unfolding length_bytes
some_length n = by_test (ltb n 128) (λ t. rw t (omega arith)) (λ t. rw t (omega arith))

pub some_pair : (name value : List ℕ) → 0 < length (pair_bytes name value)
unfolding pair_bytes
some_pair name value = simp length-append (omega (arith, some_length (length name)))

-- ---- names
-- a name among the pairs that are read
among_read : (s name : List ℕ) (ps : List Pair) → is_named (first_in s name ps) ≡ is_among name (map (named_in s) ps)
unfolding first_in is_among
among_read s name [] = refl
among_read s name (p ∷ ps) = by_test (same_bytes (name_of s p) name) (λ t. simp t) (λ t. simp t (among_read s name ps))

-- The names of a list that was written are those of its pairs.
pub names_written : (ps : List Named) (name : List ℕ) → Writable ps → names (written ps) name ≡ is_among name ps
unfolding names first_named contents contents_from
names_written ps name w = among_read (written ps) name (pairs_from (written ps) 0).pairs ∙ ap (is_among name) (written_contents ps w).0

not_among : (name : List ℕ) (ps : List Named) → NotAmong name ps → is_among name ps ≡ false
unfolding is_among
not_among name [] k = refl
not_among name (p ∷ ps) k =
    by_test (same_bytes p.name name) (λ t. absurd (k.0 (sym (same_is p.name name t)))) (λ t. simp t (not_among name ps k.1))

differ_read : (s : List ℕ) (ps : List Pair) → NamesDiffer (map (named_in s) ps) → repeats_in s ps ≡ false
unfolding repeats_in
differ_read s [] k = refl
differ_read s (p ∷ ps) k =
    let own : is_named (first_in s (name_of s p) ps) ≡ false = among_read s (name_of s p) ps ∙ not_among (name_of s p) (map (named_in s) ps) k.0 in
    simp own (differ_read s ps k.1)

-- A list whose names differ repeats none.
pub differ_written : (ps : List Named) → Writable ps → NamesDiffer ps → repeats (written ps) ≡ false
unfolding repeats contents contents_from
differ_written ps w k = differ_read (written ps) (pairs_from (written ps) 0).pairs (rw (written_contents ps w).0 k)

-- A list of pairs that is written is read back. A list that was read and is written anew has the same pairs, and no list
-- with these pairs is shorter.
use Rattle.std.specs.Prelude.{◌≡◌, ℕ, ◌+◌, ◌*◌, ◌-◌, ◌≤◌, ◌<◌, true, List, [], ◌∷◌, ◌++◌, map, length}
use Rattle.std.proofs.Common.{ap, ap₂, arith, append-nil, append_assoc, length-append}
use Rattle.pairs.specs.Pair.{pair_bytes, pair_at, name_of, value_of}
use Rattle.pair_list.specs.List.{Pairs, and_pairs, pairs_from, is_end, well_formed}
use Rattle.pairs.proofs.PairLaws.{PairIn, pair_in_lem}
use Rattle.pair_list.proofs.ListLaws.{ended, pairs_induction, pairs_next, pairs_end}
use Rattle.wire.proofs.Bytes.{AllBytes}
use Rattle.pairs.proofs.ReadBack.{written_pair, pair_read_back, name_read_back, value_read_back, pair_no_longer, pair_writable}
use Rattle.pairs.specs.declared.pair.Pair.{Pair}
use Rattle.pairs.specs.declared.pair.Read.{Read}
use Rattle.pair_list.specs.declared.Ending.{Ending}

-- A name with its value, and the bytes of several, one after another.
pub record Named : Type 0 where
  pub name : List ℕ
  pub value : List ℕ

unfoldable pub written : List Named → List ℕ
written [] = []
written (q ∷ qs) = pair_bytes q.name q.value ++ written qs

-- The names and values of a list's pairs, from a cursor on, and of the whole list.
abbrev pub named_in : List ℕ → Pair → Named
named_in s p = record { name = name_of s p; value = value_of s p }

unfoldable pub contents_from : List ℕ → ℕ → List Named
contents_from s at = map (named_in s) (pairs_from s at).pairs

unfoldable pub contents : List ℕ → List Named
unfolding contents_from
contents s = contents_from s 0

-- Names and values whose lengths can be written.
abbrev pub Writable : List Named → Type 0
Writable [] = Unit
Writable (q ∷ qs) = (length q.name < 2147483648) × (length q.value < 2147483648) × Writable qs

-- The cursor moves on by two bytes or more, and stays within the list.
pub cursor_moves : (s : List ℕ) (at : ℕ) (p : Pair) (next : ℕ) → pair_at s at ≡ Read.Pair p next → (at + 2 ≤ next) × (next ≤ length s)
cursor_moves s at p next e = let i : PairIn s at p next = pair_in_lem s at p next e in (i.further, i.within)

-- A list has at most half as many pairs as bytes.
pub few_pairs : (s : List ℕ) → length (pairs_from s 0).pairs * 2 ≤ length s
few_pairs s = omega (arith, pairs_induction s Few (λ at h. omega arith) (λ at place e. omega arith) more 0)
  where
    Few : ℕ → Pairs → Type 0
    Few at ps = length ps.pairs * 2 ≤ length s - at

    more : (at : ℕ) (p : Pair) (next : ℕ) → pair_at s at ≡ Read.Pair p next → Few next (pairs_from s next) → Few at (and_pairs p (pairs_from s next))
    more at p next e h = omega (arith, cursor_moves s at p next e)

-- Pairs written after other bytes are read back from there on, up to the end.
pub written_contents_from : (ps : List Named) (front : List ℕ) → Writable ps
    → (contents_from (front ++ written ps) (length front) ≡ ps) × ((pairs_from (front ++ written ps) (length front)).ending ≡ Ending.End)
unfolding contents_from written
written_contents_from [] front w =
    let e : pairs_from (front ++ []) (length front) ≡ ended Ending.End = pairs_end (front ++ []) (length front) (simp append-nil (omega arith)) in
    (rw e, rw e)
written_contents_from (q ∷ qs) front w =
    let bytes : List ℕ = pair_bytes q.name q.value in
    let s : List ℕ = front ++ (bytes ++ written qs) in
    let next : ℕ = length front + length bytes in
    let p : Pair = written_pair (length front) q.name q.value in
    let e : pairs_from s (length front) ≡ and_pairs p (pairs_from s next) =
    pairs_next s (length front) p next (pair_read_back q.name q.value front (written qs) w.0 w.1) in
    let rest = written_contents_from qs (front ++ bytes) w.2 in
    let named : named_in s p ≡ q =
    ap₂ (λ (n v : List ℕ). record { name = n; value = v }) (name_read_back q.name q.value front (written qs))
    (value_read_back q.name q.value front (written qs)) in
    let others : contents_from s next ≡ qs = rw (append_assoc, length-append front bytes) at rest.0 in
    let ends : (pairs_from s next).ending ≡ Ending.End = rw (append_assoc, length-append front bytes) at rest.1 in
    (rw e (ap₂ (λ (a : Named) (l : List Named). a ∷ l) named others), rw e ends)

-- What is written is a well-formed list, and its names and values are those written.
pub written_contents : (ps : List Named) → Writable ps → (contents (written ps) ≡ ps) × (well_formed (written ps) ≡ true)
unfolding contents well_formed
written_contents ps w = let e = written_contents_from ps [] w in (e.0, ap is_end e.1)

-- The pairs of a list of bytes can be written.
contents_writable : (s : List ℕ) → AllBytes s → Writable (contents s)
unfolding contents contents_from
contents_writable s bytes = pairs_induction s Can (λ at h. tt) (λ at place e. tt) more 0
  where
    Can : ℕ → Pairs → Type 0
    Can at ps = Writable (map (named_in s) ps.pairs)

    more : (at : ℕ) (p : Pair) (next : ℕ) → pair_at s at ≡ Read.Pair p next → Can next (pairs_from s next) → Can at (and_pairs p (pairs_from s next))
    more at p next e h = let w = pair_writable s bytes at p next e in (w.0, w.1, h)

-- Reading a list and writing its pairs gives a well-formed list with the same pairs.
pub read_then_written : (s : List ℕ) → AllBytes s → (contents (written (contents s)) ≡ contents s) × (well_formed (written (contents s)) ≡ true)
read_then_written s bytes = written_contents (contents s) (contents_writable s bytes)

-- What is written for the pairs of a list is no longer than the list.
written_no_longer : (s : List ℕ) → length (written (contents s)) ≤ length s
unfolding contents contents_from written
written_no_longer s = omega (arith, pairs_induction s Short (λ at h. omega arith) (λ at place e. omega arith) more 0)
  where
    Short : ℕ → Pairs → Type 0
    Short at ps = length (written (map (named_in s) ps.pairs)) ≤ length s - at

    more : (at : ℕ) (p : Pair) (next : ℕ) → pair_at s at ≡ Read.Pair p next → Short next (pairs_from s next) → Short at (and_pairs p (pairs_from s next))
    more at p next e h =
        let i = cursor_moves s at p next e in
        simp length-append (omega (arith, pair_no_longer s at p next e, h, i))

-- No list with these pairs is shorter.
pub no_shorter : (s t : List ℕ) → contents t ≡ contents s → length (written (contents s)) ≤ length t
no_shorter s t e = rw (← e) (written_no_longer t)

-- What the loops over an area come to.
use Rattle.std.specs.Prelude.{◌≡◌, ℕ, ◌+◌, ◌-◌, ◌≤◌, ◌<◌, min, List, ◌++◌, length, take, drop, get_or, set, replicate}
use Rattle.std.proofs.Common.{sym, ap, ◌∙◌, arith, zero-add, add_comm, length-take, length-drop, drop_of_length-le, get_or-append-add, get_or-take, get_or-drop, length-take-le}
use Rattle.std.proofs.lemmas.List.{length-replicate, get_or-replicate}
use Rattle.std.proofs.Math.Seq.{paste}
use Rattle.wire.specs.Buffer.{put_at, copied}
use Rattle.wire.proofs.BufferLaws.{put_none, copied_room, copied_none, copy_turn, copy_end}

-- ---- the same byte n times
-- a turn of the loop
pub fill_turn : (l : List ℕ) (at n x i : ℕ) {m : List ℕ} → m ≡ paste l at (replicate n x) i → at + i < length l → i < n → set m (at + i) x ≡ paste l at (replicate n x) (i + 1)
fill_turn l at n x i {m} e h k =
    let f : i < length (replicate n x) = simp length-replicate k in
    ap (set m (at + i)) (sym (get_or-replicate n i x 0 k)) ∙ copy_turn l at (replicate n x) i e h f

-- where there is room, and where not
pub fill_room : (l : List ℕ) (at n x : ℕ) → at + n ≤ length l → paste l at (replicate n x) n ≡ copied l at (replicate n x)
fill_room l at n x h =
    let f : at + length (replicate n x) ≤ length l = simp length-replicate h in
    ap (paste l at (replicate n x)) (sym (length-replicate n x)) ∙ copy_end l at (replicate n x) ∙ sym (copied_room l at (replicate n x) f)

pub fill_none : (l : List ℕ) (at n x : ℕ) → length l < at + n → l ≡ copied l at (replicate n x)
fill_none l at n x h =
    let f : length l < at + length (replicate n x) = simp length-replicate h in
    sym (copied_none l at (replicate n x) f)

-- ---- k of the first `count` bytes taken out
-- the bytes that stay
abbrev pub lowered : List ℕ → ℕ → ℕ → List ℕ
lowered l k count = drop k (take count l)

-- how many they are
pub lowered_length : (l : List ℕ) (k count : ℕ) → length (lowered l k count) ≡ min count (length l) - k
lowered_length l k count = simp (length-drop, length-take)

-- a turn of the loop
pub lower_turn : (l : List ℕ) (k count i : ℕ) {m : List ℕ} → m ≡ paste l 0 (lowered l k count) i → i < min count (length l) - k
    → set m i (get_or m (i + k) 0) ≡ paste l 0 (lowered l k count) (i + 1)
lower_turn l k count i {m} e h =
    let s = lowered l k count in
    let n = lowered_length l k count in
    let f : i < length s = omega (arith, n) in
    let t : length (take i s) ≡ i = length-take-le i s (omega arith) in
    let read : get_or m (i + k) 0 ≡ get_or l (i + k) 0 =
    ap (λ (u : List ℕ). get_or u (i + k) 0) (e ∙ ap (λ (j : ℕ). take i s ++ drop j l) (zero-add i))
    ∙ ap (λ (j : ℕ). get_or (take i s ++ drop i l) (j + k) 0) (sym t)
    ∙ get_or-append-add (take i s) (drop i l) k 0
    ∙ get_or-drop i l k 0 in
    let same : get_or s i 0 ≡ get_or l (i + k) 0 =
    get_or-drop k (take count l) i 0 ∙ get_or-take count l (k + i) 0 (omega arith) ∙ ap (λ (j : ℕ). get_or l j 0) (add_comm k i) in
    let z : i ≡ 0 + i = omega arith in
    ap (set m i) (read ∙ sym same) ∙ ap (λ (j : ℕ). set m j (get_or s i 0)) z ∙ copy_turn l 0 s i e (omega arith) f

-- the end of the loop
pub lower_end : (l : List ℕ) (k count i : ℕ) → i ≡ min count (length l) - k → paste l 0 (lowered l k count) i ≡ put_at l 0 (lowered l k count)
lower_end l k count i h = ap (paste l 0 (lowered l k count)) (h ∙ sym (lowered_length l k count)) ∙ copy_end l 0 (lowered l k count)

-- no byte stays
pub lower_none : (l : List ℕ) (k count : ℕ) → min count (length l) < k → l ≡ put_at l 0 (lowered l k count)
lower_none l k count h =
    let n : length (take count l) ≤ k = simp length-take (omega arith) in
    sym (ap (put_at l 0) (drop_of_length-le (take count l) n) ∙ put_none l 0)

-- What holds of a pair that is written.
use Rattle.pairs.specs.Pair.{pair_bytes}
use Rattle.std.specs.Prelude.{◌≡◌, refl, ℕ, ◌+◌, ◌≤◌, ◌<◌, List, [], ◌∷◌, ◌++◌, length, take, drop, if◌then◌else◌, Ok, Err, Result}
use Rattle.std.proofs.Common.{sym, ap, ◌∙◌, arith, length-append, take_at, lt-ltb, le-ltb}
use Rattle.wire.specs.Test.{◌<?◌, ◌=?◌, by_test}
use Rattle.wire.specs.Number.{bytes4}
use Rattle.wire.specs.Buffer.{put_at, copied}
use Rattle.wire.proofs.BufferLaws.{put_length, put_put, copied_room}
use Rattle.pairs.specs.Length.{length_bytes}
use Rattle.pair_writer.specs.Write.{Written, MAX_WRITTEN, answered, pair_written}
use Rattle.pair_writer.specs.declared.PairRefusal.{PairRefusal}

-- a length below 128 is one byte
pub length_short : (n : ℕ) → n < 128 → length_bytes n ≡ n ∷ []
unfolding length_bytes
length_short n h = simp (lt-ltb n 128 h)

-- any other is four
pub length_long : (n : ℕ) → 128 ≤ n → length_bytes n ≡ bytes4 (n + 2147483648)
unfolding length_bytes
length_long n h = simp (le-ltb n 128 h)

-- a length takes one byte to four
pub length_takes : (n : ℕ) → (1 ≤ length (length_bytes n)) × (length (length_bytes n) ≤ 4)
unfolding length_bytes
length_takes n = by_test (n <? 128) (λ t. simp t (omega arith, omega arith)) (λ t. simp t (omega arith, omega arith))

-- a length copied to a place where there is room for it
pub length_copied : (out : List ℕ) (at n : ℕ) {bytes : List ℕ} → length_bytes n ≡ bytes → at + length (length_bytes n) ≤ length out
    → copied out at bytes ≡ put_at out at (length_bytes n)
length_copied out at n e h = ap (copied out at) (sym e) ∙ copied_room out at (length_bytes n) h

-- both lengths, one after the other, take at most eight
pub lengths_take : (n v : ℕ) → length (length_bytes n ++ length_bytes v) ≤ 8
lengths_take n v = omega (arith, length-append (length_bytes n) (length_bytes v), length_takes n, length_takes v)

-- they are put one after the other
pub lengths_put : (out : List ℕ) (n v a b : ℕ) {l1 l2 : List ℕ} → 8 ≤ length out
    → a ≡ 0 + length (length_bytes n) → b ≡ a + length (length_bytes v)
    → l1 ≡ put_at out 0 (length_bytes n) → l2 ≡ put_at l1 a (length_bytes v)
    → (b ≡ length (length_bytes n ++ length_bytes v)) × (l2 ≡ put_at out 0 (length_bytes n ++ length_bytes v))
lengths_put out n v a b h ea eb e1 e2 =
    let x = length_bytes n in
    let y = length_bytes v in
    let xy = length-append x y in (
      omega arith,
      e2 ∙ ap (λ (l : List ℕ). put_at l a y) e1 ∙ put_put out 0 a x y ea (omega (arith, length_takes n, length_takes v)),
    )

-- bytes put at the start are the front
pub front_put : (out x : List ℕ) {l : List ℕ} {n : ℕ} → n ≡ length x → l ≡ put_at out 0 x → take n l ≡ x
front_put out x e p = rw (e, p) (take_at x (drop (0 + length x) out) (length x) refl)

-- how many bytes a pair takes
pub pair_size : (name value : List ℕ)
    → length (pair_bytes name value) ≡ length (length_bytes (length name)) + length (length_bytes (length value)) + length name + length value
unfolding pair_bytes
pair_size name value = simp length-append

-- both lengths, name and value, put one after the other, are the pair put at the start
pub pair_put : (out name value : List ℕ) (a b c : ℕ) {l1 l2 l3 l4 : List ℕ}
    → a ≡ 0 + length (length_bytes (length name))
    → b ≡ a + length (length_bytes (length value))
    → c ≡ b + length name
    → c + length value ≤ length out
    → l1 ≡ put_at out 0 (length_bytes (length name))
    → l2 ≡ put_at l1 a (length_bytes (length value))
    → l3 ≡ copied l2 b name
    → l4 ≡ copied l3 c value
    → l4 ≡ put_at out 0 (pair_bytes name value)
unfolding pair_bytes
pair_put out name value a b c {l1} {l2} {l3} ea eb ec h e1 e2 e3 e4 =
    let x = length_bytes (length name) in
    let y = length_bytes (length value) in
    let xy : length (x ++ y) ≡ b = length-append x y ∙ omega arith in
    let xyn : length (x ++ y ++ name) ≡ c = length-append (x ++ y) name ∙ omega arith in
    let two : l2 ≡ put_at out 0 (x ++ y) = e2 ∙ ap (λ (l : List ℕ). put_at l a y) e1 ∙ put_put out 0 a x y (omega arith) (omega arith) in
    let n2 : length l2 ≡ length out = ap length two ∙ put_length out 0 (x ++ y) (omega arith) in
    let three : l3 ≡ put_at out 0 (x ++ y ++ name) = e3 ∙ copied_room l2 b name (omega arith) ∙ ap (λ (l : List ℕ). put_at l b name) two ∙ put_put out 0 b (x ++ y) name (omega arith) (omega arith) in
    let n3 : length l3 ≡ length out = ap length three ∙ put_length out 0 (x ++ y ++ name) (omega arith) in
    e4 ∙ copied_room l3 c value (omega arith) ∙ ap (λ (l : List ℕ). put_at l c value) three ∙ put_put out 0 c (x ++ y ++ name) value (omega arith) (omega arith)

-- a pair of so many bytes that is put into the buffer is what the call comes to
pub pair_written_lem : (out name value : List ℕ) {size : ℕ} {l : List ℕ} → length name ≤ MAX_WRITTEN → length value ≤ MAX_WRITTEN
    → size ≡ length (pair_bytes name value) → size ≤ length out → l ≡ put_at out 0 (pair_bytes name value)
    → answered (Ok size) l ≡ pair_written out name value
unfolding pair_written
pair_written_lem out name value {size} {l} hn hv e h put =
    let room : length (pair_bytes name value) ≤ length out = omega arith in
    simp (le-ltb _ _ hn, le-ltb _ _ hv, le-ltb _ _ room, e, put)

-- the answer that a call came to
abbrev answer_of : Written → Result ℕ PairRefusal
answer_of w = if w.refusal =? 8 then (Err PairRefusal.TooLong) else if w.refusal =? 6 then (Err PairRefusal.NoRoom) else Ok w.bytes

-- it is found again
answer_back : (r : Result ℕ PairRefusal) (l : List ℕ) → answer_of (answered r l) ≡ r
answer_back (Ok n) l = refl
answer_back (Err PairRefusal.TooLong) l = refl
answer_back (Err PairRefusal.NoRoom) l = refl

-- and so is the buffer
buffer_back : (r : Result ℕ PairRefusal) (l : List ℕ) → (answered r l).buffer ≡ l
buffer_back (Ok n) l = refl
buffer_back (Err PairRefusal.TooLong) l = refl
buffer_back (Err PairRefusal.NoRoom) l = refl

-- two calls that come to the same have the same answer and the same buffer
pub answered_once : (r r' : Result ℕ PairRefusal) (l l' : List ℕ) → answered r l ≡ answered r' l' → (r ≡ r') × (l ≡ l')
answered_once r r' l l' e = (
  sym (answer_back r l) ∙ ap answer_of e ∙ answer_back r' l',
  sym (buffer_back r l) ∙ ap (λ (w : Written). w.buffer) e ∙ buffer_back r' l',
)

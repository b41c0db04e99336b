-- What is written is read back, and what is written for a pair that was read is no longer than what was read.
use Rattle.std.specs.Prelude.{◌≡◌, refl, ℕ, ◌+◌, ◌*◌, ◌-◌, ◌/◌, ◌%◌, ◌≤◌, ◌<◌, true, false, List, ◌∷◌, ◌++◌, length, take, drop, ltb, Some, None, Option}
use Rattle.std.proofs.Common.{ap, subst, arith, append_assoc, length-append, length-take, length-drop, take_at, drop_at, get_or-append-add, ltb-true, lt-ltb, le-ltb}
use Rattle.std.proofs.Math.Seq.{get_or-append_seam}
use Rattle.std.proofs.lemmas.Bool.{lt-leb}
use Rattle.wire.specs.Test.{◌<?◌, ◌≤?◌, by_test}
use Rattle.wire.specs.Number.{number4, number4_bytes}
use Rattle.wire.specs.Buffer.{byte_at}
use Rattle.wire.proofs.Bytes.{AllBytes}
use Rattle.pairs.specs.Length.{four_at, length_at, length_bytes}
use Rattle.pairs.specs.Pair.{pair_bytes, on_length, body_at, pair_at, name_of, value_of}
use Rattle.pairs.proofs.PairLaws.{PairIn, pair_in_lem, same_length}
use Rattle.pairs.specs.declared.pair.Pair.{Pair}
use Rattle.pairs.specs.declared.pair.Read.{Read}

-- The top bit of a number in four bytes: the number without it, the number with it, and that it is set in what is
-- written.
top_bit : (b3 b2 b1 b0 n : ℕ) → number4 b3 b2 b1 b0 ≡ n + 2147483648 → 128 ≤ b3 → number4 (b3 - 128) b2 b1 b0 ≡ n
unfolding number4
top_bit b3 b2 b1 b0 n e h = omega arith

top_set : (b3 b2 b1 b0 : ℕ) → 128 ≤ b3 → number4 b3 b2 b1 b0 ≡ number4 (b3 - 128) b2 b1 b0 + 2147483648
unfolding number4
top_set b3 b2 b1 b0 h = omega arith

high_bit : (n : ℕ) → n < 2147483648 → 128 ≤ (n + 2147483648) / 16777216 % 256
high_bit n h = omega arith

-- A length of one byte, read after other bytes.
one_read : (front : List ℕ) (b : ℕ) (rest : List ℕ) → b < 128 → length_at (front ++ b ∷ rest) (length front) ≡ Some (b, length front + 1)
unfolding length_at
one_read front b rest h =
    let more : length front < length (front ++ b ∷ rest) = simp length-append (omega arith) in
    simp (lt-leb _ _ more, get_or-append_seam front b rest 0, lt-ltb _ _ h)

-- Four bytes, the first with its top bit set, are the length of their number, whatever it is.
pub four_read : (front : List ℕ) (b3 b2 b1 b0 n : ℕ) (rest : List ℕ) → 128 ≤ b3 → number4 (b3 - 128) b2 b1 b0 ≡ n
    → length_at (front ++ b3 ∷ b2 ∷ b1 ∷ b0 ∷ rest) (length front) ≡ Some (n, length front + 4)
unfolding length_at four_at
four_read front b3 b2 b1 b0 n rest h e =
    let s : List ℕ = front ++ b3 ∷ b2 ∷ b1 ∷ b0 ∷ rest in
    let more : length front < length s = simp length-append (omega arith) in
    let four : 4 ≤ length s - length front = simp length-append (omega arith) in
    let tail : List ℕ = b3 ∷ b2 ∷ b1 ∷ b0 ∷ rest in
    simp (
      lt-leb _ _ more,
      get_or-append_seam front b3 (b2 ∷ b1 ∷ b0 ∷ rest) 0,
      get_or-append-add front tail 1 0,
      get_or-append-add front tail 2 0,
      get_or-append-add front tail 3 0,
      le-ltb _ _ h,
      le-ltb _ _ four,
      e,
    )

-- A length that was written is read back.
pub length_read_back : (n : ℕ) (front rest : List ℕ) → n < 2147483648
    → length_at (front ++ (length_bytes n ++ rest)) (length front) ≡ Some (n, length front + length (length_bytes n))
unfolding length_bytes
length_read_back n front rest h = by_test (ltb n 128) small large
  where
    small : ltb n 128 ≡ true → length_at (front ++ (length_bytes n ++ rest)) (length front) ≡ Some (n, length front + length (length_bytes n))
    small t = simp t (one_read front n rest (ltb-true n 128 t))

    large : ltb n 128 ≡ false → length_at (front ++ (length_bytes n ++ rest)) (length front) ≡ Some (n, length front + length (length_bytes n))
    large t =
        let m : ℕ = n + 2147483648 in
        let b : 128 ≤ m / 16777216 % 256 = high_bit n h in
        let w : number4 (m / 16777216 % 256) (m / 65536 % 256) (m / 256 % 256) (m % 256) ≡ m = number4_bytes m (omega arith) in
        simp t (four_read front (m / 16777216 % 256) (m / 65536 % 256) (m / 256 % 256) (m % 256) n rest b (top_bit _ _ _ _ n w b))

-- Where a pair that is written at an offset lies.
abbrev pub written_pair : ℕ → List ℕ → List ℕ → Pair
written_pair at name value =
    let start : ℕ = at + length (length_bytes (length name)) + length (length_bytes (length value)) in
    record { name = start; name_len = length name; value = start + length name; value_len = length value }

-- A length takes a byte or more.
length_some : (n : ℕ) → 1 ≤ length (length_bytes n)
unfolding length_bytes
length_some n = by_test (ltb n 128) (λ t. simp t (omega arith)) (λ t. simp t (omega arith))

-- A pair's bytes, one part after the other.
apart : (front name value rest : List ℕ)
    → front ++ (pair_bytes name value ++ rest) ≡ front ++ (length_bytes (length name) ++ (length_bytes (length value) ++ (name ++ (value ++ rest))))
unfolding pair_bytes
apart front name value rest = simp append_assoc

-- How many bytes a pair takes.
pair_length : (name value : List ℕ)
    → length (pair_bytes name value) ≡ length (length_bytes (length name)) + length (length_bytes (length value)) + length name + length value
unfolding pair_bytes
pair_length name value = simp length-append

-- A pair that was written is read back: it lies where it was written, and the cursor stands after it.
pub pair_read_back : (name value front rest : List ℕ) → length name < 2147483648 → length value < 2147483648
    → pair_at (front ++ (pair_bytes name value ++ rest)) (length front)
    ≡ Read.Pair (written_pair (length front) name value) (length front + length (pair_bytes name value))
unfolding pair_at
pair_read_back name value front rest hn hv =
    let l1 : List ℕ = length_bytes (length name) in
    let l2 : List ℕ = length_bytes (length value) in
    let s : List ℕ = front ++ (pair_bytes name value ++ rest) in
    let a : ℕ = length front + length l1 in
    let b : ℕ = a + length l2 in
    let size : length s ≡ b + length name + length value + length rest = simp (length-append, pair_length) (omega arith) in
    let e1 : length_at s (length front) ≡ Some (length name, a) = rw apart (length_read_back (length name) front _ hn) in
    let e2 : length_at s a ≡ Some (length value, b) =
    rw apart (simp (append_assoc, length-append) at (length_read_back (length value) (front ++ l1) (name ++ (value ++ rest)) hv)) in
    let some : length front < length s = omega (arith, length_some (length name)) in
    let more : length name ≤ length s - b = omega arith in
    let last : length value ≤ length s - (b + length name) = omega arith in
    simp (lt-leb _ _ some, e1, e2, le-ltb _ _ more, le-ltb _ _ last)
    (ap (λ (k : ℕ). Read.Pair (written_pair (length front) name value) k) (simp pair_length (omega arith)))

-- A part of a list, taken out by its place and its length.
part_out : (front part rest : List ℕ) (at : ℕ) → length front ≡ at → take (length part) (drop at (front ++ (part ++ rest))) ≡ part
part_out front part rest at e = rw drop_at (take_at part rest (length part) refl)

-- The name of a pair that was written is the name given.
pub name_read_back : (name value front rest : List ℕ)
    → name_of (front ++ (pair_bytes name value ++ rest)) (written_pair (length front) name value) ≡ name
name_read_back name value front rest =
    let l1 : List ℕ = length_bytes (length name) in
    let l2 : List ℕ = length_bytes (length value) in
    rw apart (simp append_assoc at (part_out (front ++ l1 ++ l2) name (value ++ rest) (length front + length l1 + length l2) (simp length-append)))

-- The value of a pair that was written is the value given.
pub value_read_back : (name value front rest : List ℕ)
    → value_of (front ++ (pair_bytes name value ++ rest)) (written_pair (length front) name value) ≡ value
value_read_back name value front rest =
    let l1 : List ℕ = length_bytes (length name) in
    let l2 : List ℕ = length_bytes (length value) in
    rw apart
    (simp append_assoc at (part_out (front ++ l1 ++ l2 ++ name) value rest (length front + length l1 + length l2 + length name) (simp length-append)))

-- What is written for a length that was read is no longer than what was read: a byte where it was one, and at most four
-- where they were four.
length_no_longer : (s : List ℕ) (at n next : ℕ) → length_at s at ≡ Some (n, next) → at + length (length_bytes n) ≤ next
unfolding length_at length_bytes
length_no_longer s at n next e =
    by_test (length s ≤? at)
    (λ t1. let z : ◌≡◌ {A = ℕ} 0 1 = cc (simp t1 at e) in absurd (omega arith))
    (λ t1. by_test (byte_at s at <? 128)
    (λ t2.
    let p : byte_at s at ≡ n = (same_length (simp (t1, t2) at e)).0 in
    let q : at + 1 ≡ next = (same_length (simp (t1, t2) at e)).1 in
    rw (← p, t2) (omega arith))
    (λ t2. by_test (length s - at <? 4)
    (λ t3. let z : ◌≡◌ {A = ℕ} 0 1 = cc (simp (t1, t2, t3) at e) in absurd (omega arith))
    (λ t3.
    let q : at + 4 ≡ next = (same_length (simp (t1, t2, t3) at e)).1 in
    by_test (n <? 128) (λ t4. simp t4 (omega arith)) (λ t4. simp t4 (omega arith)))))

-- A length that was read from bytes can be written.
length_writable : (s : List ℕ) → AllBytes s → (at n next : ℕ) → length_at s at ≡ Some (n, next) → n < 2147483648
unfolding length_at four_at number4
length_writable s bytes at n next e =
    by_test (length s ≤? at)
    (λ t1. let z : ◌≡◌ {A = ℕ} 0 1 = cc (simp t1 at e) in absurd (omega arith))
    (λ t1. by_test (byte_at s at <? 128)
    (λ t2.
    let p : byte_at s at ≡ n = (same_length (simp (t1, t2) at e)).0 in
    omega (arith, ltb-true (byte_at s at) 128 t2))
    (λ t2. by_test (length s - at <? 4)
    (λ t3. let z : ◌≡◌ {A = ℕ} 0 1 = cc (simp (t1, t2, t3) at e) in absurd (omega arith))
    (λ t3.
    let p : (byte_at s at - 128) * 16777216 + byte_at s (at + 1) * 65536 + byte_at s (at + 2) * 256 + byte_at s (at + 3) ≡ n = (same_length (simp (t1, t2, t3) at e)).0 in
    omega (arith, bytes at, bytes (at + 1), bytes (at + 2), bytes (at + 3)))))

-- The two lengths that a pair was read by.
record Lengths (s : List ℕ) (at : ℕ) (p : Pair) : Type 0 where
  second : ℕ
  named : length_at s at ≡ Some (p.name_len, second)
  valued : length_at s second ≡ Some (p.value_len, p.name)

lengths : (s : List ℕ) (at : ℕ) (p : Pair) (next : ℕ) → pair_at s at ≡ Read.Pair p next → Lengths s at p
unfolding pair_at
lengths s at p next e =
    by_test (length s ≤? at)
    (λ t. let z : ◌≡◌ {A = ℕ} 0 1 = cc (simp t at e) in absurd (omega arith))
    (λ t. first (length_at s at) refl (simp t at e))
  where
    body : (n a v b : ℕ) → length_at s at ≡ Some (n, a) → length_at s a ≡ Some (v, b) → body_at s at n v b ≡ Read.Pair p next → Lengths s at p
    body n a v b q1 q2 e =
        by_test (length s - b <? n)
        (λ t1. let z : ◌≡◌ {A = ℕ} 0 1 = cc (simp t1 at e) in absurd (omega arith))
        (λ t1. by_test (length s - (b + n) <? v)
        (λ t2. let z : ◌≡◌ {A = ℕ} 0 1 = cc (simp (t1, t2) at e) in absurd (omega arith))
        (λ t2.
        let q : record { name = b; name_len = n; value = b + n; value_len = v } ≡ p = cc (simp (t1, t2) at e) in
        subst (Lengths s at) q (record { second = a; named = q1; valued = q2 })))

    second : (n a : ℕ) → length_at s at ≡ Some (n, a) → (m : Option (ℕ × ℕ)) → length_at s a ≡ m
        → on_length m (λ v b. body_at s at n v b) (Read.Malformed at) ≡ Read.Pair p next → Lengths s at p
    second n a q1 (Some (v, b)) q2 e = body n a v b q1 q2 e
    second n a q1 None q2 e = let z : ◌≡◌ {A = ℕ} 0 1 = cc in absurd (omega arith)

    first : (l : Option (ℕ × ℕ)) → length_at s at ≡ l
        → on_length l (λ n a. on_length (length_at s a) (λ v b. body_at s at n v b) (Read.Malformed at)) (Read.Malformed at) ≡ Read.Pair p next → Lengths s at p
    first (Some (n, a)) q e = second n a q (length_at s a) refl e
    first None q e = let z : ◌≡◌ {A = ℕ} 0 1 = cc in absurd (omega arith)

-- A part of a list has its length.
part_length : (s : List ℕ) (at n : ℕ) → at + n ≤ length s → length (take n (drop at s)) ≡ n
part_length s at n h = simp (length-take, length-drop) (omega arith)

-- The name and the value of a pair that was read have the lengths that were read.
name_length : (s : List ℕ) (at : ℕ) (p : Pair) (next : ℕ) → pair_at s at ≡ Read.Pair p next → length (name_of s p) ≡ p.name_len
name_length s at p next e = let i : PairIn s at p next = pair_in_lem s at p next e in part_length s p.name p.name_len (omega arith)

value_length : (s : List ℕ) (at : ℕ) (p : Pair) (next : ℕ) → pair_at s at ≡ Read.Pair p next → length (value_of s p) ≡ p.value_len
value_length s at p next e = let i : PairIn s at p next = pair_in_lem s at p next e in part_length s p.value p.value_len (omega arith)

-- What is written for a pair that was read is no longer than the bytes that it was read from.
pub pair_no_longer : (s : List ℕ) (at : ℕ) (p : Pair) (next : ℕ) → pair_at s at ≡ Read.Pair p next
    → at + length (pair_bytes (name_of s p) (value_of s p)) ≤ next
pair_no_longer s at p next e =
    let i : PairIn s at p next = pair_in_lem s at p next e in
    let l : Lengths s at p = lengths s at p next e in
    let ln = name_length s at p next e in
    let lv = value_length s at p next e in
    let l1 : at + length (length_bytes (length (name_of s p))) ≤ l.second = rw ln (length_no_longer s at _ _ l.named) in
    let l2 : l.second + length (length_bytes (length (value_of s p))) ≤ p.name = rw lv (length_no_longer s _ _ _ l.valued) in
    omega (arith, pair_length (name_of s p) (value_of s p), ln, lv, l1, l2, i.named, i.valued)

-- A pair that was read from bytes can be written.
pub pair_writable : (s : List ℕ) → AllBytes s → (at : ℕ) (p : Pair) (next : ℕ) → pair_at s at ≡ Read.Pair p next
    → (length (name_of s p) < 2147483648) × (length (value_of s p) < 2147483648)
pair_writable s bytes at p next e =
    let l : Lengths s at p = lengths s at p next e in
    (rw (name_length s at p next e) (length_writable s bytes at _ _ l.named), rw (value_length s at p next e) (length_writable s bytes _ _ _ l.valued))

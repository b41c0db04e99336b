-- Lists whose every element is a byte.
use Rattle.std.specs.Prelude.{ℕ, zero, suc, ◌+◌, ◌-◌, ◌<◌, ◌≡◌, List, ◌++◌, length, take, drop, get_or, ltb}
use Rattle.std.proofs.Common.{arith, length-take, get_or-take, get_or-drop, get_or-append-add, ltb-true, ltb-false}
use Rattle.std.proofs.Math.ListN.{get_or-append, get_or-eq_default}
use Rattle.wire.specs.Test.{by_test}
use Rattle.wire.specs.Buffer.{put_at, zeros}

-- Every element is a byte. (Past the end of a list stands 0.)
abbrev pub AllBytes : List ℕ → Type 0
AllBytes s = (i : ℕ) → get_or s i 0 < 256

-- Zeros are bytes.
pub zeros_bytes : (n : ℕ) → AllBytes (zeros n)
zeros_bytes zero i = omega arith
zeros_bytes (suc n) zero = omega arith
zeros_bytes (suc n) (suc i) = zeros_bytes n i

-- The first of some bytes are bytes.
pub take_bytes : (n : ℕ) (s : List ℕ) → AllBytes s → AllBytes (take n s)
take_bytes n s a i =
    by_test (ltb i n)
    (λ t. rw (get_or-take n s i 0 (ltb-true i n t)) (a i))
    (λ t. let out : get_or (take n s) i 0 ≡ 0 = get_or-eq_default (take n s) 0 (omega (arith, ltb-false i n t, length-take n s)) in omega arith)

-- And those after them.
pub drop_bytes : (n : ℕ) (s : List ℕ) → AllBytes s → AllBytes (drop n s)
drop_bytes n s a i = rw (get_or-drop n s i 0) (a (n + i))

-- And two lists of bytes in one.
pub append_bytes : (s t : List ℕ) → AllBytes s → AllBytes t → AllBytes (s ++ t)
append_bytes s t a b i =
    by_test (ltb i (length s))
    (λ h. rw (get_or-append s t 0 i (ltb-true i (length s) h)) (a i))
    (λ h. let e : i ≡ length s + (i - length s) = omega (arith, ltb-false i (length s) h) in rw (e, get_or-append-add s t (i - length s) 0) (b (i - length s)))

-- And bytes put into a buffer of bytes.
pub put_bytes : (l : List ℕ) (at : ℕ) (x : List ℕ) → AllBytes l → AllBytes x → AllBytes (put_at l at x)
put_bytes l at x a b = append_bytes (take at l ++ x) (drop (at + length x) l) (append_bytes (take at l) x (take_bytes at l a) b) (drop_bytes (at + length x) l a)

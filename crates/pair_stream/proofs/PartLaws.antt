-- A part of lists that follow each other, part by part.
use Rattle.std.specs.Prelude.{ℕ, zero, suc, ◌+◌, ◌-◌, ◌≤◌, min, ◌≡◌, refl, List, [], ◌++◌, length, take, drop, ltb, leb}
use Rattle.std.proofs.Common.{sym, ap, ◌∙◌, append-nil, arith, length-append, length-take, length-drop, drop_of_length-le, take_all, ltb-true, ltb-false}
use Rattle.std.proofs.lemmas.List.{take-append-le, drop-append-le}
use Rattle.std.proofs.Math.Seq.{take-append-add, drop-append-add}
use Rattle.wire.specs.Test.{by_test}
use Rattle.wire.specs.Buffer.{copied}
use Rattle.wire.proofs.BufferLaws.{put_none, copied_copied}

-- of n bytes not more are taken
pub take_short : (n : ℕ) (s : List ℕ) → length (take n s) ≤ n
take_short n s = omega (arith, length-take n s)

-- what follows a place
pub drop_both : (n : ℕ) (a b : List ℕ) → drop n (a ++ b) ≡ drop n a ++ drop (n - length a) b
drop_both n a b =
    by_test (ltb (length a) n)
    (λ t.
    let h = ltb-true (length a) n t in
    let e : n ≡ length a + (n - length a) = omega arith in
    let none : drop n a ≡ [] = drop_of_length-le a {i = n} (omega arith) in
    ap (λ (k : ℕ). drop k (a ++ b)) e ∙ drop-append-add a b (n - length a) ∙ ap (λ (l : List ℕ). l ++ drop (n - length a) b) (sym none))
    (λ t.
    let h = ltb-false (length a) n t in
    let e : n - length a ≡ 0 = omega arith in
    drop-append-le n a b h ∙ ap (λ (k : ℕ). drop n a ++ drop k b) (sym e))

-- and the first so many: those of the first list, then of the second as many as are still wanted
pub take_both : (n : ℕ) (a b : List ℕ) → take n (a ++ b) ≡ take n a ++ take (n - length (take n a)) b
take_both n a b =
    let l : length (take n a) ≡ min n (length a) = length-take n a in
    by_test (ltb (length a) n)
    (λ t.
    let h = ltb-true (length a) n t in
    let e : n ≡ length a + (n - length (take n a)) = omega arith in
    ap (λ (k : ℕ). take k (a ++ b)) e ∙ take-append-add a b (n - length (take n a)) ∙ ap (λ (x : List ℕ). x ++ take (n - length (take n a)) b) (sym (take_all n a (omega arith))))
    (λ t.
    let h = ltb-false (length a) n t in
    let e : n - length (take n a) ≡ 0 = omega arith in
    take-append-le n a b h ∙ sym (append-nil (take n a)) ∙ ap (λ (k : ℕ). take n a ++ take k b) (sym e))

-- n bytes from a place on, of two lists
pub part_both : (n from : ℕ) (a b : List ℕ) → take n (drop from (a ++ b)) ≡ take n (drop from a) ++ take (n - length (take n (drop from a))) (drop (from - length a) b)
part_both n from a b = ap (take n) (drop_both from a b) ∙ take_both n (drop from a) (drop (from - length a) b)

-- some bytes of a list that ends before them are none, and change nothing
pub none_copied : (l : List ℕ) (at from n : ℕ) (s : List ℕ) → length s ≤ from → (0 ≡ length (take n (drop from s))) × (l ≡ copied l at (take n (drop from s)))
unfolding copied
none_copied l at from n s h =
    let none : take n (drop from s) ≡ [] = ap (take n) (drop_of_length-le s {i = from} h) ∙ take_none n in
    (rw none, rw none (by_test (leb (at + 0) (length l)) (λ t. simp t (sym (put_none l at))) (λ t. simp t)))
  where
    take_none : (n : ℕ) → take {A = ℕ} n [] ≡ []
    take_none zero = refl
    take_none (suc n) = refl

-- as many as the list has
pub some_taken : (from n k : ℕ) (s : List ℕ) → k ≡ min n (length s - from) → (take (from + k - from) (drop from s) ≡ take n (drop from s)) × (k ≡ length (take n (drop from s)))
some_taken from n k s e =
    let d : length (drop from s) ≡ length s - from = length-drop from s in
    let l : length (take n (drop from s)) ≡ min n (length (drop from s)) = length-take n (drop from s) in
    let i : from + k - from ≡ k = omega arith in (
      ap (λ (j : ℕ). take j (drop from s)) i
          ∙ by_test (ltb (length (drop from s)) n)
          (λ t. let h = ltb-true (length (drop from s)) n t in take_all k (drop from s) (omega arith) ∙ sym (take_all n (drop from s) (omega arith)))
          (λ t. let h = ltb-false (length (drop from s)) n t in let q : k ≡ n = omega arith in ap (λ (j : ℕ). take j (drop from s)) q),
      omega arith,
    )

-- copied one list after the other, three lists are copied at once
pub parts_copied : (l : List ℕ) (at from n : ℕ) (a b c : List ℕ) {k m second third : ℕ} {l1 l2 l3 : List ℕ} → at + n ≤ length l
    → k ≡ length (take n (drop from a)) → l1 ≡ copied l at (take n (drop from a))
    → second ≡ from - length a
    → m ≡ length (take (n - k) (drop second b)) → l2 ≡ copied l1 (at + k) (take (n - k) (drop second b))
    → third ≡ second - length b
    → l3 ≡ copied l2 (at + k + m) (take (n - k - m) (drop third c))
    → l3 ≡ copied l at (take n (drop from (a ++ b ++ c)))
parts_copied l at from n a b c {k} {m} {second} {third} {l1} {l2} {l3} room ek e1 es em e2 et e3 =
    let x = take n (drop from a) in
    let y = take (n - k) (drop second b) in
    let z = take (n - k - m) (drop third c) in
    let lx : length x ≡ min n (length (drop from a)) = length-take n (drop from a) in
    let ly : length y ≡ min (n - k) (length (drop second b)) = length-take (n - k) (drop second b) in
    let lz : length z ≡ min (n - k - m) (length (drop third c)) = length-take (n - k - m) (drop third c) in
    let two : take n (drop from (a ++ b)) ≡ x ++ y = part_both n from a b ∙ rw (← ek, ← es) in
    let long : length (x ++ y) ≡ k + m = length-append x y ∙ omega arith in
    let rest : n - length (x ++ y) ≡ n - k - m = omega arith in
    let far : from - (length a + length b) ≡ third = omega arith in
    let three : take n (drop from (a ++ b ++ c)) ≡ x ++ y ++ z =
    part_both n from (a ++ b) c ∙ rw (two, rest, length-append a b) (ap (λ (i : ℕ). x ++ y ++ take (n - k - m) (drop i c)) far) in
    let s2 : l2 ≡ copied l at (x ++ y) = e2 ∙ ap (λ (u : List ℕ). copied u (at + k) y) e1 ∙ copied_copied l at (at + k) x y (omega arith) (omega arith) in
    e3 ∙ ap (λ (u : List ℕ). copied u (at + k + m) z) s2 ∙ copied_copied l at (at + k + m) (x ++ y) z (omega arith) (omega arith) ∙ ap (copied l at) (sym three)

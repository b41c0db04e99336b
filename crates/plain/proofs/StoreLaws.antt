-- Bytes put into the store: what lies before them and after them stays, and they lie after what they were put after.
use Rattle.std.specs.Prelude.{ℕ, ◌+◌, ◌-◌, ◌≤◌, ◌≡◌, List, ◌++◌, length, take, drop}
use Rattle.std.proofs.Common.{sym, ap, ◌∙◌, append_assoc, arith, length-drop, length-append, take-append-drop, length-take-le, drop-drop, take-add, drop_at, take_at}
use Rattle.std.proofs.lemmas.List.{drop-append-le, take-append-le}
use Rattle.std.proofs.Math.Seq.{drop-append-add}
use Rattle.wire.specs.Buffer.{put_at}

front_part : (p q : List ℕ) (m n : ℕ) → m + n ≤ length p → take n (drop m (p ++ q)) ≡ take n (drop m p)
front_part p q m n l =
    ap (take n) (drop-append-le m p q (omega arith))
    ∙ take-append-le n (drop m p) q (omega (arith, length-drop m p))

pub put_before : (store x : List ℕ) (a m n : ℕ) → a ≤ length store → m + n ≤ a
    → take n (drop m (put_at store a x)) ≡ take n (drop m store)
put_before store x a m n room l =
    let t = length-take-le a store room in
    ap (λ (u : List ℕ). take n (drop m u)) (append_assoc (take a store) x (drop (a + length x) store))
    ∙ front_part (take a store) (x ++ drop (a + length x) store) m n (omega (arith, t))
    ∙ sym (front_part (take a store) (drop a store) m n (omega (arith, t)))
    ∙ ap (λ (u : List ℕ). take n (drop m u)) (take-append-drop a store)

pub put_after : (store x : List ℕ) (a m : ℕ) → a + length x ≤ length store → a + length x ≤ m
    → drop m (put_at store a x) ≡ drop m store
put_after store x a m room l =
    let e = a + length x in
    let front = length-append (take a store) x in
    let p : length (take a store ++ x) ≡ e = omega (arith, front, length-take-le a store (omega arith)) in
    let z : m ≡ length (take a store ++ x) + (m - e) = omega (arith, p) in
    let y : e + (m - e) ≡ m = omega arith in
    ap (λ (n : ℕ). drop n (put_at store a x)) z
    ∙ drop-append-add (take a store ++ x) (drop e store) (m - e)
    ∙ drop-drop (m - e) e store
    ∙ ap (λ (n : ℕ). drop n store) y

pub put_own : (store x : List ℕ) (s n : ℕ) → s + n + length x ≤ length store
    → take (n + length x) (drop s (put_at store (s + n) x)) ≡ take n (drop s store) ++ x
put_own store x s n room =
    let own = take n (drop s store) in
    let rest = drop (s + n + length x) store in
    let ts = length-take-le s store (omega arith) in
    let tn : length own ≡ n = length-take-le n (drop s store) (omega (arith, length-drop s store)) in
    let k : length (own ++ x) ≡ n + length x = omega (arith, length-append own x, tn) in
    ap (λ (u : List ℕ). take (n + length x) (drop s (u ++ x ++ rest))) (take-add s n store)
    ∙ ap (λ (u : List ℕ). take (n + length x) (drop s u))
    (append_assoc (take s store ++ own) x rest ∙ append_assoc (take s store) own (x ++ rest))
    ∙ ap (take (n + length x)) (drop_at (take s store) (own ++ (x ++ rest)) s ts)
    ∙ ap (take (n + length x)) (sym (append_assoc own x rest))
    ∙ take_at (own ++ x) rest (n + length x) k

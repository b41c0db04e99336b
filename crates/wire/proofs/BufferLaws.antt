-- What holds of bytes put into a buffer.
use Rattle.std.specs.Prelude.{◌≡◌, ℕ, ◌+◌, ◌-◌, ◌≤◌, ◌<◌, List, [], ◌++◌, length, take, drop, get_or, set, true, false, leb}
use Rattle.std.proofs.Common.{sym, ap, ap₂, ◌∙◌, arith, add_assoc, add-zero, add-one, append-nil, append_assoc, length-append, length-take, length-drop, take-append-drop, drop-drop, take_at, drop_at, le-leb, leb-true, leb-false}
use Rattle.std.proofs.Math.Seq.{paste, paste-suc, drop-length, take-length}
use Rattle.std.proofs.lemmas.Bool.{lt-leb}
use borrow.Rule.Slice.PartMut.{put_mid}
use Rattle.wire.specs.Test.{by_test}
use Rattle.wire.specs.Buffer.{put_at, copied, zeros}

-- a buffer keeps its length
pub put_length : (l : List ℕ) (at : ℕ) (x : List ℕ) → at + length x ≤ length l → length (put_at l at x) ≡ length l
put_length l at x h = simp (length-append, length-take, length-drop) (omega arith)

-- no bytes change nothing
pub put_none : (l : List ℕ) (at : ℕ) → put_at l at [] ≡ l
put_none l at =
    ap (λ (k : ℕ). take at l ++ [] ++ drop k l) (add-zero at) ∙ ap (λ (u : List ℕ). u ++ drop at l) (append-nil (take at l)) ∙ take-append-drop at l

-- bytes put after bytes just put are both put at once
pub put_put : (l : List ℕ) (a b : ℕ) (x y : List ℕ) → b ≡ a + length x → b + length y ≤ length l → put_at (put_at l a x) b y ≡ put_at l a (x ++ y)
put_put l a b x y e h =
    let p : length (take a l ++ x) ≡ b = simp (length-append, length-take) (omega arith) in
    let t : take b (put_at l a x) ≡ take a l ++ x = take_at (take a l ++ x) (drop (a + length x) l) b p in
    let d : drop (b + length y) (put_at l a x) ≡ drop (a + length (x ++ y)) l =
    sym (drop-drop (length y) b (put_at l a x))
    ∙ ap (drop (length y)) (drop_at (take a l ++ x) (drop (a + length x) l) b p)
    ∙ drop-drop (length y) (a + length x) l
    ∙ ap (λ (k : ℕ). drop k l) (add_assoc a (length x) (length y) ∙ ap (λ (k : ℕ). a + k) (sym (length-append x y))) in
    ap₂ (λ (u v : List ℕ). u ++ y ++ v) t d ∙ ap (λ (u : List ℕ). u ++ drop (a + length (x ++ y)) l) (append_assoc (take a l) x y)

-- where there is room, and where not
pub copied_room : (l : List ℕ) (at : ℕ) (x : List ℕ) → at + length x ≤ length l → copied l at x ≡ put_at l at x
unfolding copied
copied_room l at x h = simp (le-leb _ _ h)

pub copied_none : (l : List ℕ) (at : ℕ) (x : List ℕ) → length l < at + length x → copied l at x ≡ l
unfolding copied
copied_none l at x h = simp (lt-leb _ _ h)

-- a part a..e of a buffer that came back as y
pub part_put : (l : List ℕ) (a e : ℕ) (y : List ℕ) → a ≤ e → length y ≡ e - a → put_mid a (e - a) l y ≡ put_at l a y
part_put l a e y h n =
    ap (λ (r : List ℕ). take a l ++ (y ++ r)) (drop-drop (e - a) a l ∙ ap (λ (k : ℕ). drop (a + k) l) (sym n))
    ∙ sym (append_assoc (take a l) y (drop (a + length y) l))

-- a turn of the loop that copies, and its end
pub copy_turn : (l : List ℕ) (at : ℕ) (x : List ℕ) (i : ℕ) {m : List ℕ} → m ≡ paste l at x i → at + i < length l → i < length x
    → set m (at + i) (get_or x i 0) ≡ paste l at x (i + 1)
copy_turn l at x i e hl hx = rw (e, add-one) (paste-suc l at x i 0 hl hx)

pub copy_end : (l : List ℕ) (at : ℕ) (x : List ℕ) → paste l at x (length x) ≡ put_at l at x
copy_end l at x = ap (λ (y : List ℕ). take at l ++ y ++ drop (at + length x) l) (take-length x)

-- the end of the loop that zeroes
pub zeroed : (l : List ℕ) (i : ℕ) {m : List ℕ} → m ≡ zeros i ++ drop i l → i ≡ length l → m ≡ zeros (length l)
zeroed l i e h = e ∙ rw (h, drop-length l) (append-nil (zeros (length l)))

-- room after a place, tested without a sum that could overflow
pub room_left : (at n room : ℕ) → at ≤ room → leb n (room - at) ≡ leb (at + n) room
room_left at n room h = by_test (leb n (room - at)) fits not_fits
  where
    fits : leb n (room - at) ≡ true → leb n (room - at) ≡ leb (at + n) room
    fits t = t ∙ sym (le-leb (at + n) room (omega (arith, leb-true n (room - at) t)))

    not_fits : leb n (room - at) ≡ false → leb n (room - at) ≡ leb (at + n) room
    not_fits t = t ∙ sym (lt-leb (at + n) room (omega (arith, leb-false n (room - at) t)))

-- Bytes copied in two parts.
pub copied_copied : (l : List ℕ) (a b : ℕ) (x y : List ℕ) → b ≡ a + length x → b + length y ≤ length l → copied (copied l a x) b y ≡ copied l a (x ++ y)
copied_copied l a b x y e h =
    let n : length (put_at l a x) ≡ length l = put_length l a x (omega arith) in
    ap (λ (u : List ℕ). copied u b y) (copied_room l a x (omega arith))
    ∙ copied_room (put_at l a x) b y (omega arith)
    ∙ put_put l a b x y e h
    ∙ sym (copied_room l a (x ++ y) (omega (arith, length-append x y)))

-- What holds of bytes split into records.
use Rattle.std.specs.Prelude.{ℕ, zero, suc, ◌+◌, ◌-◌, ◌≤◌, ◌<◌, ◌≡◌, refl, false, ltb}
use Rattle.std.proofs.Math.Path.{sym, ap, ap₂}
use Rattle.std.proofs.Common.{◌∙◌, arith, ltb-false, leb-true, le-ltb, le-leb}
use Rattle.std.proofs.Math.Bool.{true}
use mathlib.Core.List.{List, [], ◌∷◌, ◌++◌, append_assoc}
use Rattle.std.proofs.Math.ListN.{length, take, drop, get_or-append, length-append, length-drop}
use Rattle.std.proofs.Math.Seq.{take_at, drop_at, take-append-le}
use Rattle.std.proofs.lemmas.List.{drop-append-le}
use Rattle.wire.specs.Test.{by_test}
use Rattle.wire.specs.Buffer.{byte_at}
use Rattle.record.specs.declared.header.Header.{Header}
use Rattle.record.specs.Header.{header_of}
use Rattle.record.specs.Split.{Record, Split, front_length, whole_front, front, all_rest, ◌then-split◌, split_in, split}

-- a header is read from its eight bytes alone, whatever follows
pub header_front : (b c : List ℕ) → 8 ≤ length b → header_of (b ++ c) ≡ header_of b
unfolding header_of
header_front b c h =
    let at : (k : ℕ) → k < 8 → byte_at (b ++ c) k ≡ byte_at b k = λ k l. get_or-append b c 0 k (omega arith) in
    rw (at 0 (omega arith), at 1 (omega arith), at 2 (omega arith), at 3 (omega arith), at 4 (omega arith), at 5 (omega arith), at 6 (omega arith))

-- a whole record at the front: it has a header, and as many bytes as that says
pub record Whole (b : List ℕ) : Type 0 where
  pub header : 8 ≤ length b
  pub within : front_length b ≤ length b

pub whole_front_lem : (b : List ℕ) → whole_front b ≡ true → Whole b
unfolding whole_front
whole_front_lem b e =
    by_test (ltb (length b) 8)
    (λ t. let z : ◌≡◌ {A = ℕ} 0 1 = cc (simp t at e) in absurd (omega arith))
    (λ t. record { header = ltb-false (length b) 8 t; within = leb-true (front_length b) (length b) (simp t at e) })

pub front_whole : (b : List ℕ) → 8 ≤ length b → front_length b ≤ length b → whole_front b ≡ true
unfolding whole_front
front_whole b h w = simp (le-ltb (length b) 8 h, le-leb (front_length b) (length b) w)

pub front_long : (b : List ℕ) → 8 ≤ front_length b
unfolding front_length
front_long b = omega arith

-- ---- the split, record by record
enough : (k k' : ℕ) (b : List ℕ) → length b ≤ k → length b ≤ k' → split_in k b ≡ split_in k' b
unfolding split_in
enough zero zero b h h' = refl
enough zero (suc k') b h h' = by_test (whole_front b) (λ t. absurd (omega (arith, (whole_front_lem b t).header))) (λ t. simp t)
enough (suc k) zero b h h' = by_test (whole_front b) (λ t. absurd (omega (arith, (whole_front_lem b t).header))) (λ t. simp t)
enough (suc k) (suc k') b h h' = by_test (whole_front b) (λ t. go t (enough k k' (drop (front_length b) b))) (λ t. simp t)
  where
    go : whole_front b ≡ true → (length (drop (front_length b) b) ≤ k → length (drop (front_length b) b) ≤ k' → split_in k (drop (front_length b) b) ≡ split_in k' (drop (front_length b) b))
        → split_in (suc k) b ≡ split_in (suc k') b
    go t f =
        let d : length (drop (front_length b) b) ≡ length b - front_length b = length-drop (front_length b) b in
        let w = whole_front_lem b t in
        simp t (ap (λ (s : Split). (front b ∷ []) then-split s) (f (omega (arith, front_long b)) (omega (arith, front_long b))))

pub split_whole : (b : List ℕ) → whole_front b ≡ true → split b ≡ (front b ∷ []) then-split split (drop (front_length b) b)
unfolding split split_in
split_whole b t =
    let d : length (drop (front_length b) b) ≡ length b - front_length b = length-drop (front_length b) b in
    let w = whole_front_lem b t in
    enough (length b) (suc (length b)) b (omega arith) (omega arith)
    ∙ simp t (ap (λ (s : Split). (front b ∷ []) then-split s) (enough (length b) (length (drop (front_length b) b)) (drop (front_length b) b) (omega arith) (omega arith)))

pub split_cut : (b : List ℕ) → whole_front b ≡ false → split b ≡ all_rest b
unfolding split split_in
split_cut b t = enough (length b) (suc (length b)) b (omega arith) (omega arith) ∙ simp t

-- What holds of a list with no whole record at its front, and of one with such a record if it holds after it, holds
-- of all lists.
pub by_records : (P : List ℕ → Type 0) → ((b : List ℕ) → whole_front b ≡ false → P b)
    → ((b : List ℕ) → whole_front b ≡ true → P (drop (front_length b) b) → P b) → (b : List ℕ) → P b
by_records P cut whole b = go (length b) b (omega arith)
  where
    go : (k : ℕ) (b : List ℕ) → length b ≤ k → P b
    go zero b h = by_test (whole_front b) (λ t. absurd (omega (arith, (whole_front_lem b t).header))) (cut b)
    go (suc k) b h =
        by_test (whole_front b)
        (λ t. whole b t (go k (drop (front_length b) b) (omega (arith, length-drop (front_length b) b, front_long b, (whole_front_lem b t).header))))
        (cut b)

-- ---- a record at the front of more bytes
module _ (b c : List ℕ) (w : Whole b) where
  pub length_front : front_length (b ++ c) ≡ front_length b
  unfolding front_length
  length_front = rw (header_front b c w.header)

  pub whole_append : whole_front (b ++ c) ≡ true
  whole_append =
      let l : length (b ++ c) ≡ length b + length c = length-append b c in
      front_whole (b ++ c) (omega (arith, w.header)) (omega (arith, w.within, length_front))

  pub drop_front : drop (front_length (b ++ c)) (b ++ c) ≡ drop (front_length b) b ++ c
  drop_front = rw length_front (drop-append-le (front_length b) b c w.within)

  pub front_append : front (b ++ c) ≡ front b
  unfolding front front_length
  front_append =
      let h : header_of (b ++ c) ≡ header_of b = header_front b c w.header in
      let n : (header_of b).content ≤ length (drop 8 b) = omega (arith, length-drop 8 b, w.within) in
      let t : take (header_of b).content (drop 8 (b ++ c)) ≡ take (header_of b).content (drop 8 b) =
      ap (take (header_of b).content) (drop-append-le 8 b c w.header) ∙ take-append-le (header_of b).content (drop 8 b) c n in
      rw (h, t)

-- Bytes that come later change no record that is whole: the split of two lists is the records of the first, then the
-- split of its rest and the second.
pub split_append : (c b : List ℕ) → split (b ++ c) ≡ (split b).records then-split split ((split b).rest ++ c)
split_append c =
    by_records (λ b. split (b ++ c) ≡ (split b).records then-split split ((split b).rest ++ c))
    (λ b t. rw (split_cut b t))
    (λ b t ih.
    let w = whole_front_lem b t in
    split_whole (b ++ c) (whole_append b c w)
    ∙ ap₂ (λ (r : Record) (s : Split). (r ∷ []) then-split s) (front_append b c w) (ap split (drop_front b c w) ∙ ih)
    ∙ rw (split_whole b t))

-- The rest has no whole record at its front.
pub rest_cut : (b : List ℕ) → whole_front (split b).rest ≡ false
rest_cut = by_records (λ b. whole_front (split b).rest ≡ false) (λ b t. rw (split_cut b t) t) (λ b t ih. rw (split_whole b t) ih)

-- the record that a header, a content and a padding length make
abbrev pub record_with : Header → List ℕ → Record
record_with h content = record { version = h.version; kind = h.kind; id = h.id; content = content; padding = h.padding }

-- Eight header bytes, then content and padding of the lengths that they say, whatever bytes the padding has: that
-- record, and then what follows.
module _ (h x y rest : List ℕ) (eight : length h ≡ 8) (content : length x ≡ (header_of h).content) (padding : length y ≡ (header_of h).padding) where
  whole : List ℕ
  whole = h ++ (x ++ (y ++ rest))

  header_whole : header_of whole ≡ header_of h
  unfolding whole
  header_whole = header_front h (x ++ (y ++ rest)) (omega arith)

  length_whole : front_length whole ≡ length h + (length x + length y)
  unfolding front_length
  length_whole = rw header_whole (omega arith)

  behind : drop (front_length whole) whole ≡ rest
  unfolding whole
  behind =
      let e : length (h ++ (x ++ y)) ≡ front_length whole = length-append h (x ++ y) ∙ ap (λ (n : ℕ). length h + n) (length-append x y) ∙ sym length_whole in
      let a : whole ≡ (h ++ (x ++ y)) ++ rest = sym (append_assoc h (x ++ y) rest ∙ ap (λ (l : List ℕ). h ++ l) (append_assoc x y rest)) in
      ap (drop (front_length whole)) a ∙ drop_at (h ++ (x ++ y)) rest (front_length whole) e

  front_is : front whole ≡ record_with (header_of h) x
  unfolding front whole
  front_is =
      let d : drop 8 whole ≡ x ++ (y ++ rest) = drop_at h (x ++ (y ++ rest)) 8 eight in
      let t : take (header_of h).content (x ++ (y ++ rest)) ≡ x = take_at x (y ++ rest) (header_of h).content content in
      rw (header_whole, d, t)

  pub split_record : split (h ++ (x ++ (y ++ rest))) ≡ (record_with (header_of h) x ∷ []) then-split split rest
  unfolding whole
  split_record =
      let l : length whole ≡ length h + (length x + (length y + length rest)) = length-append h (x ++ (y ++ rest)) ∙ ap (λ (n : ℕ). length h + n) (length-append x (y ++ rest) ∙ ap (λ (n : ℕ). length x + n) (length-append y rest)) in
      let w : whole_front whole ≡ true = front_whole whole (omega arith) (omega (arith, length_whole)) in
      split_whole whole w ∙ ap₂ (λ (r : Record) (s : Split). (r ∷ []) then-split s) front_is (ap split behind)

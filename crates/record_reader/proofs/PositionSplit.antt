-- The position of a reader agrees with the split into records.
use Rattle.std.specs.Prelude.{ℕ, ◌+◌, ◌-◌, ◌≤◌, ◌<◌, ◌≡◌, refl, true, false, List, [], ◌∷◌, ◌++◌, length, take, drop, ltb, leb}
use Rattle.std.proofs.Common.{sym, ap, ◌∙◌, append-nil, arith, length-drop, take-append-drop, length-take-le, drop-drop, ltb-true, ltb-false, leb-false}
use Rattle.wire.specs.Test.{by_test}
use Rattle.record.specs.Header.{header_of}
use Rattle.record.specs.Split.{front_length, whole_front, split}
use Rattle.record.proofs.SplitLaws.{whole_front_lem, header_front, by_records, split_whole, split_cut, rest_cut}
use Rattle.record_reader.specs.declared.Position.{Position}
use Rattle.record_reader.specs.Position.{no_header, between_records, after_header, after}
use Rattle.record_reader.proofs.PositionLaws.{at, after_append, content_falls, padding_falls, part_grows, whole_comes}

-- A whole record brings a reader from between two records to between two records.
pub after_record_lem : (h x y rest : List ℕ) → length h ≡ 8 → length x ≡ (header_of h).content → length y ≡ (header_of h).padding
    → after between_records (h ++ (x ++ (y ++ rest))) ≡ after between_records rest
after_record_lem h x y rest eight content padding =
    let c = (header_of h).content in
    let p = (header_of h).padding in
    let whole : take 0 no_header ++ h ++ drop (0 + length h) no_header ≡ h = ap (λ (n : ℕ). h ++ drop (0 + n) no_header) eight ∙ append-nil h in
    let a : after between_records h ≡ after_header (header_of h) = (whole_comes h 0 no_header refl (omega arith) (omega arith)).0 ∙ ap (λ (u : List ℕ). after_header (header_of u)) whole in
    after_append between_records h (x ++ (y ++ rest))
    ∙ ap (λ (q : Position). after q (x ++ (y ++ rest))) a
    ∙ after_append (after_header (header_of h)) x (y ++ rest)
    ∙ ap (λ (q : Position). after q (y ++ rest)) (content_falls p 0 no_header x c 0 (omega arith)).0
    ∙ after_append (record { content = 0; padding = p; held = 0; header = no_header }) y rest
    ∙ ap (λ (q : Position). after q rest) (padding_falls 0 no_header y p 0 (omega arith)).0

-- the bytes of a whole record at the front, and those after it
taken_apart : (b : List ℕ) (c p : ℕ)
    → b ≡ take 8 b ++ (take c (drop 8 b) ++ (take p (drop (8 + c) b) ++ drop (8 + c + p) b))
taken_apart b c p =
    sym
    (ap (λ (u : List ℕ). take 8 b ++ u)
    (ap (λ (u : List ℕ). take c (drop 8 b) ++ u)
    (ap (λ (u : List ℕ). take p (drop (8 + c) b) ++ u) (sym (drop-drop p (8 + c) b)) ∙ take-append-drop p (drop (8 + c) b) ∙ sym (drop-drop c 8 b))
    ∙ take-append-drop c (drop 8 b))
    ∙ take-append-drop 8 b)

-- After any bytes a reader stands where the rest of their split alone would bring it: whole records leave no trace.
pub position_split : (b : List ℕ) → after between_records b ≡ after between_records (split b).rest
unfolding front_length
position_split =
    by_records (λ b. after between_records b ≡ after between_records (split b).rest)
    (λ b t. rw (split_cut b t))
    (λ b t ih.
    let w = whole_front_lem b t in
    let c = (header_of b).content in
    let p = (header_of b).padding in
    let l : length (take 8 b) ≡ 8 = length-take-le 8 b w.header in
    let says : header_of (take 8 b) ≡ header_of b = sym (header_front (take 8 b) (drop 8 b) (omega arith)) ∙ ap header_of (take-append-drop 8 b) in
    let x : length (take c (drop 8 b)) ≡ (header_of (take 8 b)).content = rw says (length-take-le c (drop 8 b) (omega (arith, length-drop 8 b, w.within))) in
    let y : length (take p (drop (8 + c) b)) ≡ (header_of (take 8 b)).padding = rw says (length-take-le p (drop (8 + c) b) (omega (arith, length-drop (8 + c) b, w.within))) in
    ap (after between_records) (taken_apart b c p)
    ∙ after_record_lem (take 8 b) (take c (drop 8 b)) (take p (drop (8 + c) b)) (drop (8 + c + p) b) l x y
    ∙ ih
    ∙ rw (split_whole b t))

-- ---- and back: a reader that stands between two records has read whole records
-- what is still to come of the record, and what is in of its header
abbrev pub unfinished : Position → ℕ
unfinished p = p.content + p.padding + p.held

-- after a header, with fewer bytes than its content and padding
cut_behind : (c p : ℕ) (x : List ℕ) → length x < c + p → 0 < unfinished (after (at c p 0 no_header) x)
cut_behind c p x short = by_test (ltb (length x) c) in_content in_padding
  where
    in_content : ltb (length x) c ≡ true → 0 < unfinished (after (at c p 0 no_header) x)
    in_content t =
        let l : length x < c = ltb-true (length x) c t in
        rw (content_falls p 0 no_header x c (c - length x) (omega arith)).0 (omega arith)

    in_padding : ltb (length x) c ≡ false → 0 < unfinished (after (at c p 0 no_header) x)
    in_padding t =
        let l : c ≤ length x = ltb-false (length x) c t in
        let n : length (take c x) ≡ c = length-take-le c x l in
        let m : length (drop c x) ≡ length x - c = length-drop c x in
        let e : after (at c p 0 no_header) x ≡ at 0 (p - (length x - c)) 0 no_header =
        ap (after (at c p 0 no_header)) (sym (take-append-drop c x))
        ∙ after_append (at c p 0 no_header) (take c x) (drop c x)
        ∙ ap (λ (q : Position). after q (drop c x)) (content_falls p 0 no_header (take c x) c 0 (omega arith)).0
        ∙ (padding_falls 0 no_header (drop c x) p (p - (length x - c)) (omega arith)).0 in
        rw e (omega arith)

-- a record that is cut leaves something to come
cut_unfinished : (b : List ℕ) → whole_front b ≡ false → 0 < length b → 0 < unfinished (after between_records b)
unfolding whole_front front_length
cut_unfinished b t some = by_test (ltb (length b) 8) short long
  where
    short : ltb (length b) 8 ≡ true → 0 < unfinished (after between_records b)
    short e = rw (part_grows b 0 no_header refl (omega (arith, ltb-true (length b) 8 e))).0 (omega arith)

    long : ltb (length b) 8 ≡ false → 0 < unfinished (after between_records b)
    long e =
        let l : 8 ≤ length b = ltb-false (length b) 8 e in
        let w : leb (front_length b) (length b) ≡ false = rw e at t in
        let cut : length b < front_length b = leb-false (front_length b) (length b) w in
        let eight : length (take 8 b) ≡ 8 = length-take-le 8 b l in
        let n : length (drop 8 b) ≡ length b - 8 = length-drop 8 b in
        let whole : take 0 no_header ++ take 8 b ++ drop (0 + length (take 8 b)) no_header ≡ take 8 b =
        ap (λ (k : ℕ). take 8 b ++ drop (0 + k) no_header) eight ∙ append-nil (take 8 b) in
        let says : header_of (take 8 b) ≡ header_of b = sym (header_front (take 8 b) (drop 8 b) (omega arith)) ∙ ap header_of (take-append-drop 8 b) in
        let c = (header_of b).content in
        let p = (header_of b).padding in
        let a : after between_records (take 8 b) ≡ at c p 0 no_header =
        (whole_comes (take 8 b) 0 no_header refl (omega arith) (omega arith)).0 ∙ ap (λ (u : List ℕ). after_header (header_of u)) whole ∙ ap after_header says in
        let d : after between_records b ≡ after (at c p 0 no_header) (drop 8 b) =
        ap (after between_records) (sym (take-append-drop 8 b)) ∙ after_append between_records (take 8 b) (drop 8 b) ∙ ap (λ (q : Position). after q (drop 8 b)) a in
        rw d (cut_behind c p (drop 8 b) (omega arith))

none_left : (b : List ℕ) → (0 < length b → ⊥) → b ≡ []
none_left [] f = refl
none_left (x ∷ b) f = absurd (f (omega arith))

-- Where nothing is to come of a record and nothing is in of the next, the bytes split into records without a rest.
pub finished_split : (b : List ℕ) → unfinished (after between_records b) ≡ 0 → (split b).rest ≡ []
finished_split b e =
    let f : unfinished (after between_records (split b).rest) ≡ 0 = ap unfinished (sym (position_split b)) ∙ e in
    none_left (split b).rest (λ some. let g = cut_unfinished (split b).rest (rest_cut b) some in omega arith)

-- Where a reader stands after a part of a record, and how far a step goes from there: to the end of the header, of the
-- content or of the padding at most.
use Rattle.std.specs.Prelude.{ℕ, ◌+◌, ◌-◌, ◌≤◌, ◌<◌, min, ◌≡◌, ◌⊎◌, get_or, ltb}
use Rattle.std.proofs.Math.Path.{refl, sym, ap}
use Rattle.std.proofs.Common.{◌∙◌, inl, inr, arith, length-drop, take-append-drop, ltb-true, ltb-false}
use mathlib.Core.List.{List, [], ◌∷◌, ◌++◌, append-nil}
use Rattle.std.proofs.Math.ListN.{length, take, drop}
use Rattle.std.proofs.Math.Seq.{take-nil, length-take-le}
use Rattle.wire.specs.Test.{by_test}
use Rattle.wire.specs.Buffer.{put_at}
use Rattle.record.specs.Header.{header_of}
use Rattle.record.proofs.SplitLaws.{header_front}
use Rattle.record_reader.specs.declared.Position.{Position}
use Rattle.record_reader.specs.declared.Advanced.{Advanced}
use Rattle.record_reader.specs.Position.{no_header, between_records, after_header, advanced, after}
use Rattle.record_reader.proofs.PositionLaws.{at, after_append, content_falls, padding_falls, part_grows, whole_comes}
use Rattle.connection.specs.Step.{State, advances, step_refusal, stepped}
use Rattle.connection.proofs.Laws.Progress.{in_content, in_padding, in_header_lem, in_part, in_whole, step_advances}
use Rattle.plain.specs.Plain.{two, record_size}

-- A part of a record: less than its header, or less than all of it.
abbrev pub Unfinished : List ℕ → Type 0
Unfinished o = (length o < 8) ⊎ ((8 ≤ length o) × (length o < record_size o))

-- ---- where a reader stands
-- in a header
pub at_header : (o : List ℕ) → length o < 8 → after between_records o ≡ at 0 0 (length o) (put_at no_header 0 o)
at_header o short =
    let z : 0 + length o ≡ length o = omega arith in
    (part_grows o 0 no_header refl (omega arith)).0 ∙ ap (λ (n : ℕ). at 0 0 n (put_at no_header 0 o)) z

module _ (o : List ℕ) (header : 8 ≤ length o) where
  -- content and padding as the header says, and then the bytes after it
  behind : after between_records o ≡ after (at (two o 4) (get_or o 6 0) 0 no_header) (drop 8 o)
  unfolding header_of
  behind =
      let eight : length (take 8 o) ≡ 8 = length-take-le 8 o header in
      let whole : take 0 no_header ++ take 8 o ++ drop (0 + length (take 8 o)) no_header ≡ take 8 o =
      ap (λ (k : ℕ). take 8 o ++ drop (0 + k) no_header) eight ∙ append-nil (take 8 o) in
      let says : header_of (take 8 o) ≡ header_of o =
      sym (header_front (take 8 o) (drop 8 o) (omega arith)) ∙ ap header_of (take-append-drop 8 o) in
      let a : after between_records (take 8 o) ≡ at (two o 4) (get_or o 6 0) 0 no_header =
      (whole_comes (take 8 o) 0 no_header refl (omega arith) (omega arith)).0
      ∙ ap (λ (u : List ℕ). after_header (header_of u)) whole
      ∙ ap after_header says in
      ap (after between_records) (sym (take-append-drop 8 o))
      ∙ after_append between_records (take 8 o) (drop 8 o)
      ∙ ap (λ (q : Position). after q (drop 8 o)) a

  -- in content, or at its end
  pub at_content : length o ≤ 8 + two o 4
      → after between_records o ≡ at (8 + two o 4 - length o) (get_or o 6 0) 0 no_header
  at_content room =
      let n = length-drop 8 o in
      behind
      ∙ (content_falls (get_or o 6 0) 0 no_header (drop 8 o) (two o 4) (8 + two o 4 - length o) (omega arith)).0

  -- in padding, or at its end
  pub at_padding : 8 + two o 4 ≤ length o → length o ≤ record_size o
      → after between_records o ≡ at 0 (record_size o - length o) 0 no_header
  at_padding all room =
      let c = two o 4 in
      let p = get_or o 6 0 in
      let x = take c (drop 8 o) in
      let y = drop c (drop 8 o) in
      let n : length (drop 8 o) ≡ length o - 8 = length-drop 8 o in
      let hx : length x ≡ c = length-take-le c (drop 8 o) (omega arith) in
      let hy : length y ≡ length (drop 8 o) - c = length-drop c (drop 8 o) in
      behind
      ∙ ap (after (at c p 0 no_header)) (sym (take-append-drop c (drop 8 o)))
      ∙ after_append (at c p 0 no_header) x y
      ∙ ap (λ (q : Position). after q y) (content_falls p 0 no_header x c 0 (omega arith)).0
      ∙ (padding_falls 0 no_header y p (record_size o - length o) (omega arith)).0

  -- behind the whole record
  pub at_end : length o ≡ record_size o → after between_records o ≡ between_records
  at_end whole =
      let z : record_size o - length o ≡ 0 = omega arith in
      at_padding (omega arith) (omega arith) ∙ ap (λ (n : ℕ). at 0 n 0 no_header) z

-- ---- how far a step goes
-- The bytes x that are read after the part o: they leave the header unfinished, finish it, or are content or padding.
pub data Reads (o x : List ℕ) : Type 0 where
  Part : length o + length x < 8 → Reads o x
  Header : length o < 8 → length o + length x ≡ 8 → Reads o x
  Content : 8 ≤ length o → length o < 8 + two o 4 → length o + length x ≤ 8 + two o 4 → Reads o x
  Padding : 8 ≤ length o → 8 + two o 4 ≤ length o → length o < record_size o → length o + length x ≤ record_size o
      → Reads o x

reads_none : (o : List ℕ) → Unfinished o → Reads o []
reads_none o (inl short) = Part (omega arith)
reads_none o (inr (header, cut)) =
    by_test (ltb (length o) (8 + two o 4))
    (λ t. let l = ltb-true (length o) (8 + two o 4) t in Content header l (omega arith))
    (λ t. let l = ltb-false (length o) (8 + two o 4) t in Padding header l cut (omega arith))

used_of_lem : (o x : List ℕ) (n : ℕ) → (advanced (after between_records o) x).used ≡ n → n ≤ length x
    → length (take (advanced (after between_records o) x).used x) ≡ n
used_of_lem o x n e l = ap (λ (k : ℕ). length (take k x)) e ∙ length-take-le n x l

position_reads : (o x : List ℕ) → Unfinished o → Reads o (take (advanced (after between_records o) x).used x)
position_reads o x (inl short) =
    let p = after between_records o in
    let e : advanced p x ≡ _ =
    ap (λ (q : Position). advanced q x) (at_header o short)
    ∙ in_header_lem (at 0 0 (length o) (put_at no_header 0 o)) x refl refl in
    by_test (ltb (length o + length x) 8)
    (λ t.
    let l = ltb-true (length o + length x) 8 t in
    let u = ap (λ (a : Advanced). a.used) (e ∙ in_part (length o) (put_at no_header 0 o) x l) in
    Part (omega (arith, used_of_lem o x (length x) u (omega arith))))
    (λ t.
    let l = ltb-false (length o + length x) 8 t in
    let u = ap (λ (a : Advanced). a.used) (e ∙ in_whole (length o) (put_at no_header 0 o) x short l) in
    Header short (omega (arith, used_of_lem o x (8 - length o) u (omega arith))))
position_reads o x (inr (header, cut)) =
    by_test (ltb (length o) (8 + two o 4))
    (λ t.
    let l = ltb-true (length o) (8 + two o 4) t in
    let q = at (8 + two o 4 - length o) (get_or o 6 0) 0 no_header in
    let e = ap (λ (p : Position). advanced p x) (at_content o header (omega arith)) ∙ in_content q x (omega arith) in
    let u = ap (λ (a : Advanced). a.used) e in
    Content header l (omega (arith, used_of_lem o x (min (8 + two o 4 - length o) (length x)) u (omega arith))))
    (λ t.
    let l = ltb-false (length o) (8 + two o 4) t in
    let q = at 0 (record_size o - length o) 0 no_header in
    let e =
    ap (λ (p : Position). advanced p x) (at_padding o header l (omega arith)) ∙ in_padding q x refl (omega arith) in
    let u = ap (λ (a : Advanced). a.used) e in
    Padding header l cut (omega (arith, used_of_lem o x (min (record_size o - length o) (length x)) u (omega arith))))

-- what a step uses
pub step_reads : (st : State) (store o x : List ℕ) → st.conn.frame.position ≡ after between_records o → Unfinished o
    → step_refusal st.conn store ≡ 0 → Reads o (take (stepped st store x).used x)
unfolding advances
step_reads st store o [] p u a = rw (take-nil (stepped st store []).used) (reads_none o u)
step_reads st store o (b ∷ x) p u a =
    rw (step_advances st store (b ∷ x) a (omega arith), p) (position_reads o (b ∷ x) u)

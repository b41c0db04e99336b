-- What the tests of a call say in a part of a record: whether bytes complete a header, whether content is left, whether
-- the reader stands between two records.
use Rattle.std.specs.Prelude.{ℕ, ◌+◌, ◌-◌, ◌≤◌, ◌<◌, ◌≡◌, refl, Bool, true, false, ◌&&◌, List, ◌++◌, length, drop, get_or, ltb, eqb}
use Rattle.std.proofs.Common.{ap, ◌∙◌, inl, inr, arith, length-append, take_at, lt-ltb, ltb-true, ltb-false, eqb-true, ne_eqb}
use Rattle.wire.specs.Test.{by_test, ◌<?◌, ◌=?◌}
use Rattle.wire.specs.Buffer.{put_at}
use Rattle.record_reader.specs.declared.Position.{Position}
use Rattle.record_reader.specs.Position.{no_header, between_records, after}
use Rattle.record_reader.proofs.PositionLaws.{at}
use Rattle.plain.specs.Plain.{two, record_size}
use Rattle.plain_agrees.specs.Agreement.{is_between}
use Rattle.lifting.specs.Call.{header_with, completes}
use Rattle.lifting_agrees.proofs.PartPosition.{Unfinished, at_header, at_content, at_padding}

-- ---- in a header
module _ (o y : List ℕ) (short : length o < 8) where
  -- the header bytes that are held, and those that come
  pub header_with_lem : header_with (after between_records o) y ≡ o ++ y
  header_with_lem =
      ap (λ (p : Position). header_with p y) (at_header o short)
      ∙ ap (λ (u : List ℕ). u ++ y) (take_at o (drop (0 + length o) no_header) (length o) refl)

  pub header_completes : completes (after between_records o) y ≡ (length o + length y =? 8)
  header_completes =
      ap (λ (p : Position). completes p y) (at_header o short)
      ∙ ap (λ (n : ℕ). n =? 8)
      (ap (λ (u : List ℕ). length (u ++ y)) (take_at o (drop (0 + length o) no_header) (length o) refl)
      ∙ length-append o y)

  pub header_content_lem : (0 <? (after between_records o).content) ≡ false
  header_content_lem = ap (λ (p : Position). 0 <? p.content) (at_header o short)

-- ---- behind a header
content_not : (c p : ℕ) (t : Bool) → 0 < c + p → ((c =? 0) && (p =? 0) && t) ≡ false
content_not c p t more =
    by_test (eqb c 0) (λ e. simp (e, ne_eqb p 0 (λ z. omega (arith, eqb-true c 0 e)))) (λ e. simp e)

between_not : (c p k : ℕ) (h : List ℕ) → 0 < c + p + k → is_between (at c p k h) ≡ false
between_not c p k h more =
    by_test (eqb k 0)
    (λ e.
    by_test (eqb c 0)
    (λ f. simp (e, f) (ne_eqb p 0 (λ z. omega (arith, eqb-true k 0 e, eqb-true c 0 f))))
    (λ f. simp (e, f)))
    (λ e. simp e)

module _ (o y : List ℕ) (header : 8 ≤ length o) where
  pub content_completes : length o < 8 + two o 4 → completes (after between_records o) y ≡ false
  content_completes less =
      ap (λ (p : Position). completes p y) (at_content o header (omega arith))
      ∙ content_not (8 + two o 4 - length o) (get_or o 6 0) _ (omega arith)

  pub content_left : length o < 8 + two o 4 → (0 <? (after between_records o).content) ≡ true
  content_left less =
      ap (λ (p : Position). 0 <? p.content) (at_content o header (omega arith))
      ∙ lt-ltb 0 (8 + two o 4 - length o) (omega arith)

  pub padding_completes : 8 + two o 4 ≤ length o → length o < record_size o
      → completes (after between_records o) y ≡ false
  padding_completes all less =
      ap (λ (p : Position). completes p y) (at_padding o header all (omega arith))
      ∙ content_not 0 (record_size o - length o) _ (omega arith)

  pub padding_left : 8 + two o 4 ≤ length o → length o < record_size o → (0 <? (after between_records o).content) ≡ false
  padding_left all less = ap (λ (p : Position). 0 <? p.content) (at_padding o header all (omega arith))

-- ---- between two records, or not
pub not_between : (o : List ℕ) → Unfinished o → 0 < length o → is_between (after between_records o) ≡ false
not_between o (inl short) some =
    ap is_between (at_header o short) ∙ between_not 0 0 (length o) (put_at no_header 0 o) (omega arith)
not_between o (inr (header, cut)) some =
    by_test (ltb (length o) (8 + two o 4))
    (λ t.
    let l = ltb-true (length o) (8 + two o 4) t in
    ap is_between (at_content o header (omega arith))
    ∙ between_not (8 + two o 4 - length o) (get_or o 6 0) 0 no_header (omega arith))
    (λ t.
    let l = ltb-false (length o) (8 + two o 4) t in
    ap is_between (at_padding o header l (omega arith))
    ∙ between_not 0 (record_size o - length o) 0 no_header (omega arith))

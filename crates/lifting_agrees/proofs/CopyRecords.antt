-- A record as it is copied, at the front of a copy: it reads as it was captured, but without padding.
use Rattle.std.specs.Prelude.{ℕ, ◌+◌, ◌*◌, ◌≤◌, ◌<◌, ◌≡◌, refl, List, [], ◌++◌, ◌⊎◌, length, take, drop, get_or}
use Rattle.std.proofs.Common.{ap, ap₂, ◌∙◌, append-nil, append_assoc, ⊎_elim, arith, length-append, length-take, length-drop, length-set, get_or-set_same, get_or-set_other, get_or-take, take_all, take_at, drop_at, length-take-le}
use Rattle.std.proofs.Math.ListN.{get_or-append}
use Rattle.plain.specs.Plain.{Request, Said, says, two, record_size}
use Rattle.lifting.specs.Lift.{copied_header, content_of}

-- what the plain receiver says of the record at the front of some bytes
abbrev pub said_of : List Request → List ℕ → Said
said_of rs b = says rs (get_or b 0 0) (get_or b 1 0) (two b 2) (two b 4) (content_of b)

pub copied_length : (b : List ℕ) → 8 ≤ length b → length (copied_header b) ≡ 8
copied_length b header = length-set (take 8 b) 6 0 ∙ length-take-le 8 b header

-- its content is not longer than its header says
pub content_short : (b : List ℕ) → length (content_of b) ≤ two b 4
content_short b = omega (arith, length-take (two b 4) (drop 8 b))

-- all of its content is there if the record is whole
pub content_whole : (b : List ℕ) → record_size b ≤ length b → length (content_of b) ≡ two b 4
content_whole b whole = length-take-le (two b 4) (drop 8 b) (omega (arith, length-drop 8 b))

-- The record at the front of b is copied, and r comes after it.
module _ (b r : List ℕ) (header : 8 ≤ length b) where
  abbrev copy : List ℕ
  copy = copied_header b ++ content_of b ++ r

  pub record_length_lem : length copy ≡ 8 + length (content_of b) + length r
  record_length_lem =
      length-append (copied_header b ++ content_of b) r
      ∙ ap (λ (n : ℕ). n + length r)
      (length-append (copied_header b) (content_of b) ∙ ap (λ (n : ℕ). n + length (content_of b)) (copied_length b header))

  -- in the header, the byte of the padding length is zero, and any other as it was
  in_header_lem : (i : ℕ) → i < 8 → get_or copy i 0 ≡ get_or (copied_header b) i 0
  in_header_lem i l =
      let e = copied_length b header in
      get_or-append (copied_header b ++ content_of b) r 0 i
      (omega (arith, length-append (copied_header b) (content_of b)))
      ∙ get_or-append (copied_header b) (content_of b) 0 i (omega arith)

  same_byte : (i : ℕ) → i < 8 → (i ≡ 6 → ⊥) → get_or copy i 0 ≡ get_or b i 0
  same_byte i l ne = in_header_lem i l ∙ get_or-set_other (take 8 b) 6 i 0 0 ne ∙ get_or-take 8 b i 0 l

  no_padding : get_or copy 6 0 ≡ 0
  no_padding =
      in_header_lem 6 (omega arith) ∙ get_or-set_same (take 8 b) 6 0 0 (omega (arith, length-take-le 8 b header))

  same_two : (i : ℕ) → i + 1 < 6 → two copy i ≡ two b i
  same_two i l =
      ap₂ (λ (m n : ℕ). m * 256 + n) (same_byte i (omega arith) (λ z. omega arith))
      (same_byte (i + 1) (omega arith) (λ z. omega arith))

  pub copied_size : record_size copy ≡ 8 + two b 4
  copied_size = ap₂ (λ (m n : ℕ). 8 + m + n) (same_two 4 (omega arith)) no_padding ∙ omega arith

  -- what comes after the header
  after_header_lem : drop 8 copy ≡ content_of b ++ r
  after_header_lem =
      ap (drop 8) (append_assoc (copied_header b) (content_of b) r)
      ∙ drop_at (copied_header b) (content_of b ++ r) 8 (copied_length b header)

  same_content : (length (content_of b) ≡ two b 4) ⊎ (r ≡ []) → content_of copy ≡ content_of b
  same_content c =
      ap₂ take (same_two 4 (omega arith)) after_header_lem
      ∙ ⊎_elim (λ (e : length (content_of b) ≡ two b 4). take_at (content_of b) r (two b 4) e)
      (λ (e : r ≡ []).
      ap (λ (u : List ℕ). take (two b 4) (content_of b ++ u)) e
      ∙ ap (take (two b 4)) (append-nil (content_of b))
      ∙ take_all (two b 4) (content_of b) (content_short b))
      c

  -- Of the copy is said what is said of the record itself, if its content is all there or nothing comes after it.
  pub same_said : (rs : List Request) → (length (content_of b) ≡ two b 4) ⊎ (r ≡ []) → said_of rs copy ≡ said_of rs b
  same_said rs c =
      rw (
        same_content c,
        same_two 4 (omega arith),
        same_two 2 (omega arith),
        same_byte 0 (omega arith) (λ z. omega arith),
        same_byte 1 (omega arith) (λ z. omega arith),
      )
      refl

  -- a whole record is passed over
  pub after_record_lem : length (content_of b) ≡ two b 4 → drop (record_size copy) copy ≡ r
  after_record_lem e =
      drop_at (copied_header b ++ content_of b) r (record_size copy)
      (length-append (copied_header b) (content_of b) ∙ omega (arith, copied_length b header, copied_size))

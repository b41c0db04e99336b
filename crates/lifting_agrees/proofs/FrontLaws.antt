-- A record at the front of some bytes, and more bytes after them: the header says the same, and the content grows by
-- what is still lacking of it.
use Rattle.std.specs.Prelude.{ℕ, ◌+◌, ◌*◌, ◌≤◌, ◌<◌, ◌≡◌, refl, Bool, true, false, List, [], ◌++◌, length, take, drop, get_or, set, if◌then◌else◌}
use Rattle.std.proofs.Common.{sym, ap, ap₂, ◌∙◌, append_assoc, arith, length-append, length-drop, take_all}
use Rattle.std.proofs.Math.ListN.{get_or-append}
use Rattle.std.proofs.lemmas.List.{take-append-le, drop-append-le}
use Rattle.wire.specs.Test.{◌=?◌}
use Rattle.plain.specs.Plain.{BEGIN, Request, says, two, record_size}
use Rattle.lifting.specs.Lift.{copied_header, content_of, is_copied, copy_of_record}
use Rattle.lifting_agrees.proofs.CopyRecords.{said_of}

module _ (b y : List ℕ) (header : 8 ≤ length b) where
  byte_stays : (i : ℕ) → i < 8 → get_or (b ++ y) i 0 ≡ get_or b i 0
  byte_stays i l = get_or-append b y 0 i (omega arith)

  two_stays : (i : ℕ) → i + 1 < 8 → two (b ++ y) i ≡ two b i
  two_stays i l = ap₂ (λ (m n : ℕ). m * 256 + n) (byte_stays i (omega arith)) (byte_stays (i + 1) l)

  pub size_stays : record_size (b ++ y) ≡ record_size b
  size_stays = ap₂ (λ (m n : ℕ). 8 + m + n) (two_stays 4 (omega arith)) (byte_stays 6 (omega arith))

  pub copied_stays : (R : ℕ) (begun : Bool) → is_copied R begun (b ++ y) ≡ is_copied R begun b
  copied_stays R begun =
      ap₂ (λ (id kind : ℕ). if id =? R then (if begun then true else kind =? BEGIN) else false)
      (two_stays 2 (omega arith)) (byte_stays 1 (omega arith))

  header_stays : copied_header (b ++ y) ≡ copied_header b
  header_stays = ap (λ (h : List ℕ). set h 6 0) (take-append-le 8 b y header)

  after_header_lem : drop 8 (b ++ y) ≡ drop 8 b ++ y
  after_header_lem = drop-append-le 8 b y header

  content_is : content_of (b ++ y) ≡ take (two b 4) (drop 8 b ++ y)
  content_is = ap₂ take (two_stays 4 (omega arith)) after_header_lem

  -- content that is all there stays
  content_stays : 8 + two b 4 ≤ length b → content_of (b ++ y) ≡ content_of b
  content_stays all =
      content_is ∙ take-append-le (two b 4) (drop 8 b) y (omega (arith, length-drop 8 b))

  -- content that is not grows
  content_grows : length b + length y ≤ 8 + two b 4 → content_of (b ++ y) ≡ content_of b ++ y
  content_grows room =
      content_is
      ∙ take_all (two b 4) (drop 8 b ++ y) (omega (arith, length-append (drop 8 b) y, length-drop 8 b))
      ∙ ap (λ (u : List ℕ). u ++ y) (sym (take_all (two b 4) (drop 8 b) (omega (arith, length-drop 8 b))))

  -- The header says the same of the content, however much there is of it.
  pub said_by_lem : (rs : List Request)
      → said_of rs (b ++ y) ≡ says rs (get_or b 0 0) (get_or b 1 0) (two b 2) (two b 4) (content_of (b ++ y))
  said_by_lem rs =
      rw (two_stays 4 (omega arith), two_stays 2 (omega arith), byte_stays 0 (omega arith), byte_stays 1 (omega arith))
      refl

  pub said_stays : (rs : List Request) → 8 + two b 4 ≤ length b → said_of rs (b ++ y) ≡ said_of rs b
  said_stays rs all =
      said_by_lem rs
      ∙ ap (says rs (get_or b 0 0) (get_or b 1 0) (two b 2) (two b 4)) (content_stays all)

  -- a record that is whole is copied as it was
  pub copy_stays : (c : Bool) → 8 + two b 4 ≤ length b → copy_of_record c (b ++ y) ≡ copy_of_record c b
  copy_stays c all =
      ap₂ (λ (u v : List ℕ). if c then u ++ v else []) header_stays (content_stays all)

  -- and of one that is not, what is there of it
  pub copy_grows : (c : Bool) → length b + length y ≤ 8 + two b 4
      → copy_of_record c (b ++ y) ≡ copy_of_record c b ++ (if c then y else [])
  copy_grows true room =
      ap₂ (λ (u v : List ℕ). u ++ v) header_stays (content_grows room)
      ∙ sym (append_assoc (copied_header b) (content_of b) y)
  copy_grows false room = refl

-- What holds of a line in the making.
use Rattle.std.specs.Prelude.{ℕ, ◌+◌, ◌≤◌, ◌<◌, ◌≡◌, List, [], ◌∷◌, ◌++◌, length, take, drop}
use Rattle.std.proofs.Common.{ap, ◌∙◌, append_assoc, arith, length-append, length-take, take_at}
use Rattle.wire.specs.Buffer.{copied}
use Rattle.wire.proofs.BufferLaws.{copied_room}
use Rattle.event_text.specs.declared.draft.Draft.{Draft}
use Rattle.event_text.specs.Draft.{text_of, Says, Adds}
use Rattle.event_text.specs.Line.{LONGEST, line}

-- bytes copied after the first n
pub added : (l : List ℕ) (n : ℕ) (x : List ℕ) {m : List ℕ} → n + length x ≤ length l → m ≡ copied l n x
    → take (n + length x) m ≡ take n l ++ x
added l n x h e =
    ap (take (n + length x)) (e ∙ copied_room l n x h)
    ∙ take_at (take n l ++ x) (drop (n + length x) l) (n + length x) (simp (length-append, length-take) (omega arith))

-- one text added after another
pub adds_both : {d e f : Draft} {x y : List ℕ} {m n : ℕ} (most : ℕ) → Adds d e x m → Adds e f y n → m + n ≤ most → Adds d f (x ++ y) most
adds_both {d} {e} {f} {x} {y} most p q h =
    record { text = q.text ∙ ap (λ (l : List ℕ). l ++ y) p.text ∙ append_assoc (text_of d) x y; upto = omega arith }

-- a word, so many fields and a newline make a line
module _ {c d e : Draft} {word x : List ℕ} {k m : ℕ} (begun : Says c word k) (one : Adds c d (32 ∷ x) m) where
  pub line_of_1 : Adds d e (10 ∷ []) 1 → k + m < LONGEST → Says e (line word (x ∷ [])) LONGEST
  line_of_1 done h = record { text = done.text ∙ simp (one.text, begun.text, append_assoc); upto = omega arith }

  module _ {f : Draft} {y : List ℕ} {n : ℕ} (two : Adds d e (32 ∷ y) n) where
    pub line_of_2 : Adds e f (10 ∷ []) 1 → k + m + n < LONGEST → Says f (line word (x ∷ y ∷ [])) LONGEST
    line_of_2 done h = record { text = done.text ∙ simp (two.text, one.text, begun.text, append_assoc); upto = omega arith }

    pub line_of_3 : {g : Draft} {z : List ℕ} {o : ℕ} → Adds e f (32 ∷ z) o → Adds f g (10 ∷ []) 1 → k + m + n + o < LONGEST
        → Says g (line word (x ∷ y ∷ z ∷ [])) LONGEST
    line_of_3 three done h = record { text = done.text ∙ simp (three.text, two.text, one.text, begun.text, append_assoc); upto = omega arith }

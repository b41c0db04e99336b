-- What a step of the reader does with a piece, case by case.
use Rattle.std.specs.Prelude.{◌≡◌, ℕ, ◌+◌, ◌-◌, ◌≤◌, ◌<◌, min, List, length, ltb}
use Rattle.std.proofs.Common.{arith, ltb-true, ltb-false}
use Rattle.std.proofs.lemmas.Bool.{lt-leb}
use Rattle.wire.specs.Test.{by_test}
use Rattle.wire.proofs.Bytes.{AllBytes}
use Rattle.record.specs.Header.{header_of}
use Rattle.record_reader.specs.Position.{after_header, held_and, in_header, advanced}
use Rattle.record_reader.proofs.PositionLaws.{at}
use Rattle.record_reader.specs.declared.Position.{Position}
use Rattle.record_reader.specs.declared.Phase.{Phase}
use Rattle.record_reader.specs.declared.Advanced.{Advanced}
use Rattle.connection.specs.Fits.{HeaderFits}

-- A header read from bytes is one.
pub header_fits : (b : List ℕ) → AllBytes b → HeaderFits (header_of b)
unfolding header_of
header_fits b a = record { content = omega (arith, a 4, a 5); padding = omega (arith, a 6) }

-- ---- a step of the reader
-- A step is in content, in padding, in a header that it does not end, or it ends a header.
pub by_step : (P : Advanced → Type 0) (p : Position) (piece : List ℕ) → p.held ≤ 7
    → (0 < p.content
    → P (record { used = min p.content (length piece); phase = Phase.Content; position = at (p.content - min p.content (length piece)) p.padding p.held p.header }))
    → (p.content ≡ 0 → 0 < p.padding
    → P (record { used = min p.padding (length piece); phase = Phase.Padding; position = at 0 (p.padding - min p.padding (length piece)) p.held p.header }))
    → (p.content ≡ 0 → (n : ℕ) → n ≤ length piece → p.held + n < 8
    → P (record { used = n; phase = Phase.Part; position = at 0 0 (p.held + n) (held_and p.held p.header n piece) }))
    → (p.content ≡ 0 → (n : ℕ) → n ≤ length piece → p.held + n ≡ 8
    → P (record { used = n; phase = Phase.Whole (header_of (held_and p.held p.header n piece)); position = after_header (header_of (held_and p.held p.header n piece)) }))
    → P (advanced p piece)
unfolding advanced in_header
by_step P p piece held content padding part whole =
    by_test (ltb 0 p.content)
    (λ c. simp c (content (ltb-true 0 p.content c)))
    (λ c. let none : p.content ≡ 0 = omega (arith, ltb-false 0 p.content c) in by_test (ltb 0 p.padding)
    (λ d. simp (c, d) (padding none (ltb-true 0 p.padding d)))
    (λ d. let n = min (8 - p.held) (length piece) in by_test (ltb (p.held + n) 8)
    (λ e. simp (c, d, lt-leb 8 p.held (omega arith), e) (part none n (omega arith) (ltb-true (p.held + n) 8 e)))
    (λ e. simp (c, d, lt-leb 8 p.held (omega arith), e) (whole none n (omega arith) (omega (arith, ltb-false (p.held + n) 8 e))))))

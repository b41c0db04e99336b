-- What a position does with bytes that it uses whole, phase by phase.
use Rattle.std.specs.Prelude.{ℕ, ◌+◌, ◌-◌, ◌<◌, min, ◌≡◌, List, length, take, ltb}
use Rattle.std.proofs.Common.{arith, take_all, length-take-le, lt-ltb, le-ltb}
use Rattle.std.proofs.lemmas.Bool.{lt-leb}
use Rattle.wire.specs.Test.{by_test}
use Rattle.wire.specs.Buffer.{put_at}
use Rattle.record.specs.Header.{header_of}
use Rattle.record_reader.specs.Position.{after_header, in_header, advanced, Proper}
use Rattle.record_reader.proofs.PositionLaws.{at}
use Rattle.record_reader.specs.declared.Position.{Position}
use Rattle.record_reader.specs.declared.Phase.{Phase}

-- within content, with so much left behind the bytes
pub in_content : (p : Position) (x : List ℕ) (n : ℕ) → 0 < length x → p.content ≡ length x + n
    → advanced p x ≡ record { used = length x; phase = Phase.Content; position = at n p.padding p.held p.header }
unfolding advanced
in_content p x n some e =
    let m : min p.content (length x) ≡ length x = omega arith in
    let d : p.content - length x ≡ n = omega arith in
    simp (lt-ltb 0 p.content (omega arith), m, d)

pub in_padding : (p : Position) (x : List ℕ) (n : ℕ) → 0 < length x → p.content ≡ 0 → p.padding ≡ length x + n
    → advanced p x ≡ record { used = length x; phase = Phase.Padding; position = at 0 n p.held p.header }
unfolding advanced
in_padding p x n some z e =
    let m : min p.padding (length x) ≡ length x = omega arith in
    let d : p.padding - length x ≡ n = omega arith in
    simp (le-ltb 0 p.content (omega arith), lt-ltb 0 p.padding (omega arith), m, d)

pub in_part : (p : Position) (x : List ℕ) → p.content ≡ 0 → p.padding ≡ 0 → p.held + length x < 8
    → advanced p x ≡ record { used = length x; phase = Phase.Part; position = at 0 0 (p.held + length x) (put_at p.header p.held x) }
unfolding advanced in_header
in_part p x z y l =
    let m : min (8 - p.held) (length x) ≡ length x = omega arith in
    simp (le-ltb 0 p.content (omega arith), le-ltb 0 p.padding (omega arith), lt-leb 8 p.held (omega arith), m, lt-ltb (p.held + length x) 8 l, take_all (length x) x (omega arith))

pub in_whole : (p : Position) (x : List ℕ) → 0 < length x → p.content ≡ 0 → p.padding ≡ 0 → p.held + length x ≡ 8
    → advanced p x
    ≡ record { used = length x; phase = Phase.Whole (header_of (put_at p.header p.held x)); position = after_header (header_of (put_at p.header p.held x)) }
unfolding advanced in_header
in_whole p x some z y e =
    let m : min (8 - p.held) (length x) ≡ length x = omega arith in
    simp (le-ltb 0 p.content (omega arith), le-ltb 0 p.padding (omega arith), lt-leb 8 p.held (omega arith), m, le-ltb (p.held + length x) 8 (omega arith), take_all (length x) x (omega arith))

-- the position rests on the bytes that it uses alone
pub advanced_only : (p : Position) (x : List ℕ) → Proper p → 0 < length x → advanced p (take (advanced p x).used x) ≡ advanced p x
unfolding advanced in_header
advanced_only p x proper some =
    by_test (ltb 0 p.content)
    (λ t.
    let m = min p.content (length x) in
    let l : length (take m x) ≡ m = length-take-le m x (omega arith) in
    let k : min p.content (length (take m x)) ≡ m = omega arith in
    simp (t, k))
    (λ t.
    by_test (ltb 0 p.padding)
    (λ v.
    let m = min p.padding (length x) in
    let l : length (take m x) ≡ m = length-take-le m x (omega arith) in
    let k : min p.padding (length (take m x)) ≡ m = omega arith in
    simp (t, v, k))
    (λ v.
    let few = lt-leb 8 p.held proper.held in
    let m = min (8 - p.held) (length x) in
    let l : length (take m x) ≡ m = length-take-le m x (omega arith) in
    let k : min (8 - p.held) (length (take m x)) ≡ m = omega arith in
    let w : take m (take m x) ≡ take m x = take_all m (take m x) (omega arith) in
    by_test (ltb (p.held + m) 8) (λ y. simp (t, v, few, y, k, w)) (λ y. simp (t, v, few, y, k, w))))

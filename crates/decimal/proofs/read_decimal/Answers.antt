use mathlib.Core.Path.{◌≡◌, refl, sym, ap, ◌∙◌}
use Prim.Native.Nat.{ℕ, ◌+◌, ◌*◌}
use native.Mathlib.Omega.{arith}
use lib.ListN.{drop, get_or}
use Rattle.std.proofs.lemmas.Bool.Decides.{nat_tests}
use Rattle.decimal.specs.Decimal.{digits_after}
use Rattle.decimal.proofs.Laws.{whole, digit_byte, digit_more, digit_none, digits_end, ten_to, ten_none, ten_next, ten_small}
use Rattle.decimal.proofs.read_decimal.Goals as goal

pub loop-byte-init : goal.loop-byte-init
loop-byte-init c = (omega (arith, ten_none), refl)

pub returns-then-not-is_digit : goal.returns-then-not-is_digit
returns-then-not-is_digit c =
    let l = c.loop-byte in
    let text = c.args.text.now in
    sym (whole text (omega arith) (omega arith) ∙ l.invariant.1 ∙ digit_none l.value text l.byte-index c.loop-byte-test.true (sym c.is_digit.ensures ∙ c.if-not-is_digit.true))

pub overflow_mul-value : goal.overflow_mul-value
overflow_mul-value c = omega (arith, c.loop-byte.invariant.0, ten_small c.loop-byte.byte-index (omega arith))

pub overflow_add-value : goal.overflow_add-value
overflow_add-value c =
    let few = digit_byte (get_or c.args.text.now c.loop-byte.byte-index 0) (sym c.is_digit.ensures ∙ c.if-not-is_digit.false) in
    omega (arith, few, c.from.ensures, c.loop-byte.invariant.0, ten_small c.loop-byte.byte-index (omega arith))

pub loop-byte-preserved : goal.loop-byte-preserved
loop-byte-preserved c =
    let l = c.loop-byte in
    let text = c.args.text.now in
    let is = sym c.is_digit.ensures ∙ c.if-not-is_digit.false in
    let few = digit_byte (get_or text l.byte-index 0) is in
    let next : ten_to (l.byte-index + 1) ≡ ten_to l.byte-index * 10 = ten_next l.byte-index in (
      omega (arith, next, few, c.from.ensures, l.invariant.0),
      l.invariant.1 ∙ digit_more l.value text l.byte-index c.loop-byte-test.true is ∙ ap (λ (d : ℕ). digits_after (l.value * 10 + d) (drop (l.byte-index + 1) text)) (sym c.from.ensures),
    )

pub returns : goal.returns
returns c =
    let l = c.loop-byte in
    let text = c.args.text.now in
    sym (whole text (grind (arith, nat_tests)) (omega arith) ∙ l.invariant.1 ∙ digits_end l.value text l.byte-index c.loop-byte-test.false)

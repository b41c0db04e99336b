use Rattle.std.proofs.Common.{◌≡◌, ℕ, ◌%◌, ◌<◌, Float, T, leb, sym, ap, ◌∙◌, subst, rules, SFits, w32}
use Rattle.std.proofs.lemmas.Int.{to_z-of_z}
use Rattle.std.specs.Float.{binary64}
use Rattle.std.specs.Float.Ieee.{fits, to_bits}
use Rattle.ice_correction.specs.FloatSize.{AtMost}
use Rattle.station_number.specs.Fixed.{signed as signedBy}
use Rattle.station_number.proofs.PatternLaws.{PatternOf, pattern_of}
use Rattle.station_number.proofs.fixed.thousandths_of.Goals as goal

-- the float's sign and its pattern without the sign, as the code takes them from its bits
known : (x : Float) (bits : ℕ) → bits ≡ to_bits binary64 x → T (fits binary64 x) → AtMost x 126535
    → PatternOf x (leb 9223372036854775808 bits) (bits % 9223372036854775808)
known x bits e f h =
    subst (λ (b : ℕ). PatternOf x (leb 9223372036854775808 b) (b % 9223372036854775808)) (sym e) (pattern_of x f h)

pub size_in_thousandths-requires : goal.size_in_thousandths-requires
size_in_thousandths-requires c =
    (known c.args.x _ c.bits_of_float-bits.ensures (subst T (sym c.well_formed.0.1) tt) c.requires).low

pub signed-requires : goal.signed-requires
signed-requires c =
    let k = known c.args.x _ c.bits_of_float-bits.ensures (subst T (sym c.well_formed.0.1) tt) c.requires in
    subst (λ (n : ℕ). n < 2147483648) (sym c.size_in_thousandths.ensures) k.small

pub returns : goal.returns
returns c =
    let k = known c.args.x _ c.bits_of_float-bits.ensures (subst T (sym c.well_formed.0.1) tt) c.requires in
    let n : SFits w32 c.signed.result = search rules in
    to_z-of_z w32 c.signed.result n
    ∙ c.signed.ensures
    ∙ ap (signedBy (leb 9223372036854775808 c.bits_of_float-bits.result)) c.size_in_thousandths.ensures
    ∙ sym k.is

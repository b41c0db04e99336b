use Rattle.std.proofs.Common.{arith, w32}
use Rattle.std.proofs.lemmas.Int.{to_z-of_z}
use Rattle.station_number.proofs.PutsLaws.{puts_both, puts_as}
use Rattle.station_number.proofs.Parts.{thousandths_parts}
use Rattle.station_number.proofs.fixed.add_thousandths.Goals as goal

pub returns : goal.returns
returns c =
    let tenth = puts_both 23 c.add_whole-point.ensures c.add_digit-tenth.ensures (omega arith) (omega (arith, c.requires)) in
    let hundredth = puts_both 24 tenth c.add_digit-hundredth.ensures (omega arith) (omega (arith, c.requires)) in
    let all = puts_both 25 hundredth c.add_digit.ensures (omega arith) (omega (arith, c.requires)) in
    let t = to_z-of_z w32 c.args.thousandths c.ranges.thousandths in
    puts_as 25 all (thousandths_parts c.args.thousandths _ _ _ t t c.unsigned_abs-size.ensures.value) (omega arith)

use Rattle.std.proofs.Common.{arith, w32}
use Rattle.std.proofs.lemmas.Int.{to_z-of_z}
use Rattle.station_number.proofs.PutsLaws.{puts_both, puts_as}
use Rattle.station_number.proofs.Parts.{degrees_parts}
use Rattle.station_number.proofs.fixed.add_degrees.Goals as goal

pub returns : goal.returns
returns c =
    let all = puts_both 23 c.add_whole-point.ensures c.add_digit.ensures (omega arith) (omega (arith, c.requires)) in
    let t = to_z-of_z w32 c.args.tenths c.ranges.tenths in
    puts_as 23 all (degrees_parts c.args.tenths _ _ _ t t c.unsigned_abs.ensures.value) (omega arith)

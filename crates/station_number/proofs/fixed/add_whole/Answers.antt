use Rattle.std.proofs.Common.{arith, w32}
use Rattle.std.proofs.lemmas.Int.{to_z-of_z}
use Rattle.station_number.proofs.PutsLaws.{puts_both, puts_as}
use Rattle.station_number.proofs.Parts.{whole_parts}
use Rattle.station_number.proofs.fixed.add_whole.Goals as goal

pub returns : goal.returns
returns c =
    let whole = puts_both 21 c.add_sign-signed.ensures c.add_number-whole.ensures (omega arith) (omega (arith, c.requires)) in
    let all = puts_both 22 whole c.add.ensures (omega arith) (omega (arith, c.requires)) in
    let t = to_z-of_z w32 c.args.number c.ranges.number in
    puts_as 22 all (whole_parts c.args.number _ _ _ _ c.args.one t t c.unsigned_abs.ensures.value c.from.ensures) (omega arith)

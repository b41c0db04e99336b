use mathlib.Core.Path.{◌≡◌, sym, ◌∙◌}
use Prim.Native.Nat.{◌-◌}
use native.Mathlib.Omega.{arith}
use lib.ListN.{length}
use Rattle.std.proofs.Common.{length-take-le}
use Rattle.record_writer.proofs.WrittenLaws.{padding_small, record_placed_lem, record_unplaced}
use Rattle.record_writer.proofs.write_record.Goals as goal

pub returns-then-not-record_fits : goal.returns-then-not-record_fits
returns-then-not-record_fits c =
    let a = c.args in
    record_unplaced a.out.now a.at a.kind a.id a.content.now (sym c.record_fits.ensures ∙ c.if-not-record_fits.true)

pub slice_bounds-copy_into-end-2 : goal.slice_bounds-copy_into-end-2
slice_bounds-copy_into-end-2 c =
    sym (length-take-le _ _ (omega (arith, padding_small (length c.args.content.now), c.padding_of-padding.ensures)))

pub returns : goal.returns
returns c =
    let a = c.args in
    let none : c.padding_of-padding.result - 0 ≡ c.padding_of-padding.result = omega arith in
    record_placed_lem a.out.now a.at a.kind a.id a.content.now (sym c.record_fits.ensures ∙ c.if-not-record_fits.false) c.padding_of-padding.result c.padding_of-padding.ensures
    c.header_bytes-header.ensures c.copy_into.ensures c.copy_into-2.ensures (rw none c.copy_into-3.ensures)

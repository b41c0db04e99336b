use mathlib.Core.Path.{◌∙◌}
use mir.ValLaws.{to_z-of_z}
use mir.Syntax.{w32}
use Rattle.export_calls.proofs.WriteLaws.{leaves_reading}
use Rattle.export_calls.proofs.body.yot_write_reading.Goals as goal

pub returns : goal.returns
returns c =
    let tenths = to_z-of_z w32 c.args.tenths c.ranges.tenths in
    leaves_reading c.write_reading-w.result (c.write_reading-w.ensures ∙ simp tenths) c.reading_bytes.ensures
    c.reading_refusal.ensures

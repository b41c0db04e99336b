use mathlib.Core.Path.{◌∙◌}
use mathlib.Core.List.{[]}
use Rattle.export_calls.specs.Wait.{exported_pump}
use Rattle.export_calls.proofs.Known.{unknown_by, known_by}
use Rattle.export_calls.proofs.WriteLaws.{leaves_turn}
use Rattle.export_calls.proofs.wait.yot_pump.Goals as goal

pub returns-then-not-is_known : goal.returns-then-not-is_known
unfolding exported_pump
returns-then-not-is_known c =
    let k = unknown_by c.is_known.ensures c.if-not-is_known.true in
    simp (c.unpumped.ensures, k)

pub returns : goal.returns
unfolding exported_pump
returns c =
    let k = known_by c.is_known.ensures c.if-not-is_known.false in
    leaves_turn c.pump.result (c.pump.ensures []) c.flat_pumped.ensures
    ∙ simp (k, c.from_flat-c.ensures)

use mathlib.Core.Path.{◌∙◌}
use mathlib.Core.List.{[]}
use Rattle.export_calls.specs.Say.{exported_finish}
use Rattle.export_calls.proofs.Known.{unknown_by, known_by}
use Rattle.export_calls.proofs.WriteLaws.{leaves_finish}
use Rattle.export_calls.proofs.say.yot_finish.Goals as goal

pub returns-then-not-is_known : goal.returns-then-not-is_known
unfolding exported_finish
returns-then-not-is_known c =
    let k = unknown_by c.is_known.ensures c.if-not-is_known.true in
    simp (c.unfinished.ensures, k)

pub returns : goal.returns
unfolding exported_finish
returns c =
    let k = known_by c.is_known.ensures c.if-not-is_known.false in
    leaves_finish c.from_flat-c.result _ c.finish.result (c.finish.ensures.0 [] [] []) c.finish.ensures.1 c.flat_finished.ensures
    ∙ simp (k, c.from_flat-c.ensures)

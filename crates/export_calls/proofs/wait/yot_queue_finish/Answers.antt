use mathlib.Core.Path.{◌∙◌}
use mathlib.Core.List.{[]}
use Rattle.export_calls.specs.Wait.{exported_queue_finish}
use Rattle.export_calls.proofs.Known.{unknown_by, known_by}
use Rattle.export_calls.proofs.WriteLaws.{leaves_end}
use Rattle.export_calls.proofs.wait.yot_queue_finish.Goals as goal

pub returns-then-not-is_known : goal.returns-then-not-is_known
unfolding exported_queue_finish
returns-then-not-is_known c =
    let k = unknown_by c.is_known.ensures c.if-not-is_known.true in
    simp (c.unqueued.ensures, k)

pub returns : goal.returns
unfolding exported_queue_finish
returns c =
    let k = known_by c.is_known.ensures c.if-not-is_known.false in
    leaves_end c.queue_finish.result (c.queue_finish.ensures [] [] []) c.flat_queued.ensures
    ∙ simp (k, c.from_flat-c.ensures)

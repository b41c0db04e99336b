use mathlib.Core.Path.{◌∙◌}
use mathlib.Core.List.{[]}
use Rattle.export_calls.specs.Wait.{exported_queue_end}
use Rattle.export_calls.proofs.Known.{unknown_by, known_by}
use Rattle.export_calls.proofs.WriteLaws.{leaves_end}
use Rattle.export_calls.proofs.wait.yot_queue_end.Goals as goal

pub returns-then-not-are_known : goal.returns-then-not-are_known
unfolding exported_queue_end
returns-then-not-are_known c =
    let k = unknown_by c.are_known.ensures c.if-not-are_known.true in
    simp (c.unqueued.ensures, k)

pub returns : goal.returns
unfolding exported_queue_end
returns c =
    let k = known_by c.are_known.ensures c.if-not-are_known.false in
    leaves_end c.queue_end.result (c.queue_end.ensures [] [] []) c.flat_queued.ensures
    ∙ simp (k, c.from_flat-c.ensures, c.output_of.ensures)

use mathlib.Core.Path.{◌∙◌}
use mathlib.Core.List.{[]}
use Rattle.export_calls.specs.Wait.{exported_queue_output}
use Rattle.export_calls.proofs.Known.{unknown_by, known_by}
use Rattle.export_calls.proofs.WriteLaws.{leaves_data}
use Rattle.export_calls.proofs.wait.yot_queue_output.Goals as goal

pub returns-then-not-are_known : goal.returns-then-not-are_known
unfolding exported_queue_output
returns-then-not-are_known c =
    let k = unknown_by c.are_known.ensures c.if-not-are_known.true in
    simp (c.unqueued.ensures, k)

pub returns : goal.returns
unfolding exported_queue_output
returns c =
    let k = known_by c.are_known.ensures c.if-not-are_known.false in
    leaves_data c.queue_output.result (c.queue_output.ensures [] []) c.flat_queued.ensures
    ∙ simp (k, c.from_flat-c.ensures, c.output_of.ensures)

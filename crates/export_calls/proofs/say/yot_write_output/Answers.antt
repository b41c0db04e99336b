use mathlib.Core.Path.{◌∙◌}
use mathlib.Core.List.{[]}
use Rattle.export_calls.specs.Say.{exported_output}
use Rattle.export_calls.proofs.Known.{unknown_by, known_by}
use Rattle.export_calls.proofs.WriteLaws.{leaves_output}
use Rattle.export_calls.proofs.say.yot_write_output.Goals as goal

pub returns-then-not-are_known : goal.returns-then-not-are_known
unfolding exported_output
returns-then-not-are_known c =
    let k = unknown_by c.are_known.ensures c.if-not-are_known.true in
    simp (c.unwritten.ensures, k)

pub returns : goal.returns
unfolding exported_output
returns c =
    let k = known_by c.are_known.ensures c.if-not-are_known.false in
    leaves_output c.write_output.result (c.write_output.ensures [] [] [] []) c.flat_written.ensures
    ∙ simp (k, c.from_flat-c.ensures, c.output_of.ensures)

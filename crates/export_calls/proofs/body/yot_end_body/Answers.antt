use mathlib.Core.Path.{sym, ap, ◌∙◌}
use Rattle.flat_reading.specs.Answers.{flatEnded}
use Rattle.export_calls.specs.Body.{exported_end_body}
use Rattle.export_calls.proofs.Known.{unknown_by, known_by}
use Rattle.export_calls.proofs.body.yot_end_body.Goals as goal

pub returns-then-not-is_known_reader : goal.returns-then-not-is_known_reader
unfolding exported_end_body
returns-then-not-is_known_reader c =
    let k = unknown_by c.is_known_reader.ensures c.if-not-is_known_reader.true in
    c.unended.ensures ∙ sym (simp k)

pub returns : goal.returns
unfolding exported_end_body
returns c =
    let k = known_by c.is_known_reader.ensures c.if-not-is_known_reader.false in
    c.flat_ended.ensures ∙ ap flatEnded c.end_body.ensures ∙ simp (k, c.from_flat_reader.ensures)

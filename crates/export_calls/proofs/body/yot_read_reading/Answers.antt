use mathlib.Core.Path.{sym, ap, ◌∙◌}
use Rattle.flat_reading.specs.Answers.{flatRead}
use Rattle.export_calls.specs.Body.{exported_read}
use Rattle.export_calls.proofs.Known.{unknown_by, known_by}
use Rattle.export_calls.proofs.body.yot_read_reading.Goals as goal

pub returns-then-not-is_known_reader : goal.returns-then-not-is_known_reader
unfolding exported_read
returns-then-not-is_known_reader c =
    let k = unknown_by c.is_known_reader.ensures c.if-not-is_known_reader.true in
    c.unread.ensures ∙ sym (simp k)

pub returns : goal.returns
unfolding exported_read
returns c =
    let k = known_by c.is_known_reader.ensures c.if-not-is_known_reader.false in
    c.flat_read.ensures ∙ ap flatRead c.read_reading.ensures ∙ simp (k, c.from_flat_reader.ensures)

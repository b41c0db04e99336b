use mathlib.Core.Path.{◌∙◌}
use Rattle.export_calls.specs.Say.{exported_reply}
use Rattle.export_calls.proofs.Known.{unknown_by, known_by}
use Rattle.export_calls.proofs.WriteLaws.{leaves_reply}
use Rattle.export_calls.proofs.say.yot_owed_reply.Goals as goal

pub returns-then-not-is_known_event : goal.returns-then-not-is_known_event
unfolding exported_reply
returns-then-not-is_known_event c =
    let k = unknown_by c.is_known_event.ensures c.if-not-is_known_event.true in
    simp (c.wrote_nothing.ensures, k)

pub returns : goal.returns
unfolding exported_reply
returns c =
    let k = known_by c.is_known_event.ensures c.if-not-is_known_event.false in
    leaves_reply c.owed_reply.result c.owed_reply.ensures c.flat_wrote.ensures
    ∙ simp (k, c.from_flat_event.ensures)

use mathlib.Core.Path.{sym, ap, ◌∙◌}
use mathlib.Core.List.{[]}
use Rattle.flat_answer.specs.ReadAnswers.{flat_request}
use Rattle.export_calls.specs.Ask.{exported_request}
use Rattle.export_calls.proofs.Known.{unknown_by, known_by}
use Rattle.export_calls.proofs.ask.yot_request.Goals as goal

pub returns-then-not-is_known : goal.returns-then-not-is_known
unfolding exported_request
returns-then-not-is_known c =
    let k = unknown_by c.is_known.ensures c.if-not-is_known.true in
    c.no_request.ensures ∙ sym (simp k)

pub returns : goal.returns
unfolding exported_request
returns c =
    let k = known_by c.is_known.ensures c.if-not-is_known.false in
    c.flat_request.ensures ∙ ap flat_request (c.request_of.ensures [] [] [] [])
    ∙ simp (k, c.from_flat-c.ensures)

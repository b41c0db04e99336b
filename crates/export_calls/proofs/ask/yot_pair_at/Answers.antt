use mathlib.Core.Path.{sym, ap, ◌∙◌}
use mathlib.Core.List.{[]}
use Rattle.flat_answer.specs.ReadAnswers.{flat_numbered}
use Rattle.export_calls.specs.Ask.{exported_pair_at}
use Rattle.export_calls.proofs.Known.{unknown_by, known_by}
use Rattle.export_calls.proofs.ask.yot_pair_at.Goals as goal

pub returns-then-not-is_known : goal.returns-then-not-is_known
unfolding exported_pair_at
returns-then-not-is_known c =
    let k = unknown_by c.is_known.ensures c.if-not-is_known.true in
    c.refused_pair.ensures ∙ sym (simp k)

pub returns : goal.returns
unfolding exported_pair_at
returns c =
    let k = known_by c.is_known.ensures c.if-not-is_known.false in
    c.flat_numbered.ensures ∙ ap flat_numbered (c.pair_at.ensures [] [] [])
    ∙ simp (k, c.from_flat-c.ensures)

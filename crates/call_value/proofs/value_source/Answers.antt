use mathlib.Core.Path.{sym, ◌∙◌}
use Rattle.std.proofs.lemmas.Result.{err_from_is_err_and}
use Rattle.call_list.proofs.Laws.{source_listed}
use Rattle.codes.proofs.Laws.{refusal_some}
use Rattle.call_value.proofs.value_source.Goals as goal

pub returns-in_err-list : goal.returns-in_err-list
returns-in_err-list c =
    let p = err_from_is_err_and c.from_residual.result c.from_residual.ensures.1 in
    rw (p.1, p.2) (sym (source_listed _ _ _ _ ∙ simp (c.in_err-list.ensures, refusal_some)))

pub returns : goal.returns
returns c =
    let l = c.in_ok-list.ensures in
    sym (source_listed _ _ _ _ ∙ simp (l.0, ← l.1, ← c.first_named.ensures, c.source_of.ensures))

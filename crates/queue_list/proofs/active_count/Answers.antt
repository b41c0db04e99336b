use Rattle.std.specs.Prelude.{ℕ}
use Rattle.std.proofs.Common.{sym, ap, ◌∙◌}
use Rattle.std.proofs.lemmas.Result.{err_from_is_err_and}
use Rattle.queue_list.proofs.BarLaws.{none_unfit, some_fit, err_none, ok_some}
use Rattle.queue_list.proofs.ListLaws.{count_lost, count_alone}
use Rattle.queue_list.proofs.active_count.Goals as goal

pub returns-in_err-ok_or : goal.returns-in_err-ok_or
returns-in_err-ok_or c =
    let p = err_from_is_err_and c.from_residual.result c.from_residual.ensures.1 in
    let e = err_none c.fit.result _ (sym c.ok_or.ensures.value ∙ c.in_err-ok_or.was) in
    let t = none_unfit _ _ (sym e.0 ∙ c.fit.ensures) in
    λ gathered store marks queue. rw (p.1, p.2) (ap (λ (n : ℕ). record { refusal = n; count = 0 }) e.1 ∙ sym (count_lost _ t))

pub returns : goal.returns
returns c =
    let s = ok_some c.fit.result _ (sym c.ok_or.ensures.value ∙ c.in_ok-ok_or.was) in
    let t = some_fit _ _ _ (sym s ∙ c.fit.ensures) in
    λ gathered store marks queue. c.active_count.ensures ∙ sym (count_alone _ t)

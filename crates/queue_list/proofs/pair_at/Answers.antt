use Rattle.std.specs.Prelude.{◌≡◌, List, ℕ}
use Rattle.std.specs.Borrow.{Bor}
use Rattle.std.proofs.Common.{sym, ap, ◌∙◌}
use mathlib.Core.Path.{subst}
use Rattle.std.proofs.lemmas.Result.{err_from_is_err_and}
use Rattle.connection.specs.Calls.{pair_at_number}
use Rattle.connection.specs.RequestCalls.{PairRefused}
use Rattle.call_value.specs.Answer.{numbered_by}
use Rattle.queue_list.proofs.BarLaws.{none_barred, some_free, err_none, ok_some}
use Rattle.queue_list.proofs.ListLaws.{pair_barred, pair_free}
use Rattle.queue_list.proofs.pair_at.Goals as goal

pub returns-in_err-whole : goal.returns-in_err-whole
returns-in_err-whole c =
    let p = err_from_is_err_and c.from_residual.result c.from_residual.ensures.1 in
    let e = err_none c.heeded.result _ (sym c.ok_or.ensures.value ∙ c.in_err-whole.was) in
    let t = none_barred _ _ (sym e.0 ∙ c.heeded.ensures) in
    λ gathered marks queue. rw (p.1, p.2) (ap PairRefused e.1 ∙ sym (pair_barred _ _ _ t))

pub returns : goal.returns
returns c =
    let s = ok_some c.heeded.result _ (sym c.ok_or.ensures.value ∙ c.in_ok-whole.was) in
    let t = some_free _ _ _ (sym s ∙ c.heeded.ensures) in
    λ gathered marks queue.
    subst (λ (store : Bor (List ℕ)). numbered_by c.pair_at.result ≡ pair_at_number c.args.c store.now c.args.id c.args.k) t.1 c.pair_at.ensures
    ∙ sym (pair_free _ _ _ t.0)

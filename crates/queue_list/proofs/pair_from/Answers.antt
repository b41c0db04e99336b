use Rattle.std.specs.Prelude.{◌≡◌, List, ℕ}
use Rattle.std.specs.Borrow.{Bor}
use Rattle.std.proofs.Common.{sym, ap, ◌∙◌}
use mathlib.Core.Path.{subst}
use Rattle.std.proofs.lemmas.Result.{err_from_is_err_and}
use Rattle.call_walk.specs.Place.{ReadRefused, read_by, read_from}
use Rattle.queue_list.specs.Places.{queue_read_from}
use Rattle.queue_list.proofs.BarLaws.{none_barred, some_free, err_none, ok_some}
use Rattle.queue_list.proofs.pair_from.Goals as goal

pub returns-in_err-ok_or : goal.returns-in_err-ok_or
unfolding queue_read_from
returns-in_err-ok_or c =
    let p = err_from_is_err_and c.from_residual.result c.from_residual.ensures.1 in
    let e = err_none c.heeded.result _ (sym c.ok_or.ensures.value ∙ c.in_err-ok_or.was) in
    let t = none_barred _ _ (sym e.0 ∙ c.heeded.ensures) in
    rw (p.1, p.2) (simp t (ap ReadRefused e.1))

pub returns : goal.returns
unfolding queue_read_from
returns c =
    let s = ok_some c.heeded.result _ (sym c.ok_or.ensures.value ∙ c.in_ok-ok_or.was) in
    let t = some_free _ _ _ (sym s ∙ c.heeded.ensures) in
    simp t.0 (subst (λ (store : Bor (List ℕ)). read_by c.pair_from.result ≡ read_from c.args.c store.now c.args.id c.args.place) t.1 c.pair_from.ensures)

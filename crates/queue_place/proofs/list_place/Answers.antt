use native.Mathlib.Omega.{arith}
use mathlib.Core.Path.{sym, subst, ◌∙◌}
use Rattle.std.proofs.lemmas.Result.{err_from_is_err_and}
use Rattle.call_list.proofs.Laws.{Within, listing_within}
use Rattle.queue_place.proofs.LiesLaws.{list_barred, list_refused, list_lies_lem}
use Rattle.queue_place.proofs.list_place.Goals as goal

pub returns-then-is_barred : goal.returns-then-is_barred
returns-then-is_barred c =
    let t = sym c.is_barred.ensures ∙ c.if-is_barred.true in
    λ gathered marks queue. sym (list_barred _ _ t)

pub returns-in_err-from : goal.returns-in_err-from
returns-in_err-from c =
    let t = sym c.is_barred.ensures ∙ c.if-is_barred.false in
    let p = err_from_is_err_and c.from_residual.result c.from_residual.ensures.1 in
    rw (p.1, p.2) (λ gathered marks queue. sym (list_refused _ _ _ t (sym c.in_err-from.ensures)))

pub overflow_sub-result : goal.overflow_sub-result
overflow_sub-result c =
    let inside : Within c.args.store.now (record { refusal = 0; from = c.in_ok-from.from; to = c.in_ok-from.to }) =
    subst (Within c.args.store.now) (sym c.in_ok-from.ensures) (listing_within c.args.c c.args.store.now c.args.id) in
    omega (arith, inside)

pub returns : goal.returns
returns c =
    let t = sym c.is_barred.ensures ∙ c.if-is_barred.false in
    λ gathered marks queue. sym (list_lies_lem _ _ _ _ t (sym c.in_ok-from.ensures))

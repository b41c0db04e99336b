use Prim.Native.Nat.{◌-◌}
use native.Mathlib.Omega.{arith}
use mathlib.Core.Path.{sym, subst, ◌∙◌}
use lib.ListN.{drop, length-take}
use Rattle.std.proofs.lemmas.Result.{err_from_is_err_and}
use Rattle.pair_list.proofs.ListLaws.{first_within}
use Rattle.call_list.proofs.Laws.{Within, listing_within}
use Rattle.queue_place.proofs.LiesLaws.{value_barred, value_refused, value_lies_lem, value_absent}
use Rattle.queue_place.proofs.value_place.Goals as goal
use Rattle.queue_place.proofs.value_place.Goals.{In_ok-from}

-- the list lies in the store
inside : (c : In_ok-from) → Within c.args.store.now (record { refusal = 0; from = c.in_ok-from.from; to = c.in_ok-from.to })
inside c = subst (Within c.args.store.now) (sym c.in_ok-from.ensures) (listing_within c.args.c c.args.store.now c.args.id)

pub returns-then-is_barred : goal.returns-then-is_barred
returns-then-is_barred c =
    let t = sym c.is_barred.ensures ∙ c.if-is_barred.true in
    λ gathered marks queue. sym (value_barred _ _ _ t)

pub returns-in_err-from : goal.returns-in_err-from
returns-in_err-from c =
    let t = sym c.is_barred.ensures ∙ c.if-is_barred.false in
    let p = err_from_is_err_and c.from_residual.result c.from_residual.ensures.1 in
    rw (p.1, p.2) (λ gathered marks queue. sym (value_refused _ _ _ _ t (sym c.in_err-from.ensures)))

pub slice_bounds-first_named-count : goal.slice_bounds-first_named-count
slice_bounds-first_named-count c = omega (arith, inside (goal.at.slice_bounds-first_named-count c).In_ok-from)

pub slice_bounds-first_named-start : goal.slice_bounds-first_named-start
slice_bounds-first_named-start c = omega (arith, inside (goal.at.slice_bounds-first_named-start c).In_ok-from)

pub slice_bounds-first_named-end : goal.slice_bounds-first_named-end
slice_bounds-first_named-end c = omega (arith, inside (goal.at.slice_bounds-first_named-end c).In_ok-from)

pub overflow_add-result : goal.overflow_add-result
overflow_add-result c =
    let f = first_within _ _ _ (sym c.first_named.ensures ∙ c.in-Some.is) in
    omega (arith, inside (goal.at.overflow_add-result c).In_ok-from, f, length-take (c.in_ok-from.to - c.in_ok-from.from) (drop c.in_ok-from.from c.args.store.now))

pub returns-in-Some : goal.returns-in-Some
returns-in-Some c =
    let t = sym c.is_barred.ensures ∙ c.if-is_barred.false in
    let f = sym c.first_named.ensures ∙ c.in-Some.is in
    λ gathered marks queue. sym (value_lies_lem _ _ _ _ t (sym c.in_ok-from.ensures) _ _ f)

pub returns-in-None : goal.returns-in-None
returns-in-None c =
    let t = sym c.is_barred.ensures ∙ c.if-is_barred.false in
    let f = sym c.first_named.ensures ∙ c.in-None.is in
    λ gathered marks queue. sym (value_absent _ _ _ _ t (sym c.in_ok-from.ensures) _ f)

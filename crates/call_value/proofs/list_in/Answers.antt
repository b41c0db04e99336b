use native.Mathlib.Omega.{arith}
use mathlib.Core.Path.{refl, sym, ap, subst, ◌∙◌}
use Rattle.std.proofs.lemmas.Result.{err_from_is_err_and}
use Rattle.call_list.specs.Listing.{Listing, part_of}
use Rattle.call_list.proofs.Laws.{Within, listing_within}
use Rattle.call_value.proofs.list_in.Goals as goal
use Rattle.call_value.proofs.list_in.Goals.{In_ok-from}

-- the list lies in the store
inside : (c : In_ok-from) → Within c.args.store.now (record { refusal = 0; from = c.in_ok-from.from; to = c.in_ok-from.to })
inside c = subst (Within c.args.store.now) (sym c.in_ok-from.ensures) (listing_within c.args.c c.args.store.now c.args.id)

pub slice_bounds-result-count : goal.slice_bounds-result-count
slice_bounds-result-count c = omega (arith, inside (goal.at.slice_bounds-result-count c).In_ok-from)

pub slice_bounds-result-start : goal.slice_bounds-result-start
slice_bounds-result-start c = omega (arith, inside (goal.at.slice_bounds-result-start c).In_ok-from)

pub slice_bounds-result-end : goal.slice_bounds-result-end
slice_bounds-result-end c = omega (arith, inside (goal.at.slice_bounds-result-end c).In_ok-from)

pub returns-in_err-from : goal.returns-in_err-from
returns-in_err-from c =
    let p = err_from_is_err_and c.from_residual.result c.from_residual.ensures.1 in
    rw (p.1, p.2) (sym c.in_err-from.ensures)

pub returns : goal.returns
returns c =
    let e = sym c.in_ok-from.ensures in
    (ap (λ (l : Listing). l.refusal) e, ap (part_of c.args.store.now) (sym e), record { block = refl; place = simp (← c.in_ok-from.ensures) })

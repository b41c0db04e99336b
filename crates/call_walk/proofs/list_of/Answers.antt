use native.Mathlib.Omega.{arith}
use native.Mathlib.Nat.{zero-add}
use mathlib.Core.Path.{refl, sym, subst}
use Rattle.call_list.proofs.Laws.{Within, listing_within, walk_listed}
use Rattle.call_walk.proofs.list_of.Goals as goal
use Rattle.call_walk.proofs.list_of.Goals.{In-Ok}

-- the list lies in the store
inside : (c : In-Ok) → Within c.args.store.now (record { refusal = 0; from = c.in-Ok.from; to = c.in-Ok.to })
inside c = subst (Within c.args.store.now) (sym c.in-Ok.ensures) (listing_within c.args.c c.args.store.now c.args.id)

pub returns : goal.returns
returns c = (simp (walk_listed, ← c.in-Ok.ensures), record { block = refl; place = simp (← c.in-Ok.ensures) })

pub slice_bounds-result-count : goal.slice_bounds-result-count
slice_bounds-result-count c = omega (arith, inside (goal.at.slice_bounds-result-count c).In-Ok)

pub slice_bounds-result-start : goal.slice_bounds-result-start
slice_bounds-result-start c = omega (arith, inside (goal.at.slice_bounds-result-start c).In-Ok)

pub slice_bounds-result-end-2 : goal.slice_bounds-result-end-2
slice_bounds-result-end-2 c = omega (arith, inside (goal.at.slice_bounds-result-end-2 c).In-Ok)

pub returns-in_default : goal.returns-in_default
returns-in_default c = (simp (walk_listed, ← c.list_at.ensures, c.in_default.is), record { block = refl; place = simp (zero-add, ← c.list_at.ensures, c.in_default.is) })

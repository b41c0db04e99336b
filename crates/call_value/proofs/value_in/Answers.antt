use Prim.Native.Nat.{◌+◌, ◌-◌}
use native.Mathlib.Omega.{arith}
use native.Mathlib.Nat.{zero-add}
use mathlib.Core.Path.{◌≡◌, refl, sym, ◌∙◌}
use Rattle.pair_list.proofs.ListLaws.{LiesIn, first_within}
use Rattle.call_value.proofs.value_in.Goals as goal

pub returns-in_default : goal.returns-in_default
returns-in_default c = (
  simp (← c.first_named.ensures, c.in_default.is),
  rw (← c.first_named.ensures, c.in_default.is) (record { block = refl; place = sym (zero-add _) }),
)

pub overflow_add-result : goal.overflow_add-result
overflow_add-result c =
    let found_in : LiesIn c.args.list.now c.in-Some.pair =
    first_within _ c.args.name.now _ (sym c.first_named.ensures ∙ c.in-Some.is) in
    omega (arith, found_in)

pub slice_bounds-result-end : goal.slice_bounds-result-end
slice_bounds-result-end c =
    let found_in : LiesIn c.args.list.now c.in-Some.pair =
    first_within _ c.args.name.now _ (sym c.first_named.ensures ∙ c.in-Some.is) in
    omega (arith, found_in)

pub returns : goal.returns
returns c =
    let p = c.in-Some.pair in
    let n : p.value + p.value_len - p.value ≡ p.value_len = omega arith in (
      simp (n, ← c.first_named.ensures, c.in-Some.is),
      rw (← c.first_named.ensures, c.in-Some.is) (record { block = refl; place = refl }),
    )

use native.Mathlib.Nat.{zero-add}
use mathlib.Core.Path.{refl, sym, ◌∙◌}
use Rattle.call_list.proofs.Laws.{value_listed, first_in_none}
use Rattle.call_list.specs.Part.{value_place, part_found}
use Rattle.pair_list.specs.List.{first_named}
use Rattle.call_value.proofs.value.Goals as goal

pub returns-in-Ok : goal.returns-in-Ok
unfolding value_place
returns-in-Ok c =
    let a = c.args in
    let l = c.in-Ok.ensures in (
      sym (value_listed _ _ _ _ _ ∙ simp (← l.1, c.value_in.ensures.0)),
      rw (← l.1) (part_found a.store _ a.fallback c.value_in.result _ (first_named c.in-Ok.list.now a.name.now) l.2 c.value_in.ensures.1),
    )

pub returns-in-Err : goal.returns-in-Err
unfolding value_place
returns-in-Err c =
    let e = c.in-Err.ensures in (
      sym (value_listed _ _ _ _ _ ∙ simp (e, first_in_none)),
      rw (e, first_in_none) (record { block = refl; place = sym (zero-add _) }),
    )

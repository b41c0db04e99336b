use native.Mathlib.Omega.{arith}
use Rattle.queue_list.specs.Places.{queue_value_place}
use mathlib.Core.Path.{◌∙◌, sym, refl}
use Rattle.queue_list.proofs.ListLaws.{value_barred, value_free}
use Rattle.queue_list.proofs.value.Goals as goal

pub returns-then-is_barred : goal.returns-then-is_barred
unfolding queue_value_place
returns-then-is_barred c =
    let t = sym c.is_barred.ensures ∙ c.if-is_barred.true in
    ((λ gathered marks queue. sym (value_barred _ _ _ _ t)), simp t (record { block = refl; place = omega arith }))

pub returns : goal.returns
unfolding queue_value_place
returns c =
    let t = sym c.is_barred.ensures ∙ c.if-is_barred.false in
    ((λ gathered marks queue. rw c.value.ensures.0 (sym (value_free _ _ _ _ t))), simp t c.value.ensures.1)

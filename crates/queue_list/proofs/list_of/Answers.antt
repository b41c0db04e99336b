use native.Mathlib.Omega.{arith}
use mathlib.Core.Path.{◌∙◌, sym, ap, refl}
use Rattle.connection.specs.RequestCalls.{Walk}
use Rattle.queue_list.specs.Places.{queue_list_place}
use Rattle.queue_list.proofs.ListLaws.{walk_barred, walk_free}
use Rattle.queue_list.proofs.list_of.Goals as goal

pub returns-then-is_barred : goal.returns-then-is_barred
unfolding queue_list_place
returns-then-is_barred c =
    let t = sym c.is_barred.ensures ∙ c.if-is_barred.true in
    ((λ gathered marks queue. sym (ap (λ (w : Walk). w.list) (walk_barred _ _ t))), simp t (record { block = refl; place = omega arith }))

pub returns : goal.returns
unfolding queue_list_place
returns c =
    let t = sym c.is_barred.ensures ∙ c.if-is_barred.false in
    ((λ gathered marks queue. c.list_of.ensures.0 ∙ sym (ap (λ (w : Walk). w.list) (walk_free _ _ t))), simp t c.list_of.ensures.1)

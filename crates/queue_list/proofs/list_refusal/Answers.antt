use mathlib.Core.Path.{◌∙◌, sym, ap}
use Rattle.connection.specs.RequestCalls.{Walk}
use Rattle.queue_list.proofs.ListLaws.{walk_barred, walk_free}
use Rattle.queue_list.proofs.list_refusal.Goals as goal

pub returns-then-is_barred : goal.returns-then-is_barred
returns-then-is_barred c =
    let t = sym c.is_barred.ensures ∙ c.if-is_barred.true in
    λ gathered marks queue. sym (ap (λ (w : Walk). w.refusal) (walk_barred _ _ t))

pub returns : goal.returns
returns c =
    let t = sym c.is_barred.ensures ∙ c.if-is_barred.false in
    λ gathered marks queue. c.list_refusal.ensures ∙ sym (ap (λ (w : Walk). w.refusal) (walk_free _ _ t))

use mathlib.Core.Path.{◌∙◌, sym, ap}
use Rattle.pair_repeats.specs.Keys.{may_hold}
use Rattle.pair_repeats.proofs.KeysLaws.{not_held}
use Rattle.pair_repeats.proofs.comes_again.Goals as goal

pub returns-else-may_hold : goal.returns-else-may_hold
returns-else-may_hold c =
    let a = c.args in
    let h = sym (ap (may_hold a.keys.now a.from a.n) c.name_key.ensures) ∙ sym c.may_hold.ensures ∙ c.if-may_hold.false in
    λ filled. c.if-may_hold.false ∙ sym (not_held a.list.now a.at a.keys.now a.from a.n a.name.now filled h)

use Rattle.slot_check.proofs.QuickRow.{none_row, one_row, quick_row}
use Rattle.slot_check.proofs.ids_fit.Goals as goal

pub returns-then-occupied-eq0 : goal.returns-then-occupied-eq0
returns-then-occupied-eq0 c =
    let a = c.args in
    λ lengths short. none_row a.ids.now lengths a.occupied short c.if-occupied-eq0.true

pub returns-then-occupied-eq0-2 : goal.returns-then-occupied-eq0-2
returns-then-occupied-eq0-2 c =
    let a = c.args in
    let one = c.lowest_taken-one in
    let single = c.if-occupied-eq0-2.true in
    λ lengths short.
    one_row a.ids.now lengths a.occupied short one.result one.ensures.0 one.ensures.1 single

pub returns : goal.returns
returns c =
    let a = c.args in
    let n = c.reach-n in
    let k = c.keys_of-found in
    λ lengths short.
    rw (k.ensures.1, c.any_repeats.ensures)
    (quick_row a.ids.now lengths a.occupied short n.result n.ensures k.result.keys k.ensures.0)

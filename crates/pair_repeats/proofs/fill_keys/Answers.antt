use mathlib.Core.Path.{sym, ◌∙◌}
use native.Mathlib.Omega.{arith}
use lib.ListN.{length-set}
use Rattle.pair_list.proofs.ListLaws.{pairs_stop}
use Rattle.pair_repeats.proofs.KeysLaws.{fill_next, fill_done}
use Rattle.pair_repeats.proofs.fill_keys.Goals as goal

pub loop-pair-preserved : goal.loop-pair-preserved
loop-pair-preserved c =
    let l = c.loop-pair in
    let f = fill_next _ l.keys l.at l.count _ _ (sym c.read_pair.ensures ∙ c.in-Pair.is) (omega arith) l.invariant.2 in
    (length-set l.keys l.count _ ∙ l.invariant.0, omega (arith, length-set l.keys l.count c.name_key.result), rw c.name_key.ensures f)

pub returns : goal.returns
returns c =
    let s = c.args.list.now in
    let l = c.loop-pair in
    let none = pairs_stop s l.at (λ p next e. c.in_default.not-Pair p next (c.read_pair.ensures ∙ e)) in
    fill_done s l.keys l.at l.count none l.invariant.2

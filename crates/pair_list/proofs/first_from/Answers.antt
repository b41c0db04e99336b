use mathlib.Core.Path.{sym, ap, ◌∙◌}
use mathlib.Core.List.{List}
use Rattle.pairs.specs.declared.pair.Pair.{Pair}
use Rattle.pair_list.specs.List.{first_in, first_from}
use Rattle.pair_list.proofs.ListLaws.{pairs_stop, first_next}
use Rattle.pair_list.proofs.first_from.Goals as goal

pub returns-then-same : goal.returns-then-same
unfolding first_from
returns-then-same c =
    let a = c.args in
    let e = c.loop-pair.invariant ∙ first_next a.list.now a.name.now c.loop-pair.at _ _ (sym c.read_pair.ensures ∙ c.in-Pair.is) in
    sym (e ∙ simp (← c.same.ensures, c.if-same.true))

pub loop-pair-preserved : goal.loop-pair-preserved
loop-pair-preserved c =
    let a = c.args in
    let e = c.loop-pair.invariant ∙ first_next a.list.now a.name.now c.loop-pair.at _ _ (sym c.read_pair.ensures ∙ c.in-Pair.is) in
    e ∙ simp (← c.same.ensures, c.if-same.false)

pub returns : goal.returns
unfolding first_from first_in
returns c =
    let a = c.args in
    let none = pairs_stop a.list.now c.loop-pair.at (λ p next e. c.in_default.not-Pair p next (c.read_pair.ensures ∙ e)) in
    sym (c.loop-pair.invariant ∙ ap (λ (ps : List Pair). first_in a.list.now a.name.now ps) none)

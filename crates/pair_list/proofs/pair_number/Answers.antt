use mathlib.Core.Path.{sym, ap, ◌∙◌}
use mathlib.Core.List.{List}
use borrow.Author.Tests.{eq-eqb, ne_eqb}
use Rattle.pairs.specs.declared.pair.Pair.{Pair}
use Rattle.pair_list.specs.List.{number_in, pair_number}
use Rattle.pair_list.proofs.ListLaws.{pairs_stop, number_next}
use Rattle.pair_list.proofs.pair_number.Goals as goal

pub returns-then-left-eq0 : goal.returns-then-left-eq0
unfolding pair_number
returns-then-left-eq0 c =
    let l = c.loop-pair in
    let e = l.invariant ∙ number_next c.args.list.now l.left l.at _ _ (sym c.read_pair.ensures ∙ c.in-Pair.is) in
    sym (e ∙ simp (eq-eqb _ _ c.if-left-eq0.true))

pub loop-pair-preserved : goal.loop-pair-preserved
loop-pair-preserved c =
    let l = c.loop-pair in
    let e = l.invariant ∙ number_next c.args.list.now l.left l.at _ _ (sym c.read_pair.ensures ∙ c.in-Pair.is) in
    e ∙ simp (ne_eqb _ _ c.if-left-eq0.false)

pub returns : goal.returns
unfolding pair_number number_in
returns c =
    let l = c.loop-pair in
    let none = pairs_stop c.args.list.now l.at (λ p next e. c.in_default.not-Pair p next (c.read_pair.ensures ∙ e)) in
    sym (l.invariant ∙ ap (λ (ps : List Pair). number_in ps l.left) none)

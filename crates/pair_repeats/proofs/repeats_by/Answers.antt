use mathlib.Core.Path.{sym, ◌∙◌}
use native.Mathlib.Omega.{arith}
use Rattle.pairs.proofs.PairLaws.{pair_in_lem}
use Rattle.pair_list.proofs.ListLaws.{pairs_stop}
use Rattle.pair_repeats.specs.Repeats.{repeats}
use Rattle.pair_repeats.proofs.KeysLaws.{filled_next}
use Rattle.pair_repeats.proofs.RepeatsLaws.{repeats_next, repeats_end}
use Rattle.pair_repeats.proofs.repeats_by.Goals as goal

pub returns-then-comes_again : goal.returns-then-comes_again
unfolding repeats
returns-then-comes_again c =
    let a = c.args in
    let l = c.loop-pair in
    let read = sym c.read_pair.ensures ∙ c.in-Pair.is in
    λ f.
    let t = l.invariant.1 f in
    sym (t.left ∙ repeats_next a.list.now l.at _ _ read ∙ simp (← c.comes_again.ensures (filled_next a.list.now a.keys.now l.at l.i a.n _ _ read t.filled), c.if-comes_again.true))

pub loop-pair-preserved : goal.loop-pair-preserved
loop-pair-preserved c =
    let a = c.args in
    let l = c.loop-pair in
    let read = sym c.read_pair.ensures ∙ c.in-Pair.is in (
      omega (arith, pair_in_lem _ _ _ _ read),
      λ f.
          let t = l.invariant.1 f in
          let filled = filled_next a.list.now a.keys.now l.at l.i a.n _ _ read t.filled in
          record { filled = filled; left = t.left ∙ repeats_next a.list.now l.at _ _ read ∙ simp (← c.comes_again.ensures filled, c.if-comes_again.false) },
    )

pub returns : goal.returns
unfolding repeats
returns c =
    let s = c.args.list.now in
    let none = pairs_stop s c.loop-pair.at (λ p next e. c.in_default.not-Pair p next (c.read_pair.ensures ∙ e)) in
    λ f. sym ((c.loop-pair.invariant.1 f).left ∙ repeats_end s c.loop-pair.at none)

use mathlib.Core.Path.{sym, ap, ◌∙◌}
use Rattle.pair_list.specs.List.{Pairs, ending_of}
use Rattle.pairs.proofs.PairLaws.{end_past}
use Rattle.pair_list.proofs.ListLaws.{pairs_next, pairs_end, pairs_malformed}
use Rattle.pair_list.proofs.list_ending.Goals as goal

pub loop-next-preserved : goal.loop-next-preserved
loop-next-preserved c =
    c.loop-next.invariant ∙ ap (λ (ps : Pairs). ps.ending) (pairs_next _ _ _ _ (sym c.read_pair.ensures ∙ c.in-Pair.is))

pub returns-in-End : goal.returns-in-End
unfolding ending_of
returns-in-End c =
    let s = c.args.list.now in
    sym (c.loop-next.invariant ∙ ap (λ (ps : Pairs). ps.ending) (pairs_end s c.loop-next.at (end_past s c.loop-next.at (sym c.read_pair.ensures ∙ c.in-End.is))))

pub returns-in-Malformed : goal.returns-in-Malformed
unfolding ending_of
returns-in-Malformed c =
    sym (c.loop-next.invariant ∙ ap (λ (ps : Pairs). ps.ending) (pairs_malformed _ _ _ (sym c.read_pair.ensures ∙ c.in-Malformed.is)))

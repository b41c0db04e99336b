use mathlib.Core.Path.{◌≡◌, sym, ◌∙◌}
use native.Mathlib.Omega.{arith}
use Rattle.pair_list.specs.List.{ending_of}
use Rattle.pair_list.proofs.ListLaws.{ended_formed, broken_formed, ending_place}
use Rattle.pair_list.specs.declared.Ending.{Ending}
use Rattle.plain.specs.Plain.{params_end}
use Rattle.plain.proofs.live.params_end.Goals as goal

pub returns-then-list_repeats : goal.returns-then-list_repeats
unfolding params_end
returns-then-list_repeats c =
    let ended : ending_of c.args.list.now ≡ Ending.End =
    sym c.list_ending.ensures ∙ c.in_default.is in
    λ x.
    let formed = ended_formed _ (ended) in
    let repeats = sym c.list_repeats.ensures ∙ c.if-list_repeats.true in
    simp (formed, repeats) (c.fault-then-list_repeats.ensures _ x c.requires)

pub returns : goal.returns
unfolding params_end
returns c =
    let ended : ending_of c.args.list.now ≡ Ending.End =
    sym c.list_ending.ensures ∙ c.in_default.is in
    λ x.
    let formed = ended_formed _ (ended) in
    let single = sym c.list_repeats.ensures ∙ c.if-list_repeats.false in
    simp (formed, single, c.requires.whole) (c.ends.ensures _ x c.requires)

pub overflow_cast-at : goal.overflow_cast-at
overflow_cast-at c =
    let broken : ending_of c.args.list.now ≡ Ending.Malformed c.in-Malformed.place =
    sym c.list_ending.ensures ∙ c.in-Malformed.is in
    let p = ending_place _ _ (broken) in
    omega (arith, c.requires)

pub returns-in-Malformed : goal.returns-in-Malformed
unfolding params_end
returns-in-Malformed c =
    let broken : ending_of c.args.list.now ≡ Ending.Malformed c.in-Malformed.place =
    sym c.list_ending.ensures ∙ c.in-Malformed.is in
    λ x.
    let p = broken_formed _ _ (broken) in
    simp (p.0, p.1) (c.fault.ensures _ x c.requires)

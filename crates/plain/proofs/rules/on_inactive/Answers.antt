use borrow.Author.Tests.{eq-eqb, ne_eqb}
use Rattle.plain.specs.Plain.{on_inactive}
use Rattle.plain.proofs.RuleLaws.{stays}
use Rattle.plain.proofs.rules.on_inactive.Goals as goal

pub returns-then-kind-ne-BEGIN : goal.returns-then-kind-ne-BEGIN
unfolding on_inactive
returns-then-kind-ne-BEGIN c =
    λ store.
    rw c.comes_to.ensures
    (stays c.args.table _ store _ _ (simp (ne_eqb _ _ c.if-kind-ne-BEGIN.true)))

pub returns-then-n-ne8 : goal.returns-then-n-ne8
unfolding on_inactive
returns-then-n-ne8 c =
    λ store.
    rw c.comes_to-then-n-ne8.ensures
    (stays c.args.table _ store _ _
    (simp (eq-eqb _ _ c.if-kind-ne-BEGIN.false, ne_eqb _ _ c.if-n-ne8.true)))

pub returns-then-x-ne8 : goal.returns-then-x-ne8
unfolding on_inactive
returns-then-x-ne8 c =
    λ store.
    let begin = eq-eqb _ _ c.if-kind-ne-BEGIN.false in
    let eight = eq-eqb _ _ c.if-n-ne8.false in
    let cut = ne_eqb _ _ c.if-x-ne8.true in
    rw c.comes_to-then-x-ne8.ensures
    (stays c.args.table _ store _ _ (simp (begin, eight, cut)))

pub returns : goal.returns
unfolding on_inactive
returns c =
    λ store.
    let begin = eq-eqb _ _ c.if-kind-ne-BEGIN.false in
    let eight = eq-eqb _ _ c.if-n-ne8.false in
    let whole = eq-eqb _ _ c.if-x-ne8.false in
    simp (begin, eight, whole) (c.opening.ensures store)

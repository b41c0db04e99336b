use mathlib.Core.Path.{sym, ◌∙◌}
use Rattle.wait_numbers.proofs.FitLaws.{Housed, housed, stray_row, empty_row, short_row, over_row}
use Rattle.wait_numbers.proofs.waits_fit.Goals as goal

pub returns-then-some_waits-occupied-ne0 : goal.returns-then-some_waits-occupied-ne0
returns-then-some_waits-occupied-ne0 c = stray_row _ _ c.ranges.occupied.fits _ c.some_waits.ensures c.if-some_waits-occupied-ne0.true

pub returns-then-waits-eq0 : goal.returns-then-waits-eq0
returns-then-waits-eq0 c =
    let at_home : Housed c.args.waits.now c.args.occupied =
    housed _ _ c.ranges.occupied.fits _ c.some_waits.ensures c.if-some_waits-occupied-ne0.false in
    empty_row _ _ (at_home) c.if-waits-eq0.true

pub any_long-requires : goal.any_long-requires
any_long-requires c = c.reach-n.ensures.within

pub returns-then-any_long : goal.returns-then-any_long
returns-then-any_long c =
    let at_home : Housed c.args.waits.now c.args.occupied =
    housed _ _ c.ranges.occupied.fits _ c.some_waits.ensures c.if-some_waits-occupied-ne0.false in
    rw c.any_over.ensures (over_row _ _ (at_home))

pub returns : goal.returns
returns c =
    let at_home : Housed c.args.waits.now c.args.occupied =
    housed _ _ c.ranges.occupied.fits _ c.some_waits.ensures c.if-some_waits-occupied-ne0.false in
    let short = sym c.any_long.ensures ∙ c.if-any_long.false in
    short_row _ _ (at_home) _ c.reach-n.ensures short

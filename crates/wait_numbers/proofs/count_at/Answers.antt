use mathlib.Core.Path.{sym, ◌∙◌}
use native.Mathlib.Omega.{arith}
use Rattle.wait_numbers.proofs.SlotLaws.{count_some, count_none}
use Rattle.wait_numbers.proofs.count_at.Goals as goal

pub returns-then-is_taken : goal.returns-then-is_taken
returns-then-is_taken c =
    let some = sym c.is_taken.ensures ∙ c.if-is_taken.true in
    ((λ h. count_some _ _ _ some c.one_more.ensures.0), c.one_more.ensures.1)

pub returns : goal.returns
returns c = ((λ h. count_none _ _ (sym c.is_taken.ensures ∙ c.if-is_taken.false)), omega arith)

use native.Mathlib.Omega.{arith}
use Rattle.event_text.proofs.LineLaws.{decimal_short}
use Rattle.event_text.proofs.DraftLaws.{adds_both}
use borrow.Author.Rules.{rules}
use Rattle.event_text.proofs.draft.add_number.Goals as goal

pub add_decimal-requires : goal.add_decimal-requires
add_decimal-requires c = omega (arith, decimal_short c.args.n (search rules))

pub returns : goal.returns
returns c = adds_both 6 c.add.ensures c.add_decimal.ensures (omega (arith, decimal_short c.args.n (search rules)))

use mathlib.Core.Path.{◌≡◌, sym, ap}
use mathlib.Core.List.{List}
use Prim.Native.Nat.{ℕ}
use native.Mathlib.Omega.{arith}
use lib.ListN.{length, set}
use lib.Seq.{take_all}
use borrow.Author.Rules.{rules}
use Rattle.lifting.proofs.marks.without_padding.Goals as goal

pub returns : goal.returns
returns c =
    let l : length c.args.header ≡ 8 = search rules in
    ap (λ (u : List ℕ). set u 6 0) (sym (take_all 8 c.args.header (omega arith)))

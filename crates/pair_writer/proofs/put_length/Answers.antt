use mathlib.Core.Path.{sym, ap, ◌∙◌}
use Prim.Native.Nat.{ℕ, ◌+◌}
use mathlib.Core.List.{List}
use lib.ListN.{length}
use Rattle.pair_writer.proofs.WriteLaws.{length_short, length_long, length_copied}
use Rattle.pair_writer.proofs.put_length.Goals as goal

pub returns-then-n-lt128 : goal.returns-then-n-lt128
returns-then-n-lt128 c =
    let a = c.args in
    let e = length_short a.n c.if-n-lt128.true in
    (ap (λ (l : List ℕ). a.at + length l) (sym e), c.copy_into.ensures ∙ length_copied a.out.now a.at a.n e c.requires.1)

pub returns : goal.returns
returns c =
    let a = c.args in
    let e = length_long a.n c.if-n-lt128.false in
    (ap (λ (l : List ℕ). a.at + length l) (sym e), c.copy_into-2.ensures ∙ length_copied a.out.now a.at a.n e c.requires.1)

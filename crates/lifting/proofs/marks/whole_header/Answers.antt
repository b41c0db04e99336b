use mathlib.Core.Path.{◌≡◌, ap, ◌∙◌}
use Prim.Native.Nat.{ℕ}
use lib.ListN.{length}
use Rattle.wire.specs.Buffer.{copied}
use Rattle.lifting.proofs.HeaderLaws.{whole_header}
use borrow.Author.Rules.{rules}
use Rattle.lifting.proofs.marks.whole_header.Goals as goal

pub returns : goal.returns
returns c =
    let l : length c.args.p.header ≡ 8 = search rules in
    λ e. c.copy_into.ensures ∙ ap (λ (k : ℕ). copied c.args.p.header k c.args.bytes.now) c.min.ensures ∙ whole_header c.args.p c.args.bytes.now l e

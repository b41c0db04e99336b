use mathlib.Core.Path.{◌≡◌, ◌∙◌}
use Prim.Native.Nat.{◌+◌, ◌-◌}
use native.Mathlib.Omega.{arith}
use lib.ListN.{length}
use borrow.Author.Tests.{eq-eqb, ne_eqb}
use Rattle.server.specs.Step.{of_values}
use Rattle.server_content.proofs.of_values.Goals as goal

pub returns-then-left-eq0 : goal.returns-then-left-eq0
unfolding of_values
returns-then-left-eq0 c =
    λ t.
    let all : c.args.f.gathered + length c.args.bytes.now - 0 ≡ c.args.f.gathered + length c.args.bytes.now = omega arith in
    c.of_list.ensures t c.args.f c.copy_into.new.out ∙ simp (all, eq-eqb _ _ c.if-left-eq0.true, ← c.copy_into.ensures)

pub returns : goal.returns
unfolding of_values
returns c = λ t. simp (c.goes_on.ensures, ne_eqb _ _ c.if-left-eq0.false, ← c.copy_into.ensures)

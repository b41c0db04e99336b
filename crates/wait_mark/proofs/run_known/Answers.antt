use mathlib.Core.Path.{sym, ◌∙◌}
use Prim.Native.Nat.{◌-◌}
use native.Mathlib.Omega.{arith}
use Rattle.wait_mark.proofs.SameLaws.{run_same, none_other}
use Rattle.wait_mark.proofs.run_known.Goals as goal

pub returns : goal.returns
returns c =
    let alike = none_other c.args.marks.now _ (c.args.n - 1) (sym c.any_other.ensures ∙ c.if-any_other.false) in
    (omega arith, omega arith, run_same c.args.marks.now _ (c.args.n - 1) (omega arith) (omega arith) (omega arith) (omega arith) alike)

use Rattle.std.specs.Prelude.{◌≡◌, ℕ, ◌+◌, ◌-◌, get_or, set}
use Rattle.std.proofs.Common.{refl, sym, ap, ◌∙◌, arith}
use lib.ListN.{length-set}
use lib.Seq.{paste-zero}
use Rattle.wait_area.proofs.AreaLaws.{lowered, lower_turn, lower_end}
use Rattle.wait_area.proofs.move_down.Goals as goal

pub loop-i-init : goal.loop-i-init
loop-i-init c =
    let a = c.args in
    let none : a.k - a.k ≡ 0 = omega arith in
    (omega arith, refl, rw none (paste-zero a.area.now 0 (lowered a.area.now a.k a.count)))

pub loop-i-preserved : goal.loop-i-preserved
loop-i-preserved c =
    let a = c.args in
    let i = c.loop-i.i in
    let back : i - a.k + a.k ≡ i = omega arith in
    let next : i + 1 - a.k ≡ i - a.k + 1 = omega arith in
    (omega arith, simp length-set (omega arith), rw next (ap (λ (j : ℕ). set c.loop-i.area (i - a.k) (get_or c.loop-i.area j 0)) (sym back) ∙ lower_turn a.area.now a.k a.count (i - a.k) c.loop-i.invariant.2 (omega arith)))

pub returns : goal.returns
returns c = let a = c.args in c.loop-i.invariant.2 ∙ lower_end a.area.now a.k a.count (c.loop-i.i - a.k) (omega arith)

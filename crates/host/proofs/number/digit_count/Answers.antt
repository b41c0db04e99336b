use native.Mathlib.Omega.{arith}
use mathlib.Core.Path.{ap, subst, ◌∙◌}
use Prim.Native.Nat.{ℕ, ◌-◌, ◌/◌, ◌^◌, ◌<◌, ◌≤◌, max}
use Rattle.host.proofs.Powers.{twice_less, left_after_one, left_after_next, more_left, none_left}
use Rattle.host.proofs.number.digit_count.Goals as goal

pub loop-left-init : goal.loop-left-init
loop-left-init c =
    let a = c.args in
    (omega arith, omega (arith, twice_less a.n a.base c.requires.base), left_after_one a.n a.base, omega arith)

pub loop-left-preserved : goal.loop-left-preserved
loop-left-preserved c =
    let l = c.loop-left in
    let n = c.args.n in
    let b = c.args.base in (
      omega arith,
      omega (arith, twice_less l.left b c.requires.base),
      ap (λ (m : ℕ). m / b) l.invariant.2 ∙ left_after_next n b l.k,
      λ _. more_left n b l.k (omega arith) (omega arith),
    )

pub returns : goal.returns
returns c =
    let a = c.args in
    let l = c.loop-left in
    let some : 0 < l.k = l.invariant.0 in
    let big = l.invariant.3 in
    rw c.max.ensures (
      omega arith,
      none_left a.n a.base l.k (max l.k a.width) (omega arith) (omega arith) (omega arith),
      λ more. subst (λ (k : ℕ). a.base ^ (k - 1) ≤ a.n) (omega arith) (big (omega arith)),
    )

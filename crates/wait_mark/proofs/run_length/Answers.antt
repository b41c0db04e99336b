use mathlib.Core.Path.{◌≡◌, sym, ◌∙◌}
use Prim.Native.Nat.{◌<◌}
use native.Mathlib.Omega.{arith}
use lib.ListN.{length}
use Rattle.wait_mark.proofs.RunLaws.{run_few, run_joins, run_stops, run_ends}
use Rattle.wait_mark.proofs.run_length.Goals as goal

pub run_known-k-requires : goal.run_known-k-requires
run_known-k-requires c = (omega arith, omega arith, omega arith)

pub returns-then-n-lt2 : goal.returns-then-n-lt2
returns-then-n-lt2 c =
    let few : length c.args.marks.now < 2 = omega arith in
    omega (arith, run_few c.args.marks.now few)

pub loop-k-init : goal.loop-k-init
loop-k-init c = c.run_known-k.ensures

pub returns-then-not-joins : goal.returns-then-not-joins
returns-then-not-joins c = sym (c.loop-k.invariant.2 ∙ run_stops c.args.marks.now c.loop-k.k c.loop-k.invariant.0 (omega arith) (omega arith) (sym c.joins.ensures ∙ c.if-not-joins.true))

pub loop-k-preserved : goal.loop-k-preserved
loop-k-preserved c = (omega arith, omega arith, c.loop-k.invariant.2 ∙ run_joins c.args.marks.now c.loop-k.k c.loop-k.invariant.0 (omega arith) (omega arith) (sym c.joins.ensures ∙ c.if-not-joins.false))

pub returns : goal.returns
returns c =
    let whole : c.min-n.result ≡ c.loop-k.k = omega (arith, c.loop-k.invariant.1) in
    whole ∙ sym (c.loop-k.invariant.2 ∙ run_ends c.args.marks.now c.loop-k.k c.loop-k.invariant.0 (omega (arith, c.min-n.ensures)))

use mathlib.Core.Path.{refl}
use native.Mathlib.Omega.{arith}
use lib.Seq.{take_at}
use borrow.Author.Tests.{eq-eqb, ne_eqb}
use Rattle.plain.specs.Plain.{on_body, measure, show}
use Rattle.plain.proofs.live.on_body.Goals as goal

pub returns-then-n-eq0 : goal.returns-then-n-eq0
unfolding on_body measure
returns-then-n-eq0 c = simp (eq-eqb _ _ c.if-n-eq0.true, ← c.stated_for.ensures, ← c.against-measure.ensures) (c.ends.ensures _ _ c.requires)

pub returns : goal.returns
unfolding on_body show
returns c =
    simp (ne_eqb _ _ c.if-n-eq0.false)
    (rw c.changed.ensures
    (record {
      tells = λ rs. refl;
      request = rw (take_at c.args.list.now _ _ c.requires.whole, c.requires.live);
      kept = omega arith;
      low = omega arith;
      long = omega arith;
      shown = omega arith;
    }))

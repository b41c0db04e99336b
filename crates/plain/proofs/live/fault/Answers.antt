use mathlib.Core.Path.{refl}
use native.Mathlib.Omega.{arith}
use Rattle.plain.specs.Plain.{fault}
use Rattle.plain.proofs.live.fault.Goals as goal

pub returns : goal.returns
unfolding fault
returns c =
    λ list x l.
    rw c.changed.ensures
    (record {
      tells = λ rs. refl;
      request = refl;
      kept = omega arith;
      low = omega arith;
      long = omega arith;
      shown = omega arith;
    })

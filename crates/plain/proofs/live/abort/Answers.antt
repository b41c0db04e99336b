use mathlib.Core.Path.{refl}
use native.Mathlib.Omega.{arith}
use lib.Seq.{take_at}
use Rattle.plain.specs.Plain.{abort}
use Rattle.plain.proofs.live.abort.Goals as goal

pub returns : goal.returns
unfolding abort
returns c =
    λ list x l.
    rw c.changed.ensures
    (record {
      tells = λ rs. refl;
      request = rw (take_at list _ _ l.whole);
      kept = omega arith;
      low = omega arith;
      long = omega arith;
      shown = omega arith;
    })

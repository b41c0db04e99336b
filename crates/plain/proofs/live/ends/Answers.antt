use mathlib.Core.Path.{refl}
use native.Mathlib.Omega.{arith}
use lib.Seq.{take_at}
use Rattle.plain.specs.Plain.{ends}
use Rattle.plain.proofs.live.ends.Goals as goal

pub returns : goal.returns
unfolding ends
returns c =
    λ list x l.
    rw (c.changed.ensures, c.next_turn-turn.ensures)
    (record {
      tells = λ rs. refl;
      request = rw (take_at list _ _ l.whole, l.live);
      kept = omega arith;
      low = omega arith;
      long = omega arith;
      shown = omega arith;
    })

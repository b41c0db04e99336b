use mathlib.Core.Path.{refl}
use Prim.Native.Nat.{◌+◌, ◌≤◌}
use mathlib.Core.List.{◌++◌}
use native.Mathlib.Omega.{arith}
use lib.ListN.{length, length-append}
use lib.Seq.{take_all, take-length}
use borrow.Author.Tests.{lt-ltb, le-ltb, eq-eqb, ne_eqb}
use Rattle.plain.specs.Plain.{on_params, keep}
use Rattle.plain.proofs.live.on_params.Goals as goal

pub returns-then-list-n-gt-AREA : goal.returns-then-list-n-gt-AREA
unfolding on_params
returns-then-list-n-gt-AREA c =
    simp (lt-ltb _ _ c.if-list-n-gt-AREA.true)
    (c.fault.ensures _ _ c.requires.0)

pub returns-then-n-eq0 : goal.returns-then-n-eq0
unfolding on_params
returns-then-n-eq0 c = simp (le-ltb _ _ c.if-list-n-gt-AREA.false, eq-eqb _ _ c.if-n-eq0.true) (c.params_end.ensures _)

pub returns : goal.returns
unfolding on_params keep
returns c =
    let all : length (c.args.list.now ++ c.args.x.now) ≤ length c.args.list.now + length c.args.x.now = omega (arith, length-append c.args.list.now c.args.x.now) in
    simp (le-ltb _ _ c.if-list-n-gt-AREA.false, ne_eqb _ _ c.if-n-eq0.false)
    (rw c.changed.ensures
    (record {
      tells = λ rs. refl;
      request = rw (take-length c.args.x.now, take_all _ (c.args.list.now ++ c.args.x.now) all, c.requires.0.live);
      kept = omega arith;
      low = omega (arith, c.requires);
      long = omega (arith, c.requires);
      shown = omega arith;
    }))

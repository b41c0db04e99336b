use Prim.Native.Nat.{◌≤◌}
use mathlib.Core.Path.{◌≡◌}
use mathlib.Core.Bool.{true, false}
use native.Mathlib.Omega.{arith}
use lib.Dec.{eqb}
use borrow.Author.Tests.{ne_eqb, eqb-false}
use Rattle.wire.specs.Test.{by_test}
use Rattle.plain.specs.Plain.{is_stream, on_live}
use Rattle.plain.proofs.live.on_live.Goals as goal
use Rattle.plain.proofs.live.on_live.Goals.{in_default-via-then-kind-lt4, in_default-via-else-kind-lt4+else-kind-lt6, in-8-1, in_default+else-kind-lt4+then-kind-lt6}

pub returns-in-1 : goal.returns-in-1
unfolding on_live
returns-in-1 c = simp c.in-1.is (c.fault.ensures _ _ c.requires.0)

pub returns-in-2 : goal.returns-in-2
unfolding on_live
returns-in-2 c = simp c.in-2.is (c.abort.ensures _ _ c.requires.0)

pub returns-in_default : goal.returns-in_default
unfolding on_live
returns-in_default c =
    let no_stream : is_stream c.args.kind ≡ false =
    let four : c.args.kind ≡ 4 → ⊥ = λ e. elim c.in_default.branch [ in_default-via-then-kind-lt4 w ↦ omega arith | in_default-via-else-kind-lt4+else-kind-lt6 w ↦ omega arith ] in
    let five : c.args.kind ≡ 5 → ⊥ = λ e. elim c.in_default.branch [ in_default-via-then-kind-lt4 w ↦ omega arith | in_default-via-else-kind-lt4+else-kind-lt6 w ↦ omega arith ] in
    simp (ne_eqb c.args.kind 4 four, ne_eqb c.args.kind 5 five, ne_eqb c.args.kind 8 c.in_default-1.rest.1) in
    simp (ne_eqb _ _ c.in_default-1.rest.0.0.1, ne_eqb _ _ c.in_default-1.rest.0.1, no_stream)
    (c.fault-in_default.ensures _ _ c.requires.0)

pub returns-in-4 : goal.returns-in-4
unfolding on_live
returns-in-4 c =
    let a-stream : is_stream c.args.kind ≡ true =
    elim c.in-4-1.branch [
      | in-8-1 w ↦ rw w.in-8-1.keys3
      | in_default+else-kind-lt4+then-kind-lt6 w ↦
          by_test (eqb c.args.kind 4)
          (λ e. simp e)
          (λ e. let five : c.args.kind ≡ 5 = omega (arith, eqb-false c.args.kind 4 e) in rw five)
    ] in
    let high : 4 ≤ c.args.kind =
    elim c.in-4-1.branch [ in-8-1 w ↦ omega arith | in_default+else-kind-lt4+then-kind-lt6 w ↦ omega arith ] in
    let h = high in
    simp (ne_eqb c.args.kind 1 (λ e. omega arith), ne_eqb c.args.kind 2 (λ e. omega arith), a-stream) c.on_stream.ensures

use mathlib.Core.Path.{◌≡◌, sym, ◌∙◌}
use borrow.Author.Tests.{eq-eqb, ne_eqb, eqb-true}
use Rattle.plain.specs.Plain.{on_stream}
use Rattle.plain.proofs.live.on_stream.Goals as goal

pub returns-then-kind-e : goal.returns-then-kind-e
unfolding on_stream
returns-then-kind-e c =
    simp (ne_eqb _ _ c.if-kind-e.true)
    (c.fault.ensures _ _ c.requires.0)

pub returns-in-4 : goal.returns-in-4
unfolding on_stream
returns-in-4 c = rw c.in-4.is (simp (eq-eqb 4 _ (sym c.in-4.is ∙ c.if-kind-e.false)) c.on_params.ensures)

pub returns-in-5 : goal.returns-in-5
unfolding on_stream
returns-in-5 c = rw c.in-5.is (simp (eq-eqb 5 _ (sym c.in-5.is ∙ c.if-kind-e.false)) c.on_body.ensures)

pub returns-in_default : goal.returns-in_default
unfolding on_stream
returns-in_default c =
    let other = simp (ne_eqb _ _ c.in_default.in_default-own.rest.0.1, ne_eqb _ _ c.in_default.in_default-own.rest.1) at c.requires.2 in
    let data-type : c.args.kind ≡ 8 = eqb-true _ _ other in
    rw data-type (simp (eq-eqb 8 _ (sym data-type ∙ c.if-kind-e.false)) c.on_body-in_default.ensures)

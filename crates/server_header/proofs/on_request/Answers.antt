use mathlib.Core.Path.{sym, ap, ◌∙◌}
use borrow.Author.Tests.{eq-eqb, ne_eqb}
use Rattle.slot_word.specs.Word.{taken}
use Rattle.server_header.proofs.RowLaws.{out_mark, err_mark}
use Rattle.server.specs.Step.{on_request}
use Rattle.server_header.proofs.on_request.Goals as goal

pub returns-then-n-eq8 : goal.returns-then-n-eq8
unfolding on_request
returns-then-n-eq8 c = λ t f values all seen a. simp (c.goes_on.ensures, eq-eqb _ _ c.if-kind-eq-END_REQUEST.true, eq-eqb _ _ c.if-n-eq8.true)

pub returns-then-kind-eq-END_REQUEST : goal.returns-then-kind-eq-END_REQUEST
unfolding on_request
returns-then-kind-eq-END_REQUEST c = λ t f values all seen a. c.closing.ensures t f values ∙ simp (eq-eqb _ _ c.if-kind-eq-END_REQUEST.true, ne_eqb _ _ c.if-n-eq8.false)

pub returns-then-kind-eq-STDOUT : goal.returns-then-kind-eq-STDOUT
unfolding on_request
returns-then-kind-eq-STDOUT c = λ t f values all seen a. let i = c.args.i in c.on_output.ensures t f values a (out_mark t i ∙ ap (taken i) seen.out_ended_same ∙ sym c.is_taken.ensures) ∙ simp (ne_eqb _ _ c.if-kind-eq-END_REQUEST.false, eq-eqb _ _ c.if-kind-eq-STDOUT.true)

pub returns : goal.returns
unfolding on_request
returns c = λ t f values all seen a. let i = c.args.i in c.on_output-2.ensures t f values a (err_mark t i ∙ ap (taken i) seen.err_ended_same ∙ sym c.is_taken-2.ensures) ∙ simp (ne_eqb _ _ c.if-kind-eq-END_REQUEST.false, ne_eqb _ _ c.if-kind-eq-STDOUT.false)

use mathlib.Core.Path.{◌∙◌}
use borrow.Author.Tests.{eq-eqb, ne_eqb, lt-ltb, le-ltb}
use Rattle.server.specs.Step.{on_management}
use Rattle.server_header.proofs.on_management.Goals as goal

pub returns-then-n-eq8 : goal.returns-then-n-eq8
unfolding on_management
returns-then-n-eq8 c = λ t f values. simp (c.goes_on.ensures, eq-eqb _ _ c.if-kind-eq-UNKNOWN_TYPE.true, eq-eqb _ _ c.if-n-eq8.true)

pub returns-then-kind-eq-UNKNOWN_TYPE : goal.returns-then-kind-eq-UNKNOWN_TYPE
unfolding on_management
returns-then-kind-eq-UNKNOWN_TYPE c = λ t f values. c.closing.ensures t f values ∙ simp (eq-eqb _ _ c.if-kind-eq-UNKNOWN_TYPE.true, ne_eqb _ _ c.if-n-eq8.false)

pub returns-then-n-gt-QUERY : goal.returns-then-n-gt-QUERY
unfolding on_management
returns-then-n-gt-QUERY c = λ t f values. c.closing-then-n-gt-QUERY.ensures t f values ∙ simp (ne_eqb _ _ c.if-kind-eq-UNKNOWN_TYPE.false, lt-ltb _ _ c.if-n-gt-QUERY.true)

pub returns-then-n-eq0 : goal.returns-then-n-eq0
unfolding on_management
returns-then-n-eq0 c = λ t f values. c.of_list.ensures t f values ∙ simp (ne_eqb _ _ c.if-kind-eq-UNKNOWN_TYPE.false, le-ltb _ _ c.if-n-gt-QUERY.false, eq-eqb _ _ c.if-n-eq0.true)

pub returns : goal.returns
unfolding on_management
returns c = λ t f values. simp (c.goes_on-2.ensures, ne_eqb _ _ c.if-kind-eq-UNKNOWN_TYPE.false, le-ltb _ _ c.if-n-gt-QUERY.false, ne_eqb _ _ c.if-n-eq0.false)

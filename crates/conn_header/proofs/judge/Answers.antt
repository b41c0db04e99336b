use mathlib.Core.Path.{sym, ap, ◌∙◌}
use native.Mathlib.Omega.{arith}
use borrow.Author.Tests.{eq-eqb, ne_eqb}
use Rattle.connection.proofs.Laws.SlotsLaws.{find_at}
use Rattle.connection.proofs.Laws.PartLaws.{part_lent, part_back}
use Rattle.connection.specs.Step.{judged}
use Rattle.connection.specs.Decision.{applied}
use Rattle.conn_header.proofs.judge.Goals as goal

pub overflow_mul-a : goal.overflow_mul-a
overflow_mul-a c = let found = find_at c.args.t c.args.h.id c.in-Some.i (sym c.find_from.ensures ∙ c.in-Some.is) in omega arith

pub overflow_add-a : goal.overflow_add-a
overflow_add-a c = let found = find_at c.args.t c.args.h.id c.in-Some.i (sym c.find_from.ensures ∙ c.in-Some.is) in omega arith

pub slice_bounds-on_active-end : goal.slice_bounds-on_active-end
slice_bounds-on_active-end c = let found = find_at c.args.t c.args.h.id c.in-Some.i (sym c.find_from.ensures ∙ c.in-Some.is) in omega arith

pub on_active-requires : goal.on_active-requires
on_active-requires c = (find_at c.args.t c.args.h.id c.in-Some.i (sym c.find_from.ensures ∙ c.in-Some.is)).low

pub returns : goal.returns
unfolding judged
returns c =
    λ fr g.
    let i = c.in-Some.i in
    let s = c.args.store.now in
    let t = c.args.t in
    ap (applied c.on_active.result t g) (part_back s i c.on_active.new.area)
    ∙ c.on_active.ensures t fr g s (sym c.request_at-r.ensures) (part_lent s i)
    ∙ simp (ne_eqb _ _ c.if-h-eq0.false, eq-eqb _ _ c.if-h-ne-VERSION.false, ← c.find_from.ensures, c.in-Some.is)

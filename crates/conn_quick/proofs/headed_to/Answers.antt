use mathlib.Core.Path.{sym, ◌∙◌}
use native.Mathlib.Omega.{arith}
use Rattle.connection.proofs.Laws.SlotsLaws.{find_at}
use Rattle.conn_quick.proofs.Laws.{headed_at}
use Rattle.conn_quick.proofs.headed_to.Goals as goal

pub offset_bounds-t-i : goal.offset_bounds-t-i
offset_bounds-t-i c = let found = find_at c.args.t c.args.h.id c.in-Some.i (sym c.find_from.ensures ∙ c.in-Some.is) in omega arith

pub bounds-t-i : goal.bounds-t-i
bounds-t-i c = (find_at c.args.t c.args.h.id c.in-Some.i (sym c.find_from.ensures ∙ c.in-Some.is)).low

pub goes_to-requires : goal.goes_to-requires
goes_to-requires c = (find_at c.args.t c.args.h.id c.in-Some.i (sym c.find_from.ensures ∙ c.in-Some.is)).low

pub returns : goal.returns
returns c =
    c.goes_to.ensures
    ∙ sym (headed_at c.args.t c.args.h c.in-Some.i c.if-h-ne-VERSION.false c.if-h-eq0.false c.if-h-eq0-2.false (sym c.find_from.ensures ∙ c.in-Some.is))

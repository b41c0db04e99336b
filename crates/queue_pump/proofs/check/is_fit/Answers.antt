use Rattle.conn_check.proofs.Laws.{shape_of_lem}
use mathlib.Core.Path.{sym, ◌∙◌}
use Rattle.queue_pump.proofs.check.is_fit.Goals as goal

pub returns-then-in_shape : goal.returns-then-in_shape
returns-then-in_shape c = simp (sym (shape_of_lem c.args.c) ∙ sym c.in_shape.ensures ∙ c.if-in_shape.true) c.waits_fit.ensures

pub returns-else-in_shape : goal.returns-else-in_shape
returns-else-in_shape c = simp (sym (shape_of_lem c.args.c) ∙ sym c.in_shape.ensures ∙ c.if-in_shape.false, c.if-in_shape.false)

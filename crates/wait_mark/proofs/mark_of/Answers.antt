use native.Mathlib.Omega.{arith}
use Rattle.wait_mark.proofs.MarkLaws.{mark_small, mark_sum}
use Rattle.wait_mark.proofs.mark_of.Goals as goal

pub overflow_add-result : goal.overflow_add-result
overflow_add-result c = let a = c.args in simp (c.stream_number.ensures, c.doubled.ensures) (omega (arith, mark_small a.output a.e))

pub returns : goal.returns
returns c = let a = c.args in simp (c.stream_number.ensures, c.doubled.ensures) (mark_sum a.output a.e)

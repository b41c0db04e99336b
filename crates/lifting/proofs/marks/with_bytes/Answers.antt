use Rattle.lifting.specs.Call.{with_bytes}
use Rattle.lifting.proofs.marks.with_bytes.Goals as goal

pub returns : goal.returns
unfolding with_bytes
returns c = λ id is_open st s h. simp (h.position, h.told, c.closing_of.ensures, c.start_after.ensures, c.place_after.ensures)

use Rattle.lifting.specs.Call.{with_header}
use Rattle.lifting.proofs.marks.with_header.Goals as goal

pub returns : goal.returns
unfolding with_header
returns c = λ e st s h. simp (h.position, h.opened, h.told, c.closing_of.ensures, c.start_after.ensures, c.place_after.ensures, c.waiting_if.ensures, c.without_padding.ensures, c.copies_next-copied.ensures, c.whole_header-header.ensures e)

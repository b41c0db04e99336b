use mathlib.Core.Path.{ap, ◌∙◌}
use Rattle.queue_slot.specs.Atoms.{RUN}
use Rattle.queue_slot.specs.Wait.{run_length}
use Rattle.wait_slot.proofs.RoomLaws.{first_lent}
use Rattle.wait_slot.proofs.run_at.Goals as goal

pub returns : goal.returns
returns c = λ n h k. let a = c.args in c.run_length.ensures ∙ ap (run_length RUN) (first_lent a.marks.now a.i a.count k)

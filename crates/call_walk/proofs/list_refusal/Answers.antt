use Rattle.call_list.proofs.Laws.{walk_listed}
use Rattle.call_walk.proofs.list_refusal.Goals as goal

pub returns-in-Ok : goal.returns-in-Ok
returns-in-Ok c = simp (walk_listed, ← c.in-Ok.ensures)

pub returns-in-Err : goal.returns-in-Err
returns-in-Err c = simp (walk_listed, ← c.in-Err.ensures, c.refusal_number.ensures)

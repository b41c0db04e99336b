use Rattle.connection.specs.Calls.{released}
use Rattle.call_finish.proofs.release.Goals as goal

pub returns : goal.returns
unfolding released
returns c = simp (c.redirect.ensures, c.free_request.ensures)

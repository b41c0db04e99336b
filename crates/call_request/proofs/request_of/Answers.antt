use Rattle.std.proofs.lemmas.Result.{err_from_is_err_and}
use Rattle.call_request.proofs.Laws.{request_refused, request_through}
use Rattle.call_request.proofs.request_of.Goals as goal

pub returns-in_err-slot : goal.returns-in_err-slot
returns-in_err-slot c =
    let p = err_from_is_err_and c.from_residual.result c.from_residual.ensures.1 in
    rw (p.1, p.2) (request_refused _ _ _ c.in_err-slot.ensures)

pub returns : goal.returns
returns c = request_through _ _ c.in_ok-slot.slot c.in_ok-slot.ensures c.request_at.ensures

use Rattle.std.proofs.Math.Logic.{inl, inr}
use Rattle.std.proofs.lemmas.Result.{err_from_is_err_and}
use Rattle.queue_write.proofs.writable.Goals as goal

pub returns-in_err-slot : goal.returns-in_err-slot
returns-in_err-slot c =
    let p = err_from_is_err_and c.from_residual.result c.from_residual.ensures.1 in
    rw (p.1, p.2) (inl c.in_err-slot.ensures)

pub returns-in_err-stream_check : goal.returns-in_err-stream_check
returns-in_err-stream_check c =
    let p = err_from_is_err_and c.from_residual-in_err-stream_check.result c.from_residual-in_err-stream_check.ensures.1 in
    rw (p.1, p.2) (inr (c.in_ok-slot.slot, c.in_ok-slot.ensures, simp (← c.is_leaving.ensures, ← c.request_at-request.ensures) c.in_err-stream_check.ensures))

pub returns : goal.returns
returns c = (c.in_ok-slot.ensures, c.request_at-request.ensures, simp (← c.is_leaving.ensures, ← c.request_at-request.ensures) c.in_ok-stream_check.ensures)

use Rattle.std.proofs.Common.{◌≡◌, sym}
use Rattle.std.proofs.lemmas.Result.{err_from_is_err_and}
use Rattle.server.specs.Step.{step_refusal}
use Rattle.server.specs.Codes.{refusal_number}
use Rattle.server.specs.Calls.{open_count}
use Rattle.server.specs.Answer.{refusal_some}
use Rattle.server_count.proofs.open_count.Goals as goal

pub returns-in_err-check_state : goal.returns-in_err-check_state
unfolding open_count
returns-in_err-check_state c =
    let p = err_from_is_err_and c.from_residual.result c.from_residual.ensures.1 in
    let why = c.in_err-check_state.field-0.0 in
    let e : step_refusal c.args.c ≡ refusal_number why = sym c.in_err-check_state.ensures in
    rw (p.1, p.2) (simp (e, refusal_some why))

pub returns : goal.returns
unfolding open_count
returns c =
    let e : step_refusal c.args.c ≡ 0 = sym c.in_ok-check_state.ensures in
    simp (e, c.taken_count.ensures)

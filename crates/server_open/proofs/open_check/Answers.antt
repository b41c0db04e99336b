use Rattle.std.proofs.Common.{sym, ◌∙◌}
use Rattle.std.proofs.lemmas.Result.{err_from_is_err_and}
use Rattle.server_admit.proofs.AdmissionLaws.{passed}
use Rattle.server_open.proofs.Laws.{rows_refused, rows_own}
use Rattle.server_open.proofs.open_check.Goals as goal

pub returns-in_err-check_state : goal.returns-in_err-check_state
returns-in_err-check_state c =
    λ room long h.
    let p = err_from_is_err_and c.from_residual.result c.from_residual.ensures.1 in
    rw (p.1, p.2)
    (sym (rows_refused c.args.c c.args.id c.args.role room long c.in_err-check_state.field-0.0 c.in_err-check_state.ensures))

pub returns : goal.returns
returns c =
    λ room long h.
    c.own_check.ensures
    ∙ rows_own c.args.c c.args.id c.args.role room long c.args.fits (passed c.args.c c.in_ok-check_state.ensures) h

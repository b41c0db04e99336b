use Rattle.std.proofs.Common.{sym, ap, ◌∙◌, length}
use Rattle.connection.specs.Request.{opened}
use Rattle.connection.specs.Slots.{free_slot_of}
use Rattle.server.specs.Calls.{begin_bytes, role_of, with_taken, open_refusal, open_request}
use Rattle.server.specs.Answer.{call_refused}
use Rattle.server_admit.specs.Admission.{check_number}
use Rattle.server_open.proofs.Laws.{begin_checked, open_wrote}
use Rattle.server_open.proofs.open_request.Goals as goal

pub returns-in-Err : goal.returns-in-Err
unfolding open_request
returns-in-Err c =
    let bytes = begin_bytes c.args.id c.args.role c.args.keep in
    let checked = begin_checked c.args.c c.args.id c.args.role c.args.keep (length c.args.out.now) c.record_fits.ensures c.open_check.ensures in
    call_refused c.in-Err.why (open_refusal c.args.c c.args.id c.args.role (length c.args.out.now) (length bytes)) c.args.c (with_taken c.args.c (free_slot_of c.args.c.table) (opened c.args.id (role_of c.args.role) c.args.keep)) bytes c.args.out.now
    (sym checked ∙ ap check_number c.in-Err.is)

pub returns-in-Ok : goal.returns-in-Ok
returns-in-Ok c =
    let checked = begin_checked c.args.c c.args.id c.args.role c.args.keep (length c.args.out.now) c.record_fits.ensures c.open_check.ensures in
    open_wrote c.args.c c.args.id c.args.role c.args.keep c.args.out.now (ap check_number (sym c.in-Ok.is) ∙ checked)
    c.write_begin-written.ensures c.role_of.ensures c.open_request-request.ensures c.free_slot.ensures c.take_request.ensures

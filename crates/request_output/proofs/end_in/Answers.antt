use mathlib.Core.Path.{◌≡◌, sym, ap, ◌∙◌}
use Rattle.connection.specs.Codes.{output_type}
use Rattle.connection.specs.RequestCalls.{output_refusal, end_bytes, ended_on, end_in}
use Rattle.request_output.specs.Answer.{check_number}
use Rattle.request_output.proofs.Laws.{end_room, writes_refused, end_passed}
use Rattle.request_output.proofs.end_in.Goals as goal

pub returns-in-Err : goal.returns-in-Err
unfolding end_in
returns-in-Err c =
    let a = c.args in
    let bytes = end_bytes a.r a.output in
    let checked : check_number c.output_check.result ≡ output_refusal a.r a.output bytes a.out.now =
    c.output_check.ensures bytes a.out.now (c.record_fits-fits.ensures ∙ end_room (output_type a.output) a.r.id a.out.now) in
    writes_refused c.in-Err.why (output_refusal a.r a.output bytes a.out.now) bytes (ended_on a.r a.output) a.r a.out.now
    (ap check_number (sym c.in-Err.is) ∙ checked)

pub returns : goal.returns
returns c =
    let a = c.args in
    let bytes = end_bytes a.r a.output in
    let checked : check_number c.output_check.result ≡ output_refusal a.r a.output bytes a.out.now =
    c.output_check.ensures bytes a.out.now (c.record_fits-fits.ensures ∙ end_room (output_type a.output) a.r.id a.out.now) in
    end_passed a.r a.output a.out.now (ap check_number (sym c.in_default.is) ∙ checked)
    (simp c.output_type.ensures at c.write_record.ensures) c.ended_on.ensures

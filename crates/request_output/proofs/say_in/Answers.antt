use mathlib.Core.Path.{◌≡◌, refl, sym, ap, ◌∙◌}
use Rattle.connection.specs.Codes.{output_type}
use Rattle.connection.specs.RequestCalls.{output_refusal, say_bytes, said_on, say_in}
use Rattle.request_output.specs.Answer.{check_number}
use Rattle.request_output.proofs.Laws.{stream_room, writes_refused, say_passed}
use Rattle.request_output.proofs.say_in.Goals as goal

pub returns-in-Err : goal.returns-in-Err
unfolding say_in
returns-in-Err c =
    let a = c.args in
    let bytes = say_bytes a.r a.output a.bytes.now in
    let checked : check_number c.output_check.result ≡ output_refusal a.r a.output bytes a.out.now =
    c.output_check.ensures bytes a.out.now (c.stream_fits-fits.ensures ∙ stream_room (output_type a.output) a.r.id a.bytes.now a.out.now) in
    writes_refused c.in-Err.why (output_refusal a.r a.output bytes a.out.now) bytes (said_on a.r a.output a.bytes.now) a.r a.out.now
    (ap check_number (sym c.in-Err.is) ∙ checked)

pub returns : goal.returns
returns c =
    let a = c.args in
    let bytes = say_bytes a.r a.output a.bytes.now in
    let checked : check_number c.output_check.result ≡ output_refusal a.r a.output bytes a.out.now =
    c.output_check.ensures bytes a.out.now (c.stream_fits-fits.ensures ∙ stream_room (output_type a.output) a.r.id a.bytes.now a.out.now) in
    say_passed a.r a.output a.out.now a.bytes.now (ap check_number (sym c.in_default.is) ∙ checked)
    (simp c.output_type.ensures at c.write_stream.ensures) (c.said_on.ensures a.bytes.now refl)

use Rattle.std.proofs.Common.{sym, length}
use Rattle.std.proofs.lemmas.Result.{err_from_is_err_and}
use Rattle.record.specs.Names.{GET_VALUES}
use Rattle.record_writer.specs.Written.{record_bytes}
use Rattle.server.specs.Calls.{ask_refusal, ask_values}
use Rattle.server.specs.Answer.{call_refused}
use Rattle.server_ask.proofs.Laws.{ask_wrote}
use Rattle.server_ask.proofs.ask.Goals as goal

pub returns-in_err-ask_check : goal.returns-in_err-ask_check
unfolding ask_values
returns-in_err-ask_check c =
    let p = err_from_is_err_and c.from_residual.result c.from_residual.ensures.1 in
    rw (p.1, p.2)
    (call_refused c.in_err-ask_check.field-0.0 (ask_refusal c.args.c c.args.list.now (length c.args.out.now)) c.args.c c.args.c (record_bytes GET_VALUES 0 c.args.list.now) c.args.out.now
    (sym c.in_err-ask_check.ensures))

pub returns : goal.returns
returns c = ask_wrote c.args.c c.args.list.now c.args.out.now c.in_ok-ask_check.ensures c.write_record.ensures

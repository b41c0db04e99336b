use mathlib.Core.Path.{sym, ◌∙◌}
use Rattle.call_reply.proofs.Laws.{record_filled, record_unfilled}
use Rattle.call_reply.proofs.one_record.Goals as goal

pub returns-then-not-record_fits : goal.returns-then-not-record_fits
returns-then-not-record_fits c =
    let a = c.args in
    record_unfilled a.out.now a.kind a.id a.content.now c.requires (sym c.record_fits.ensures ∙ c.if-not-record_fits.true)

pub returns : goal.returns
returns c =
    let a = c.args in
    record_filled a.out.now a.kind a.id a.content.now (sym c.record_fits.ensures ∙ c.if-not-record_fits.false) c.write_record.ensures

use mathlib.Core.Path.{◌∙◌}
use mir.Val.{Fits}
use mir.Syntax.{w16}
use Rattle.connection.proofs.Laws.SlotsLaws.{Sized}
use Rattle.slot_table.proofs.Laws.{Narrow, request_out}
use borrow.Author.Rules.{rules}
use Rattle.slot_table.proofs.request_at.Goals as goal

pub returns : goal.returns
returns c =
    let t = c.args.t in
    let sized : Sized t = record { ids = search rules; lengths = search rules; standings = search rules; stdin = search rules; «data» = search rules } in
    let keep : Fits w16 t.keep = search rules in
    let out_ended : Fits w16 t.out_ended = search rules in
    let err_used : Fits w16 t.err_used = search rules in
    let err_ended : Fits w16 t.err_ended = search rules in
    let narrow : Narrow t = record { keep = keep.fits; out_ended = out_ended.fits; err_used = err_used.fits; err_ended = err_ended.fits } in
    c.no_request.ensures ∙ request_out t c.args.i sized narrow c.if-i-lt-SLOTS.false

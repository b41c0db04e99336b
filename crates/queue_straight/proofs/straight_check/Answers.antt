use Rattle.std.specs.Prelude.{Bool, if◌then◌else◌, Ok, Err}
use Rattle.connection.specs.declared.answer.Refusal.{Refusal}
use mathlib.Core.Path.{sym, ap, ◌∙◌}
use Rattle.connection.specs.declared.request.Request.{Request}
use Rattle.connection.specs.RequestCalls.{output_refusal}
use Rattle.std.proofs.lemmas.Result.{err_from_is_err_and}
use Rattle.queue_straight.proofs.StraightLaws.{check_refused, check_leaving, check_own, check_last}
use Rattle.queue_straight.proofs.straight_check.Goals as goal

pub returns-in_err-slot : goal.returns-in_err-slot
returns-in_err-slot c =
    let p = err_from_is_err_and c.from_residual.result c.from_residual.ensures.1 in
    rw (p.1, p.2) (check_refused c.args.c c.args.waits.now c.args.id c.args.output c.args.fits _ c.in_err-slot.ensures)

pub returns-then-is_leaving : goal.returns-then-is_leaving
returns-then-is_leaving c =
    check_leaving c.args.c c.args.waits.now c.args.id c.args.output c.args.fits _ c.in_ok-slot.ensures (sym c.is_leaving.ensures ∙ c.if-is_leaving.true)

pub returns-in_err-output_check : goal.returns-in_err-output_check
returns-in_err-output_check c =
    let p = err_from_is_err_and c.from_residual-in_err-output_check.result c.from_residual-in_err-output_check.ensures.1 in
    let l = sym c.is_leaving.ensures ∙ c.if-is_leaving.false in
    rw (p.1, p.2) (check_own c.args.c c.args.waits.now c.args.id c.args.output c.args.fits _ c.in_ok-slot.ensures l c.output_check.result
    (λ bytes buffer f. c.output_check.ensures bytes buffer f ∙ ap (λ (r : Request). output_refusal r c.args.output bytes buffer) c.request_at.ensures)
    _ c.in_err-output_check.was)

pub returns-then-is_waiting : goal.returns-then-is_waiting
returns-then-is_waiting c =
    let l = sym c.is_leaving.ensures ∙ c.if-is_leaving.false in
    let w = sym c.is_waiting.ensures ∙ c.if-is_waiting.true in
    check_last c.args.c c.args.waits.now c.args.id c.args.output c.args.fits _ c.in_ok-slot.ensures l c.output_check.result
    (λ bytes buffer f. c.output_check.ensures bytes buffer f ∙ ap (λ (r : Request). output_refusal r c.args.output bytes buffer) c.request_at.ensures)
    (Err Refusal.Waiting) c.in_ok-output_check.was (sym (ap (λ (b : Bool). if b then 10 else 0) w))

pub returns : goal.returns
returns c =
    let l = sym c.is_leaving.ensures ∙ c.if-is_leaving.false in
    let w = sym c.is_waiting.ensures ∙ c.if-is_waiting.false in
    check_last c.args.c c.args.waits.now c.args.id c.args.output c.args.fits _ c.in_ok-slot.ensures l c.output_check.result
    (λ bytes buffer f. c.output_check.ensures bytes buffer f ∙ ap (λ (r : Request). output_refusal r c.args.output bytes buffer) c.request_at.ensures)
    (Ok tt) c.in_ok-output_check.was (sym (ap (λ (b : Bool). if b then 10 else 0) w))

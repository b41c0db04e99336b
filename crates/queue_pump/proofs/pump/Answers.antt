use Rattle.queue_pump.proofs.CheckLaws.{rows_of, pump_refused_lem, pump_passed, passed, able_passed}
use Rattle.queue_pump.specs.Serving.{pump_rows}
use Rattle.queue.specs.Calls.{lent, pump_refusal}
use Rattle.request_output.specs.Answer.{check_number}
use lib.ListN.{length}
use mathlib.Core.List.{List}
use mathlib.Core.Bool.{Bool}
use Prim.Native.Nat.{ℕ}
use mathlib.Core.Path.{◌≡◌, sym, ap, ◌∙◌}
use Rattle.queue_pump.proofs.pump.Goals as goal

pub turn-requires : goal.turn-requires
turn-requires c =
    let p = passed (length c.args.store.now) (length c.args.queue.now) c.is_fit.result c.args.c.«open» (length c.args.out.now) c.args.allowance (ap check_number (sym c.in-Ok.is) ∙ c.pump_check.ensures) in
    (able_passed c.args.c c.args.store.now c.args.waits.now c.args.marks.now c.args.queue.now (length c.args.out.now) c.args.allowance c.is_fit.ensures c.sized.ensures.0 c.sized.ensures.1 p, p.room)

pub returns-in-Err : goal.returns-in-Err
returns-in-Err c =
    let checked : (gathered : List ℕ) → check_number c.pump_check.result ≡ pump_refusal (lent c.args.c gathered c.args.store.now c.args.waits.now c.args.marks.now c.args.queue.now) c.args.allowance c.args.out.now =
    λ gathered.
    c.pump_check.ensures
    ∙ ap (λ (f : Bool). pump_rows (length c.args.store.now) (length c.args.queue.now) f c.args.c.«open» (length c.args.out.now) c.args.allowance) c.is_fit.ensures
    ∙ rows_of c.args.c gathered c.args.store.now c.args.waits.now c.args.marks.now c.args.queue.now c.args.allowance c.args.out.now in
    λ gathered. pump_refused_lem c.args.c gathered c.args.store.now c.args.waits.now c.args.marks.now c.args.queue.now c.args.allowance c.args.out.now c.in-Err.why (ap check_number (sym c.in-Err.is) ∙ checked gathered)

pub returns-in-Ok : goal.returns-in-Ok
returns-in-Ok c =
    let checked : (gathered : List ℕ) → check_number c.pump_check.result ≡ pump_refusal (lent c.args.c gathered c.args.store.now c.args.waits.now c.args.marks.now c.args.queue.now) c.args.allowance c.args.out.now =
    λ gathered.
    c.pump_check.ensures
    ∙ ap (λ (f : Bool). pump_rows (length c.args.store.now) (length c.args.queue.now) f c.args.c.«open» (length c.args.out.now) c.args.allowance) c.is_fit.ensures
    ∙ rows_of c.args.c gathered c.args.store.now c.args.waits.now c.args.marks.now c.args.queue.now c.args.allowance c.args.out.now in
    λ gathered. c.turn.ensures gathered ∙ pump_passed c.args.c gathered c.args.store.now c.args.waits.now c.args.marks.now c.args.queue.now c.args.allowance c.args.out.now (ap check_number (sym c.in-Ok.is) ∙ checked gathered)

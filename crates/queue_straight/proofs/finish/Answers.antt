use Prim.Native.Nat.{◌<◌, ◌≤◌}
use mathlib.Core.Path.{sym, ap, ◌∙◌}
use native.Mathlib.Omega.{arith}
use lib.ListN.{length}
use Rattle.connection.specs.declared.request.Request.{Request}
use Rattle.connection.specs.Slots.{request_at}
use Rattle.call_finish.specs.Answer.{owed_length}
use Rattle.wait_numbers.proofs.SlotLaws.{kept_as_was}
use Rattle.queue_straight.proofs.FinishLaws.{finish_refused, finish_leaving, finish_short, finish_waiting, finish_passed}
use Rattle.queue_straight.proofs.finish.Goals as goal

pub returns-then-is_leaving : goal.returns-then-is_leaving
returns-then-is_leaving c =
    let l = sym c.is_leaving.ensures ∙ c.if-is_leaving.true in
    ((λ gathered marks queue. rw c.unfinished-then-is_leaving.ensures (finish_leaving c.args.c c.args.waits.now c.args.store.now c.args.id c.args.app_status c.args.out.now gathered marks queue _ c.in-Ok.ensures l)), rw c.unfinished-then-is_leaving.ensures (sym (kept_as_was c.args.c.«open» c.args.waits.now)))

pub returns-then-out-owed_length : goal.returns-then-out-owed_length
returns-then-out-owed_length c =
    let l = sym c.is_leaving.ensures ∙ c.if-is_leaving.false in
    let short : length c.args.out.now < owed_length (request_at c.args.c.table c.in-Ok.slot).state = omega (arith, c.if-out-owed_length.true, c.owed_length.ensures, ap (λ (r : Request). owed_length r.state) c.request_at.ensures) in
    ((λ gathered marks queue. rw c.unfinished-then-out-owed_length.ensures (finish_short c.args.c c.args.waits.now c.args.store.now c.args.id c.args.app_status c.args.out.now gathered marks queue _ c.in-Ok.ensures l short)), rw c.unfinished-then-out-owed_length.ensures (sym (kept_as_was c.args.c.«open» c.args.waits.now)))

pub returns-then-is_waiting : goal.returns-then-is_waiting
returns-then-is_waiting c =
    let l = sym c.is_leaving.ensures ∙ c.if-is_leaving.false in
    let room : owed_length (request_at c.args.c.table c.in-Ok.slot).state ≤ length c.args.out.now = omega (arith, c.if-out-owed_length.false, c.owed_length.ensures, ap (λ (r : Request). owed_length r.state) c.request_at.ensures) in
    let w = sym c.is_waiting.ensures ∙ c.if-is_waiting.true in
    ((λ gathered marks queue. rw c.unfinished-then-is_waiting.ensures (finish_waiting c.args.c c.args.waits.now c.args.store.now c.args.id c.args.app_status c.args.out.now gathered marks queue _ c.in-Ok.ensures l room w)), rw c.unfinished-then-is_waiting.ensures (sym (kept_as_was c.args.c.«open» c.args.waits.now)))

pub returns-in-Err : goal.returns-in-Err
returns-in-Err c =
    ((λ gathered marks queue. rw c.unfinished.ensures (finish_refused c.args.c c.args.waits.now c.args.store.now c.args.id c.args.app_status c.args.out.now gathered marks queue c.in-Err.why c.in-Err.ensures)), rw c.unfinished.ensures (sym (kept_as_was c.args.c.«open» c.args.waits.now)))

pub returns-else-is_waiting : goal.returns-else-is_waiting
returns-else-is_waiting c =
    let l = sym c.is_leaving.ensures ∙ c.if-is_leaving.false in
    let room : owed_length (request_at c.args.c.table c.in-Ok.slot).state ≤ length c.args.out.now = omega (arith, c.if-out-owed_length.false, c.owed_length.ensures, ap (λ (r : Request). owed_length r.state) c.request_at.ensures) in
    let w = sym c.is_waiting.ensures ∙ c.if-is_waiting.false in
    ((λ gathered marks queue. rw c.finish-finished.ensures (finish_passed c.args.c c.args.waits.now c.args.store.now c.args.id c.args.app_status c.args.out.now gathered marks queue _ c.in-Ok.ensures l room w)), c.keep_waits.ensures)

use Prim.Native.Nat.{ℕ}
use mathlib.Core.Path.{sym, ap, ◌∙◌}
use mathlib.Core.List.{List}
use native.Mathlib.Omega.{arith}
use lib.ListN.{length}
use Rattle.wire.specs.Buffer.{zeros}
use Rattle.connection.specs.Slots.{put_area}
use Rattle.connection.proofs.Laws.PartLaws.{part_lent, part_back}
use Rattle.call_list.proofs.Laws.{Through, admitted_at, refused_at}
use Rattle.call_finish.specs.declared.Finished.{Finished}
use Rattle.call_finish.specs.Answer.{finished_by}
use Rattle.call_finish.proofs.Laws.{owed_length_lem, finish_refused, finish_short, finish_open, finish_closed}
use Rattle.call_finish.proofs.finish.Goals as goal
use Rattle.call_finish.proofs.finish.Goals.{In-Ok}

-- the call has come to its slot
here : (c : In-Ok) → Through c.args.c c.args.store.now c.args.id c.in-Ok.slot
here c = admitted_at _ _ _ _ (sym c.in-Ok.ensures)

pub returns-then-out-owed_length : goal.returns-then-out-owed_length
returns-then-out-owed_length c =
    ap (λ (w : Finished). finished_by w c.args.store.now c.args.out.now) c.refused-then-out-owed_length.ensures
    ∙ finish_short c.args.app_status c.args.out.now (here (goal.at.returns-then-out-owed_length c).In-Ok) c.request_at-request.ensures (omega (arith, c.owed_length.ensures, c.if-out-owed_length.true))

pub write_owed-written-requires : goal.write_owed-written-requires
write_owed-written-requires c = omega (arith, owed_length_lem c.request_at-request.result c.args.app_status, c.owed_length.ensures, c.if-out-owed_length.false)

pub overflow_mul-start : goal.overflow_mul-start
overflow_mul-start c =
    omega (arith, here (goal.at.overflow_mul-start c).In-Ok)

pub overflow_add-start : goal.overflow_add-start
overflow_add-start c =
    omega (arith, here (goal.at.overflow_add-start c).In-Ok)

pub slice_bounds-clear-end : goal.slice_bounds-clear-end
slice_bounds-clear-end c =
    omega (arith, here (goal.at.slice_bounds-clear-end c).In-Ok)

pub returns-then-request : goal.returns-then-request
returns-then-request c =
    finish_open c.args.app_status c.args.out.now (here (goal.at.returns-then-request c).In-Ok) c.request_at-request.ensures (omega (arith, c.owed_length.ensures, c.if-out-owed_length.false)) c.if-request.true c.write_owed-written.ensures
    (part_back c.args.store.now c.in-Ok.slot c.clear.new.out ∙ ap (put_area c.args.store.now c.in-Ok.slot) (c.clear.ensures ∙ ap (λ (x : List ℕ). zeros (length x)) (sym (part_lent c.args.store.now c.in-Ok.slot)))) c.release.ensures

pub returns-in-Err : goal.returns-in-Err
returns-in-Err c =
    ap (λ (w : Finished). finished_by w c.args.store.now c.args.out.now) c.refused.ensures
    ∙ finish_refused c.args.c c.args.store.now c.args.id c.args.app_status c.args.out.now c.in-Err.why (refused_at _ _ _ c.in-Err.why (sym c.in-Err.ensures))

pub returns-else-request : goal.returns-else-request
returns-else-request c =
    finish_closed c.args.app_status c.args.out.now (here (goal.at.returns-else-request c).In-Ok) c.request_at-request.ensures (omega (arith, c.owed_length.ensures, c.if-out-owed_length.false)) c.if-request.false c.write_owed-written.ensures c.clear-in-Ok.ensures c.closed.ensures

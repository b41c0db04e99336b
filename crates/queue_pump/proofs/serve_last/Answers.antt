use Rattle.queue_pump.proofs.ServingLaws.{last_kept, slot_released, slot_closed}
use Rattle.queue.specs.Calls.{lent}
use Rattle.connection.proofs.Laws.PartLaws.{part_lent, part_back}
use Rattle.connection.specs.Slots.{put_area}
use Rattle.wire.specs.Buffer.{zeros}
use lib.ListN.{length}
use mathlib.Core.List.{List}
use Prim.Native.Nat.{ℕ}
use mathlib.Core.Path.{sym, ap, ◌∙◌}
use Rattle.queue_pump.proofs.serve_last.Goals as goal

pub returns-then-r : goal.returns-then-r
returns-then-r c =
    λ gathered marks queue. last_kept (lent c.args.c gathered c.args.store.now c.args.waits.now marks queue) c.args.i c.args.r c.args.status c.requires.0 c.end_body-body.ensures
    (slot_released c.args.c gathered c.args.store.now c.args.waits.now marks queue c.args.i c.if-r.true c.release.ensures
    (part_back c.args.store.now c.args.i c.clear.new.out ∙ ap (put_area c.args.store.now c.args.i) (c.clear.ensures ∙ ap (λ (x : List ℕ). zeros (length x)) (sym (part_lent c.args.store.now c.args.i))))
    (c.forget_slot.ensures c.requires.0.low))
    c.write_record-next.ensures

pub returns : goal.returns
returns c =
    λ gathered marks queue. last_kept (lent c.args.c gathered c.args.store.now c.args.waits.now marks queue) c.args.i c.args.r c.args.status c.requires.0 c.end_body-body.ensures
    (slot_closed c.args.c gathered c.args.store.now c.args.waits.now marks queue c.args.i c.if-r.false c.closed.ensures c.clear-2.ensures c.keep_waits.ensures)
    c.write_record-next.ensures

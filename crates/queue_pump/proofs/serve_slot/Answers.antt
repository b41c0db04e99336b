use Rattle.queue_pump.proofs.ServingLaws.{last_alone, slot_wrote, filled}
use Rattle.queue_slot.specs.Wait.{ServesLast, served}
use Rattle.queue.specs.Calls.{lent, wait_at}
use Rattle.queue.specs.Numbers.{NEXT}
use Rattle.connection.specs.Sizes.{SLOTS}
use Rattle.machine_queue.specs.Pump.{slot_after}
use Rattle.machine_queue.proofs.Pumping.{after_below}
use lib.ListN.{set}
use native.Mathlib.Omega.{arith}
use Prim.Native.Nat.{ℕ}
use mathlib.Core.Path.{◌≡◌, refl, sym, ap, ◌∙◌}
use Rattle.queue_pump.proofs.serve_slot.Goals as goal

pub overflow_cast-slot_after : goal.overflow_cast-slot_after
overflow_cast-slot_after c = omega (arith, c.slot_after.ensures c.requires.0.low, after_below SLOTS c.args.i c.requires.0.low)

pub returns-then-only_end : goal.returns-then-only_end
returns-then-only_end c =
    let moved : c.put_next.new.waits ≡ set c.args.waits.now NEXT (slot_after SLOTS c.args.i) =
    c.put_next.ensures ∙ ap (λ (k : ℕ). set c.args.waits.now NEXT k) (c.slot_after.ensures c.requires.0.low) in
    let n = c.numbers_at-n.ensures.0 c.requires.0.low in
    λ gathered. slot_wrote c.args.c gathered c.args.store.now c.args.waits.now c.args.marks.now c.args.queue.now c.args.i c.requires.0.low (moved) c.request_at-r.result (ServesLast c.numbers_at-n.result.status) c.request_at-r.ensures
    (last_alone (lent c.args.c gathered c.args.store.now c.put_next.new.waits c.args.marks.now c.args.queue.now).memory c.put_next.new.waits c.args.marks.now c.args.queue.now c.args.i n (sym c.only_end.ensures ∙ c.if-only_end.true))
    (c.serve_last.ensures gathered c.args.marks.now c.args.queue.now)

pub serve_front-next-requires : goal.serve_front-next-requires
serve_front-next-requires c =
    let moved : c.put_next.new.waits ≡ set c.args.waits.now NEXT (slot_after SLOTS c.args.i) =
    c.put_next.ensures ∙ ap (λ (k : ℕ). set c.args.waits.now NEXT k) (c.slot_after.ensures c.requires.0.low) in
    let n = c.numbers_at-n.ensures.0 c.requires.0.low in
    (c.requires.0, filled c.args.store.now c.args.waits.now c.args.marks.now c.args.queue.now c.args.i (slot_after SLOTS c.args.i) c.requires.1 c.requires.0.low (moved) n, n, sym c.only_end.ensures ∙ c.if-only_end.false)

pub returns : goal.returns
returns c =
    let moved : c.put_next.new.waits ≡ set c.args.waits.now NEXT (slot_after SLOTS c.args.i) =
    c.put_next.ensures ∙ ap (λ (k : ℕ). set c.args.waits.now NEXT k) (c.slot_after.ensures c.requires.0.low) in
    λ gathered.
    let m = lent c.args.c gathered c.args.store.now c.put_next.new.waits c.args.marks.now c.args.queue.now in
    slot_wrote c.args.c gathered c.args.store.now c.args.waits.now c.args.marks.now c.args.queue.now c.args.i c.requires.0.low (moved) c.request_at-r.result (served (wait_at m c.args.i)) c.request_at-r.ensures refl
    (c.serve_front-next.ensures m.memory c.request_at-r.result refl)

use Prim.Native.Nat.{ℕ, ◌+◌, ◌<◌}
use mathlib.Core.Path.{◌≡◌, refl, sym, ap, ◌∙◌}
use mathlib.Core.List.{List}
use lib.ListN.{length}
use Rattle.wire.specs.Test.{◌≤?◌}
use Rattle.queue_slot.specs.declared.Numbers.{Numbers}
use Rattle.connection.specs.Sizes.{SLOTS}
use Rattle.queue.specs.declared.answer.Queueing.{Queueing}
use Rattle.queue.specs.Numbers.{count_at}
use Rattle.queue.specs.Calls.{lent}
use Rattle.queue.specs.Answer.{queued_by}
use Rattle.queue_admit.proofs.AdmissionLaws.{Through, through_at}
use Rattle.queue_write.proofs.Laws.{say_unsized, say_refused, say_checked_full, say_checked, room_for}
use Rattle.queue_write.proofs.queue_output.Goals as goal
use Rattle.queue_write.proofs.queue_output.Goals.{After-has_room}

pub returns-then-queue-ne-QUEUE : goal.returns-then-queue-ne-QUEUE
returns-then-queue-ne-QUEUE c =
    λ gathered store. let a = c.args in
    ap (λ (w : Queueing). queued_by w gathered store a.waits.now a.marks.now a.queue.now) c.refused.ensures
    ∙ say_unsized a.c gathered store a.waits.now a.marks.now a.queue.now a.id a.output a.bytes.now c.if-queue-ne-QUEUE.true

pub returns-in-Err : goal.returns-in-Err
returns-in-Err c =
    λ gathered store. let a = c.args in
    ap (λ (w : Queueing). queued_by w gathered store a.waits.now a.marks.now a.queue.now) c.refused-in-Err.ensures
    ∙ say_refused a.c gathered store a.waits.now a.marks.now a.queue.now a.id a.output a.bytes.now c.if-queue-ne-QUEUE.false c.in-Err.why c.in-Err.ensures

-- the slot is one of the table
low : (c : After-has_room) (gathered store : List ℕ) → c.in-Ok.slot < SLOTS
low c gathered store =
    let a = c.args in
    (through_at (lent a.c gathered store a.waits.now a.marks.now a.queue.now) a.id c.in-Ok.slot c.in-Ok.ensures.0).low

-- and the code's test of room is that of what waits there
room_is : (c : After-has_room) → (gathered store : List ℕ) → (count_at c.args.waits.now c.in-Ok.slot + length c.args.bytes.now ≤? 1024) ≡ c.has_room.result
room_is c gathered store =
    ap (λ (n : Numbers). n.count + length c.args.bytes.now ≤? 1024) (sym (c.numbers_at.ensures.0 (low c gathered store))) ∙ sym (c.has_room.ensures c.args.bytes.now refl)

pub returns-then-not-has_room : goal.returns-then-not-has_room
returns-then-not-has_room c =
    λ gathered store. let a = c.args in
    ap (λ (w : Queueing). queued_by w gathered store a.waits.now a.marks.now a.queue.now) c.refused-then-not-has_room.ensures
    ∙ say_checked_full a.c gathered store a.waits.now a.marks.now a.queue.now a.id a.output a.bytes.now c.if-queue-ne-QUEUE.false c.in-Ok.slot c.in-Ok.request c.in-Ok.ensures
    (room_is (goal.at.returns-then-not-has_room c).After-has_room gathered store ∙ c.if-not-has_room.true)

pub returns-else-not-has_room : goal.returns-else-not-has_room
returns-else-not-has_room c =
    λ gathered store. let a = c.args in
    let here = (goal.at.returns-else-not-has_room c).After-has_room in
    let room = room_is here gathered store ∙ c.if-not-has_room.false in
    ap (λ (w : Queueing). queued_by w gathered store c.wait_data.new.waits c.wait_data.new.marks c.wait_data.new.queue) c.put_back.ensures
    ∙ say_checked a.c gathered store a.waits.now a.marks.now a.queue.now a.id a.output a.bytes.now c.if-queue-ne-QUEUE.false c.in-Ok.slot c.in-Ok.request c.in-Ok.ensures
    room
    (c.said_on.ensures a.bytes.now refl)
    (λ memory. c.wait_data.ensures memory (low here gathered store) c.if-queue-ne-QUEUE.false (room_for memory a.waits.now a.marks.now a.queue.now _ a.bytes.now room))

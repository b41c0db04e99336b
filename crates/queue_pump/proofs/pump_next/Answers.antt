use Rattle.queue_pump.specs.GoingLaws.{next_found, goes_none, goes_one}
use Rattle.queue_pump.specs.Coming.{next_in, next_below}
use Rattle.queue.specs.Calls.{lent}
use Rattle.wait_numbers.specs.Slot.{slot_of}
use native.Mathlib.Omega.{arith}
use mathlib.Core.Option.{some}
use mathlib.Core.List.{List, []}
use Prim.Native.Nat.{ℕ}
use mathlib.Core.Path.{◌≡◌, sym, ap, ◌∙◌}
use Rattle.queue_pump.proofs.pump_next.Goals as goal

pub serve_slot-one-requires : goal.serve_slot-one-requires
serve_slot-one-requires c =
    let found : (gathered : List ℕ) → slot_of c.next_waiting.result ≡ next_in (lent c.args.t.conn gathered c.args.store.now c.args.waits.now c.args.marks.now c.args.queue.now) =
    λ gathered.
    next_found (lent c.args.t.conn gathered c.args.store.now c.args.waits.now c.args.marks.now c.args.queue.now) c.next_waiting.result c.first_slot.ensures c.next_waiting.ensures in
    let here : (gathered : List ℕ) → next_in (lent c.args.t.conn gathered c.args.store.now c.args.waits.now c.args.marks.now c.args.queue.now) ≡ some c.in-Some.i =
    λ gathered. sym (found gathered) ∙ ap slot_of c.in-Some.is in
    (record { low = next_below (lent c.args.t.conn [] c.args.store.now c.args.waits.now c.args.marks.now c.args.queue.now) c.in-Some.i (here []); room = omega (arith, c.requires.0.room, c.requires.1) }, c.requires.0.able)

pub returns-in-None : goal.returns-in-None
returns-in-None c =
    let found : (gathered : List ℕ) → slot_of c.next_waiting.result ≡ next_in (lent c.args.t.conn gathered c.args.store.now c.args.waits.now c.args.marks.now c.args.queue.now) =
    λ gathered.
    next_found (lent c.args.t.conn gathered c.args.store.now c.args.waits.now c.args.marks.now c.args.queue.now) c.next_waiting.result c.first_slot.ensures c.next_waiting.ensures in
    goes_none c.args.t c.args.store.now c.args.waits.now c.args.marks.now c.args.queue.now c.args.out.now c.requires.0 c.requires.1 (λ gathered. sym (found gathered) ∙ ap slot_of c.in-None.is)

pub returns-in-Some : goal.returns-in-Some
returns-in-Some c =
    let found : (gathered : List ℕ) → slot_of c.next_waiting.result ≡ next_in (lent c.args.t.conn gathered c.args.store.now c.args.waits.now c.args.marks.now c.args.queue.now) =
    λ gathered.
    next_found (lent c.args.t.conn gathered c.args.store.now c.args.waits.now c.args.marks.now c.args.queue.now) c.next_waiting.result c.first_slot.ensures c.next_waiting.ensures in
    let here : (gathered : List ℕ) → next_in (lent c.args.t.conn gathered c.args.store.now c.args.waits.now c.args.marks.now c.args.queue.now) ≡ some c.in-Some.i =
    λ gathered. sym (found gathered) ∙ ap slot_of c.in-Some.is in
    goes_one c.args.t c.args.store.now c.args.waits.now c.args.marks.now c.args.queue.now c.args.out.now c.requires.0 c.requires.1 c.in-Some.i (here) c.serve_slot-one.ensures

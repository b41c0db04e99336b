use mathlib.Core.Path.{◌≡◌, sym, ◌∙◌}
use Rattle.wait_numbers.specs.Slot.{waits_in}
use Rattle.wait_numbers.proofs.SlotLaws.{going_start, going_next, going_found, going_done}
use Rattle.wait_numbers.proofs.FitLaws.{waits_told}
use Rattle.wait_numbers.proofs.next_waiting.Goals as goal

pub loop-left-init : goal.loop-left-init
loop-left-init c = going_start

pub returns-then-is_taken : goal.returns-then-is_taken
returns-then-is_taken c =
    let told : c.is_taken.result ≡ waits_in c.args.waits.now c.loop-left.i =
    waits_told c.args.waits.now c.loop-left.i _ c.some_waits-some.ensures c.is_taken.ensures in
    λ h.
    going_found (c.loop-left.invariant h) c.loop-left-test.true (sym (told) ∙ c.if-is_taken.true)

pub loop-left-preserved : goal.loop-left-preserved
loop-left-preserved c =
    let told : c.is_taken.result ≡ waits_in c.args.waits.now c.loop-left.i =
    waits_told c.args.waits.now c.loop-left.i _ c.some_waits-some.ensures c.is_taken.ensures in
    λ h.
    let g = c.loop-left.invariant h in
    let none = sym (told) ∙ c.if-is_taken.false in
    rw (c.slot_after-i.ensures g.low) (going_next g c.loop-left-test.true none)

pub returns : goal.returns
returns c = λ h. going_done (c.loop-left.invariant h) c.loop-left-test.false

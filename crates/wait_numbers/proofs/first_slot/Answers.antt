use Rattle.wait_numbers.proofs.SlotLaws.{first_low, first_out}
use Rattle.wait_numbers.proofs.first_slot.Goals as goal

pub returns-then-next-lt-SLOTS : goal.returns-then-next-lt-SLOTS
returns-then-next-lt-SLOTS c = first_low _ _ c.widen-next.ensures c.if-next-lt-SLOTS.true

pub returns : goal.returns
returns c = first_out _ _ c.widen-next.ensures c.if-next-lt-SLOTS.false

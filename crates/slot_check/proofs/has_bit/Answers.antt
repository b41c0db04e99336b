use Rattle.slot_check.proofs.TakenLaws.{bit_in}
use Rattle.slot_check.proofs.has_bit.Goals as goal

pub returns : goal.returns
returns c =
    let a = c.args in
    rw c.requires.1 (bit_in a.i a.occupied c.requires.0)

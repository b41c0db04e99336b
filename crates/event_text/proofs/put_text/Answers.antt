use Rattle.std.proofs.Common.{◌+◌, ◌<◌, length, arith}
use Rattle.event_text.proofs.LineLaws.{text_placed, text_unplaced}
use Rattle.event_text.proofs.put_text.Goals as goal
use Rattle.event_text.proofs.put_text.Goals.{then-out-at-via-then-out-at, then-out-at-via-else-out-at+then-out-at-2}

pub returns-then-out-at : goal.returns-then-out-at
returns-then-out-at c =
    let full : length c.args.out.now < c.args.at + length c.args.text.now =
    elim c.then-out-at.branch [ then-out-at-via-then-out-at w ↦ omega arith | then-out-at-via-else-out-at+then-out-at-2 w ↦ omega arith ] in
    text_unplaced c.args.out.now c.args.at c.args.text.now full

pub returns : goal.returns
returns c = text_placed c.args.out.now c.args.at c.args.text.now (omega arith) c.copy_into.ensures

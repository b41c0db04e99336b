use Rattle.connection.proofs.Laws.SlotsLaws.{Sized}
use Rattle.slot_table.proofs.Laws.{put_out}
use borrow.Author.Rules.{rules}
use Rattle.slot_table.proofs.put_request.Goals as goal

pub returns-else-i-lt-SLOTS : goal.returns-else-i-lt-SLOTS
returns-else-i-lt-SLOTS c =
    let a = c.args in
    let sized : Sized a.t = record { ids = search rules; lengths = search rules; standings = search rules; stdin = search rules; «data» = search rules } in
    put_out a.t a.i a.r sized c.if-i-lt-SLOTS.false

use mathlib.Core.Path.{◌≡◌}
use native.Mathlib.Omega.{arith}
use lib.ListN.{length}
use Rattle.connection.specs.declared.answer.Output.{Output}
use Rattle.queue.specs.Calls.{QUEUE}
use Rattle.wait_slot.proofs.SlotLaws.{owed_count, finish_made}
use borrow.Author.Rules.{rules}
use Rattle.wait_slot.proofs.wait_finish.Goals as goal

pub returns-then-i-ge-SLOTS : goal.returns-then-i-ge-SLOTS
returns-then-i-ge-SLOTS c = λ memory queue state h p q. absurd (omega arith)

pub returns : goal.returns
returns c =
    let sized : length c.args.marks.now ≡ QUEUE =
    search rules in
    λ memory queue state h p q.
    let n = owed_count c.args.owes_out c.args.marks.now c.args.i c.numbers_at-n.result Output.Stdout c.end_if-a.result c.end_if-a.new.marks c.end_if-a.ensures in
    let k = owed_count c.args.owes_err c.end_if-a.new.marks c.args.i c.end_if-a.result Output.Stderr c.end_if-b.result c.end_if-b.new.marks c.end_if-b.ensures in
    finish_made memory c.args.waits.now c.args.marks.now queue c.args.i c.numbers_at-n.result c.end_if-a.result c.end_if-b.result c.end_if-a.new.marks c.end_if-b.new.marks state c.args.status c.args.owes_out c.args.owes_err (c.numbers_at-n.ensures.0 h) (sized) h p q c.end_if-a.ensures c.end_if-b.ensures
    (c.put_numbers.ensures h (omega (arith, n, k, c.numbers_at-n.ensures.1)))

use Rattle.plain.proofs.RecordLaws.{pass_nothing, pass_event, pass_bytes, asked_event, asked_byte, asked_close}
use Rattle.plain.proofs.pass.Goals as goal

pub returns-then-left-eq0 : goal.returns-then-left-eq0
returns-then-left-eq0 c = rw c.in-Event.is (asked_event _ _ _ _ _ c.if-left-eq0.true)

pub returns-then-left-x : goal.returns-then-left-x
returns-then-left-x c = rw c.in-Bytes.is (asked_byte _ _ _ _ _ _ c.if-left-x.true)

pub returns-in-Nothing : goal.returns-in-Nothing
returns-in-Nothing c = rw c.in-Nothing.is (pass_nothing _ _ _ _ _ c.next_record.ensures)

pub returns-else-left-eq0 : goal.returns-else-left-eq0
returns-else-left-eq0 c =
    rw c.in-Event.is
    (pass_event _ _ _ _ _ _ c.if-left-eq0.false c.next_record-in-Event.ensures)

pub returns-else-left-x : goal.returns-else-left-x
returns-else-left-x c =
    rw c.in-Bytes.is
    (pass_bytes _ _ _ _ _ _ _ c.if-left-x.false c.next_record-in-Bytes.ensures)

pub returns-in-Close : goal.returns-in-Close
returns-in-Close c = rw c.in-Close.is (asked_close _ _ _ _ _)

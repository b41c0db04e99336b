use mathlib.Core.Path.{sym, ◌∙◌}
use native.Mathlib.Omega.{arith}
use borrow.Author.Tests.{eq-eqb}
use Rattle.record_writer.proofs.StreamLaws.{fits_count, count_room, fits_whole, fits_last}
use Rattle.record_writer.proofs.stream_fits.Goals as goal

pub returns-then-left-whole : goal.returns-then-left-whole
returns-then-left-whole c =
    let a = c.args in
    sym (fits_count a.size a.n a.at a.room c.record_length-whole.result (omega arith) c.record_length-whole.ensures c.if-room-at.false c.if-left-whole.true)

pub returns-then-tail-eq0 : goal.returns-then-tail-eq0
returns-then-tail-eq0 c =
    let a = c.args in
    let room = count_room a.size a.n a.at a.room c.record_length-whole.result (omega arith) c.record_length-whole.ensures c.if-left-whole.false in
    eq-eqb _ _ c.if-tail-eq0.true ∙ sym (fits_whole a.size a.n a.at a.room c.record_length-whole.result (omega arith) c.record_length-whole.ensures c.if-room-at.false room c.if-tail-eq0.true)

pub returns-else-tail-eq0 : goal.returns-else-tail-eq0
returns-else-tail-eq0 c =
    let a = c.args in
    let room = count_room a.size a.n a.at a.room c.record_length-whole.result (omega arith) c.record_length-whole.ensures c.if-left-whole.false in
    fits_last a.size a.n a.at a.room c.record_length-whole.result (omega arith) c.record_length-whole.ensures c.record_length.result c.if-room-at.false room c.if-tail-eq0.false
    c.record_length.ensures

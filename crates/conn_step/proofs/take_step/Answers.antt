use mathlib.Core.Path.{ap, ◌∙◌}
use Rattle.connection.specs.declared.state.Conn.{Conn}
use Rattle.connection.specs.declared.state.Table.{Table}
use Rattle.connection.specs.Shape.{in_shape}
use Rattle.connection.specs.Step.{open_with, closed_conn}
use Rattle.conn_step.proofs.Laws.{opened_is, by_change, settled}
use Rattle.conn_step.specs.Outcome.{stepped_with}
use Rattle.conn_step.proofs.take_step.Goals as goal

pub go_on-o-requires : goal.go_on-o-requires
go_on-o-requires c = (c.requires.0, ap in_shape (opened_is c.args.c c.requires.2) ∙ c.requires.1)

pub returns-in-Keep : goal.returns-in-Keep
returns-in-Keep c =
    let o = c.go_on-o in
    settled c.args.c c.args.gathered.now c.args.store.now c.args.piece.now _ _ c.requires.2 o.ensures
    (by_change o.result c.args.c.table o.new.gathered o.new.store _ c.in-Keep.is)

pub returns-in-Put : goal.returns-in-Put
returns-in-Put c =
    let o = c.go_on-o in
    settled c.args.c c.args.gathered.now c.args.store.now c.args.piece.now _ _ c.requires.2 o.ensures
    (ap (λ (t : Table). stepped_with o.result (open_with t o.result.frame) o.new.gathered o.new.store) c.put_request-t.ensures
    ∙ by_change o.result c.args.c.table o.new.gathered o.new.store _ c.in-Put.is)

pub returns-in-Take : goal.returns-in-Take
returns-in-Take c =
    let o = c.go_on-o in
    settled c.args.c c.args.gathered.now c.args.store.now c.args.piece.now _ _ c.requires.2 o.ensures
    (ap (λ (t : Table). stepped_with o.result (open_with t o.result.frame) o.new.gathered o.new.store) c.take_request-t.ensures
    ∙ by_change o.result c.args.c.table o.new.gathered o.new.store _ c.in-Take.is)

pub returns-in-Close : goal.returns-in-Close
returns-in-Close c =
    let o = c.go_on-o in
    settled c.args.c c.args.gathered.now c.args.store.now c.args.piece.now _ _ c.requires.2 o.ensures
    (ap (λ (k : Conn). stepped_with o.result k o.new.gathered c.clear.new.out) c.closed-none.ensures
    ∙ ap (stepped_with o.result closed_conn o.new.gathered) c.clear.ensures
    ∙ by_change o.result c.args.c.table o.new.gathered o.new.store _ c.in-Close.is)

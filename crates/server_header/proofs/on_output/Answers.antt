use mathlib.Core.Path.{◌≡◌, sym, ap, ◌∙◌}
use mathlib.Core.Bool.{Bool}
use mathlib.Core.List.{List}
use Prim.Native.Nat.{ℕ}
use Rattle.connection.specs.declared.state.Table.{Table}
use Rattle.connection.specs.RequestCalls.{is_ended}
use Rattle.connection.specs.Slots.{request_at}
use Rattle.server.specs.declared.state.Frame.{Frame}
use Rattle.server.specs.Step.{on_output}
use Rattle.server.specs.Decision.{inner_in}
use Rattle.server_header.specs.declared.OutputRow.{OutputRow}
use Rattle.server_header.specs.Rows.{output_row, by_row}
use Rattle.server_header.proofs.RowLaws.{output_rows_lem}
use Rattle.server_header.proofs.on_output.Goals as goal

pub returns-in-TooLate : goal.returns-in-TooLate
returns-in-TooLate c =
    let row-does : (k : OutputRow) (t : Table) (f : Frame) (values : List ℕ) → c.output_row.result ≡ k → is_ended c.args.output (request_at t c.args.i).state ≡ c.args.ended → by_row k (inner_in t f values) c.args.output c.args.n c.args.i ≡ on_output (inner_in t f values) c.args.output c.args.n c.args.i =
    λ k t f values is e.
    let s = inner_in t f values in
    ap (λ (r : OutputRow). by_row r s c.args.output c.args.n c.args.i) (sym is ∙ c.output_row.ensures ∙ ap (λ (b : Bool). output_row b c.args.n) (sym e))
    ∙ output_rows_lem s c.args.output c.args.n c.args.i in
    λ t f values a e. c.closing.ensures t f values ∙ row-does _ t f values c.in-TooLate.is e

pub returns-in-Ends : goal.returns-in-Ends
returns-in-Ends c =
    let row-does : (k : OutputRow) (t : Table) (f : Frame) (values : List ℕ) → c.output_row.result ≡ k → is_ended c.args.output (request_at t c.args.i).state ≡ c.args.ended → by_row k (inner_in t f values) c.args.output c.args.n c.args.i ≡ on_output (inner_in t f values) c.args.output c.args.n c.args.i =
    λ k t f values is e.
    let s = inner_in t f values in
    ap (λ (r : OutputRow). by_row r s c.args.output c.args.n c.args.i) (sym is ∙ c.output_row.ensures ∙ ap (λ (b : Bool). output_row b c.args.n) (sym e))
    ∙ output_rows_lem s c.args.output c.args.n c.args.i in
    λ t f values a e. simp (c.done_with.ensures, ← a) (row-does _ t f values c.in-Ends.is e)

pub returns-in-Shows : goal.returns-in-Shows
returns-in-Shows c =
    let row-does : (k : OutputRow) (t : Table) (f : Frame) (values : List ℕ) → c.output_row.result ≡ k → is_ended c.args.output (request_at t c.args.i).state ≡ c.args.ended → by_row k (inner_in t f values) c.args.output c.args.n c.args.i ≡ on_output (inner_in t f values) c.args.output c.args.n c.args.i =
    λ k t f values is e.
    let s = inner_in t f values in
    ap (λ (r : OutputRow). by_row r s c.args.output c.args.n c.args.i) (sym is ∙ c.output_row.ensures ∙ ap (λ (b : Bool). output_row b c.args.n) (sym e))
    ∙ output_rows_lem s c.args.output c.args.n c.args.i in
    λ t f values a e. simp (c.goes_on.ensures, c.output_target.ensures) (row-does _ t f values c.in-Shows.is e)

-- In a run, the length that ready tells is the length of R's parameters.
use Rattle.std.specs.Prelude.{◌≡◌, List, [], ℕ, ◌≤◌, length}
use Rattle.std.proofs.Common.{ap, sym, ◌∙◌, append-nil, arith, length-take-le}
use Rattle.std.proofs.Math.Option.{some}
use Rattle.connection.specs.Sizes.{AREA}
use Rattle.connection.specs.Event.{Event}
use Rattle.connection.specs.Slots.{request_at, area_at, held_at}
use Rattle.connection.specs.Run.{step_of, request_of, WholeRun, beginning, ending}
use Rattle.connection.proofs.Laws.SlotsLaws.{find_at, area_length}
use Rattle.connection.proofs.Laws.ShapeLaws.{shaped}
use Rattle.connection.proofs.Laws.Readiness.{ready_with}
use Rattle.connection.specs.History.{parameters_after}
use Rattle.connection.proofs.Runs.HistoryRuns.{active_list_is_history}

pub ready_tells_length : (R n : ℕ) (r : WholeRun) (piece : List ℕ) → (step_of (ending r) piece).event ≡ Event.Ready R n → length (parameters_after R (beginning r) r.operations) ≡ n
unfolding request_of request_at
ready_tells_length R n r piece e =
    let m = ending r in
    let t = m.state.conn.table in
    let w = ready_with m.state m.store piece R n e in
    let i = w.slot in
    let low = (find_at t R i w.found).low in
    let active : request_of R m ≡ some (held_at t m.store i) = rw (w.fits.is_open, w.found) in
    let size : length (area_at m.store i) ≡ AREA = area_length m.store i w.fits.size low in
    let within : (request_at t i).length ≤ AREA = (shaped m.state.conn w.fits.shape).table.lengths i low in
    ap length (sym (active_list_is_history R r r.operations [] (held_at t m.store i) (sym (append-nil r.operations)) active))
    ∙ length-take-le (request_at t i).length (area_at m.store i) (omega arith)
    ∙ w.length

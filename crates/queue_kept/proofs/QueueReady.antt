-- In a run with a queue, the length that ready tells is the length of R's list.
use Rattle.std.specs.Prelude.{◌≡◌, List, [], ℕ, ◌≤◌, length}
use Rattle.std.proofs.Common.{ap, sym, ◌∙◌, append-nil, arith, length-take-le}
use Rattle.connection.specs.Sizes.{AREA}
use Rattle.connection.specs.Event.{Event}
use Rattle.connection.specs.Slots.{request_at, area_at}
use Rattle.connection.specs.Step.{Stepped}
use Rattle.connection.specs.Run.{request_of}
use Rattle.connection.proofs.Laws.SlotsLaws.{find_at, area_length}
use Rattle.connection.proofs.Laws.ShapeLaws.{shaped}
use Rattle.connection.proofs.Laws.Readiness.{ready_with}
use Rattle.queue.specs.Calls.{conn_of, queue_step}
use Rattle.queue.specs.Run.{QueueRun, beginning, ending}
use Rattle.queue_link.proofs.Loaded.{queue_step_is}
use Rattle.queue_runs.proofs.Lists.{list_of_r}
use Rattle.queue_history.specs.History.{parameters_after}
use Rattle.queue_history.proofs.HistoryRuns.{list_is_history}
use Rattle.queue_kept.proofs.QueueSpent.{run_fine}

-- A step after any run that tells that R is ready tells the length of what R's area holds up to R's length.
pub ready_tells_length : (R n : ℕ) (r : QueueRun) (piece : List ℕ) → (queue_step (ending r) piece).event ≡ Event.Ready R n → length (list_of_r R (ending r).memory) ≡ n
unfolding request_of request_at
ready_tells_length R n r piece e =
    let m = ending r in
    let t = (conn_of m).table in
    let store = m.memory.store in
    let same = ap (λ (s : Stepped). s.event) (queue_step_is m piece (run_fine r).good.steady) in
    let w = ready_with m.memory.state store piece R n (sym same ∙ e) in
    let i = w.slot in
    let low = (find_at t R i w.found).low in
    let size : length (area_at store i) ≡ AREA = area_length store i w.fits.size low in
    let within : (request_at t i).length ≤ AREA = (shaped (conn_of m) w.fits.shape).table.lengths i low in
    rw (w.fits.is_open, w.found) (length-take-le (request_at t i).length (area_at store i) (omega arith) ∙ w.length)

-- So it is the length of R's parameters by history.
pub ready_tells_parameters : (R n : ℕ) (r : QueueRun) (piece : List ℕ) → (queue_step (ending r) piece).event ≡ Event.Ready R n
    → length (parameters_after R (beginning r) r.operations) ≡ n
ready_tells_parameters R n r piece e =
    ap length (sym (list_is_history R r r.operations [] (sym (append-nil r.operations)))) ∙ ready_tells_length R n r piece e

-- In a run with a queue R's counts are those that are told (`QueueCounts`).
--
-- A step is the one without a queue. No call changes the counts of a request, a queued finish neither, and a turn
-- of the pump leaves R's request as it is, or R goes (`CallsKeep`, `GoingLaws`).
use Rattle.std.specs.Prelude.{◌≡◌, Bool, ℕ, length, if◌then◌else◌}
use Rattle.std.proofs.Math.Path.{refl, ap}
use Rattle.std.proofs.Common.{sym, ◌∙◌, subst, eq-eqb}
use mathlib.Core.List.{List, [], ◌∷◌, ◌++◌}
use Rattle.std.proofs.Math.Option.{Option, none, some}
use Rattle.connection.specs.declared.request.Request.{Request}
use Rattle.connection.specs.declared.request.Shown.{Shown}
use Rattle.connection.specs.declared.answer.Output.{Output}
use Rattle.connection.specs.Sizes.{STORE}
use Rattle.connection.specs.Request.{Held, with_life}
use Rattle.connection.specs.RequestCalls as Of
use Rattle.connection.specs.Step.{started}
use Rattle.connection.specs.Run.{request_of, start_of}
use Rattle.connection.proofs.Runs.Freed.{empty_nowhere}
use Rattle.queue_slot.specs.Finishing.{spent_by}
use Rattle.queue.specs.Calls.{QueueMemory}
use Rattle.queue.specs.Run as D
use Rattle.queue.specs.Run.{QueueOperation, CallFor, CountActive, TurnWith, queue_after, final_queue, PiecesAreBytes, QueueRun, beginning}
use Rattle.queue_link.proofs.Loaded.{queue_step_is}
use Rattle.queue_link.proofs.LinkedRuns.{Fine, piece_ok, op_fine}
use Rattle.queue_theorem.proofs.Theorem.{start_fine}
use Rattle.queue_kept.specs.Going.{goes_with}
use Rattle.queue_kept.proofs.CallsKeep.{fact_of, call_fact, turn_fact}
use Rattle.queue_kept.specs.QueueCounts.{counts_found, counts_of_r, counts_then, counts_from, CountsAreTold}
use Rattle.queue_kept.proofs.CountsStep.{step_told}

-- ---- counts as a fact of a request
-- the counts of a request
abbrev shown_by : Request → Shown
shown_by r = r.state.shown

-- read from a request, they are the counts
counts_fact : (h : Option Held) → fact_of shown_by h ≡ counts_found h
counts_fact none = refl
counts_fact (some h) = refl

-- what a request says does not change them
said_shown : (r : Request) (o : Output) (content : List ℕ) → shown_by (Of.said_on r o content) ≡ shown_by r
unfolding Of.said_on
said_shown r o content = refl

-- an end does not
ended_shown : (r : Request) (o : Output) → shown_by (Of.ended_on r o) ≡ shown_by r
unfolding Of.ended_on
ended_shown r o = refl

-- nor does a queued finish
spent_shown : (r : Request) → shown_by (spent_by r) ≡ shown_by r
unfolding spent_by with_life
spent_shown r = refl

-- the fact after an operation is that before it, or none; so are the counts
as_counts : (b : Bool) (g h : Option Held) → fact_of shown_by g ≡ (if b then none else fact_of shown_by h) → counts_found g ≡ (if b then none else counts_found h)
as_counts b g h e = sym (counts_fact g) ∙ e ∙ ap (λ c. if b then none else c) (counts_fact h)

module _ (R : ℕ) where
  -- ---- operations
  -- Each operation does to R's counts what it tells.
  pub op_counts : (m : QueueMemory) (o : QueueOperation) → Fine m → counts_of_r R (queue_after m o).memory ≡ counts_then R m o (counts_of_r R m.memory)
  unfolding queue_after
  op_counts m (D.StepOver piece) fine = rw (queue_step_is m piece fine.good.steady) (step_told R m.memory piece fine.good.steady.steady.sizes.table)
  op_counts m (CallFor id a) fine =
      as_counts (goes_with R m (CallFor id a)) (request_of R (queue_after m (CallFor id a)).memory) (request_of R m.memory)
      (call_fact shown_by R said_shown ended_shown m id a fine.good.steady.steady.sizes.table (λ h e. spent_shown h.request))
  op_counts m CountActive fine = refl
  op_counts m (TurnWith allowance buffer) fine =
      as_counts (goes_with R m (TurnWith allowance buffer)) (request_of R (queue_after m (TurnWith allowance buffer)).memory) (request_of R m.memory) (turn_fact shown_by R m allowance buffer fine)

  -- So do operations in order, if their pieces are bytes.
  run_counts : (os ps : List QueueOperation) (m : QueueMemory) → PiecesAreBytes (os ++ ps) → Fine m → counts_of_r R (final_queue m os).memory ≡ counts_from R m (counts_of_r R m.memory) os
  unfolding final_queue counts_from
  run_counts [] ps m p fine = refl
  run_counts (o ∷ os) ps m p fine =
      let q = piece_ok o (os ++ ps) p in
      run_counts os ps (queue_after m o) q.1 (op_fine m o fine q.0) ∙ ap (λ c. counts_from R (queue_after m o) c os) (op_counts m o fine)

  -- At a start R is not active.
  start_counts : (r : QueueRun) → counts_of_r R (beginning r).memory ≡ none
  unfolding start_of started request_of
  start_counts r = rw (eq-eqb (length r.store) STORE r.store_size, empty_nowhere R)

-- After any of the first operations of a run, R's counts are those that were told; there are none just where R is
-- not active. So it is just before and just after each call and each turn, and between a queued finish of R and its
-- END, too.
pub counts_told_lem : CountsAreTold
counts_told_lem R r os ps e =
    run_counts R os ps (beginning r) (subst (λ x. PiecesAreBytes x) e r.pieces) (start_fine r) ∙ ap (λ c. counts_from R (beginning r) c os) (start_counts R r)

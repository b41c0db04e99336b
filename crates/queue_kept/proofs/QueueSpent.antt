-- A spent request with a queue stays spent until it goes.
--
-- A request is spent by a fault, by an abort, or by its queued finish. From then on it is spent, faulted or aborted
-- as it was, until its END is written, by a straight finish or by the pump, or the connection closes. A queued finish
-- of a request that is spent already changes nothing of that.
use Rattle.std.proofs.Math.Path.{◌≡◌, refl}
use Rattle.std.proofs.Common.{ap, sym, ◌∙◌, arith}
use Rattle.std.specs.Prelude.{List, [], ◌∷◌, true, false, ℕ}
use Rattle.std.proofs.Math.Option.{Option, none, some}
use Rattle.wire.specs.Test.{by_test}
use Rattle.connection.specs.declared.request.Life.{Life}
use Rattle.connection.specs.declared.request.Request.{Request}
use Rattle.connection.specs.declared.answer.Output.{Output}
use Rattle.connection.specs.Request.{Held, is_spent, with_life}
use Rattle.connection.specs.RequestCalls as Of
use Rattle.connection.specs.Step.{Stepped}
use Rattle.connection.specs.Run as Base
use Rattle.connection.specs.Run.{Memory, request_of, step_of, memory_of, memory_after}
use Rattle.connection.proofs.Laws.SlotsLaws.{Sized}
use Rattle.connection.proofs.Laws.Closing.{is_closing, closes_by_cause}
use Rattle.connection.proofs.Runs.SpentSilent.{active_at}
use Rattle.connection.proofs.Runs.StaysSpent.{StillSpent}
use Rattle.connection.proofs.Runs.StaysSpent as Without
use Rattle.queue_slot.specs.Finishing.{spent_life, spent_by}
use Rattle.queue.specs.Calls.{QueueMemory}
use Rattle.queue.specs.Run as D
use Rattle.queue.specs.Run.{QueueOperation, CallFor, CountActive, TurnWith, queue_after, final_queue, PiecesAreBytes, QueueRun, beginning, ending}
use Rattle.queue_link.proofs.Loaded.{queue_step_is}
use Rattle.queue_link.proofs.LinkedRuns.{Fine, piece_ok, op_fine, run_is}
use Rattle.queue_theorem.proofs.Theorem.{start_fine}
use Rattle.queue_runs.proofs.Closing.{both_ways}
use Rattle.queue_kept.specs.Going.{goes_with}
use Rattle.queue_kept.proofs.CallsKeep.{fact_of, call_fact, turn_fact}

-- None of some operations tells that R goes.
abbrev pub NoneGoes : ℕ → QueueMemory → List QueueOperation → Type 0
NoneGoes R m [] = Unit {0}
NoneGoes R m (o ∷ os) = (goes_with R m o ≡ false) × NoneGoes R (queue_after m o) os

-- ---- a spent request stays spent
-- its life, as a fact of a request
abbrev life_of : Request → Life
life_of r = r.state.life

-- what a request says does not change it
said_life : (r : Request) (o : Output) (content : List ℕ) → life_of (Of.said_on r o content) ≡ life_of r
unfolding Of.said_on
said_life r o content = refl

-- an end does not change it
ended_life : (r : Request) (o : Output) → life_of (Of.ended_on r o) ≡ life_of r
unfolding Of.ended_on
ended_life r o = refl

-- a life that is spent is the same when it is spent once more
spent_again : (l : Life) → is_spent l ≡ true → spent_life l ≡ l
spent_again Life.Live e = both_ways false e refl
spent_again Life.Faulted e = refl
spent_again Life.Aborted e = refl

-- the life after a queued finish
spent_by_life : (r : Request) → life_of (spent_by r) ≡ spent_life (life_of r)
unfolding spent_by with_life
spent_by_life r = refl

module _ (R : ℕ) (h : Held) (spent : is_spent h.request.state.life ≡ true) where
  -- R is active with the life of h
  still : (m : Memory) (o : Option Held) → request_of R m ≡ o → fact_of life_of o ≡ some h.request.state.life → StillSpent R h m
  still m none e f = let z : ◌≡◌ {A = ℕ} 0 1 = cc in absurd (omega arith)
  still m (some n) e f = let l : n.request.state.life ≡ h.request.state.life = cc in record { now = n; active = e; spent = ap is_spent l ∙ spent; same_life = l }

  -- a step that does not close the connection leaves it open
  step_open : (m : Memory) (piece : List ℕ) → m.state.conn.«open» ≡ true → is_closing (step_of m piece).event ≡ false → (step_of m piece).state.conn.«open» ≡ true
  step_open m piece o e =
      by_test (step_of m piece).state.conn.«open» (λ t. t)
      (λ t. let k = closes_by_cause m.state m.store piece o t in both_ways (is_closing (step_of m piece).event) (ap is_closing k.2) e)

  -- a step that does not close the connection leaves R spent
  step_still : (m : Memory) (piece : List ℕ) → Sized m.state.conn.table → request_of R m ≡ some h → is_closing (step_of m piece).event ≡ false → StillSpent R h (memory_of (step_of m piece))
  unfolding memory_after
  step_still m piece sized e f =
      Without.stays_spent R m (Base.StepOver piece) h sized e spent
      (record { is_open = step_open m piece (active_at R m h e).is_open f; unfinished = λ status buffer q n. let z : ◌≡◌ {A = ℕ} 0 1 = cc in absurd (omega arith) })

  -- Whatever operation comes, a spent request stays spent, faulted or aborted as it was, unless the operation tells
  -- that it goes.
  pub stays_spent : (m : QueueMemory) (o : QueueOperation) → Fine m → request_of R m.memory ≡ some h → goes_with R m o ≡ false → StillSpent R h (queue_after m o).memory
  unfolding queue_after
  stays_spent m (D.StepOver piece) fine e g =
      let q = queue_step_is m piece fine.good.steady in
      rw q (step_still m.memory piece fine.good.steady.steady.sizes.table e (ap (λ (s : Stepped). is_closing s.event) (sym q) ∙ g))
  stays_spent m (CallFor id a) fine e g =
      let n = (queue_after m (CallFor id a)).memory in
      let k = call_fact life_of R said_life ended_life m id a fine.good.steady.steady.sizes.table
      (λ x d. let same : x ≡ h = cc (d, e) in spent_by_life x.request ∙ spent_again (life_of x.request) (ap (λ (y : Held). is_spent y.request.state.life) same ∙ spent)) in
      still n (request_of R n) refl (k ∙ rw g (ap (fact_of life_of) e))
  stays_spent m CountActive fine e g = still m.memory (some h) e refl
  stays_spent m (TurnWith allowance buffer) fine e g =
      let n = (queue_after m (TurnWith allowance buffer)).memory in
      still n (request_of R n) refl (turn_fact life_of R m allowance buffer fine ∙ rw g (ap (fact_of life_of) e))

-- what holds of R's life now holds of its life before
again : (R : ℕ) (h : Held) (m : Memory) {m' : Memory} (k : StillSpent R h m') → StillSpent R k.now m → StillSpent R h m
again R h m k n = record { now = n.now; active = n.active; spent = n.spent; same_life = n.same_life ∙ k.same_life }

-- The same for any operations, one after the other.
pub stays_spent_on : (R : ℕ) (os : List QueueOperation) (m : QueueMemory) (h : Held) → Fine m → PiecesAreBytes os → request_of R m.memory ≡ some h → is_spent h.request.state.life ≡ true → NoneGoes R m os
    → StillSpent R h (final_queue m os).memory
unfolding final_queue
stays_spent_on R [] m h fine p e spent g = record { now = h; active = e; spent = spent; same_life = refl }
stays_spent_on R (o ∷ os) m h fine p e spent g =
    let q = piece_ok o os p in
    let k = stays_spent R h spent m o fine e g.0 in
    again R h (final_queue (queue_after m o) os).memory k (stays_spent_on R os (queue_after m o) k.now (op_fine m o fine q.0) q.1 k.active k.spent g.1)

-- Every memory of a run fulfils what the link to the machine asks.
pub run_fine : (r : QueueRun) → Fine (ending r)
run_fine r = (run_is r.operations (beginning r) (start_fine r) r.pieces).fine

-- And so in every run: a request that is spent at some point is spent until it goes.
pub run_stays_spent : (R : ℕ) (r : QueueRun) (os : List QueueOperation) (h : Held) → PiecesAreBytes os → request_of R (ending r).memory ≡ some h → is_spent h.request.state.life ≡ true
    → NoneGoes R (ending r) os → StillSpent R h (final_queue (ending r) os).memory
run_stays_spent R r os h p e spent g = stays_spent_on R os (ending r) h (run_fine r) p e spent g

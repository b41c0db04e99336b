-- A request that goes is found nowhere.
--
-- After an operation that tells that R goes (`Going`), by END of R or by a close, no slot has R's id, R is observed
-- no more, and nothing of R waits.
use Rattle.connection.specs.Slots.{Slot}
use Rattle.std.specs.Prelude.{◌≡◌, refl, [], true, ℕ, Some, None}
use Rattle.std.proofs.Common.{ap, ◌∙◌, arith}
use Rattle.std.proofs.Math.Option.{Option, none, some}
use Rattle.wire.specs.Test.{by_test}
use Rattle.connection.specs.declared.state.Conn.{Conn}
use Rattle.connection.specs.Request.{Held}
use Rattle.connection.specs.Slots.{held_at, find, on_slot}
use Rattle.connection.specs.Run.{Memory, request_of}
use Rattle.connection.proofs.Runs.Freed.{empty_nowhere}
use Rattle.queue.specs.Calls.{QueueMemory, conn_of}
use Rattle.queue.specs.Run.{QueueOperation, queue_after, waits_of, QueueRun, ending}
use Rattle.queue_runs.proofs.Closing.{KeepsNothing, nothing_kept, closed_keeps_nothing}
use Rattle.queue_kept.specs.Going.{goes_with}
use Rattle.queue_kept.specs.QueueCounts.{counts_found}
use Rattle.queue_kept.proofs.CountsRuns.{op_counts}
use Rattle.queue_kept.proofs.QueueSpent.{run_fine}

-- R is nowhere: no slot has its id, it is observed no more, and nothing of it waits.
pub record Nowhere (R : ℕ) (m : QueueMemory) : Type 0 where
  pub unfound : find (conn_of m).table R ≡ None
  pub inactive : request_of R m.memory ≡ none
  pub nothing_waits : waits_of R m ≡ []

-- who has no counts is not there
no_counts : (h : Option Held) → counts_found h ≡ none → h ≡ none
no_counts none e = refl
no_counts (some h) e = let z : ◌≡◌ {A = ℕ} 0 1 = cc in absurd (omega arith)

-- who is not active on an open connection is found in no slot
open_unfound : (R : ℕ) (m : Memory) → m.state.conn.«open» ≡ true → request_of R m ≡ none → find m.state.conn.table R ≡ None
unfolding request_of
open_unfound R m o e = go (find m.state.conn.table R) (rw o at e)
  where
    go : (s : Slot) → on_slot s (λ i. some (held_at m.state.conn.table m.store i)) none ≡ none → s ≡ None
    go None e = refl
    go (Some i) e = let z : ◌≡◌ {A = ℕ} 0 1 = cc in absurd (omega arith)

-- of whom nothing is found, nothing waits
unfound_waits : (R : ℕ) (m : QueueMemory) → find (conn_of m).table R ≡ None → waits_of R m ≡ []
unfolding waits_of
unfound_waits R m f = by_test (conn_of m).«open» (λ o. rw (o, f)) (λ o. rw o)

-- In a memory whose closed connection keeps nothing, who is not active is nowhere.
nowhere : (R : ℕ) (m : QueueMemory) → KeepsNothing m → request_of R m.memory ≡ none → Nowhere R m
nowhere R m k e =
    let f = by_test (conn_of m).«open» (λ o. open_unfound R m.memory o e) (λ o. ap (λ (c : Conn). find c.table R) (k.connection o) ∙ empty_nowhere R) in
    record { unfound = f; inactive = e; nothing_waits = unfound_waits R m f }

-- After any run: an operation that tells that R goes leaves R nowhere.
pub gone_nowhere : (R : ℕ) (r : QueueRun) (o : QueueOperation) → goes_with R (ending r) o ≡ true → Nowhere R (queue_after (ending r) o)
gone_nowhere R r o g =
    let m = ending r in
    nowhere R (queue_after m o) (nothing_kept m o (closed_keeps_nothing r))
    (no_counts (request_of R (queue_after m o).memory) (op_counts R m o (run_fine r) ∙ rw g))

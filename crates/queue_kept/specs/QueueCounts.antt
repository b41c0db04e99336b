-- R's counts in a run with a queue, told by its events, its answers and the records that its turns wrote. Definitions
-- only. `CountsRuns` proves that the counts in R's slot are exactly these.
--
-- R's counts begin with its opening, at 0, and grow by each byte of R that is shown, up to the number that a count
-- stays at; a fault of R sets them to 0, as without a queue (`Counts.count_after`). They are gone with what tells
-- that R goes (`Going`): END of R, by a straight finish or by the pump, or a close. A queued finish of R changes
-- nothing of them: they stay until END.
use Rattle.std.specs.Prelude.{◌≡◌, List, [], ◌∷◌, ◌++◌, map, Bool, false, ℕ, if◌then◌else◌}
use Rattle.std.proofs.Math.Option.{Option, none, some}
use Rattle.wire.specs.Test.{◌=?◌}
use Rattle.record.specs.Names.{STDIN, DATA}
use Rattle.connection.specs.declared.request.Shown.{Shown}
use Rattle.connection.specs.Event.{Event}
use Rattle.connection.specs.Request.{Held, unshown}
use Rattle.connection.specs.Bytewise.{notes}
use Rattle.connection.specs.Run.{Memory, Observed, Heard, request_of}
use Rattle.connection.specs.Counts.{shown_in}
use Rattle.queue.specs.Calls.{QueueMemory, queue_step}
use Rattle.queue.specs.Run.{QueueOperation, StepOver, CallFor, CountActive, TurnWith, used_of, queue_after, final_queue, notes_all, QueueRun, beginning, ending}
use Rattle.queue_kept.specs.Going.{goes_with}

-- ---- the counts in R's slot
-- the counts of the request that was found, if any
abbrev pub counts_found : Option Held → Option Shown
counts_found none = none
counts_found (some h) = some h.request.state.shown

-- R's counts in a memory; none where R is not active
abbrev pub counts_of_r : ℕ → Memory → Option Shown
counts_of_r R m = counts_found (request_of R m)

-- ---- the counts that are told
-- an event that opens R
abbrev pub opens_r : ℕ → Event → Bool
opens_r R Event.None = false
opens_r R (Event.Open id role keep) = id =? R
opens_r R (Event.Ready id n) = false
opens_r R (Event.Data id stream n) = false
opens_r R (Event.End id stream measure) = false
opens_r R (Event.Abort id) = false
opens_r R (Event.Refuse id status) = false
opens_r R (Event.Fault id cause) = false
opens_r R (Event.Query conns reqs mpxs) = false
opens_r R (Event.Unknown kind) = false
opens_r R (Event.Closed cause) = false

-- R's counts, if it has any, changed by what is heard, as without a queue
abbrev pub with_heard : ℕ → List Observed → Option Shown → Option Shown
with_heard R seen none = none
with_heard R seen (some c) = some (record { stdin = shown_in R STDIN c.stdin seen; «data» = shown_in R DATA c.«data» seen })

-- A step, by its event and the bytes that it used: R is opened, or its counts are changed by what is heard.
abbrev pub counts_told : ℕ → Event → List ℕ → Option Shown → Option Shown
counts_told R e x c = if opens_r R e then some unshown else with_heard R (map Heard (notes e x)) c

-- Of the operations only a step changes R's counts.
abbrev pub counts_changed : ℕ → QueueMemory → QueueOperation → Option Shown → Option Shown
counts_changed R m (StepOver piece) c = counts_told R (queue_step m piece).event (used_of m piece) c
counts_changed R m (CallFor id a) c = c
counts_changed R m CountActive c = c
counts_changed R m (TurnWith allowance buffer) c = c

-- One operation: R's counts are gone if it tells that R goes.
abbrev pub counts_then : ℕ → QueueMemory → QueueOperation → Option Shown → Option Shown
counts_then R m o c = if goes_with R m o then none else counts_changed R m o c

-- operations in order
unfoldable pub counts_from : ℕ → QueueMemory → Option Shown → List QueueOperation → Option Shown
counts_from R m c [] = c
counts_from R m c (o ∷ os) = counts_from R (queue_after m o) (counts_then R m o c) os

-- ---- the statements
-- After any of the first operations of a run, R's counts are those that were told; there are none just where R is not
-- active.
abbrev pub CountsAreTold : Type 0
CountsAreTold = (R : ℕ) (r : QueueRun) (os ps : List QueueOperation) → r.operations ≡ os ++ ps → counts_of_r R (final_queue (beginning r) os).memory ≡ counts_from R (beginning r) none os

-- And the counts of an active request are the numbers of its bytes that were shown since it was opened, up to the
-- number that a count stays at, or 0 once it has a fault, as without a queue: they are told by the events of all
-- steps alone.
pub record QueueCounted (R : ℕ) (r : QueueRun) (h : Held) : Type 0 where
  pub stdin : h.request.state.shown.stdin ≡ shown_in R STDIN 0 (map Heard (notes_all (beginning r) r.operations))
  pub «data» : h.request.state.shown.«data» ≡ shown_in R DATA 0 (map Heard (notes_all (beginning r) r.operations))

-- It is so in every run, for every request that is active at its end.
abbrev pub QueueCountsAreShown : Type 0
QueueCountsAreShown = (R : ℕ) (r : QueueRun) (h : Held) → request_of R (ending r).memory ≡ some h → QueueCounted R r h

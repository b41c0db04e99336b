-- What tells that R is active no more, in a run with a queue. Definitions only.
--
-- R goes with END, or with the connection: a straight finish of R that is not refused, END of R among the records
-- that a turn of the pump wrote, and a close, whether a step, a straight finish or a turn tells it. A queued finish
-- of R alone does not tell it: R is active until its END is written.
use Rattle.std.specs.Prelude.{Bool, false, ℕ, if◌then◌else◌}
use Rattle.wire.specs.Test.{◌=?◌}
use Rattle.connection.specs.Arguments.{RepliedWith, Wrote, FinishedWith}
use Rattle.connection.proofs.Laws.Closing.{is_closing}
use Rattle.queue_slot.specs.Atoms.{end_waits}
use Rattle.queue.specs.Calls.{QueueMemory, or, queue_step, Pumped, pump}
use Rattle.queue.specs.Run.{QueueOperation, StepOver, CallFor, CountActive, TurnWith, Answering, Straightly, Queued, queue_called}
use Rattle.queue_history.specs.History.{written_in_turn}

-- An answer to a call for an id: a finish that is not refused, of R, or one that closes the connection.
abbrev pub goes_by : ℕ → ℕ → Answering → Bool
goes_by R id (Straightly (FinishedWith refusal n closed buffer)) = if refusal =? 0 then or closed (id =? R) else false
goes_by R id (Straightly (RepliedWith v)) = false
goes_by R id (Straightly (Wrote refusal n buffer)) = false
goes_by R id (Queued n) = false

-- A turn: it closed the connection, or END of R is among what it wrote (`end_waits` looks for END among atoms).
abbrev pub goes_in : ℕ → Pumped → Bool
goes_in R p = or p.closed (end_waits (written_in_turn R p))

-- any operation
abbrev pub goes_with : ℕ → QueueMemory → QueueOperation → Bool
goes_with R m (StepOver piece) = is_closing (queue_step m piece).event
goes_with R m (CallFor id a) = goes_by R id (queue_called m id a).answer
goes_with R m CountActive = false
goes_with R m (TurnWith allowance buffer) = goes_in R (pump m allowance buffer)

-- R's parameters by the history of a run with a queue: by the bytes that its steps used, the events that they told,
-- the answers of its calls, straight and queued, and the records that its turns wrote. Definitions only.
-- `HistoryRuns` proves that R's area up to R's length holds exactly these.
--
-- As without a queue, R's parameters are the content of R's PARAMS records, as far as it was used since the last
-- event `open` of R and was not skipped. A fault of R, the END of a straight `finish` of R and a close each leave
-- none. Besides, a turn of the pump that wrote END of R, or that closed the connection, leaves none.
--
-- Content is skipped while R takes no PARAMS. R takes them from its opening on, until it is ready, is aborted,
-- faults or is finished, straight or queued, or the connection closes. Between a queued finish of R and its END R
-- takes none, and keeps those that it has.
use Rattle.std.specs.Prelude.{List, [], ◌∷◌, ℕ, take, if◌then◌else◌}
use Rattle.wire.specs.Test.{◌=?◌}
use Rattle.record.specs.Split.{split}
use Rattle.connection.specs.History.{History, no_history, with_bytes, ParamsChange, Keeps, Ends, Drops, changed, change_of, change_by}
use Rattle.queue_slot.specs.Atoms.{Atom, end_waits}
use Rattle.queue.specs.Calls.{QueueMemory, or, queue_step, Pumped, pump}
use Rattle.queue.specs.Run.{Asking, Straight, ToSay, ToEnd, ToFinish, QueueOperation, StepOver, CallFor, CountActive, TurnWith, Answering, Straightly, Queued, queue_called, used_of, queue_after, records_of}

-- ---- answers of calls
-- An answer to a call for an id. A straight call does what it does without a queue. Of the queued ones only a
-- finish of R which is not refused counts: R takes no more.
abbrev pub change_asked : ℕ → ℕ → Asking → Answering → ParamsChange
change_asked R id a (Straightly n) = change_by R id n
change_asked R id (ToFinish status) (Queued n) = if n =? 0 then (if id =? R then Ends else Keeps) else Keeps
change_asked R id (ToSay o content) (Queued n) = Keeps
change_asked R id (ToEnd o) (Queued n) = Keeps
change_asked R id (Straight a) (Queued n) = Keeps

-- ---- turns of the pump
-- what is written of R in the records of a turn
abbrev pub written_in_turn : ℕ → Pumped → List Atom
written_in_turn R p = records_of R (split (take p.written p.buffer)).records

-- A turn that wrote END of R (`end_waits` looks for END among atoms), or that closed the connection, leaves none.
abbrev pub change_turn : ℕ → Pumped → ParamsChange
change_turn R p = if or p.closed (end_waits (written_in_turn R p)) then Drops else Keeps

-- ---- operations
-- One operation, from what the operations before it left. The event of a step comes with the last byte that it used.
abbrev pub history_then : ℕ → QueueMemory → QueueOperation → History → History
history_then R m (StepOver piece) h = changed (change_of R (queue_step m piece).event) (with_bytes R h (used_of m piece))
history_then R m (CallFor id a) h = changed (change_asked R id a (queue_called m id a).answer) h
history_then R m CountActive h = h
history_then R m (TurnWith allowance buffer) h = changed (change_turn R (pump m allowance buffer)) h

-- operations in order
unfoldable pub history_from : ℕ → QueueMemory → History → List QueueOperation → History
history_from R m h [] = h
history_from R m h (o ∷ os) = history_from R (queue_after m o) (history_then R m o h) os

-- R's parameters after operations from a start.
abbrev pub parameters_after : ℕ → QueueMemory → List QueueOperation → List ℕ
parameters_after R start os = (history_from R start no_history os).parameters

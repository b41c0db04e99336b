-- Nobody hogs the wire: the statement.
--
-- Take any run, and any moment of it at which something of R waits. From then on the pump writes fewer than 16 records
-- before the next one of R, whatever is read, said and finished in between and however the turns are cut. (Where the
-- pump writes none of R any more, because the run ends or the connection closes, it writes fewer than 16 in all.)
use Rattle.std.specs.Prelude.{◌≡◌, List, [], ◌∷◌, ◌++◌, ℕ, suc, ◌<◌, if◌then◌else◌}
use Rattle.wire.specs.Test.{◌=?◌}
use Rattle.record.specs.Split.{Record, split}
use Rattle.connection.specs.Sizes.{SLOTS}
use Rattle.queue.specs.Calls.{QueueMemory}
use Rattle.queue.specs.Run.{QueueOperation, StepOver, CallFor, CountActive, TurnWith, queue_after, waits_of, bytes_in, final_queue, QueueRun, beginning}

-- the records that the pump writes in an operation, read from its buffer
unfoldable pub pumped_in : QueueMemory → QueueOperation → List Record
pumped_in m (StepOver piece) = []
pumped_in m (CallFor id a) = []
pumped_in m CountActive = []
pumped_in m (TurnWith allowance buffer) = (split (bytes_in m (TurnWith allowance buffer))).records

-- in operations one after another
unfoldable pub pumped_all : QueueMemory → List QueueOperation → List Record
pumped_all m [] = []
pumped_all m (o ∷ os) = pumped_in m o ++ pumped_all (queue_after m o) os

-- how many records come before the first of R; all of them, if none is R's
unfoldable pub count_before : ℕ → List Record → ℕ
count_before R [] = 0
count_before R (r ∷ rs) = if r.id =? R then 0 else suc (count_before R rs)

-- Served within 16 records.
abbrev pub Fairness : Type 0
Fairness = (R : ℕ) (r : QueueRun) (os ps : List QueueOperation) → r.operations ≡ os ++ ps → (waits_of R (final_queue (beginning r) os) ≡ [] → ⊥)
    → count_before R (pumped_all (final_queue (beginning r) os) ps) < SLOTS

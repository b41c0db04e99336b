-- Steps up to the next event, with what waits in shape.
use Rattle.std.specs.Prelude.{List, ℕ, if◌then◌else◌}
use Rattle.wire.specs.Test.{◌=?◌}
use Rattle.connection.specs.Step.{Stepped, stays}
use Rattle.call_step.specs.Next.{next_event}
use Rattle.queue.specs.Calls.{QueueMemory, queue_step_refusal}

-- as without a queue; only row 9 is wider
unfoldable pub queue_next : QueueMemory → List ℕ → Stepped
queue_next m piece =
    if queue_step_refusal m =? 0 then next_event m.memory.state m.memory.store piece
    else stays (queue_step_refusal m) m.memory.state m.memory.store

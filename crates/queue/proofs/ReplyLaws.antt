-- The calls that only read, with a queue.
use Rattle.std.specs.Prelude.{◌≡◌, ℕ, if◌then◌else◌}
use Rattle.wire.specs.Test.{◌=?◌, by_test}
use Rattle.connection.specs.Arguments.{Question, ValueOf, SourceOf, PairOf, WalkOf, refused_reply}
use Rattle.connection.specs.Run.{replied_to}
use Rattle.queue.specs.Calls.{QueueMemory, conn_of, lent_refusal, queue_value, queue_source, queue_pair, queue_walk}
use Rattle.queue.specs.Run.{queue_reply}

-- Such a call answers as without a queue, or is refused.
pub queue_replied_or_refused : (m : QueueMemory) (id : ℕ) (q : Question)
    → queue_reply m id q ≡ (if lent_refusal m id =? 0 then replied_to (conn_of m) m.memory.store id q else refused_reply (lent_refusal m id) q)
unfolding queue_value queue_source queue_pair queue_walk
queue_replied_or_refused m id (ValueOf name fallback) = by_test (lent_refusal m id =? 0) (λ e. rw e) (λ e. rw e)
queue_replied_or_refused m id (SourceOf name) = by_test (lent_refusal m id =? 0) (λ e. rw e) (λ e. rw e)
queue_replied_or_refused m id (PairOf k) = by_test (lent_refusal m id =? 0) (λ e. rw e) (λ e. rw e)
queue_replied_or_refused m id WalkOf = by_test (lent_refusal m id =? 0) (λ e. rw e) (λ e. rw e)

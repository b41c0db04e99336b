-- A run without a queue as a run with a queue in which nothing is queued: its operations, what is lent, and what is shown.
use Rattle.std.specs.Prelude.{◌≡◌, List, [], ◌∷◌, map}
use Prim.Native.Nat.{ℕ}
use Rattle.std.proofs.Math.ListN.{length}
use Rattle.std.proofs.lemmas.List.{length-replicate}
use Rattle.wire.specs.Buffer.{zeros}
use Rattle.machine.specs.Timeline.{RequestCall, CountCall, Item, ByteItem, CallItem}
use Rattle.connection.specs.Arguments.{Argument}
use Rattle.connection.specs.Run as Base
use Rattle.connection.specs.Run.{Memory, Operation, Observed, Heard, Answered, PiecesOk, WholeRun}
use Rattle.queue.specs.Numbers.{nobody_waits}
use Rattle.queue.specs.Calls.{QUEUE, QueueMemory, beside}
use Rattle.queue.specs.Run as D
use Rattle.queue.specs.Run.{Asking, Straight, QueueOperation, Straightly, QueueResult, Shown, ShownNote, ShownAnswer, PiecesAreBytes, QueueRun}

-- An operation without a queue as one with a queue: a step, a straight call, the active number.
abbrev pub plainly : Operation → QueueOperation
plainly (Base.StepOver piece) = D.StepOver piece
plainly (Base.CallFor id a) = D.CallFor id (Straight a)
plainly Base.CountActive = D.CountActive

-- State and store with a queue beside them in which nothing waits; marks and queue hold whatever they hold.
abbrev pub idle : List ℕ → List ℕ → Memory → QueueMemory
idle marks queue m = beside m nobody_waits marks queue

-- What a call without a queue leaves and answers, with a queue beside it in which nothing waits.
abbrev pub called_idle : List ℕ → List ℕ → Base.CallResult → QueueResult
called_idle marks queue r = record { left = idle marks queue r.memory; answer = Straightly r.answer }

-- An item of a timeline without a queue as one with a queue.
abbrev pub plain_item : Item Argument → Item Asking
plain_item (ByteItem b) = ByteItem b
plain_item (CallItem (RequestCall id a)) = CallItem (RequestCall id (Straight a))
plain_item (CallItem CountCall) = CallItem CountCall

-- What is observed without a queue as what is shown with a queue.
abbrev pub plain_shown : Observed → Shown
plain_shown (Heard n) = ShownNote n
plain_shown (Answered id a answer before after) = ShownAnswer (Straight a) (Straightly answer) before after

-- A queue that is lent and not used: what its bytes and its marks hold, of their sizes.
pub record UnusedQueue : Type 0 where
  pub queue : List ℕ
  pub marks : List ℕ
  pub queue_size : length queue ≡ QUEUE
  pub marks_size : length marks ≡ QUEUE

-- zeros everywhere
abbrev pub zero_queue : UnusedQueue
zero_queue = record { queue = zeros QUEUE; marks = zeros QUEUE; queue_size = length-replicate {A = ℕ} QUEUE 0; marks_size = length-replicate {A = ℕ} QUEUE 0 }

-- The pieces are bytes still.
pub plain_pieces : (os : List Operation) → PiecesOk os → PiecesAreBytes (map plainly os)
plain_pieces [] p = tt
plain_pieces (Base.StepOver piece ∷ os) p = (p.0, plain_pieces os p.1)
plain_pieces (Base.CallFor id a ∷ os) p = plain_pieces os p
plain_pieces (Base.CountActive ∷ os) p = plain_pieces os p

-- A run without a queue as a run with one: the same operations, and the queue is not used.
abbrev pub without_queue : UnusedQueue → WholeRun → QueueRun
without_queue u r =
    record {
      gathered = r.gathered;
      store = r.store;
      queue = u.queue;
      marks = u.marks;
      operations = map plainly r.operations;
      gathered_size = r.gathered_size;
      store_size = r.store_size;
      queue_size = u.queue_size;
      marks_size = u.marks_size;
      pieces = plain_pieces r.operations r.pieces;
    }

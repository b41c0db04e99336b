-- Nothing that R says is lost, and nothing comes twice: the statement.
--
-- What R says in a run is what its calls were asked to say that are not refused, in their order, straight or queued:
-- a say its data, an end the end of its stream, a finish the ends that are owed and END. It is told from what was asked
-- and the refusal's number; what the calls wrote is not looked at. In any run that ends open, that is what was written
-- of R, and then what still waits.
use Rattle.std.specs.Prelude.{◌≡◌, true, List, [], ◌∷◌, ◌++◌, map, ℕ, if◌then◌else◌}
use Rattle.std.proofs.Math.Option.{Option, none, some}
use Rattle.wire.specs.Test.{◌=?◌}
use Rattle.connection.specs.Request.{Held}
use Rattle.connection.specs.Arguments.{Argument, ForRead, ForSay, ForEnd, ForFinish, RepliedWith, Wrote, FinishedWith}
use Rattle.connection.specs.Run.{request_of}
use Rattle.queue_slot.specs.Atoms.{Atom, ByteOn, EndOf}
use Rattle.queue_slot.specs.Finishing.{last_words}
use Rattle.queue.specs.Calls.{QueueMemory, conn_of}
use Rattle.queue.specs.Run.{Asking, Straight, ToSay, ToEnd, ToFinish, Answering, Straightly, Queued, QueueOperation, StepOver, CallFor, CountActive, TurnWith, queue_called, queue_after, waits_of, QueueRun, beginning, ending, written}

-- what a finish of R's request says: the ends that it owes, and END
abbrev pub last_of : Option Held → ℕ → List Atom
last_of none status = []
last_of (some h) status = last_words h.request.state status

-- What a straight call is asked to say, with R's request before it. A call that reads says nothing.
abbrev pub straight_asks : Argument → Option Held → List Atom
straight_asks (ForRead q) v = []
straight_asks (ForSay o content buffer) v = map (ByteOn o) content
straight_asks (ForEnd o buffer) v = EndOf o ∷ []
straight_asks (ForFinish status buffer) v = last_of v status

-- what a call is asked to say, straight or queued: one and the same
abbrev pub asks_to_say : Asking → Option Held → List Atom
asks_to_say (Straight a) v = straight_asks a v
asks_to_say (ToSay o content) v = map (ByteOn o) content
asks_to_say (ToEnd o) v = EndOf o ∷ []
asks_to_say (ToFinish status) v = last_of v status

-- the number of the refusal in an answer, 0 for none; that of a call that reads is not asked
abbrev pub refusal_in : Answering → ℕ
refusal_in (Straightly (Wrote n written buffer)) = n
refusal_in (Straightly (FinishedWith n written closed buffer)) = n
refusal_in (Straightly (RepliedWith r)) = 0
refusal_in (Queued n) = n

-- what a call says: what it is asked to say, unless it is refused
abbrev pub said_by : Asking → Answering → Option Held → List Atom
said_by a n v = if refusal_in n =? 0 then asks_to_say a v else []

-- what an operation says of R
unfoldable pub said_in : ℕ → QueueMemory → QueueOperation → List Atom
said_in R m (StepOver piece) = []
said_in R m (CallFor id a) = if id =? R then said_by a (queue_called m id a).answer (request_of R m.memory) else []
said_in R m CountActive = []
said_in R m (TurnWith allowance buffer) = []

-- all that is said of R on the way, in order
unfoldable pub said_all : ℕ → QueueMemory → List QueueOperation → List Atom
said_all R m [] = []
said_all R m (o ∷ os) = said_in R m o ++ said_all R (queue_after m o) os

-- all that R says in a run
abbrev pub said : ℕ → QueueRun → List Atom
said R r = said_all R (beginning r) r.operations

-- Nothing lost, nothing twice, one order.
abbrev pub NothingLost : Type 0
NothingLost = (R : ℕ) (r : QueueRun) → (conn_of (ending r)).«open» ≡ true → said R r ≡ written R r ++ waits_of R (ending r)

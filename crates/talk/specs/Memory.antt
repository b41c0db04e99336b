-- A talk, read as what the definitions of the calls with a queue speak of.
use Rattle.std.specs.Prelude.{ℕ, List, Result, ⊤}
use Rattle.connection.specs.declared.answer.Refusal.{Refusal}
use Rattle.queue.specs.Answer.{queued_by}
use Rattle.queue.specs.Calls.{QueueMemory, Queueing, lent}
use Rattle.talk.specs.declared.queued.QueuedConn.{QueuedConn}
use Rattle.talk.specs.declared.Talk.{Talk}

-- a connection whose output waits, with the gathered bytes and the store beside it
abbrev pub memory_of : QueuedConn → List ℕ → List ℕ → QueueMemory
memory_of q gathered store = lent q.conn gathered store q.waits q.marks q.queue

-- all of a talk but the room for what is written
abbrev pub memory_of_talk : Talk → QueueMemory
memory_of_talk t = memory_of t.queued t.gathered t.store

-- a call by which something comes to wait: what it answered, and the connection as it left it
abbrev pub left_by : Result ⊤ Refusal → QueuedConn → List ℕ → List ℕ → Queueing
left_by result q gathered store = queued_by (record { result = result; conn = q.conn }) gathered store q.waits q.marks q.queue

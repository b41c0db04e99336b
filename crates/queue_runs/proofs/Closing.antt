-- What a closed connection with a queue keeps: nothing.
--
-- It is the one closed connection, without requests, its store is all zero, and nothing waits. Each single operation
-- keeps that, from every memory, and so it holds in every run.
use Rattle.std.specs.Prelude.{◌≡◌, refl, List, [], ◌∷◌, Bool, true, false, ◌⊎◌, ℕ, length, eqb}
use Rattle.std.proofs.Common.{ap, sym, ◌∙◌, inl, inr, arith, eq-eqb, eqb-true}
use Rattle.std.proofs.lemmas.List.{length-replicate}
use Rattle.std.proofs.lemmas.Bool.{eqb-false}
use Rattle.wire.specs.Test.{by_test}
use Rattle.wire.specs.Buffer.{zeros}
use Rattle.connection.specs.declared.request.Request.{Request}
use Rattle.connection.specs.declared.state.Conn.{Conn}
use Rattle.connection.specs.Sizes.{STORE}
use Rattle.connection.specs.Slots.{request_at}
use Rattle.connection.specs.Step.{closed_conn, started}
use Rattle.connection.specs.Calls as C
use Rattle.connection.specs.Arguments.{Argument, ForFinish}
use Rattle.connection.specs.Run.{Memory, called, step_of, memory_of, start_of}
use Rattle.connection.proofs.Laws.Closing.{closes_by_cause, closing_frees}
use Rattle.connection.proofs.Runs.Freed.{Kept, Shut, finish_done, finish_refused}
use Rattle.connection.proofs.Runs.CallEnds as Base
use Rattle.connection.proofs.Runs.CallEnds.{call_closes}
use Rattle.queue_slot.specs.Wait.{Wait, anything}
use Rattle.queue.specs.Numbers.{nobody_waits, kept_waits}
use Rattle.queue.specs.Calls.{QueueMemory, conn_of, wait_at, put_wait, with_conn, put_both, skipping, served_last, released_slot, pump_slot, PumpedRecord, slot_waits}
use Rattle.queue.specs.Run.{QueueOperation, with_memory, queue_after, final_queue, QueueRun, beginning, ending}
use Rattle.queue_link.proofs.Loaded.{nobody_at}
use Rattle.queue_runs.proofs.Changes.{Change, Keeps, Steps, Writes, Waits, Retires, Turns, change, Serving, Goes, Ends, serving, turn_keeps}

-- ---- a closed connection keeps nothing
pub record KeepsNothing (m : QueueMemory) : Type 0 where
  pub connection : (conn_of m).«open» ≡ false → conn_of m ≡ closed_conn
  pub store : (conn_of m).«open» ≡ false → m.memory.store ≡ zeros (length m.memory.store)
  pub waits : (conn_of m).«open» ≡ false → m.waits ≡ nobody_waits

-- no test has both outcomes
pub both_ways : {A : Type 0} (b : Bool) → b ≡ true → b ≡ false → A
both_ways b t f = let z : ◌≡◌ {A = ℕ} 0 1 = cc in absurd (omega arith)

still_open : (m : QueueMemory) → (conn_of m).«open» ≡ true → KeepsNothing m
still_open m e = record { connection = λ c. both_ways (conn_of m).«open» e c; store = λ c. both_ways (conn_of m).«open» e c; waits = λ c. both_ways (conn_of m).«open» e c }

-- nothing waits where an open connection is closed
closed_waits : (a b : Bool) (w : List ℕ) → a ≡ true → b ≡ false → kept_waits a b w ≡ nobody_waits
closed_waits true false w x y = refl
closed_waits true true w x y = both_ways true refl y
closed_waits false b w x y = both_ways false x refl

zeros_again : (n : ℕ) (s : List ℕ) → s ≡ zeros n → s ≡ zeros (length s)
zeros_again n s e = e ∙ ap zeros (sym (length-replicate n 0) ∙ ap length (sym e))

-- a step, and a straight call
nothing_step : (m : QueueMemory) (piece : List ℕ) → (conn_of m).«open» ≡ true → KeepsNothing (with_memory m (memory_of (step_of m.memory piece)))
nothing_step m piece o =
    let st = m.memory.state in
    let s = m.memory.store in
    record {
      connection = λ e. let k = closes_by_cause st s piece o e in (closing_frees st s piece k.0 k.2).0;
      store = λ e. let k = closes_by_cause st s piece o e in zeros_again (length s) (step_of m.memory piece).store (closing_frees st s piece k.0 k.2).1;
      waits = λ e. closed_waits (conn_of m).«open» (step_of m.memory piece).state.conn.«open» m.waits o e;
    }

-- what a finish leaves closed keeps nothing
record ShutBy (m : Memory) (n : Memory) : Type 0 where
  connection : n.state.conn ≡ closed_conn
  store : n.store ≡ zeros (length m.store)

finish_shuts : (m : Memory) (id status : ℕ) (buffer : List ℕ) → m.state.conn.«open» ≡ true → (called m id (ForFinish status buffer)).memory.state.conn.«open» ≡ false
    → ShutBy m (called m id (ForFinish status buffer)).memory
unfolding called C.released
finish_shuts m id status buffer o e =
    by_test (eqb w.refusal 0) (λ t. done (finish_done m.state.conn m.store id status buffer (eqb-true w.refusal 0 t)).way)
    (λ t. both_ways m.state.conn.«open» o (ap (λ (c : Conn). c.«open») (sym (finish_refused m.state.conn m.store id status buffer (eqb-false w.refusal 0 t)).0) ∙ e))
  where
    w : C.Finished
    w = C.finish m.state.conn m.store id status buffer

    done : {i : ℕ} → Kept m.state.conn m.store i w ⊎ Shut m.store w → ShutBy m (called m id (ForFinish status buffer)).memory
    done (inl k) = both_ways m.state.conn.«open» o (ap (λ (c : Conn). c.«open») (sym k.conn) ∙ e)
    done (inr k) = record { connection = k.conn; store = k.store_after_lem }

call_shuts : (m : Memory) (id : ℕ) (a : Argument) → m.state.conn.«open» ≡ true → (called m id a).memory.state.conn.«open» ≡ false → ShutBy m (called m id a).memory
call_shuts m id a o e = go (call_closes m id a o e) e
  where
    go : {b : Argument} → Base.ClosesBy m id b → (called m id b).memory.state.conn.«open» ≡ false → ShutBy m (called m id b).memory
    go (Base.ClosesBy.FinishedWithoutKeep status buffer k) e = finish_shuts m id status buffer o e

nothing_call : (m : QueueMemory) (id : ℕ) (a : Argument) → (conn_of m).«open» ≡ true → KeepsNothing (with_memory m (called m.memory id a).memory)
nothing_call m id a o = record {
  connection = λ e. (call_shuts m.memory id a o e).connection;
  store = λ e. zeros_again (length m.memory.store) (called m.memory id a).memory.store (call_shuts m.memory id a o e).store;
  waits = λ e. closed_waits (conn_of m).«open» (called m.memory id a).memory.state.conn.«open» m.waits o e;
}

-- Whoever waits is on an open connection.
pub waits_open : (m : QueueMemory) (i : ℕ) → KeepsNothing m → slot_waits m i ≡ true → (conn_of m).«open» ≡ true
waits_open m i k w = by_test (conn_of m).«open» (λ o. o) (λ o. both_ways (anything (wait_at m i)) w (nobody_at m i (k.waits o)))

-- A record of the pump keeps it.
pub nothing_record : (m : QueueMemory) (i : ℕ) (p : PumpedRecord) → (conn_of m).«open» ≡ true → Serving m i p → KeepsNothing p.left
unfolding C.released
nothing_record m i p o (Goes e) = still_open p.left (ap (λ (x : Memory). x.state.conn.«open») e ∙ o)
nothing_record m i p o (Ends status) = go (request_at (conn_of m).table i).state.keep
  where
    go : (b : Bool) → KeepsNothing (released_slot (served_last m i) i b)
    go true = still_open (released_slot (served_last m i) i true) o
    go false = record { connection = λ c. refl; store = λ c. zeros_again (length m.memory.store) (zeros (length m.memory.store)) refl; waits = λ c. refl }

-- A request put back leaves the connection open, or closed, as it was.
pub put_open : (m : QueueMemory) (i : ℕ) (r : Request) (w : Wait) → (conn_of (put_both m i r w)).«open» ≡ (conn_of m).«open»
unfolding put_wait
put_open m i r w = refl

nothing_change : (m n : QueueMemory) (o : QueueOperation) → KeepsNothing m → Change m o n → KeepsNothing n
nothing_change m n o k Keeps = k
nothing_change m n o k (Steps piece e) = nothing_step m piece e
nothing_change m n o k (Writes id a e) = nothing_call m id a e
nothing_change m n o k (Waits id i a e found r w same) = still_open (put_both m i r w) (put_open m i r w ∙ e)
nothing_change m n o k (Retires id i a e found r w same) =
    let l = with_conn m (skipping (conn_of m) i) in
    still_open (put_both l i r w) (put_open l i r w ∙ e)
nothing_change m n o k (Turns allowance buffer) = turn_keeps KeepsNothing (λ q i low w c. nothing_record q i (pump_slot q i) (waits_open q i c w) (serving q i)) allowance m k

-- Each operation keeps it, from every memory.
pub nothing_kept : (m : QueueMemory) (o : QueueOperation) → KeepsNothing m → KeepsNothing (queue_after m o)
nothing_kept m o k = nothing_change m (queue_after m o) o k (change m o)

nothing_run : (os : List QueueOperation) (m : QueueMemory) → KeepsNothing m → KeepsNothing (final_queue m os)
unfolding final_queue
nothing_run [] m k = k
nothing_run (o ∷ os) m k = nothing_run os (queue_after m o) (nothing_kept m o k)

start_open : (r : QueueRun) → (conn_of (beginning r)).«open» ≡ true
unfolding start_of started
start_open r = rw (eq-eqb (length r.store) STORE r.store_size)

-- A closed connection of a run keeps nothing, and nothing waits on it.
pub closed_keeps_nothing : (r : QueueRun) → KeepsNothing (ending r)
closed_keeps_nothing r = nothing_run r.operations (beginning r) (still_open (beginning r) (start_open r))

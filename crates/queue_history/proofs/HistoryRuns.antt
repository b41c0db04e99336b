-- With a queue, too, R's area up to R's length holds exactly R's parameters by history, after any operations of a
-- run.
--
-- A step is the one without a queue. A record of the pump that is END leaves of state and store what a straight
-- finish leaves whose buffer is just long enough, and other records leave them as they are. That END of R was
-- written is read from the bytes of a turn.
use Rattle.std.specs.Prelude.{◌≡◌, Bool, not, length, get_or, if◌then◌else◌, Some}
use Rattle.std.proofs.Math.Path.{refl, ap, ap₂, subst}
use Rattle.std.proofs.Common.{sym, ◌∙◌, arith, eq-eqb, le-ltb}
use mathlib.Core.List.{List, [], ◌∷◌, ◌++◌, flatten, append-nil}
use Rattle.std.proofs.Math.Option.{Option, none, some}
use Rattle.std.proofs.Math.Bool.{true, false}
use Prim.Native.Nat.{ℕ, zero, suc, ◌<◌}
use Rattle.std.proofs.Math.Dec.{eqb}
use Rattle.wire.specs.Test.{by_test}
use Rattle.record.specs.Names.{END_REQUEST, REQUEST_COMPLETE}
use Rattle.record.specs.Body.{end_body_bytes}
use Rattle.record.proofs.BodyLaws.{end_length}
use Rattle.record_writer.specs.Written.{record_bytes}
use Rattle.machine.specs.Machine.{request_in}
use Rattle.machine_queue.specs.Pump.{next_waiting}
use Rattle.machine_queue.proofs.Pumping.{waiting_below}
use Rattle.connection.specs.declared.request.Request.{Request}
use Rattle.connection.specs.Sizes.{SLOTS}
use Rattle.connection.specs.Codes.{output_type}
use Rattle.connection.specs.Slots.{request_at, find}
use Rattle.connection.specs.RequestCalls as Of
use Rattle.connection.specs.Request.{Held, list_of}
use Rattle.connection.specs.Calls as C
use Rattle.connection.specs.Arguments.{ForFinish}
use Rattle.connection.specs.Run as Base
use Rattle.connection.specs.Run.{Memory, CallResult, memory_after, finished_by}
use Rattle.connection.specs.History.{History, no_history, Keeps, Drops, changed, change_by, list_found, ParamsChange}
use Rattle.connection.proofs.Runs.HistoryTarget.{list_in}
use Rattle.connection.proofs.Runs.HistoryScan.{Agrees}
use Rattle.connection.proofs.Runs.HistoryRuns.{Holds, holds_step, holds_call, holds_start}
use Rattle.connection.proofs.Runs.LinkingStep.{closed_loaded}
use Rattle.connection.proofs.Runs.LinkingCalls.{result_at}
use Rattle.connection.proofs.Runs.LinkingRuns.{request_loaded}
use Rattle.queue_slot.specs.Atoms.{end_waits, atoms_of}
use Rattle.queue_slot.specs.Wait.{Served, ServesNothing, ServesEnd, ServesData, ServesLast, served}
use Rattle.queue_slot.proofs.ServeLaws.{ServedWell, served_well}
use Rattle.queue.specs.Calls as T
use Rattle.queue.specs.Calls.{QueueMemory, conn_of, wait_at, put_wait, or, served_last, released_slot, write_served, pump_slot, slot_waits, first_slot, on_some, turned, pump_refusal, pump}
use Rattle.queue.specs.Run.{QueueOperation, StepOver, CallFor, CountActive, TurnWith, queue_after, bytes_in, PiecesAreBytes, QueueRun, beginning, final_queue}
use Rattle.queue.specs.Numbers.{NEXT}
use Rattle.queue_link.proofs.LoadedCalls as L
use Rattle.queue_link.proofs.LoadedTurn.{waits_open, waits_found_lem, waiting_is, first_below}
use Rattle.queue_link.proofs.LinkedRuns.{Fine, PieceOk, piece_ok, op_fine, pump_done, pump_refused_lem}
use Rattle.queue_link.proofs.LinkedWritten.{read_of, if_own, records_none}
use Rattle.queue_link.proofs.LinkedWrites.{found_below, slot_fine, pumps, turn_bytes, no_turn_bytes}
use Rattle.queue_link.proofs.Loaded.{queue_step_is}
use Rattle.queue_theorem.proofs.Theorem.{start_fine}
use Rattle.queue_runs.proofs.Closing.{both_ways}
use Rattle.queue_runs.proofs.Lists.{list_of_r}
use Rattle.queue_history.specs.History.{change_turn, history_then, history_from, parameters_after}
use Rattle.queue_history.proofs.HistoryCalls.{result_found, call_holds}
use Rattle.queue_history.proofs.TurnEnds.{end_either, closed_turn, stream_read, end_read}

-- R has none, and takes none; or nothing changes
abbrev drops_if : Bool → ParamsChange
drops_if b = if b then Drops else Keeps

-- First some records, which leave the connection open or not and have END of R or not, then some more.
then_drops : (open-first first open_more more : Bool) (h : History) → (open-first ≡ false → open_more ≡ false)
    → changed (drops_if (or (not open_more) more)) (changed (drops_if (or (not open-first) first)) h) ≡ changed (drops_if (or (not open_more) (or first more))) h
then_drops true true true true h f = refl
then_drops true true true false h f = refl
then_drops true false true d h f = refl
then_drops true true false d h f = refl
then_drops true false false d h f = refl
then_drops false b false d h f = refl
then_drops false b true d h f = both_ways true refl (f refl)

-- A finish into a buffer that is just long enough is not refused for want of room.
finish_fits : (r : Request) (status : ℕ) → (Of.finish_in r status (Of.finish_bytes r status)).refusal ≡ 0
unfolding Of.finish_in Of.writes
finish_fits r status = let n = length (Of.finish_bytes r status) in rw (le-ltb n n (omega arith))

module _ (R : ℕ) where
  -- ---- END in a turn
  -- A straight finish that is not refused gives the slot back or closes the connection, as END in a turn does.
  finish_way : (m : QueueMemory) (id i : ℕ) (keep : Bool) (w : Of.Writing) (h : History) → w.refusal ≡ 0
      → Holds R (finished_by m.memory (C.finishes (conn_of m) m.memory.store i keep w)).memory
      (changed (change_by R id (finished_by m.memory (C.finishes (conn_of m) m.memory.store i keep w)).answer) h)
      → Holds R (released_slot (served_last m i) i keep).memory (changed (drops_if (or (not keep) (eqb id R))) h)
  unfolding C.finishes
  finish_way m id i true w h e k = rw (eq-eqb w.refusal 0 e) at k
  finish_way m id i false w h e k = rw (eq-eqb w.refusal 0 e) at k

  -- So END of the request in slot i leaves none of R's if it is R's, or if the connection closes.
  released_holds : (m : QueueMemory) (id i : ℕ) (h : History) → (conn_of m).«open» ≡ true → find (conn_of m).table id ≡ Some i → Holds R m.memory h
      → Holds R (released_slot (served_last m i) i (request_at (conn_of m).table i).state.keep).memory (changed (drops_if (or (not (request_at (conn_of m).table i).state.keep) (eqb id R))) h)
  unfolding memory_after result_at
  released_holds m id i h o f k =
      let r = request_at (conn_of m).table i in
      let a = ForFinish 0 (Of.finish_bytes r 0) in
      finish_way m id i r.state.keep (Of.finish_in r 0 (Of.finish_bytes r 0)) h (finish_fits r 0)
      (subst (λ (x : CallResult). Holds R x.memory (changed (change_by R id x.answer) h)) (result_found m.memory id i a k.steady o f) (holds_call R m.memory id a h k))

  -- It holds once these bytes are written and n is left: R has none where END of R is among them or n is closed.
  abbrev HoldsWritten : QueueMemory → List ℕ → History → Type 0
  HoldsWritten n bytes h = Holds R n.memory (changed (drops_if (or (not (conn_of n).«open») (end_waits (read_of R bytes)))) h)

  -- the same, with what the two tests come to
  holds_as : (n : QueueMemory) (bytes : List ℕ) (h : History) (o e : Bool) → (conn_of n).«open» ≡ o → end_waits (read_of R bytes) ≡ e → Holds R n.memory (changed (drops_if (or (not o) e)) h)
      → HoldsWritten n bytes h
  holds_as n bytes h o e p q k = subst (λ d. Holds R n.memory (changed (drops_if d) h)) (sym (ap₂ (λ (a b : Bool). or (not a) b) p q)) k

  -- A closed connection has none.
  holds_closed : (m : Memory) (h : History) → m.state.conn.«open» ≡ false → Holds R m h → Holds R m (changed Drops h)
  unfolding request_in
  holds_closed m h o k = record {
    steady = k.steady;
    shape = k.shape;
    agrees = subst (λ s. Agrees R s h.place false) (sym (closed_loaded m o)) refl;
    list = ap (list_in R) (closed_loaded m o);
  }

  -- Nothing is written.
  none_holds : (m : QueueMemory) (h : History) → Holds R m.memory h → HoldsWritten m [] h
  unfolding end_waits
  none_holds m h k =
      by_test (conn_of m).«open» (λ o. holds_as m [] h true false o (ap end_waits (records_none R)) k) (λ o. holds_as m [] h false false o (ap end_waits (records_none R)) (holds_closed m.memory h o k))

  module _ (m : QueueMemory) (fine : Fine m) (o : (conn_of m).«open» ≡ true) (id i : ℕ) (f : find (conn_of m).table id ≡ Some i) (h : History) (k : Holds R m.memory h) where
    -- the request that is served, whose id is a number of two bytes
    abbrev request : Request
    request = request_at (conn_of m).table i

    request_id : request.id ≡ id
    request_id = L.own_id m fine.good.steady fine.good.roomy o id i f

    small : id < 65536
    small = found_below R m fine id i o f

    -- END, as it is read from its bytes
    last_holds : (status : ℕ) → HoldsWritten (released_slot (served_last m i) i request.state.keep) (record_bytes END_REQUEST id (end_body_bytes status REQUEST_COMPLETE)) h
    unfolding C.released
    last_holds status = go request.state.keep (released_holds m id i h o f k)
      where
        read : end_waits (read_of R (record_bytes END_REQUEST id (end_body_bytes status REQUEST_COMPLETE))) ≡ eqb id R
        read = end_read R id (end_body_bytes status REQUEST_COMPLETE) small (omega (arith, end_length status REQUEST_COMPLETE))

        go : (keep : Bool) → Holds R (released_slot (served_last m i) i keep).memory (changed (drops_if (or (not keep) (eqb id R))) h)
            → HoldsWritten (released_slot (served_last m i) i keep) (record_bytes END_REQUEST id (end_body_bytes status REQUEST_COMPLETE)) h
        go true x = holds_as (released_slot (served_last m i) i true) (record_bytes END_REQUEST id (end_body_bytes status REQUEST_COMPLETE)) h true (eqb id R) o read x
        go false x = x

    -- What is next, whatever it is.
    served_holds : (s : Served) → ServedWell (wait_at m i) s → HoldsWritten (write_served (served_last m i) i request s).left (write_served (served_last m i) i request s).bytes h
    unfolding write_served put_wait
    served_holds ServesNothing w = none_holds (served_last m i) h k
    served_holds (ServesEnd p v) w = rw request_id (holds_as (put_wait (served_last m i) i v) (record_bytes (output_type p) id []) h true false o (stream_read R p id [] small (omega arith)) k)
    served_holds (ServesData p x v) w =
        rw request_id (holds_as (put_wait (served_last m i) i v) (record_bytes (output_type p) id x) h true false o (stream_read R p id x small (omega (arith, w.4))) k)
    served_holds (ServesLast status) w = rw request_id (last_holds status)

    -- A record of the pump.
    record_holds : HoldsWritten (pump_slot m i).left (pump_slot m i).bytes h
    unfolding pump_slot
    record_holds = served_holds (served (wait_at m i)) (served_well (wait_at m i) (fine.good.steady.sized i (L.holds m fine.good.steady fine.good.roomy o id i f).low))

  -- ---- a turn of the pump
  -- it holds once the records of a turn are written
  abbrev HoldsTurned : T.Turned → History → Type 0
  HoldsTurned t h = HoldsWritten t.left (flatten t.records) h

  -- A turn, record by record.
  turn_holds : (k : ℕ) (m : QueueMemory) (h : History) → Fine m → Holds R m.memory h → HoldsTurned (turned k m) h
  unfolding turned flatten
  turn_holds zero m h fine hold = none_holds m h hold
  turn_holds (suc k) m h fine hold = go (next_waiting SLOTS SLOTS (slot_waits m) (first_slot (get_or m.waits NEXT 0))) refl (λ n g w x. turn_holds k n g w x)
    where
      after : Option ℕ → T.Turned
      after o = on_some o (λ i. let q = pump_slot m i in let t = turned k q.left in record { records = q.bytes ∷ t.records; left = t.left }) (record { records = []; left = m })

      more : (i : ℕ) → i < SLOTS → slot_waits m i ≡ true → ((n : QueueMemory) (g : History) → Fine n → Holds R n.memory g → HoldsTurned (turned k n) g) → HoldsTurned (after (some i)) h
      more i low w again =
          let o = waits_open m i fine.good.steady w in
          let id = get_or (conn_of m).table.ids i 0 in
          let f = waits_found_lem m i fine.good.steady low o w in
          let p = pump_slot m i in
          let t = turned k p.left in
          let x = p.bytes in
          let y = flatten t.records in
          let piece = (pumps R m fine o id i f).piece in
          let first : read_of R x ≡ if_own R id (atoms_of x) = ap (read_of R) (sym (append-nil x)) ∙ piece [] ∙ ap (λ l. if_own R id (atoms_of x) ++ l) (records_none R) ∙ append-nil (if_own R id (atoms_of x)) in
          let read : end_waits (read_of R (x ++ y)) ≡ or (end_waits (read_of R x)) (end_waits (read_of R y)) =
          ap end_waits (piece y ∙ ap (λ l. l ++ read_of R y) (sym first)) ∙ end_either (read_of R x) (read_of R y) in
          let g = changed (drops_if (or (not (conn_of p.left).«open») (end_waits (read_of R x)))) h in
          let both = then_drops (conn_of p.left).«open» (end_waits (read_of R x)) (conn_of t.left).«open» (end_waits (read_of R y)) h (closed_turn k p.left) in
          holds_as t.left (x ++ y) h (conn_of t.left).«open» (or (end_waits (read_of R x)) (end_waits (read_of R y))) refl read
          (subst (λ u. Holds R t.left.memory u) both (again p.left g (slot_fine m fine o id i f) (record_holds m fine o id i f h hold)))

      go : (o : Option ℕ) → next_waiting SLOTS SLOTS (slot_waits m) (first_slot (get_or m.waits NEXT 0)) ≡ o
          → ((n : QueueMemory) (g : History) → Fine n → Holds R n.memory g → HoldsTurned (turned k n) g) → HoldsTurned (after o) h
      go none e again = none_holds m h hold
      go (some i) e again =
          let from = first_slot (get_or m.waits NEXT 0) in
          more i (waiting_below SLOTS SLOTS (slot_waits m) from i (first_below (get_or m.waits NEXT 0)) e) (waiting_is SLOTS SLOTS (slot_waits m) from i e) again

  -- A turn that is refused or not, by what it answers and what it wrote.
  pump_holds : (m : QueueMemory) (allowance : ℕ) (buffer : List ℕ) (h : History) → Fine m → Holds R m.memory h
      → Holds R (pump m allowance buffer).left.memory (changed (change_turn R (pump m allowance buffer)) h)
  unfolding bytes_in end_waits
  pump_holds m allowance buffer h fine k =
      by_test (eqb (pump_refusal m allowance buffer) 0)
      (λ e.
      let d = pump_done m allowance buffer e in
      let t = turned allowance m in
      let c = ap₂ (λ (a : Bool) (l : List ℕ). drops_if (or a (end_waits (read_of R l)))) (ap (λ (p : T.Pumped). p.closed) d) (turn_bytes m allowance buffer fine e) in
      subst (λ v. Holds R (pump m allowance buffer).left.memory (changed v h)) (sym c)
      (subst (λ (n : QueueMemory). Holds R n.memory (changed (drops_if (or (not (conn_of t.left).«open») (end_waits (read_of R (flatten t.records))))) h)) (sym (ap (λ (p : T.Pumped). p.left) d))
      (turn_holds allowance m h fine k)))
      (λ e.
      let d = pump_refused_lem m allowance buffer e in
      let c : change_turn R (pump m allowance buffer) ≡ Keeps =
      ap₂ (λ (a : Bool) (l : List ℕ). drops_if (or a (end_waits (read_of R l)))) (ap (λ (p : T.Pumped). p.closed) d) (no_turn_bytes m allowance buffer e)
      ∙ ap (λ l. drops_if (end_waits l)) (records_none R) in
      subst (λ v. Holds R (pump m allowance buffer).left.memory (changed v h)) (sym c) (subst (λ (n : QueueMemory). Holds R n.memory h) (sym (ap (λ (p : T.Pumped). p.left) d)) k))

  -- ---- operations
  -- Each operation does to the history what it does to the memory.
  op_holds : (m : QueueMemory) (o : QueueOperation) (h : History) → Fine m → PieceOk o → Holds R m.memory h → Holds R (queue_after m o).memory (history_then R m o h)
  unfolding queue_after memory_after
  op_holds m (StepOver piece) h fine p k = rw (queue_step_is m piece fine.good.steady) (holds_step R m.memory piece h p k)
  op_holds m (CallFor id a) h fine p k = call_holds R m id a h k
  op_holds m CountActive h fine p k = k
  op_holds m (TurnWith allowance buffer) h fine p k = pump_holds m allowance buffer h fine k

  -- So do operations in order, if their pieces are bytes.
  run_holds : (os ps : List QueueOperation) (m : QueueMemory) (h : History) → PiecesAreBytes (os ++ ps) → Fine m → Holds R m.memory h → Holds R (final_queue m os).memory (history_from R m h os)
  unfolding final_queue history_from
  run_holds [] ps m h p fine k = k
  run_holds (o ∷ os) ps m h p fine k =
      let q = piece_ok o (os ++ ps) p in
      run_holds os ps (queue_after m o) (history_then R m o h) q.1 (op_fine m o fine q.0) (op_holds m o h fine q.0 k)

  -- It holds at a start.
  start_holds : (r : QueueRun) → Holds R (beginning r).memory no_history
  start_holds r = holds_start R (record { gathered = r.gathered; store = r.store; operations = []; gathered_size = r.gathered_size; store_size = r.store_size; pieces = tt })

-- ---- every run
-- After any of the first operations of a run with a queue, what R's area holds up to R's length is exactly R's
-- parameters by history; there are none where R is not active. So it is just before and just after each call and each
-- turn, and between a queued finish of R and its END, too.
pub list_is_history : (R : ℕ) (r : QueueRun) (os ps : List QueueOperation) → r.operations ≡ os ++ ps → list_of_r R (final_queue (beginning r) os).memory ≡ parameters_after R (beginning r) os
list_is_history R r os ps e =
    ap list_found (sym (request_loaded R (final_queue (beginning r) os).memory))
    ∙ (run_holds R os ps (beginning r) no_history (subst (λ x. PiecesAreBytes x) e r.pieces) (start_fine r) (start_holds R r)).list

-- For an active R.
pub active_list_is_history : (R : ℕ) (r : QueueRun) (os ps : List QueueOperation) (h : Held) → r.operations ≡ os ++ ps
    → Base.request_of R (final_queue (beginning r) os).memory ≡ some h → list_of h ≡ parameters_after R (beginning r) os
active_list_is_history R r os ps h e a = ap list_found (sym a) ∙ list_is_history R r os ps e

-- What closes an open connection with a queue.
--
-- A step that tells a close by one of the four causes; a straight finish of a request without KEEP_CONN; or a turn of
-- the pump, and then its last record is the END of a request that was active before the turn, without KEEP_CONN. No
-- queued call closes, no other straight call, and no other turn.
use Rattle.std.specs.Prelude.{◌≡◌, refl, List, [], ◌∷◌, ◌++◌, Bool, true, false, ℕ, zero, suc, ◌<◌, get_or, eqb}
use Rattle.std.proofs.Common.{ap, sym, ◌∙◌, eqb-true}
use Rattle.std.proofs.Math.Option.{Option, none, some}
use Rattle.std.proofs.lemmas.Bool.{eqb-false}
use Rattle.wire.specs.Test.{by_test}
use Rattle.slot_word.specs.Word.{taken}
use Rattle.record.specs.Names.{END_REQUEST, REQUEST_COMPLETE}
use Rattle.record.specs.Body.{end_body_bytes}
use Rattle.record_writer.specs.Written.{record_bytes}
use Rattle.machine.specs.Cause.{Cause}
use Rattle.machine_queue.specs.Pump.{next_waiting}
use Rattle.machine_queue.proofs.Pumping.{waiting_below}
use Rattle.connection.specs.declared.request.Request.{Request}
use Rattle.connection.specs.Sizes.{SLOTS}
use Rattle.connection.specs.Event.{Event}
use Rattle.connection.specs.Slots.{request_at, free_slot}
use Rattle.connection.specs.Step.{Stepped}
use Rattle.connection.specs.Calls as C
use Rattle.connection.specs.Arguments.{Argument, ForFinish}
use Rattle.connection.specs.Run.{Memory}
use Rattle.connection.proofs.Laws.SlotsLaws.{other_of_free, taken_of_free, taken_of_free_other, find_at}
use Rattle.connection.proofs.Laws.Ways.{is_close}
use Rattle.connection.proofs.Laws.Closing.{closes_by_cause}
use Rattle.connection.proofs.Runs.CallEnds as Base
use Rattle.connection.proofs.Runs.CallEnds.{call_closes}
use Rattle.queue.specs.Numbers.{NEXT, nobody_waits}
use Rattle.queue.specs.Calls as T
use Rattle.queue.specs.Calls.{QueueMemory, conn_of, with_conn, skipping, queue_step, served_last, released_slot, pump_slot, PumpedRecord, Turned, on_some, slot_waits, first_slot, turned}
use Rattle.queue.specs.Run as D
use Rattle.queue.specs.Run.{QueueOperation, StepOver, CallFor, TurnWith, queue_after, QueueRun, beginning, ending}
use Rattle.queue_link.proofs.Loaded.{queue_step_is, nobody_at}
use Rattle.queue_link.proofs.LoadedTurn.{Good, pump_good, waiting_is, waits_found_lem, first_below}
use Rattle.queue_link.proofs.LinkedRuns.{run_is}
use Rattle.queue_theorem.proofs.Theorem.{start_fine}
use Rattle.queue_runs.proofs.Closing.{both_ways, put_open}
use Rattle.queue_runs.proofs.Changes.{Change, Keeps, Steps, Writes, Waits, Retires, Turns, change, Serving, Goes, Ends, serving}

-- END of the request in slot i, as a record
abbrev pub end_record : QueueMemory → ℕ → ℕ → List ℕ
end_record m i status = record_bytes END_REQUEST (request_at (conn_of m).table i).id (end_body_bytes status REQUEST_COMPLETE)

-- ---- a turn
-- The last of these records is the END of a request that is active in m, without KEEP_CONN.
pub record LastIsEnd (m : QueueMemory) (records : List (List ℕ)) : Type 0 where
  pub before : List (List ℕ)
  pub slot : ℕ
  pub status : ℕ
  pub slot_taken : taken slot (conn_of m).table.occupied ≡ true
  pub no_keep : (request_at (conn_of m).table slot).state.keep ≡ false
  pub is_last : records ≡ before ++ (end_record m slot status ∷ [])

-- One record of the pump that closes is END of a request without KEEP_CONN.
record EndWritten (m : QueueMemory) (i : ℕ) (p : PumpedRecord) : Type 0 where
  status : ℕ
  no_keep : (request_at (conn_of m).table i).state.keep ≡ false
  bytes : p.bytes ≡ end_record m i status

ends_here : (m : QueueMemory) (i : ℕ) (p : PumpedRecord) → (conn_of m).«open» ≡ true → Serving m i p → (conn_of p.left).«open» ≡ false → EndWritten m i p
unfolding C.released
ends_here m i p o (Goes e) c = both_ways (conn_of m).«open» o (ap (λ (x : Memory). x.state.conn.«open») (sym e) ∙ c)
ends_here m i p o (Ends status) c = go (request_at (conn_of m).table i).state.keep refl c
  where
    keep : Bool
    keep = (request_at (conn_of m).table i).state.keep

    go : (b : Bool) → keep ≡ b → (conn_of (released_slot (served_last m i) i b)).«open» ≡ false
        → EndWritten m i (record { bytes = end_record m i status; left = released_slot (served_last m i) i keep })
    go true e c = both_ways (conn_of m).«open» o c
    go false e c = record { status = status; no_keep = e; bytes = refl }

-- Who is active after a record of the pump was so before it.
record Earlier (m n : QueueMemory) (j : ℕ) : Type 0 where
  slot_taken : taken j (conn_of m).table.occupied ≡ true
  same : request_at (conn_of n).table j ≡ request_at (conn_of m).table j

earlier : (m : QueueMemory) (i : ℕ) (p : PumpedRecord) → i < SLOTS → Serving m i p → (j : ℕ)
    → (conn_of p.left).«open» ≡ true → taken j (conn_of p.left).table.occupied ≡ true → Earlier m p.left j
unfolding C.released
earlier m i p low (Goes e) j o t =
    record { slot_taken = ap (λ (x : Memory). taken j x.state.conn.table.occupied) (sym e) ∙ t; same = ap (λ (x : Memory). request_at x.state.conn.table j) e }
earlier m i p low (Ends status) j o t = go (request_at (conn_of m).table i).state.keep o t
  where
    go : (b : Bool) → (conn_of (released_slot (served_last m i) i b)).«open» ≡ true
        → taken j (conn_of (released_slot (served_last m i) i b)).table.occupied ≡ true → Earlier m (released_slot (served_last m i) i b) j
    go true o t =
        by_test (eqb j i)
        (λ e. let q : j ≡ i = eqb-true j i e in both_ways (taken i (free_slot (conn_of m).table i).occupied) (rw q at t) (taken_of_free (conn_of m).table i low))
        (λ e. let d = eqb-false j i e in record { slot_taken = sym (taken_of_free_other (conn_of m).table i j d) ∙ t; same = other_of_free (conn_of m).table i j d })
    go false o t = both_ways false o refl

-- where nobody waits, a turn writes nothing
silent : (k : ℕ) (n : QueueMemory) → n.waits ≡ nobody_waits → (turned k n).records ≡ []
unfolding turned
silent zero n e = refl
silent (suc k) n e = go (next_waiting SLOTS SLOTS (slot_waits n) (first_slot (get_or n.waits NEXT 0))) refl
  where
    after : Option ℕ → Turned
    after o = on_some o (λ i. let q = pump_slot n i in let t = turned k q.left in record { records = q.bytes ∷ t.records; left = t.left }) (record { records = []; left = n })

    go : (o : Option ℕ) → next_waiting SLOTS SLOTS (slot_waits n) (first_slot (get_or n.waits NEXT 0)) ≡ o → (after o).records ≡ []
    go none d = refl
    go (some i) d = both_ways (slot_waits n i) (waiting_is SLOTS SLOTS (slot_waits n) (first_slot (get_or n.waits NEXT 0)) i d) (nobody_at n i e)

-- A turn that closes ends with END of a request without KEEP_CONN.
pub turn_closes : (k : ℕ) (m : QueueMemory) → Good m → (conn_of m).«open» ≡ true → (conn_of (turned k m).left).«open» ≡ false → LastIsEnd m (turned k m).records
unfolding turned
turn_closes zero m g o c = both_ways (conn_of m).«open» o c
turn_closes (suc k) m g o c = go (next_waiting SLOTS SLOTS (slot_waits m) from) refl c (turn_closes k)
  where
    from : ℕ
    from = first_slot (get_or m.waits NEXT 0)

    after : Option ℕ → Turned
    after x = on_some x (λ i. let q = pump_slot m i in let t = turned k q.left in record { records = q.bytes ∷ t.records; left = t.left }) (record { records = []; left = m })

    further : (i : ℕ) → i < SLOTS → (conn_of (pump_slot m i).left).«open» ≡ true
        → LastIsEnd (pump_slot m i).left (turned k (pump_slot m i).left).records → LastIsEnd m (after (some i)).records
    further i low w l =
        let x = earlier m i (pump_slot m i) low (serving m i) l.slot w l.slot_taken in
        record {
          before = (pump_slot m i).bytes ∷ l.before;
          slot = l.slot;
          status = l.status;
          slot_taken = x.slot_taken;
          no_keep = ap (λ (r : Request). r.state.keep) (sym x.same) ∙ l.no_keep;
          is_last = ap (λ t. (pump_slot m i).bytes ∷ t) (l.is_last ∙ ap (λ (r : Request). l.before ++ (record_bytes END_REQUEST r.id (end_body_bytes l.status REQUEST_COMPLETE) ∷ [])) x.same);
        }

    here : (i : ℕ) → taken i (conn_of m).table.occupied ≡ true → Good (pump_slot m i).left
        → (conn_of (pump_slot m i).left).«open» ≡ false → LastIsEnd m (after (some i)).records
    here i t h w =
        let x = ends_here m i (pump_slot m i) o (serving m i) w in
        let none : (turned k (pump_slot m i).left).records ≡ [] = silent k (pump_slot m i).left (h.steady.dropped w) in
        record { before = []; slot = i; status = x.status; slot_taken = t; no_keep = x.no_keep; is_last = ap (λ l. (pump_slot m i).bytes ∷ l) none ∙ ap (λ b. b ∷ []) x.bytes }

    go : (x : Option ℕ) → next_waiting SLOTS SLOTS (slot_waits m) from ≡ x → (conn_of (after x).left).«open» ≡ false
        → ((n : QueueMemory) → Good n → (conn_of n).«open» ≡ true → (conn_of (turned k n).left).«open» ≡ false → LastIsEnd n (turned k n).records) → LastIsEnd m (after x).records
    go none e c f = both_ways (conn_of m).«open» o c
    go (some i) e c f =
        let low = waiting_below SLOTS SLOTS (slot_waits m) from i (first_below (get_or m.waits NEXT 0)) e in
        let w = waiting_is SLOTS SLOTS (slot_waits m) from i e in
        let found = waits_found_lem m i g.steady low o w in
        let h = pump_good m g o (get_or (conn_of m).table.ids i 0) i found in
        let t = (find_at (conn_of m).table (get_or (conn_of m).table.ids i 0) i found).slot_taken in
        by_test (conn_of (pump_slot m i).left).«open» (λ x. further i low x (f (pump_slot m i).left h x c)) (λ x. here i t h x)

-- ---- every operation
-- What closes.
pub data ClosesBy (m : QueueMemory) : QueueOperation → Type 0 where
  ByCause : (piece : List ℕ) (cause : Cause) → is_close cause ≡ true → (queue_step m piece).event ≡ Event.Closed cause → ClosesBy m (StepOver piece)
  ByFinish : (id status : ℕ) (buffer : List ℕ) → (T.request_of m id).state.keep ≡ false → ClosesBy m (CallFor id (D.Straight (ForFinish status buffer)))
  ByTurn : (allowance : ℕ) (buffer : List ℕ) → LastIsEnd m (turned allowance m).records → ClosesBy m (TurnWith allowance buffer)

finish_closes_lem : (m : QueueMemory) (id : ℕ) {a : Argument} → Base.ClosesBy m.memory id a → ClosesBy m (CallFor id (D.Straight a))
finish_closes_lem m id (Base.ClosesBy.FinishedWithoutKeep status buffer k) = ByFinish id status buffer k

change_closes : (m n : QueueMemory) (op : QueueOperation) → Good m → (conn_of m).«open» ≡ true → (conn_of n).«open» ≡ false → Change m op n → ClosesBy m op
change_closes m n op g o c Keeps = both_ways (conn_of m).«open» o c
change_closes m n op g o c (Steps piece e) =
    let k = closes_by_cause m.memory.state m.memory.store piece o c in
    ByCause piece k.0 k.1 (ap (λ (s : Stepped). s.event) (queue_step_is m piece g.steady) ∙ k.2)
change_closes m n op g o c (Writes id a e) = finish_closes_lem m id (call_closes m.memory id a o c)
change_closes m n op g o c (Waits id i a e found r w same) = both_ways (conn_of m).«open» o (sym (put_open m i r w) ∙ c)
change_closes m n op g o c (Retires id i a e found r w same) = both_ways (conn_of m).«open» o (sym (put_open (with_conn m (skipping (conn_of m) i)) i r w) ∙ c)
change_closes m n op g o c (Turns allowance buffer) = ByTurn allowance buffer (turn_closes allowance m g o c)

-- Nothing else closes an open connection.
pub closes_by : (m : QueueMemory) (op : QueueOperation) → Good m → (conn_of m).«open» ≡ true → (conn_of (queue_after m op)).«open» ≡ false → ClosesBy m op
closes_by m op g o c = change_closes m (queue_after m op) op g o c (change m op)

-- In a run: an operation after it that closes is one of these.
pub run_closes_by : (r : QueueRun) (op : QueueOperation) → (conn_of (ending r)).«open» ≡ true → (conn_of (queue_after (ending r) op)).«open» ≡ false → ClosesBy (ending r) op
run_closes_by r op o c = closes_by (ending r) op (run_is r.operations (beginning r) (start_fine r) r.pieces).fine.good o c

-- Where a run with a queue stands, by the records that its used bytes make.
use Rattle.std.specs.Prelude.{◌≡◌, List, [], ◌∷◌, Bool, ℕ, zero, suc, length, take, get_or, eqb, if◌then◌else◌}
use Rattle.std.proofs.Math.Path.{refl}
use Rattle.std.proofs.Common.{ap, sym, ◌∙◌, subst, arith}
use Rattle.std.proofs.Math.Option.{Option, none, some}
use Rattle.std.proofs.Math.Bool.{true, false}
use Rattle.wire.specs.Test.{by_test}
use Rattle.record_reader.specs.Position.{after}
use Rattle.record_reader.proofs.PositionLaws.{after_append}
use Rattle.record_reader.specs.declared.Position.{Position}
use Rattle.machine.specs.Timeline.{item_bytes}
use Rattle.machine.proofs.TimelineLaws.{bytes_of_items}
use Rattle.machine.specs.Machine.{Closed, state_after}
use Rattle.machine.proofs.RunLaws.{closed_stays}
use Rattle.machine_queue.specs.Pump.{next_waiting}
use Rattle.connection.specs.declared.request.Request.{Request}
use Rattle.connection.specs.declared.answer.Output.{Output}
use Rattle.connection.specs.declared.state.Conn.{Conn}
use Rattle.connection.specs.Sizes.{SLOTS}
use Rattle.connection.specs.RequestCalls as Of
use Rattle.wire.specs.Buffer.{zeros}
use Rattle.connection.specs.Refusal.{◌when◌, refusal}
use Rattle.connection.specs.Slots.{request_at, area_at, put_area}
use Rattle.connection.specs.Step.{Stepped, closed_conn}
use Rattle.connection.specs.Calls as C
use Rattle.connection.specs.Arguments.{ForRead, ForSay, ForEnd, ForFinish}
use Rattle.connection.proofs.Runs.LinkingStep.{open_loaded, closed_loaded}
use Rattle.connection.proofs.Runs.Records.{StandsAt, step_position}
use Rattle.queue_slot.specs.Finishing.{spent_by}
use Rattle.queue_slot.specs.Wait.{Wait, wait_data, wait_end, wait_finish, Served, ServesNothing, ServesEnd, ServesData, ServesLast, served}
use Rattle.queue_machine.specs.Queued.{queueing_receiver}
use Rattle.queue_machine.proofs.Lift.{lift_connection}
use Rattle.queue_link.proofs.Loaded.{waiting_of, loaded_queue, queue_step_is}
use Rattle.queue_link.proofs.LinkedFinish.{say_rows, end_rows, finish_rows}
use Rattle.queue_link.proofs.LinkedRuns.{machine_items, Fine, PieceOk, op_is, op_fine, pump_done, pump_refused_lem}
use Rattle.queue.specs.Numbers.{NEXT}
use Rattle.queue.specs.Calls as T
use Rattle.queue.specs.Calls.{QueueMemory, conn_of, put_wait, straight_say, straight_end, straight_finish, slot_waits, first_slot, on_some, Turned, turned, served_last, released_slot, write_served, pump_slot, pump_refusal}
use Rattle.queue.specs.Run as D
use Rattle.queue.specs.Run.{Asking, QueueOperation, CallFor, CountActive, TurnWith, queue_called, queue_after, used_of, queue_items, queue_timeline, final_queue, PiecesAreBytes}

abbrev place_of : QueueMemory → Position
place_of m = (conn_of m).frame.position

abbrev Stands : Position → QueueMemory → Type 0
Stands p m = StandsAt p (conn_of m)

false_true : {A : Type 0} → false ≡ true → A
false_true e = let z : ◌≡◌ {A = ℕ} 0 1 = cc in absurd (omega arith)

abbrev written_conn : C.Written → Conn
written_conn w = w.conn

abbrev finished_conn : C.Finished → Conn
finished_conn w = w.conn

abbrev queue_left : T.Queueing → QueueMemory
queue_left q = q.left

abbrev turned_left : Turned → QueueMemory
turned_left t = t.left

-- ---- calls
module _ (m : QueueMemory) where
  abbrev p : Position
  p = place_of m

  abbrev c : Conn
  c = conn_of m

  plain_say : (id : ℕ) (o : Output) (content buffer : List ℕ) → StandsAt p (C.say c id o content buffer).conn
  unfolding C.say
  plain_say id o content buffer = go (eqb (C.call_refusal c id) 0)
    where
      go : (b : Bool) → StandsAt p (written_conn (if b then C.written_by c (C.slot_of c id) (Of.say_in (request_at c.table (C.slot_of c id)) o content buffer) else C.unwritten (C.call_refusal c id) c buffer))
      go true e = refl
      go false e = refl

  say_stands : (id : ℕ) (o : Output) (content buffer : List ℕ) → StandsAt p (straight_say m id o content buffer).conn
  unfolding straight_say
  say_stands id o content buffer = go (eqb (say_rows m id o content buffer) 0) (say_rows m id o content buffer)
    where
      go : (b : Bool) (n : ℕ) → StandsAt p (written_conn (if b then C.say c id o content buffer else C.unwritten n c buffer))
      go true n e = plain_say id o content buffer e
      go false n e = refl

  plain_end : (id : ℕ) (o : Output) (buffer : List ℕ) → StandsAt p (C.end_stream c id o buffer).conn
  unfolding C.end_stream
  plain_end id o buffer = go (eqb (C.call_refusal c id) 0)
    where
      go : (b : Bool) → StandsAt p (written_conn (if b then C.written_by c (C.slot_of c id) (Of.end_in (request_at c.table (C.slot_of c id)) o buffer) else C.unwritten (C.call_refusal c id) c buffer))
      go true e = refl
      go false e = refl

  end_stands : (id : ℕ) (o : Output) (buffer : List ℕ) → StandsAt p (straight_end m id o buffer).conn
  unfolding straight_end
  end_stands id o buffer = go (eqb (end_rows m id o buffer) 0) (end_rows m id o buffer)
    where
      go : (b : Bool) (n : ℕ) → StandsAt p (written_conn (if b then C.end_stream c id o buffer else C.unwritten n c buffer))
      go true n e = plain_end id o buffer e
      go false n e = refl

  finishes_stands : (store : List ℕ) (i : ℕ) (keep : Bool) (w : Of.Writing) → StandsAt p (C.finishes c store i keep w).conn
  unfolding C.finishes C.released
  finishes_stands store i keep w = go (eqb w.refusal 0) keep
    where
      go : (a k : Bool) → StandsAt p (finished_conn (if a then
          (if k then record { refusal = 0; written = w.written; closed = false; conn = C.released c i; store = put_area store i (zeros (length (area_at store i))); buffer = w.buffer }
          else record { refusal = 0; written = w.written; closed = true; conn = closed_conn; store = zeros (length store); buffer = w.buffer })
          else C.unfinished w.refusal c store w.buffer))
      go true true e = refl
      go true false e = false_true e
      go false k e = refl

  plain_finish : (id status : ℕ) (store buffer : List ℕ) → StandsAt p (C.finish c store id status buffer).conn
  unfolding C.finish
  plain_finish id status store buffer = go (eqb (C.lent_refusal c store id) 0)
    where
      r : Request
      r = request_at c.table (C.slot_of c id)

      go : (b : Bool) → StandsAt p (finished_conn (if b then C.finishes c store (C.slot_of c id) r.state.keep (Of.finish_in r status buffer) else C.unfinished (C.lent_refusal c store id) c store buffer))
      go true e = finishes_stands store (C.slot_of c id) r.state.keep (Of.finish_in r status buffer) e
      go false e = refl

  finish_stands : (id status : ℕ) (buffer : List ℕ) → StandsAt p (straight_finish m id status buffer).conn
  unfolding straight_finish
  finish_stands id status buffer = go (eqb (finish_rows m id status buffer) 0) (finish_rows m id status buffer)
    where
      go : (b : Bool) (n : ℕ) → StandsAt p (finished_conn (if b then C.finish c m.memory.store id status buffer else C.unfinished n c m.memory.store buffer))
      go true n e = plain_finish id status m.memory.store buffer e
      go false n e = refl

  both_stands : (x : QueueMemory) (i : ℕ) (r : Request) (w : Wait) → place_of x ≡ p → Stands p (T.put_both x i r w)
  unfolding put_wait
  both_stands x i r w h e = h

  queue_if : (b : Bool) (n : ℕ) (x : QueueMemory) → Stands p x → Stands p (queue_left (if b then record { refusal = 0; left = x } else record { refusal = n; left = m }))
  queue_if true n x h = h
  queue_if false n x h = λ e. refl

  queue_say_stands : (id : ℕ) (o : Output) (content : List ℕ) → Stands p (T.queue_say m id o content).left
  unfolding T.queue_say
  queue_say_stands id o content =
      queue_if (eqb (T.say_refusal m id o content) 0) (T.say_refusal m id o content) (T.put_both m (T.slot_of m id) (Of.said_on (T.request_of m id) o content) (wait_data (T.wait_at m (T.slot_of m id)) o content)) (both_stands m _ _ _ refl)

  queue_end_stands : (id : ℕ) (o : Output) → Stands p (T.queue_end m id o).left
  unfolding T.queue_end
  queue_end_stands id o =
      queue_if (eqb (refusal (T.rows_of m id (T.stream_rows m id o []))) 0) (refusal (T.rows_of m id (T.stream_rows m id o []))) (T.put_both m (T.slot_of m id) (Of.ended_on (T.request_of m id) o) (wait_end (T.wait_at m (T.slot_of m id)) o)) (both_stands m _ _ _ refl)

  queue_finish_stands : (id status : ℕ) → Stands p (T.queue_finish m id status).left
  unfolding T.queue_finish
  queue_finish_stands id status =
      queue_if (eqb (refusal (T.rows_of m id ((5 when T.is_leaving m id) ∷ []))) 0) (refusal (T.rows_of m id ((5 when T.is_leaving m id) ∷ [])))
      (T.put_both (T.with_conn m (T.skipping (conn_of m) (T.slot_of m id))) (T.slot_of m id) (spent_by (T.request_of m id)) (wait_finish (T.wait_at m (T.slot_of m id)) (T.request_of m id).state status)) (both_stands (T.with_conn m (T.skipping (conn_of m) (T.slot_of m id))) _ _ _ refl)

  call_stands : (id : ℕ) (a : Asking) → Stands p (queue_called m id a).left
  unfolding queue_called
  call_stands id (D.Straight (ForRead q)) = λ e. refl
  call_stands id (D.Straight (ForSay o content buffer)) = say_stands id o content buffer
  call_stands id (D.Straight (ForEnd o buffer)) = end_stands id o buffer
  call_stands id (D.Straight (ForFinish status buffer)) = finish_stands id status buffer
  call_stands id (D.ToSay o content) = queue_say_stands id o content
  call_stands id (D.ToEnd o) = queue_end_stands id o
  call_stands id (D.ToFinish status) = queue_finish_stands id status

  -- ---- a record of the pump
  released_stands : (i : ℕ) (k : Bool) → Stands p (released_slot (served_last m i) i k)
  unfolding C.released
  released_stands i true = λ e. refl
  released_stands i false = λ e. false_true e

  served_stands : (i : ℕ) (r : Request) (s : Served) → Stands p (write_served (served_last m i) i r s).left
  unfolding write_served put_wait
  served_stands i r ServesNothing = λ e. refl
  served_stands i r (ServesEnd o v) = λ e. refl
  served_stands i r (ServesData o content v) = λ e. refl
  served_stands i r (ServesLast status) = released_stands i r.state.keep

  slot_stands : (i : ℕ) → Stands p (pump_slot m i).left
  unfolding pump_slot
  slot_stands i = served_stands i (request_at (conn_of m).table i) (served (T.wait_at m i))

  -- what was open before
  served_open : (i : ℕ) (r : Request) (s : Served) → (conn_of (write_served (served_last m i) i r s).left).«open» ≡ true → (conn_of m).«open» ≡ true
  unfolding write_served put_wait C.released
  served_open i r ServesNothing e = e
  served_open i r (ServesEnd o v) e = e
  served_open i r (ServesData o content v) e = e
  served_open i r (ServesLast status) e = go r.state.keep e
    where
      go : (k : Bool) → (conn_of (released_slot (served_last m i) i k)).«open» ≡ true → (conn_of m).«open» ≡ true
      go true e = e
      go false e = false_true e

  slot_open : (i : ℕ) → (conn_of (pump_slot m i).left).«open» ≡ true → (conn_of m).«open» ≡ true
  unfolding pump_slot
  slot_open i = served_open i (request_at (conn_of m).table i) (served (T.wait_at m i))

-- ---- a turn
turn_stands : (q : Position) (k : ℕ) (m : QueueMemory) → Stands q m → Stands q (turned k m).left
unfolding turned
turn_stands q zero m h = h
turn_stands q (suc k) m h = go (next_waiting SLOTS SLOTS (slot_waits m) (first_slot (get_or m.waits NEXT 0))) (λ i. turn_stands q k (pump_slot m i).left (λ e. slot_stands m i e ∙ h (slot_open m i e)))
  where
    go : (o : Option ℕ) → ((i : ℕ) → Stands q (turned k (pump_slot m i).left).left)
        → Stands q (turned_left (on_some o (λ i. let p = pump_slot m i in let t = turned k p.left in record { records = p.bytes ∷ t.records; left = t.left }) (record { records = []; left = m })))
    go none f = h
    go (some i) f = f i

turn_left_lem : (q : Position) (m : QueueMemory) (allowance : ℕ) (buffer : List ℕ) → Stands q m → Stands q (queue_after m (TurnWith allowance buffer))
unfolding queue_after
turn_left_lem q m allowance buffer h =
    by_test (eqb (pump_refusal m allowance buffer) 0) (λ e. subst (λ (x : T.Pumped). Stands q x.left) (sym (pump_done m allowance buffer e)) (turn_stands q allowance m h))
    (λ e. subst (λ (x : T.Pumped). Stands q x.left) (sym (pump_refused_lem m allowance buffer e)) h)

-- ---- runs
pub still_closed : (m : QueueMemory) (o : QueueOperation) → Fine m → PieceOk o → (conn_of m).«open» ≡ false → (conn_of (queue_after m o)).«open» ≡ true → ⊥
still_closed m o k ok c e =
    let n = queue_after m o in
    let i = op_is m o k ok in
    let a : loaded_queue m ≡ Closed = ap (lift_connection (waiting_of m)) (closed_loaded m.memory c) in
    let b : loaded_queue n ≡ Closed = i.state ∙ ap (λ s. state_after queueing_receiver s (machine_items m o)) a ∙ closed_stays queueing_receiver (machine_items m o) in
    let d = ap (lift_connection (waiting_of n)) (open_loaded n.memory e) in
    let z : ◌≡◌ {A = ℕ} 0 1 = cc (sym b ∙ d) in
    omega arith

step_stands : (m : QueueMemory) (piece : List ℕ) → Fine m → (conn_of m).«open» ≡ true → Stands (after (place_of m) (used_of m piece)) (queue_after m (D.StepOver piece))
unfolding queue_after
step_stands m piece k o =
    subst (λ (s : Stepped). StandsAt (after (place_of m) (take s.used piece)) s.state.conn) (sym (queue_step_is m piece k.good.steady)) (step_position m.memory piece k.good.steady.steady o)

call_here : (m : QueueMemory) (id : ℕ) (a : Asking) → Stands (place_of m) (queue_after m (CallFor id a))
unfolding queue_after
call_here m id a = call_stands m id a

count_here : (m : QueueMemory) (q : Position) → Stands q m → Stands q (queue_after m CountActive)
unfolding queue_after
count_here m q h = h

-- Where an open run stands.
pub run_place : (os : List QueueOperation) (m : QueueMemory) (q : Position) → Fine m → PiecesAreBytes os → Stands q m → Stands (after q (item_bytes (queue_timeline m os))) (final_queue m os)
unfolding final_queue queue_timeline queue_items item_bytes after
run_place [] m q k ok h = h
run_place (D.StepOver piece ∷ os) m q k ok h =
    let o = D.StepOver piece in
    let n = queue_after m o in
    let here : Stands (after q (used_of m piece)) n =
    λ e. by_test (conn_of m).«open» (λ c. step_stands m piece k c e ∙ ap (λ r. after r (used_of m piece)) (h c)) (λ c. absurd (still_closed m o k ok.0 c e)) in
    let r = run_place os n (after q (used_of m piece)) (op_fine m o k ok.0) ok.1 here in
    λ e. r e ∙ sym (after_append q (used_of m piece) (item_bytes (queue_timeline n os))) ∙ ap (after q) (sym (bytes_of_items (used_of m piece) (queue_timeline n os)))
run_place (CallFor id a ∷ os) m q k ok h =
    let o = CallFor id a in
    let here : Stands q (queue_after m o) = λ e. by_test (conn_of m).«open» (λ c. call_here m id a e ∙ h c) (λ c. absurd (still_closed m o k tt c e)) in
    run_place os (queue_after m o) q (op_fine m o k tt) ok here
run_place (CountActive ∷ os) m q k ok h = run_place os (queue_after m CountActive) q (op_fine m CountActive k tt) ok (count_here m q h)
run_place (TurnWith allowance buffer ∷ os) m q k ok h =
    let o = TurnWith allowance buffer in
    run_place os (queue_after m o) q (op_fine m o k tt) ok (turn_left_lem q m allowance buffer h)

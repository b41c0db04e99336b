-- What was written of R in calls, turns and whole runs.
use Rattle.connection.specs.Slots.{Slot}
use Rattle.std.specs.Prelude.{◌≡◌, Bool, not, ℕ, zero, suc, ◌*◌, ◌≤◌, ◌<◌, get_or, take, eqb, ltb, if◌then◌else◌, Some, None}
use Rattle.std.proofs.Math.Path.{refl, ap, sym, subst}
use Rattle.std.proofs.Common.{ap₂, ◌∙◌, arith, length-append, eqb-true, ltb-false}
use mathlib.Core.List.{List, [], ◌∷◌, ◌++◌, flatten, append-nil}
use Rattle.std.proofs.Math.Option.{Option, none, some}
use Rattle.std.proofs.Math.Bool.{true, false}
use Rattle.std.proofs.Math.ListN.{length}
use Rattle.wire.specs.Test.{by_test}
use Rattle.record.specs.Names.{END_REQUEST, REQUEST_COMPLETE}
use Rattle.record.specs.Body.{end_body_bytes}
use Rattle.record.proofs.BodyLaws.{end_length}
use Rattle.record_writer.specs.Written.{padding_of, record_length, record_bytes}
use Rattle.record_writer.proofs.WrittenLaws.{record_length_lem}
use Rattle.machine.specs.Slots.{Absent, FoundAt, lookup}
use Rattle.machine.specs.Timeline.{RequestCall, CountCall, CallItem}
use Rattle.machine_queue.specs.Pump.{next_waiting}
use Rattle.machine_queue.proofs.Pumping.{waiting_below}
use Rattle.machine.specs.Machine.{Connection, Open, Closed, Leaves, Closes, Observation, RequestEvent, NoticeEvent, CloseEvent, CountAnswer, CallAnswer, request_called, on_item, state_after, observations, as_list, concerns, observed}
use Rattle.machine.proofs.RunLaws.{observations_append, observed_append}
use Rattle.machine_queue.proofs.Appends.{written_all_append}
use Rattle.machine_queue.specs.Waiting.{written_in, written_all}
use Rattle.connection.specs.declared.request.Request.{Request}
use Rattle.connection.specs.Sizes.{SLOTS, STORE}
use Rattle.connection.specs.Codes.{output_type}
use Rattle.connection.specs.Slots.{request_at, find}
use Rattle.connection.specs.Runs.Receiver.{receiver}
use Rattle.connection.proofs.Runs.Loading.{loaded_slots, loaded_reading}
use Rattle.connection.proofs.Runs.LoadingLaws.{lookup_loaded}
use Rattle.connection.proofs.Runs.LinkingStep.{open_loaded, closed_loaded}
use Rattle.queue_slot.specs.Atoms.{Atom, atoms_of, record_atoms}
use Rattle.queue_slot.proofs.AtomLaws.{atoms_none}
use Rattle.queue_slot.specs.Wait.{anything, Served, ServesNothing, ServesEnd, ServesData, ServesLast, served}
use Rattle.queue_slot.proofs.ServeLaws.{ServedWell, served_well, put_front_lem}
use Rattle.queue_slot.proofs.WaitRefines.{as_next, served_is_next}
use Rattle.queue_machine.specs.Queued as Q
use Rattle.queue_machine.specs.Queued.{outcome_answer, Queued, Asked, Serve, QueueAnswer, queued_call, wrote_by, queueing_receiver, waiting_queue}
use Rattle.queue_machine.proofs.Lift.{Waiting, lift_slots, lift_reading, lift_connection, lift_lookup_lem}
use Rattle.queue_machine.proofs.LiftRuns.{lift_seen}
use Rattle.queue_link.proofs.Loaded.{waiting_of, loaded_queue}
use Rattle.queue_link.proofs.LoadedCalls as L
use Rattle.queue_link.proofs.LoadedPump as P
use Rattle.queue_link.proofs.LoadedTurn.{served_in, serves_of, waits_open, waits_found_lem, waiting_is, first_below, on_id, pump_good}
use Rattle.machine_queue.proofs.IdsBelow.{IdsBelow, lookup_below, below_item}
use Rattle.queue_machine.proofs.EndsRight.{ends_laws}
use Rattle.machine.specs.Shape.{WellShaped}
use Rattle.machine.proofs.ShapeKept.{shape_item}
use Rattle.queue_link.proofs.LinkedStraight.{asked, told_of, answer_in}
use Rattle.queue_link.proofs.LinkedQueued.{decided_answer}
use Rattle.queue_link.proofs.LinkedFinish.{call_is}
use Rattle.queue_link.proofs.Observing.{served_seen}
use Rattle.queue_link.proofs.LinkedRuns.{served_by, machine_items, machine_timeline, Fine, PieceOk, op_is, op_fine, piece_ok, pump_done, pump_refused_lem}
use Rattle.queue_link.proofs.LinkedShown.{step_observed, call_observed}
use Rattle.queue_link.proofs.LinkedWritten.{read_of, if_own, records_none, records_record, Own, own_one, told_bytes, own_asked, own_refusal_lem, wrote_bytes_lem}
use Rattle.queue.specs.Numbers.{NEXT}
use Rattle.queue.specs.Calls as T
use Rattle.queue.specs.Calls.{QUEUE, PUMPED, queue_in_shape, QueueMemory, conn_of, wait_at, first_slot, slot_waits, on_some, Turned, turned, served_last, write_served, pump_slot, pump_refusal}
use Rattle.queue.specs.Run as D
use Rattle.queue.specs.Run.{Asking, Answering, QueueOperation, CallFor, CountActive, TurnWith, queue_called, queue_after, written_bytes, bytes_in, PiecesAreBytes}

-- what the machine wrote of R
abbrev pub written_of : ℕ → List (Observation queueing_receiver) → List Atom
written_of R os = written_all queueing_receiver waiting_queue (observed queueing_receiver R os)

-- in two lists
pub written_append : (R : ℕ) (os ps : List (Observation queueing_receiver)) → written_of R (os ++ ps) ≡ written_of R os ++ written_of R ps
written_append R os ps = ap (written_all queueing_receiver waiting_queue) (observed_append queueing_receiver R os ps) ∙ written_all_append queueing_receiver waiting_queue (observed queueing_receiver R os) (observed queueing_receiver R ps)

-- by one call
pub written_one : (R id : ℕ) (a : Asked) (n : QueueAnswer) (v w : Option Queued) → written_of R (CallAnswer id a n v w ∷ []) ≡ if_own R id (wrote_by a n)
unfolding observed concerns written_all written_in
written_one R id a n v w = by_test (eqb id R) (λ e. rw e (append-nil (wrote_by a n))) (λ e. rw e)

-- ---- a step
-- it writes nothing
pub step_writes : (R : ℕ) (f : Waiting) (os : List (Observation receiver)) → written_of R (lift_seen f os) ≡ []
unfolding lift_seen observed concerns written_all written_in as_list
step_writes R f [] = refl
step_writes R f (RequestEvent id e ∷ os) = by_test (eqb id R) (λ d. rw d (step_writes R f os)) (λ d. rw d (step_writes R f os))
step_writes R f (NoticeEvent w ∷ os) = step_writes R f os
step_writes R f (CloseEvent n ∷ os) = step_writes R f os
step_writes R f (CountAnswer n ∷ os) = step_writes R f os
step_writes R f (CallAnswer id a n v w ∷ os) = step_writes R f os

-- ---- a call
module _ (R : ℕ) (m : QueueMemory) (k : Fine m) where
  -- the id of an active request is a number of two bytes
  pub found_below : (id i : ℕ) → (conn_of m).«open» ≡ true → find (conn_of m).table id ≡ Some i → id < 65536
  found_below id i o f =
      let z = k.good.steady in
      let y = k.good.roomy in
      let b : IdsBelow queueing_receiver (Open (lift_slots (waiting_of m) (L.slots m z y o id i f)) (lift_reading (L.reading m z y o id i f))) = subst (λ s. IdsBelow queueing_receiver s) (L.loaded_is m z y o id i f) k.below in
      let e : lookup id (lift_slots (waiting_of m) (L.slots m z y o id i f)) ≡ FoundAt i (L.mine m z y o id i f) =
      lift_lookup_lem (waiting_of m) id (L.slots m z y o id i f) ∙ rw (lookup_loaded (conn_of m).table m.memory.store id, f) in
      rw e at (lookup_below queueing_receiver id (lift_slots (waiting_of m) (L.slots m z y o id i f)) b.0)

  answer_own : (id : ℕ) (a : Asking) → Own R id (told_bytes R (answer_in (on_item queueing_receiver (loaded_queue m) (CallItem (RequestCall id (asked a)))).1))
  unfolding on_item request_called answer_in
  answer_own id a = by_test (conn_of m).«open» (λ o. go o (find (conn_of m).table id) refl)
      (λ o. let shut : loaded_queue m ≡ Closed = ap (lift_connection (waiting_of m)) (closed_loaded m.memory o) in
      subst (λ s. Own R id (told_bytes R (answer_in (on_item queueing_receiver s (CallItem (RequestCall id (asked a)))).1))) (sym shut) (own_refusal_lem R 1 id a))
    where
      go : (conn_of m).«open» ≡ true → (s : Slot) → find (conn_of m).table id ≡ s → Own R id (told_bytes R (answer_in (on_item queueing_receiver (loaded_queue m) (CallItem (RequestCall id (asked a)))).1))
      go o None f =
          let T = loaded_slots (conn_of m).table m.memory.store in
          let there : loaded_queue m ≡ Open (lift_slots (waiting_of m) T) (lift_reading (loaded_reading (conn_of m).frame m.memory.state.gathered)) = ap (lift_connection (waiting_of m)) (open_loaded m.memory o) in
          let e : lookup id (lift_slots (waiting_of m) T) ≡ Absent = lift_lookup_lem (waiting_of m) id T ∙ rw (lookup_loaded (conn_of m).table m.memory.store id, f) in
          subst (λ s. Own R id (told_bytes R (answer_in (on_item queueing_receiver s (CallItem (RequestCall id (asked a)))).1))) (sym there) (rw e (own_refusal_lem R 3 id a))
      go o (Some i) f =
          let z = k.good.steady in
          let y = k.good.roomy in
          let r = L.mine m z y o id i f in
          let own_id = L.own_id m z y o id i f in
          let hi : r.held.request.id < 65536 = subst (λ j. j < 65536) (sym own_id) (found_below id i o f) in
          let h : Own R id (told_bytes R (outcome_answer (queued_call (asked a) r))) = subst (λ j. Own R j (told_bytes R (outcome_answer (queued_call (asked a) r)))) own_id (own_asked R a r hi) in
          subst (λ n. Own R id (told_bytes R n)) (sym (ap (λ e. answer_in e.1) (L.call_decided_lem m z y o id i f (asked a)) ∙ decided_answer (queued_call (asked a) r) i r id (asked a) _ _)) h

  told_same : (n : Answering) → told_bytes R (told_of n) ≡ written_bytes n
  told_same (D.Straightly n) = refl
  told_same (D.Queued n) = refl

  -- What a call writes of R.
  pub call_writes : (id : ℕ) (a : Asking) → read_of R (bytes_in m (CallFor id a)) ≡ written_of R (observations queueing_receiver (loaded_queue m) (machine_items m (CallFor id a)))
  unfolding bytes_in machine_items
  call_writes id a =
      let n = (queue_called m id a).answer in
      let h : Own R id (written_bytes n) = subst (λ b. Own R id b) (ap (told_bytes R) (sym (call_is m id a k.good k.ends).answer) ∙ told_same n) (answer_own id a) in
      h ∙ ap (if_own R id) (sym (wrote_bytes_lem (asked a) n)) ∙ sym (written_one R id (asked a) (told_of n) _ _) ∙ ap (written_of R) (sym (call_observed m id a k))

-- ---- a record of the pump
abbrev Piece : ℕ → ℕ → List ℕ → Type 0
Piece R id bytes = (rest : List ℕ) → read_of R (bytes ++ rest) ≡ if_own R id (atoms_of bytes) ++ read_of R rest

piece_none : (R id : ℕ) → Piece R id []
piece_none R id rest = by_test (eqb id R) (λ e. rw (e, atoms_none)) (λ e. rw e)

piece_one : (R kind id : ℕ) (x : List ℕ) → id < 65536 → length x < 65536 → Piece R id (record_bytes kind id x)
piece_one R kind id x hi hx rest =
    let a : read_of R (record_bytes kind id x) ≡ if_own R id (record_atoms kind x) = ap (read_of R) (sym (append-nil (record_bytes kind id x))) ∙ records_record R kind id x [] hi hx ∙ ap (λ l. if_own R id (record_atoms kind x) ++ l) (records_none R) ∙ append-nil _ in
    records_record R kind id x rest hi hx ∙ ap (λ l. l ++ read_of R rest) (sym a ∙ own_one R kind id x hi hx)

short : (kind id : ℕ) (x : List ℕ) → length x ≤ 512 → length (record_bytes kind id x) ≤ 520
unfolding record_length padding_of
short kind id x h = omega (arith, record_length_lem kind id x, h)

-- a record of the pump: as the machine answers, read back, and within 520 bytes
pub record Pumps (R : ℕ) (m : QueueMemory) (id i : ℕ) : Type 0 where
  pub answer : answer_in (on_item queueing_receiver (loaded_queue m) (CallItem (RequestCall id Serve))).1 ≡ Q.Record (pump_slot m i).bytes
  pub piece : Piece R id (pump_slot m i).bytes
  pub fits : length (pump_slot m i).bytes ≤ 520

module _ (R : ℕ) (m : QueueMemory) (k : Fine m) (o : (conn_of m).«open» ≡ true) (id i : ℕ) (f : find (conn_of m).table id ≡ Some i) where
  abbrev mine : Queued
  mine = L.mine m k.good.steady k.good.roomy o id i f

  abbrev request : Request
  request = request_at (conn_of m).table i

  own_id : request.id ≡ id
  own_id = L.own_id m k.good.steady k.good.roomy o id i f

  bytes_told : (s : Served) → outcome_answer (Q.served mine (as_next s)) ≡ Q.Record (write_served (served_last m i) i request s).bytes
  unfolding Q.served write_served
  bytes_told ServesNothing = refl
  bytes_told (ServesEnd p v) = refl
  bytes_told (ServesData p content v) = refl
  bytes_told (ServesLast status) = go request.state.keep (Q.Record (record_bytes END_REQUEST request.id (end_body_bytes status REQUEST_COMPLETE)))
    where
      go : (b : Bool) (n : QueueAnswer) → outcome_answer (if b then Leaves n else Closes n) ≡ n
      go true n = refl
      go false n = refl

  pieces : (s : Served) → ServedWell (wait_at m i) s → id < 65536 → Piece R id (write_served (served_last m i) i request s).bytes × (length (write_served (served_last m i) i request s).bytes ≤ 520)
  unfolding write_served
  pieces ServesNothing h hi = (piece_none R id, omega arith)
  pieces (ServesEnd p v) h hi = rw own_id (piece_one R (output_type p) id [] hi (omega arith), short (output_type p) id [] (omega arith))
  pieces (ServesData p content v) h hi = let l : length content ≤ 512 = h.4 in rw own_id (piece_one R (output_type p) id content hi (omega arith), short (output_type p) id content l)
  pieces (ServesLast status) h hi =
      let l = end_length status REQUEST_COMPLETE in
      rw own_id (piece_one R END_REQUEST id (end_body_bytes status REQUEST_COMPLETE) hi (omega (arith, l)), short END_REQUEST id (end_body_bytes status REQUEST_COMPLETE) (omega (arith, l)))

  -- so it is
  pub pumps : Pumps R m id i
  unfolding pump_slot queued_call
  pumps =
      let z = k.good.steady in
      let y = k.good.roomy in
      let s = z.sized i (L.holds m z y o id i f).low in
      let p = pieces (served (wait_at m i)) (served_well (wait_at m i) s) (found_below R m k id i o f) in
      record {
        answer = ap (λ e. answer_in e.1) (L.call_decided_lem m z y o id i f Serve) ∙ decided_answer (queued_call Serve mine) i mine id Serve _ _
            ∙ ap (λ n. outcome_answer (Q.served mine n)) (served_is_next (wait_at m i) s) ∙ bytes_told (served (wait_at m i));
        piece = p.0;
        fits = p.1;
      }

-- ---- a turn
pub slot_fine : (m : QueueMemory) (k : Fine m) (o : (conn_of m).«open» ≡ true) (id i : ℕ) (f : find (conn_of m).table id ≡ Some i) → Fine (pump_slot m i).left
slot_fine m k o id i f =
    let e = P.serve_loaded m k.good.steady k.good.roomy o id i f in
    record {
      good = pump_good m k.good o id i f;
      ends = subst (λ s. WellShaped queueing_receiver ends_laws s) (sym e) (shape_item queueing_receiver ends_laws (loaded_queue m) (CallItem (RequestCall id Serve)) tt k.ends);
      below = subst (λ s. IdsBelow queueing_receiver s) (sym e) (below_item queueing_receiver ends_laws (loaded_queue m) (CallItem (RequestCall id Serve)) tt k.ends k.below);
    }

record TurnWrites (R k : ℕ) (m : QueueMemory) (t : Turned) (ids : List ℕ) : Type 0 where
  written : read_of R (flatten t.records) ≡ written_of R (observations queueing_receiver (loaded_queue m) (serves_of ids))
  fits : length (flatten t.records) ≤ 520 * k

serve_told : (s : Connection queueing_receiver) (id : ℕ) (bytes : List ℕ) → answer_in (on_item queueing_receiver s (CallItem (RequestCall id Serve))).1 ≡ Q.Record bytes
    → (R : ℕ) → written_of R (as_list queueing_receiver (on_item queueing_receiver s (CallItem (RequestCall id Serve))).1) ≡ if_own R id (atoms_of bytes)
unfolding answer_in as_list wrote_by
serve_told s id bytes e R =
    let k = served_seen s id in
    let n : k.0 ≡ Q.Record bytes = sym (ap answer_in k.3) ∙ e in
    ap (λ o. written_of R (as_list queueing_receiver o)) k.3 ∙ written_one R id Serve k.0 k.1 k.2 ∙ ap (λ x. if_own R id (wrote_by Serve x)) n

turn_writes : (R k : ℕ) (m : QueueMemory) → Fine m → TurnWrites R k m (turned k m) (served_in k m)
unfolding turned served_in serves_of observations flatten observed written_all
turn_writes R zero m g = record { written = records_none R; fits = omega arith }
turn_writes R (suc k) m g = go (next_waiting SLOTS SLOTS (slot_waits m) (first_slot (get_or m.waits NEXT 0))) refl (λ i h. turn_writes R k (pump_slot m i).left h)
  where
    afterwards : Option ℕ → Turned
    afterwards o = on_some o (λ i. let p = pump_slot m i in let t = turned k p.left in record { records = p.bytes ∷ t.records; left = t.left }) (record { records = []; left = m })

    ids : Option ℕ → List ℕ
    ids o = on_id o (λ i. get_or (conn_of m).table.ids i 0 ∷ served_in k (pump_slot m i).left)

    more : (i : ℕ) → (h : i < SLOTS) → anything (wait_at m i) ≡ true
        → (Fine (pump_slot m i).left → TurnWrites R k (pump_slot m i).left (turned k (pump_slot m i).left) (served_in k (pump_slot m i).left))
        → TurnWrites R (suc k) m (afterwards (some i)) (ids (some i))
    more i h w f =
        let o = waits_open m i g.good.steady w in
        let id = get_or (conn_of m).table.ids i 0 in
        let e = waits_found_lem m i g.good.steady h o w in
        let r = f (slot_fine m g o id i e) in
        let p = pumps R m g o id i e in
        let bytes = (pump_slot m i).bytes in
        let rest = flatten (turned k (pump_slot m i).left).records in
        let u = serves_of (served_in k (pump_slot m i).left) in
        let x = on_item queueing_receiver (loaded_queue m) (CallItem (RequestCall id Serve)) in
        record {
          written = p.piece rest
              ∙ ap₂ (λ a b. a ++ b) (sym (serve_told (loaded_queue m) id bytes p.answer R)) (r.written ∙ ap (λ s. written_of R (observations queueing_receiver s u)) (P.serve_loaded m g.good.steady g.good.roomy o id i e))
              ∙ sym (written_append R (as_list queueing_receiver x.1) (observations queueing_receiver x.0 u));
          fits = omega (arith, length-append bytes rest, p.fits, r.fits);
        }

    go : (o : Option ℕ) → next_waiting SLOTS SLOTS (slot_waits m) (first_slot (get_or m.waits NEXT 0)) ≡ o
        → ((i : ℕ) → Fine (pump_slot m i).left → TurnWrites R k (pump_slot m i).left (turned k (pump_slot m i).left) (served_in k (pump_slot m i).left))
        → TurnWrites R (suc k) m (afterwards o) (ids o)
    go none e f = record { written = records_none R; fits = omega arith }
    go (some i) e f =
        more i (waiting_below SLOTS SLOTS (slot_waits m) (first_slot (get_or m.waits NEXT 0)) i (first_below (get_or m.waits NEXT 0)) e) (waiting_is SLOTS SLOTS (slot_waits m) (first_slot (get_or m.waits NEXT 0)) i e) (f i)

none_written : (R : ℕ) (s : Connection queueing_receiver) → written_of R (observations queueing_receiver s (serves_of [])) ≡ []
unfolding observations serves_of observed written_all
none_written R s = refl

pump_room : (m : QueueMemory) (allowance : ℕ) (buffer : List ℕ) → pump_refusal m allowance buffer ≡ 0 → PUMPED * allowance ≤ length buffer
unfolding pump_refusal
pump_room m allowance buffer e = ltb-false (length buffer) (PUMPED * allowance) (go (T.or (not (eqb (length m.memory.store) STORE)) (not (eqb (length m.queue) QUEUE))) (not (queue_in_shape m)) (not (conn_of m).«open») (ltb (length buffer) (PUMPED * allowance)) e)
  where
    go : (a b c d : Bool) → ◌≡◌ {A = ℕ} (if a then 2 else if b then 9 else if c then 1 else if d then 6 else 0) 0 → d ≡ false
    go true b c d e = absurd (omega arith)
    go false true c d e = absurd (omega arith)
    go false false true d e = absurd (omega arith)
    go false false false true e = absurd (omega arith)
    go false false false false e = refl

room_for : (n allowance b : ℕ) → n ≤ 520 * allowance → PUMPED * allowance ≤ b → n ≤ b
room_for n allowance b h g = omega arith

-- what a turn leaves in its buffer is its records, one after another
pub turn_bytes : (m : QueueMemory) (allowance : ℕ) (buffer : List ℕ) → Fine m → eqb (pump_refusal m allowance buffer) 0 ≡ true → bytes_in m (TurnWith allowance buffer) ≡ flatten (turned allowance m).records
unfolding bytes_in
turn_bytes m allowance buffer k e =
    let x = flatten (turned allowance m).records in
    ap (λ (p : T.Pumped). take p.written p.buffer) (pump_done m allowance buffer e)
    ∙ put_front_lem buffer x (room_for (length x) allowance (length buffer) (turn_writes 0 allowance m k).fits (pump_room m allowance buffer (eqb-true _ 0 e)))

-- a turn that is refused leaves nothing
pub no_turn_bytes : (m : QueueMemory) (allowance : ℕ) (buffer : List ℕ) → eqb (pump_refusal m allowance buffer) 0 ≡ false → bytes_in m (TurnWith allowance buffer) ≡ []
unfolding bytes_in
no_turn_bytes m allowance buffer e = ap (λ (p : T.Pumped). take p.written p.buffer) (pump_refused_lem m allowance buffer e)

op_turn : (R : ℕ) (m : QueueMemory) (allowance : ℕ) (buffer : List ℕ) → Fine m → read_of R (bytes_in m (TurnWith allowance buffer)) ≡ written_of R (observations queueing_receiver (loaded_queue m) (machine_items m (TurnWith allowance buffer)))
unfolding machine_items served_by
op_turn R m allowance buffer k =
    by_test (eqb (pump_refusal m allowance buffer) 0)
    (λ e. rw e (ap (read_of R) (turn_bytes m allowance buffer k e) ∙ (turn_writes R allowance m k).written))
    (λ e. rw e (ap (read_of R) (no_turn_bytes m allowance buffer e) ∙ records_none R ∙ sym (none_written R (loaded_queue m))))

-- ---- runs
-- the active number writes nothing
pub count_writes : (R : ℕ) (s : Connection queueing_receiver) → written_of R (observations queueing_receiver s (CallItem CountCall ∷ [])) ≡ []
unfolding observations on_item as_list observed concerns written_all
count_writes R (Open T F) = refl
count_writes R Closed = refl

op_writes : (R : ℕ) (m : QueueMemory) (o : QueueOperation) → Fine m → PieceOk o → read_of R (bytes_in m o) ≡ written_of R (observations queueing_receiver (loaded_queue m) (machine_items m o))
unfolding bytes_in machine_items
op_writes R m (D.StepOver piece) k p = records_none R ∙ sym (ap (written_of R) (step_observed m piece k.good.steady) ∙ step_writes R (waiting_of m) _)
op_writes R m (CallFor id a) k p = call_writes R m k id a
op_writes R m CountActive k p = records_none R ∙ sym (count_writes R (loaded_queue m))
op_writes R m (TurnWith allowance buffer) k p = op_turn R m allowance buffer k

-- What was written of R in a run is what the machine's run wrote.
pub run_writes : (R : ℕ) (os : List QueueOperation) (m : QueueMemory) → Fine m → PiecesAreBytes os → D.written_all R m os ≡ written_of R (observations queueing_receiver (loaded_queue m) (machine_timeline m os))
unfolding D.written_all machine_timeline observations observed written_all
run_writes R [] m k p = refl
run_writes R (o ∷ os) m k p =
    let q = piece_ok o os p in
    let i = op_is m o k q.0 in
    let r = run_writes R os (queue_after m o) (op_fine m o k q.0) q.1 in
    ap₂ (λ x y. x ++ y) (op_writes R m o k q.0) (r ∙ ap (λ s. written_of R (observations queueing_receiver s (machine_timeline (queue_after m o) os))) i.state)
    ∙ sym (written_append R (observations queueing_receiver (loaded_queue m) (machine_items m o)) (observations queueing_receiver (state_after queueing_receiver (loaded_queue m) (machine_items m o)) (machine_timeline (queue_after m o) os)))
    ∙ ap (written_of R) (sym (observations_append queueing_receiver (loaded_queue m) (machine_items m o) (machine_timeline (queue_after m o) os)))

-- What a run with a queue keeps of lists.
--
-- After any run, the list of a request whose PARAMS have ended, and that is not faulted, is well formed and repeats
-- no name, between its queued finish and its END, too. So a value by name has at most one match.
use Rattle.std.specs.Prelude.{◌≡◌, true, ℕ, eqb, Some}
use Rattle.std.proofs.Common.{ap, sym, ◌∙◌, subst, eqb-true}
use mathlib.Core.List.{List, [], ◌∷◌, Memᴰ}
use Rattle.wire.specs.Test.{by_test}
use Rattle.wire.proofs.Bytes.{take_bytes}
use Rattle.pairs.specs.Pair.{name_of, value_of}
use Rattle.pairs.specs.declared.pair.Pair.{Pair}
use Rattle.pair_list.specs.List.{pairs_from, first_named}
use Rattle.pair_repeats.proofs.RepeatsLaws.{named_once}
use Rattle.machine.specs.Slots.{HeldBy, slot_at}
use Rattle.machine.specs.Timeline.{RequestCall, CountCall, CallItem}
use Rattle.machine.specs.Machine.{Connection, state_after}
use Rattle.machine.specs.Shape.{SlotOk, WellShaped}
use Rattle.machine.proofs.ShapeKept.{shape_item, shape_after, shape_fresh, items_all}
use Rattle.connection.specs.Request.{Held, list_of}
use Rattle.connection.specs.RequestCalls as Of
use Rattle.connection.specs.RequestCalls.{in_params, no_list}
use Rattle.connection.specs.Slots.{request_at, held_at}
use Rattle.connection.specs.Calls as C
use Rattle.connection.proofs.Laws.SlotsLaws.{find_at}
use Rattle.connection.specs.Fits.{InUse}
use Rattle.connection.specs.Runs.Receiver.{receiver}
use Rattle.connection.proofs.Runs.Loading.{loaded_slots}
use Rattle.connection.proofs.Runs.LoadingLaws.{taken_loaded}
use Rattle.connection.proofs.Runs.LinkingStep.{open_loaded}
use Rattle.connection.proofs.Runs.Freed.{lent_admitted}
use Rattle.connection.proofs.Runs.WellFormedLists.{ListOk}
use Rattle.queue_machine.specs.Queued.{Queued, queued, Serve, queueing_receiver}
use Rattle.queue_machine.proofs.Lift.{lift_slot, lift_slots, lift_connection, lift_at}
use Rattle.queue.specs.Calls as T
use Rattle.queue.specs.Calls.{QueueMemory, conn_of, queue_step, lent_refusal, queue_value, queue_source}
use Rattle.queue.specs.Run as D
use Rattle.queue.specs.Run.{QueueOperation, CallFor, CountActive, TurnWith, used_of, queue_after, final_queue, PiecesAreBytes, QueueRun, beginning, ending}
use Rattle.queue_link.proofs.Loaded.{waiting_of, loaded_queue}
use Rattle.queue_link.proofs.LoadedTurn.{serves_of}
use Rattle.queue_link.proofs.LinkedStraight.{asked}
use Rattle.queue_link.proofs.LinkedRuns.{served_by, machine_items, Fine, PieceOk, op_is, op_fine, piece_ok}
use Rattle.queue_theorem.proofs.Theorem.{start_is, start_fine}
use Rattle.queue_kept.proofs.ListLaws.{Kept, kept_laws}

-- ---- every run
-- What the laws ask of a connection.
abbrev pub AllKept : QueueMemory → Type 0
AllKept m = WellShaped queueing_receiver kept_laws (loaded_queue m)

-- serves, one after another, keep them
serves_kept : (ids : List ℕ) (s : Connection queueing_receiver) → WellShaped queueing_receiver kept_laws s → WellShaped queueing_receiver kept_laws (state_after queueing_receiver s (serves_of ids))
unfolding serves_of state_after
serves_kept [] s k = k
serves_kept (id ∷ ids) s k = serves_kept ids _ (shape_item queueing_receiver kept_laws s (CallItem (RequestCall id Serve)) tt k)

-- so do the items of an operation
items_kept : (m : QueueMemory) (o : QueueOperation) → PieceOk o → AllKept m → WellShaped queueing_receiver kept_laws (state_after queueing_receiver (loaded_queue m) (machine_items m o))
unfolding machine_items state_after
items_kept m (D.StepOver piece) p k = shape_after queueing_receiver kept_laws (loaded_queue m) (items_all queueing_receiver (used_of m piece) (take_bytes (queue_step m piece).used piece p)) k
items_kept m (CallFor id a) p k = shape_item queueing_receiver kept_laws (loaded_queue m) (CallItem (RequestCall id (asked a))) tt k
items_kept m CountActive p k = shape_item queueing_receiver kept_laws (loaded_queue m) (CallItem CountCall) tt k
items_kept m (TurnWith allowance buffer) p k = serves_kept (served_by m allowance buffer) (loaded_queue m) k

-- Each operation keeps them.
pub op_kept : (m : QueueMemory) (o : QueueOperation) → Fine m → PieceOk o → AllKept m → AllKept (queue_after m o)
op_kept m o f p k = subst (λ s. WellShaped queueing_receiver kept_laws s) (sym (op_is m o f p).state) (items_kept m o p k)

-- so do operations in order
operations_kept : (os : List QueueOperation) (m : QueueMemory) → Fine m → PiecesAreBytes os → AllKept m → AllKept (final_queue m os)
unfolding final_queue
operations_kept [] m f p k = k
operations_kept (o ∷ os) m f p k = let q = piece_ok o os p in operations_kept os (queue_after m o) (op_fine m o f q.0) q.1 (op_kept m o f q.0 k)

-- So does a run from a start.
pub run_kept : (r : QueueRun) → AllKept (ending r)
run_kept r =
    operations_kept r.operations (beginning r) (start_fine r) r.pieces (subst (λ s. WellShaped queueing_receiver kept_laws s) (sym (start_is r)) (shape_fresh queueing_receiver kept_laws))

-- ---- one slot
-- the request in slot i with what waits there
abbrev pub held_with : QueueMemory → ℕ → Queued
held_with m i = queued (held_at (conn_of m).table m.memory.store i) (waiting_of m i)

-- A slot that is taken holds its request, with what waits.
pub held_there : (m : QueueMemory) (i : ℕ) → InUse (conn_of m).table i
    → slot_at receiver.clean (lift_slots (waiting_of m) (loaded_slots (conn_of m).table m.memory.store)) i ≡ HeldBy (request_at (conn_of m).table i).id (held_with m i)
held_there m i u =
    let T = loaded_slots (conn_of m).table m.memory.store in
    lift_at (waiting_of m) T i ∙ ap (lift_slot (waiting_of m i)) (taken_loaded (conn_of m).table m.memory.store i u)

-- What the laws ask of a request, of the one in a slot that is taken.
pub slot_kept : (m : QueueMemory) (i : ℕ) → (conn_of m).«open» ≡ true → AllKept m → InUse (conn_of m).table i → Kept (held_with m i)
slot_kept m i o k u =
    let w = subst (λ s. WellShaped queueing_receiver kept_laws s) (ap (lift_connection (waiting_of m)) (open_loaded m.memory o)) k in
    let s = subst (λ x. SlotOk queueing_receiver kept_laws x) (held_there m i u) (w.0.fits i) in
    s.1

-- After any run that leaves the connection open, for each active request: once its PARAMS have ended, and while it
-- is not faulted, its list is well formed and repeats no name.
pub lists_well_formed : (r : QueueRun) → (conn_of (ending r)).«open» ≡ true → (i : ℕ) → InUse (conn_of (ending r)).table i
    → ListOk (held_at (conn_of (ending r)).table (ending r).memory.store i)
lists_well_formed r o i u = (slot_kept (ending r) i o (run_kept r) u).list

-- ---- a value by name
-- the request that a call is about, after a run
abbrev pub asked_in : QueueRun → ℕ → Held
asked_in r id = held_at (conn_of (ending r)).table (ending r).memory.store (T.slot_of (ending r) id)

-- A pair that matches: it is the first one found by its name, and its value is what value answers, for every
-- fallback.
pub record Matches (r : QueueRun) (id : ℕ) (name : List ℕ) (q : Pair) : Type 0 where
  pub found : first_named (list_of (asked_in r id)) name ≡ Some q
  pub answered : (fallback : List ℕ) → queue_value (ending r) id name fallback ≡ value_of (list_of (asked_in r id)) q

-- the list of the request that a call is about that is let through
at_slot : (r : QueueRun) (id : ℕ) → C.lent_refusal (conn_of (ending r)) (ending r).memory.store id ≡ 0 → ListOk (asked_in r id)
at_slot r id e =
    let m = ending r in
    let a = lent_admitted (conn_of m) m.memory.store id e in
    let u = find_at (conn_of m).table id a.slot a.found in
    rw a.found (lists_well_formed r a.fits.is_open a.slot (record { low = u.low; slot_taken = u.slot_taken }))

-- After any run, every pair of the request's list that has the name asked for is the one whose value is answered,
-- unless the call is refused. So there is at most one.
pub value_one_match : (r : QueueRun) (id : ℕ) (name : List ℕ) (q : Pair)
    → ((n : ℕ) → queue_source (ending r) id name ≡ Of.SourceRefused n → ⊥)
    → Memᴰ q (pairs_from (list_of (asked_in r id)) 0).pairs → name_of (list_of (asked_in r id)) q ≡ name → Matches r id name q
unfolding queue_source queue_value C.source Of.source_in C.value Of.value_in
value_one_match r id name q given there named =
    let m = ending r in
    let h = asked_in r id in
    by_test (eqb (lent_refusal m id) 0)
    (λ s.
    by_test (eqb (C.lent_refusal (conn_of m) m.memory.store id) 0)
    (λ t.
    by_test (in_params h.request.state.turn)
    (λ p. absurd (given 4 (simp (s, t, p))))
    (λ p.
    by_test (no_list h.request)
    (λ n. absurd (given 4 (simp (s, t, n))))
    (λ n.
    let one = named_once (list_of h) name q (at_slot r id (eqb-true (C.lent_refusal (conn_of m) m.memory.store id) 0 t) p (simp p at n)).once there named in
    record { found = one; answered = λ fallback. simp (s, t, n, one) })))
    (λ t. absurd (given (C.lent_refusal (conn_of m) m.memory.store id) (simp (s, t)))))
    (λ s. absurd (given (lent_refusal m id) (simp s)))

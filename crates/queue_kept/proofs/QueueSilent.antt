-- In a run with a queue nothing is told of a request that is spent, and a queued finish spends its request.
--
-- So from a queued finish on, until END is written or the connection closes, no step tells anything of its request:
-- no data, no end, no ready, no fault and no abort.
use Rattle.std.specs.Prelude.{◌≡◌, refl, List, [], ◌∷◌, ◌++◌, true, false, ℕ, zero, suc, ◌<◌, take, eqb, Some}
use Rattle.std.proofs.Common.{ap, ap₂, sym, ◌∙◌, subst, arith, eq-eqb, eqb-true, ne_eqb}
use Rattle.std.proofs.Math.Option.{some}
use Rattle.wire.specs.Test.{by_test}
use Rattle.machine.specs.Slots.{HeldBy, slot_at}
use Rattle.machine.specs.Machine.{Slots}
use Rattle.machine.specs.Shape.{ReadingOk, WellShaped}
use Rattle.connection.specs.declared.request.Due.{Due}
use Rattle.connection.specs.declared.request.Request.{Request}
use Rattle.connection.specs.Event.{Event}
use Rattle.connection.specs.Request.{Held, is_spent, with_life}
use Rattle.connection.specs.Refusal.{refusal}
use Rattle.connection.specs.Slots.{request_at, held_at, put_request, find}
use Rattle.connection.specs.Step.{due_to, Stepped}
use Rattle.connection.specs.Bytewise.{Note, showing, notes}
use Rattle.connection.specs.Run.{Memory, request_of, event_id}
use Rattle.connection.proofs.Laws.SlotsLaws.{Sized, find_at, find_put, request_of_put}
use Rattle.connection.proofs.Laws.Spent.{DueLive, spent_step}
use Rattle.connection.specs.Runs.Receiver.{receiver}
use Rattle.connection.proofs.Runs.Loading.{loaded_slots, loaded_target, reading_at}
use Rattle.connection.proofs.Runs.LinkingStep.{open_loaded}
use Rattle.connection.proofs.Runs.SpentSilent.{active_at}
use Rattle.queue_slot.specs.Finishing.{spent_by}
use Rattle.queue_machine.specs.Queued.{Queued, queueing_receiver}
use Rattle.queue_machine.proofs.Lift.{lift_slots, lift_reading, lift_connection}
use Rattle.queue.specs.Numbers.{last_at}
use Rattle.queue.specs.Calls as T
use Rattle.queue.specs.Calls.{QueueMemory, conn_of, queue_step}
use Rattle.queue.specs.Run as D
use Rattle.queue.specs.Run.{ShownNote, note_id, QueueOperation, CallFor, CountActive, TurnWith, queue_called, queue_after, used_of, leaving_of, notes_of, notes_all, final_queue, PiecesAreBytes, QueueRun, ending}
use Rattle.queue_link.proofs.Loaded.{waiting_of, queue_step_is}
use Rattle.queue_link.proofs.LoadedCalls as L
use Rattle.queue_link.proofs.LinkedFinish.{spent_list}
use Rattle.queue_link.proofs.LinkedRuns.{Fine, op_fine}
use Rattle.queue_runs.proofs.Rows.{let_through}
use Rattle.queue_runs.proofs.Changes.{queued_rows, active}
use Rattle.queue_history.proofs.HistoryCalls.{retired_by, finish_leaves}
use Rattle.queue_kept.proofs.ListLaws.{kept_laws, spent_life_lem}
use Rattle.queue_kept.proofs.QueueLists.{AllKept, op_kept, run_kept, held_with, held_there, slot_kept}
use Rattle.queue_kept.proofs.QueueSpent.{NoneGoes, stays_spent, stays_spent_on, run_fine}

-- ---- a queued finish
-- R is active and spent.
pub record ActiveSpent (R : ℕ) (m : Memory) : Type 0 where
  pub now : Held
  pub active : request_of R m ≡ some now
  pub spent : is_spent now.request.state.life ≡ true

-- a request after a queued finish is spent
spent_now : (r : Request) → is_spent (spent_by r).state.life ≡ true
unfolding spent_by with_life
spent_now r = (spent_life_lem r.state.life).0

-- A call that is not refused is let through.
finish_through : (m : QueueMemory) (id status : ℕ) → (queue_called m id (D.ToFinish status)).answer ≡ D.Queued 0 → refusal (queued_rows m id (D.ToFinish status)) ≡ 0
unfolding queue_called T.queue_finish
finish_through m id status e =
    by_test (eqb (refusal (queued_rows m id (D.ToFinish status))) 0)
    (λ t. eqb-true (refusal (queued_rows m id (D.ToFinish status))) 0 t) (λ t. let n = rw t at e in cc)

-- A queued finish that is not refused: its request is active, and this is left.
pub record Retired (m : QueueMemory) (id status : ℕ) : Type 0 where
  pub slot : ℕ
  pub is_open : (conn_of m).«open» ≡ true
  pub found : find (conn_of m).table id ≡ Some slot
  pub left : (queue_after m (CallFor id (D.ToFinish status))).memory ≡ retired_by m.memory slot

-- It is so.
pub finish_retires : (m : QueueMemory) (id status : ℕ) → (queue_called m id (D.ToFinish status)).answer ≡ D.Queued 0 → Retired m id status
unfolding queue_after
finish_retires m id status e =
    let rows = queued_rows m id (D.ToFinish status) in
    let k = finish_through m id status e in
    let q = active m id (let_through rows 1 k refl) (let_through rows 3 k refl) in
    record { slot = q.slot; is_open = q.is_open; found = q.found; left = finish_leaves m id status q.slot (eq-eqb (refusal rows) 0 k) q.at }

-- there the request is active and spent
retired_spent : (R : ℕ) (m : Memory) (i : ℕ) → Sized m.state.conn.table → m.state.conn.«open» ≡ true → find m.state.conn.table R ≡ Some i → ActiveSpent R (retired_by m i)
unfolding request_of
retired_spent R m i sized o f =
    let t = m.state.conn.table in
    let r = spent_by (request_at t i) in
    record {
      now = held_at (put_request t i r) m.store i;
      active = rw (o, find_put t i r R (spent_list (request_at t i)).id, f);
      spent = ap (λ (x : Request). is_spent x.state.life) (request_of_put t i r sized (find_at t R i f).low) ∙ spent_now (request_at t i);
    }

-- A queued finish of R that is not refused leaves R active, and spent.
pub finish_spends : (R status : ℕ) (m : QueueMemory) → Sized (conn_of m).table → (queue_called m R (D.ToFinish status)).answer ≡ D.Queued 0 → ActiveSpent R (queue_after m (CallFor R (D.ToFinish status))).memory
finish_spends R status m sized e = let w = finish_retires m R status e in subst (ActiveSpent R) (sym w.left) (retired_spent R m.memory w.slot sized w.is_open w.found)

-- ---- content is due to none that is spent
-- content that is due to a slot, as the laws have it
aimed : (due : Due) (S : Slots queueing_receiver) (i c p n : ℕ) (header body gathered : List ℕ) → (due ≡ Due.Skip → ⊥) → 0 < c
    → ReadingOk queueing_receiver kept_laws S (lift_reading (reading_at c p header (loaded_target (due_to due i) n body gathered)))
    → (id : ℕ) × (r : Queued) × (slot_at receiver.clean S i ≡ HeldBy id r) × (is_spent r.held.request.state.life ≡ false)
aimed due S i zero p n header body gathered skip left k = absurd (omega arith)
aimed Due.Skip S i (suc c) p n header body gathered skip left k = absurd (skip refl)
aimed Due.Params S i (suc c) p n header body gathered skip left k = let a = k.target_ok in (a.0, a.1, a.2, a.3.1)
aimed Due.Stdin S i (suc c) p n header body gathered skip left k = let a = k.target_ok in (a.0, a.1, a.2, a.3)
aimed Due.Data S i (suc c) p n header body gathered skip left k = let a = k.target_ok in (a.0, a.1, a.2, a.3)

-- Content that is due to a slot is due to a request that is not spent.
pub due_live : (m : QueueMemory) (i : ℕ) → AllKept m → (conn_of m).«open» ≡ true → DueLive m.memory.state i
due_live m i k is_open due u aim left skip =
    let f = (conn_of m).frame in
    let S = lift_slots (waiting_of m) (loaded_slots (conn_of m).table m.memory.store) in
    let w = subst (λ s. WellShaped queueing_receiver kept_laws s) (ap (lift_connection (waiting_of m)) (open_loaded m.memory is_open)) k in
    let r = subst (λ a. ReadingOk queueing_receiver kept_laws S (lift_reading (reading_at f.position.content f.position.padding (take f.position.held f.position.header) (loaded_target a f.gathered f.body m.memory.state.gathered)))) aim w.1 in
    let there = aimed due S i f.position.content f.position.padding f.gathered (take f.position.held f.position.header) f.body m.memory.state.gathered skip left r in
    let same : there.1 ≡ held_with m i = cc (there.2, held_there m i u) in
    subst (λ (q : Queued). is_spent q.held.request.state.life ≡ false) same there.3

-- ---- nothing is told
-- While R is spent, no step tells anything of R.
pub silent_step : (R : ℕ) (m : QueueMemory) (h : Held) (piece : List ℕ) → Fine m → AllKept m → 0 < R → request_of R m.memory ≡ some h → is_spent h.request.state.life ≡ true
    → event_id (queue_step m piece).event ≡ R → ⊥
silent_step R m h piece fine k some_id e spent d =
    let a = active_at R m.memory h e in
    spent_step m.memory.state m.memory.store piece R a.slot some_id a.found (ap (λ (x : Held). is_spent x.request.state.life) a.same ∙ spent) (due_live m a.slot k a.is_open)
    (ap (λ (s : Stepped). event_id s.event) (sym (queue_step_is m piece fine.good.steady)) ∙ d)

-- So it is after any run.
pub spent_silent : (R : ℕ) (r : QueueRun) (h : Held) (piece : List ℕ) → 0 < R → request_of R (ending r).memory ≡ some h → is_spent h.request.state.life ≡ true
    → event_id (queue_step (ending r) piece).event ≡ R → ⊥
spent_silent R r h piece some_id e spent = silent_step R (ending r) h piece (run_fine r) (run_kept r) some_id e spent

-- what is told of R, of two lists
notes_append : (R : ℕ) (x y : List Note) → notes_of R (x ++ y) ≡ notes_of R x ++ notes_of R y
unfolding notes_of
notes_append R [] y = refl
notes_append R (n ∷ x) y = by_test (eqb (note_id n) R) (λ e. rw e (ap (λ l. ShownNote n ∷ l) (notes_append R x y))) (λ e. rw e (notes_append R x y))

-- bytes of another request, and what an event tells of another
shown_silent : (R id stream : ℕ) (x : List ℕ) → (id ≡ R → ⊥) → notes_of R (showing id stream x) ≡ []
unfolding notes_of showing
shown_silent R id stream [] n = refl
shown_silent R id stream (b ∷ x) n = rw (ne_eqb id R n) (shown_silent R id stream x n)

-- an event that names another
told_silent : (R : ℕ) (e : Event) → (event_id e ≡ R → ⊥) → notes_of R (Note.Told e ∷ []) ≡ []
unfolding notes_of
told_silent R e n = rw (ne_eqb (event_id e) R n)

-- what an event tells, if it names another
event_silent : (R : ℕ) (e : Event) (x : List ℕ) → (event_id e ≡ R → ⊥) → notes_of R (notes e x) ≡ []
unfolding notes_of
event_silent R Event.None x n = refl
event_silent R (Event.Open id role keep) x n = told_silent R (Event.Open id role keep) n
event_silent R (Event.Ready id k) x n = told_silent R (Event.Ready id k) n
event_silent R (Event.Data id stream k) x n = shown_silent R id stream (take k x) n
event_silent R (Event.End id stream measure) x n = told_silent R (Event.End id stream measure) n
event_silent R (Event.Abort id) x n = told_silent R (Event.Abort id) n
event_silent R (Event.Refuse id status) x n = told_silent R (Event.Refuse id status) n
event_silent R (Event.Fault id cause) x n = told_silent R (Event.Fault id cause) n
event_silent R (Event.Query conns reqs mpxs) x n = told_silent R (Event.Query conns reqs mpxs) n
event_silent R (Event.Unknown kind) x n = told_silent R (Event.Unknown kind) n
event_silent R (Event.Closed cause) x n = told_silent R (Event.Closed cause) n

-- Nothing is told of R by any operations, from a memory where R is spent, for as long as none of them tells that R
-- goes.
pub spent_tells_nothing_on : (R : ℕ) (os : List QueueOperation) (m : QueueMemory) (h : Held) → Fine m → AllKept m → PiecesAreBytes os → 0 < R
    → request_of R m.memory ≡ some h → is_spent h.request.state.life ≡ true → NoneGoes R m os → notes_of R (notes_all m os) ≡ []
unfolding notes_all notes_of queue_after
spent_tells_nothing_on R [] m h fine k p some_id e spent g = refl
spent_tells_nothing_on R (D.StepOver piece ∷ os) m h fine k p some_id e spent g =
    let o = D.StepOver piece in
    let w = stays_spent R h spent m o fine e g.0 in
    notes_append R (notes (queue_step m piece).event (used_of m piece)) (notes_all (queue_after m o) os)
    ∙ ap₂ (λ x y. x ++ y) (event_silent R (queue_step m piece).event (used_of m piece) (silent_step R m h piece fine k some_id e spent))
    (spent_tells_nothing_on R os (queue_after m o) w.now (op_fine m o fine p.0) (op_kept m o fine p.0 k) p.1 some_id w.active w.spent g.1)
spent_tells_nothing_on R (CallFor id a ∷ os) m h fine k p some_id e spent g =
    let o = CallFor id a in
    let w = stays_spent R h spent m o fine e g.0 in
    spent_tells_nothing_on R os (queue_after m o) w.now (op_fine m o fine tt) (op_kept m o fine tt k) p some_id w.active w.spent g.1
spent_tells_nothing_on R (CountActive ∷ os) m h fine k p some_id e spent g = spent_tells_nothing_on R os m h fine k p some_id e spent g.1
spent_tells_nothing_on R (TurnWith allowance buffer ∷ os) m h fine k p some_id e spent g =
    let o = TurnWith allowance buffer in
    let w = stays_spent R h spent m o fine e g.0 in
    spent_tells_nothing_on R os (queue_after m o) w.now (op_fine m o fine tt) (op_kept m o fine tt k) p some_id w.active w.spent g.1

-- After any run that leaves R spent: nothing is told of R until it goes.
pub spent_tells_nothing : (R : ℕ) (r : QueueRun) (os : List QueueOperation) (h : Held) → PiecesAreBytes os → 0 < R → request_of R (ending r).memory ≡ some h → is_spent h.request.state.life ≡ true
    → NoneGoes R (ending r) os → notes_of R (notes_all (ending r) os) ≡ []
spent_tells_nothing R r os h p some_id e spent g = spent_tells_nothing_on R os (ending r) h (run_fine r) (run_kept r) p some_id e spent g

-- ---- between a queued finish and END
-- What follows a queued finish of R that is not refused, after any run, until R goes: R stays spent, and nothing is
-- told of it.
pub record AfterFinish (R status : ℕ) (r : QueueRun) (os : List QueueOperation) : Type 0 where
  pub spent : ActiveSpent R (final_queue (queue_after (ending r) (CallFor R (D.ToFinish status))) os).memory
  pub silent : notes_of R (notes_all (queue_after (ending r) (CallFor R (D.ToFinish status))) os) ≡ []

-- It is so, whatever operations follow.
pub finished_tells_nothing : (R status : ℕ) (r : QueueRun) (os : List QueueOperation) → PiecesAreBytes os → 0 < R → (queue_called (ending r) R (D.ToFinish status)).answer ≡ D.Queued 0
    → NoneGoes R (queue_after (ending r) (CallFor R (D.ToFinish status))) os → AfterFinish R status r os
finished_tells_nothing R status r os p some_id e g =
    let m = ending r in
    let fine = run_fine r in
    let o = CallFor R (D.ToFinish status) in
    let w = finish_spends R status m fine.good.steady.steady.sizes.table e in
    let f = op_fine m o fine tt in
    let s = stays_spent_on R os (queue_after m o) w.now f p w.active w.spent g in
    record {
      spent = record { now = s.now; active = s.active; spent = s.spent };
      silent = spent_tells_nothing_on R os (queue_after m o) w.now f (op_kept m o fine tt (run_kept r)) p some_id w.active w.spent g;
    }

-- R's slot says whether it is between its finish and its END
leaving_at : (R : ℕ) (m : QueueMemory) (i : ℕ) → (conn_of m).«open» ≡ true → find (conn_of m).table R ≡ Some i → leaving_of R m ≡ true → last_at m.waits i ≡ true
unfolding leaving_of
leaving_at R m i o f e = rw (o, f) at e

-- In a run, a request between its finish and its END is spent. So nothing is told of it.
pub leaving_spent : (R : ℕ) (r : QueueRun) (h : Held) → request_of R (ending r).memory ≡ some h → leaving_of R (ending r) ≡ true → is_spent h.request.state.life ≡ true
leaving_spent R r h e l =
    let m = ending r in
    let g = (run_fine r).good in
    let a = active_at R m.memory h e in
    let u = find_at (conn_of m).table R a.slot a.found in
    let waits = L.leaving_is m g.steady g.roomy a.is_open R a.slot a.found ∙ leaving_at R m a.slot a.is_open a.found l in
    ap (λ (x : Held). is_spent x.request.state.life) (sym a.same) ∙ (slot_kept m a.slot a.is_open (run_kept r) (record { low = u.low; slot_taken = u.slot_taken })).leaving waits

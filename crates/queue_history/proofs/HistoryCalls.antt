-- What a call with a queue does to R's parameters by history.
--
-- What holds is what holds without a queue, of the memory below what waits. A straight call that is let through is
-- the one without a queue. A queued say or end leaves of state and store what a straight one leaves whose buffer is
-- just long enough. New is the queued finish: it spends its request and skips the rest of its record, and every
-- list stays.
use Rattle.std.specs.Prelude.{◌≡◌, List, ◌⊎◌, Bool, true, ℕ, length, take, set, eqb, if◌then◌else◌, Some}
use Rattle.std.proofs.Math.Path.{refl, ap, sym, subst}
use Rattle.std.proofs.Common.{ap₂, ◌∙◌, inl, inr, arith}
use Rattle.std.proofs.Math.Bool.{false}
use borrow.Author.Tests.{eqb-true, eqb-false, le-ltb}
use Rattle.wire.specs.Test.{by_test}
use Rattle.machine.specs.Slots.{Vacant, HeldBy, slot_at, lookup_set, slot_written}
use Rattle.machine.specs.Timeline.{Scan}
use Rattle.machine.specs.Machine.{Target, Skip, ToBegin, ToQuery, ToSlot, Reading, AtHeader, PastHeader, Slots, Open, target_without, reading_without}
use Rattle.machine.specs.Shape.{SlotOk, SlotsOk, TargetOk, ReadingOk, WellShaped}
use Rattle.machine.proofs.ShapeSlots.{written_or_not, slots_kept, absent_kept}
use Rattle.connection.specs.declared.request.Due.{Due}
use Rattle.connection.specs.declared.request.Life.{Life}
use Rattle.connection.specs.declared.request.Request.{Request}
use Rattle.connection.specs.declared.answer.Output.{Output}
use Rattle.connection.specs.Refusal.{refusal}
use Rattle.connection.specs.Slots.{request_at, held_at, find}
use Rattle.connection.specs.RequestCalls.{in_params}
use Rattle.connection.specs.RequestCalls as Of
use Rattle.connection.specs.Request.{Held, is_spent, with_life}
use Rattle.connection.specs.Arguments.{Argument, ForRead, ForSay, ForEnd, ForFinish}
use Rattle.connection.specs.Run.{Memory, CallResult, called, memory_after}
use Rattle.connection.proofs.Laws.SlotsLaws.{find_at}
use Rattle.connection.specs.Fits.{InUse}
use Rattle.connection.specs.History.{History, Keeps, Ends, changed, change_by, list_found}
use Rattle.connection.specs.Runs.Receiver.{receiver, clean_area}
use Rattle.connection.proofs.Runs.ReceiverLaws.{RequestOk, receiver_laws}
use Rattle.connection.proofs.Runs.HistoryRequest.{takes, off}
use Rattle.connection.proofs.Runs.HistoryTarget.{is_params_of, other_slot}
use Rattle.connection.proofs.Runs.HistoryScan.{takes_among, due_for, Agrees, takes_held, takes_same}
use Rattle.connection.proofs.Runs.HistoryCalls.{due_written, placed_without, slot_absent}
use Rattle.connection.proofs.Runs.HistoryRuns.{Holds, holds_call}
use Rattle.connection.proofs.Runs.Loading.{loaded_slots, loaded_reading, loaded_target, reading_at}
use Rattle.connection.proofs.Runs.LoadingLaws.{loaded_states, taken_loaded}
use Rattle.connection.proofs.Runs.LinkingStep.{loaded_of, open_loaded, Steady}
use Rattle.connection.proofs.Runs.LinkingCalls.{lent_found, call_found, slot_found, found_result, result_at, redirected_target, redirected_reading}
use Rattle.connection.proofs.Runs.LinkingRuns.{request_loaded}
use Rattle.connection.proofs.Runs.CallShape.{with_request, steady_put}
use Rattle.queue_slot.specs.Finishing.{spent_life, spent_by}
use Rattle.queue.specs.Calls as T
use Rattle.queue.specs.Calls.{QueueMemory, conn_of, put_wait, say_refusal, is_leaving, or, straight_say, straight_end, straight_finish}
use Rattle.queue.specs.Run as D
use Rattle.queue.specs.Run.{Asking, queue_called, queue_after}
use Rattle.queue_link.proofs.LinkedFinish.{skipped, steady_skip, spent_list}
use Rattle.queue_runs.proofs.Rows.{let_through}
use Rattle.queue_runs.proofs.Changes.{straight_rows, queued_rows, active}
use Rattle.queue_runs.proofs.Closing.{both_ways}
use Rattle.queue_runs.proofs.Lists.{list_of_r, queued_keeps_lists}
use Rattle.queue_history.specs.History.{change_asked}

-- ---- a request that is spent
-- a request with its area, after a queued finish
abbrev spent_held : Held → Held
spent_held h = record { request = spent_by h.request; area = h.area }

-- It stays in shape.
spent_ok : (h : Held) → RequestOk h → RequestOk (spent_held h)
unfolding spent_by
spent_ok h f = record { short = f.short; sized = f.sized; zero_beyond = f.zero_beyond }

-- It takes no PARAMS.
spent_takes : (h : Held) → takes (spent_held h) ≡ false
unfolding spent_by with_life
spent_takes h = go h.request.state.life
  where
    go : (l : Life) → (if is_spent (spent_life l) then false else in_params h.request.state.turn) ≡ false
    go Life.Live = refl
    go Life.Faulted = refl
    go Life.Aborted = refl

-- the slots with h spent in slot i
abbrev spent_in : Slots receiver → ℕ → ℕ → Held → Slots receiver
spent_in T i id h = set T i (HeldBy id (spent_held h))

-- Slot i holds h for an id. Then it holds h spent, and content for it is skipped.
module _ (T : Slots receiver) (i id : ℕ) (h : Held) (t : SlotsOk receiver receiver_laws T) (d : slot_at clean_area T i ≡ HeldBy id h) where
  -- the slots then
  abbrev after : Slots receiver
  after = spent_in T i id h

  -- They stay in shape.
  spent_slots : SlotsOk receiver receiver_laws after
  spent_slots = let y : SlotOk receiver receiver_laws (HeldBy id h) = rw d at (t.fits i) in slots_kept receiver receiver_laws T i id h (spent_held h) t d (spent_ok h y.1)

  -- So does what the content left is for, with content for slot i skipped.
  spent_target : (s : Target receiver) (c : ℕ) → TargetOk receiver receiver_laws T s c → TargetOk receiver receiver_laws after (target_without receiver i s) c
  unfolding target_without
  spent_target Skip c s = tt
  spent_target (ToBegin j g) c s = (s.0, s.1, absent_kept receiver receiver_laws T i (HeldBy id (spent_held h)) j s.2 (λ x y. let z : id ≡ j = cc in s.2 i h (rw (← z) d)))
  spent_target (ToQuery g) c s = s
  spent_target (ToSlot j due) c s =
      by_test (eqb i j) (λ e. rw e tt)
      (λ e. rw e (go (written_or_not (Vacant clean_area) T i j (HeldBy id (spent_held h))) (λ k. eqb-false i j e (sym k))))
    where
      go : ((j ≡ i) × (slot_at clean_area after j ≡ HeldBy id (spent_held h))) ⊎ (slot_at clean_area after j ≡ slot_at clean_area T j) → (j ≡ i → ⊥) → TargetOk receiver receiver_laws after (ToSlot j due) c
      go (inl w) n = absurd (n w.0)
      go (inr w) n = (s.0, s.1, w ∙ s.2, s.3)

  -- So does the place where the connection reads.
  spent_reading : (F : Reading receiver) → ReadingOk receiver receiver_laws T F → ReadingOk receiver receiver_laws after (reading_without receiver i F)
  unfolding reading_without
  spent_reading (AtHeader g) f = f
  spent_reading (PastHeader s c p) f = record { some_left = f.some_left; content_left = f.content_left; padding_left = f.padding_left; target_ok = spent_target s c f.target_ok }

  module _ (R : ℕ) where
    -- R is spent: no content is due to it.
    own_due : (s : Target receiver) → id ≡ R → due_for R after (target_without receiver i s) ≡ false
    unfolding target_without
    own_due Skip e = refl
    own_due (ToBegin j g) e = refl
    own_due (ToQuery g) e = refl
    own_due (ToSlot j due) e =
        by_test (eqb i j) (λ k. rw k)
        (λ k. rw k (slot_absent R (slot_at clean_area after j) due
        (λ q w. eqb-false i j k (sym (spent_slots.once j i R q (spent_held h) w (slot_written clean_area T i id h (HeldBy id (spent_held h)) d ∙ ap (λ n. HeldBy n (spent_held h)) e))))))

    -- Another is spent: what is due to R stays.
    other_due : (s : Target receiver) → (id ≡ R → ⊥) → due_for R T s ≡ due_for R after (target_without receiver i s)
    unfolding target_without
    other_due Skip n = refl
    other_due (ToBegin j g) n = refl
    other_due (ToQuery g) n = refl
    other_due (ToSlot j due) n =
        let idle : (q : Held) (u : Due) → is_params_of R (HeldBy id q) u ≡ false = λ q u. slot_absent R (HeldBy id q) u (λ r e. n (cc)) in
        let here : (u : Due) → is_params_of R (slot_at clean_area T i) u ≡ false = λ u. ap (λ o. is_params_of R o u) d ∙ idle h u in
        by_test (eqb i j)
        (λ e. rw e (ap (λ k. is_params_of R (slot_at clean_area T k) due) (sym (eqb-true i j e)) ∙ here due))
        (λ e. rw e (due_written R T i (HeldBy id (spent_held h)) (ToSlot j due) (λ u. idle (spent_held h) u ∙ sym (here u))))

    -- R takes no PARAMS from then on, if it is spent; and the place in the bytes stays.
    spent_agrees : (F : Reading receiver) (m : Scan) (k : Bool) → Agrees R (Open T F) m k → Agrees R (Open after (reading_without receiver i F)) m (if eqb id R then false else k)
    spent_agrees F m k a = by_test (eqb id R) own other
      where
        own : eqb id R ≡ true → Agrees R (Open after (reading_without receiver i F)) m (if eqb id R then false else k)
        own e =
            let r : id ≡ R = eqb-true id R e in
            let idle : takes_among R after ≡ false =
            takes_held R after i (spent_held h) spent_slots (slot_written clean_area T i id h (HeldBy id (spent_held h)) d ∙ ap (λ n. HeldBy n (spent_held h)) r) ∙ spent_takes h in
            rw e (sym idle, placed_without R T after i F m (λ own s x. rw idle (sym (off own)) ∙ sym (own_due s r)) a.1)

        other : eqb id R ≡ false → Agrees R (Open after (reading_without receiver i F)) m (if eqb id R then false else k)
        other e =
            let n = eqb-false id R e in
            let same : takes_among R after ≡ takes_among R T = takes_same R T after (lookup_set clean_area R T i (HeldBy id (spent_held h)) (other_slot R T i id h d n) n) in
            rw e (a.0 ∙ sym same, placed_without R T after i F m (λ own s x. ap (λ k. if own then k else false) same ∙ x ∙ other_due s n) a.1)

-- ---- a queued finish
-- the memory below what waits, as a queued finish of the request in slot i leaves it
abbrev pub retired_by : Memory → ℕ → Memory
retired_by m i = with_request (skipped m i) i (spent_by (request_at m.state.conn.table i))

-- the slots of a memory, and where it reads
abbrev slots_of : Memory → Slots receiver
slots_of m = loaded_slots m.state.conn.table m.store

abbrev reading_of : Memory → Reading receiver
reading_of m = loaded_reading m.state.conn.frame m.state.gathered

module _ (m : Memory) (is_open : m.state.conn.«open» ≡ true) (id i : ℕ) (found : find m.state.conn.table id ≡ Some i) where
  -- the request of the id
  abbrev own : Held
  own = held_at m.state.conn.table m.store i

  -- its slot is taken, has its id, and is so loaded
  in_use : InUse m.state.conn.table i
  in_use = let h = find_at m.state.conn.table id i found in record { low = h.low; slot_taken = h.slot_taken }

  own_id : own.request.id ≡ id
  unfolding request_at
  own_id = (find_at m.state.conn.table id i found).has_id

  own_slot : slot_at clean_area (slots_of m) i ≡ HeldBy id own
  own_slot = taken_loaded m.state.conn.table m.store i in_use ∙ ap (λ n. HeldBy n own) own_id

  -- on the machine: the request is spent, and content for it is skipped
  retired_loaded : Steady m → loaded_of (retired_by m i) ≡ Open (spent_in (slots_of m) i id own) (reading_without receiver i (reading_of m))
  retired_loaded z =
      let f = m.state.conn.frame in
      let g = m.state.gathered in
      open_loaded (retired_by m i) is_open
      ∙ ap₂ (λ T F. Open T F)
      (loaded_states m.state.conn.table m.store i (spent_by own.request) z.sizes.table z.sizes.full in_use
      ∙ ap (λ n. set (slots_of m) i (HeldBy n (spent_held own))) ((spent_list own.request).id ∙ own_id))
      (ap (reading_at f.position.content f.position.padding (take f.position.held f.position.header)) (redirected_target i f.target f.gathered f.body g)
      ∙ redirected_reading i f.position.content f.position.padding (take f.position.held f.position.header) (loaded_target f.target f.gathered f.body g))

  -- R takes no more, if the request is R's. R's list stays.
  holds_retired : (R : ℕ) (h : History) → list_of_r R (retired_by m i) ≡ list_of_r R m → Holds R m h → Holds R (retired_by m i) (changed (if eqb id R then Ends else Keeps) h)
  holds_retired R h same k =
      let T = slots_of m in
      let F = reading_of m in
      let d = own_slot in
      let e = retired_loaded k.steady in
      let w : WellShaped receiver receiver_laws (Open T F) = subst (λ s. WellShaped receiver receiver_laws s) (open_loaded m is_open) k.shape in
      let a : Agrees R (Open T F) h.place h.takes = subst (λ s. Agrees R s h.place h.takes) (open_loaded m is_open) k.agrees in
      let b = subst (λ s. Agrees R s h.place (if eqb id R then false else h.takes)) (sym e) (spent_agrees T i id own w.0 d R F h.place h.takes a) in
      let steady = steady_put (skipped m i) i (spent_by own.request) in_use.low (spent_list own.request) (steady_skip m i k.steady) in
      let shape = subst (λ s. WellShaped receiver receiver_laws s) (sym e) (spent_slots T i id own w.0 d, spent_reading T i id own w.0 d F w.1) in
      let list = ap list_found (request_loaded R (retired_by m i)) ∙ same ∙ ap list_found (sym (request_loaded R m)) ∙ k.list in
      by_test (eqb id R)
      (λ x. rw x (record { steady = steady; shape = shape; agrees = rw x at b; list = list }))
      (λ x. rw x (record { steady = steady; shape = shape; agrees = rw x at b; list = list }))

-- A queued finish that is not refused leaves that.
pub finish_leaves : (m : QueueMemory) (id status i : ℕ) → eqb (refusal (queued_rows m id (D.ToFinish status))) 0 ≡ true → T.slot_of m id ≡ i
    → (queue_called m id (D.ToFinish status)).left.memory ≡ retired_by m.memory i
unfolding queue_called T.queue_finish put_wait
finish_leaves m id status i t there = rw (t, there)

-- ---- calls that write on a stream
-- Into a buffer that is just long enough, a call that no other row refuses writes.
writes_after : (r after : Request) (o : Output) (bytes : List ℕ) → Of.no_output r ≡ false → Of.is_ended o r.state ≡ false
    → (Of.writes (Of.output_refusal r o bytes bytes) bytes after r bytes).request ≡ after
unfolding Of.writes
writes_after r after o bytes a b = rw (a, b, le-ltb (length bytes) (length bytes) (omega arith))

-- Where the rows of a stream let a queued call through, they let a straight one through.
rows_open : (leaving early ended : Bool) → (if leaving then false else early) ≡ false → or leaving ended ≡ false → (early ≡ false) × (ended ≡ false)
rows_open true early ended a b = both_ways true refl b
rows_open false early ended a b = (a, b)

-- What a straight call of an active request comes to.
pub result_found : (m : Memory) (id i : ℕ) (a : Argument) → Steady m → m.state.conn.«open» ≡ true → find m.state.conn.table id ≡ Some i → called m id a ≡ result_at m i a
result_found m id i a z o f = found_result m id i a (lent_found m z id i o f) (call_found m z id i o f) (slot_found m.state.conn id i f)

-- ---- every call
module _ (R : ℕ) where
  -- it holds after a call
  abbrev pub HoldsCalled : QueueMemory → ℕ → Asking → History → Type 0
  HoldsCalled m id a h = Holds R (queue_called m id a).left.memory (changed (change_asked R id a (queue_called m id a).answer) h)

  -- A queued finish.
  finish_holds : (m : QueueMemory) (id status : ℕ) (h : History) → Holds R m.memory h → HoldsCalled m id (D.ToFinish status) h
  unfolding queue_called T.queue_finish queue_after
  finish_holds m id status h k =
      let rows = queued_rows m id (D.ToFinish status) in
      let same = queued_keeps_lists R m id (D.ToFinish status) refl in
      by_test (eqb (refusal rows) 0)
      (λ t.
      let e = eqb-true (refusal rows) 0 t in
      let q = active m id (let_through rows 1 e refl) (let_through rows 3 e refl) in
      let c = finish_leaves m id status q.slot t q.at in
      subst (λ x. Holds R x (changed (change_asked R id (D.ToFinish status) (queue_called m id (D.ToFinish status)).answer) h)) (sym c)
      (rw t (holds_retired m.memory q.is_open id q.slot q.found R h (ap (list_of_r R) (sym c) ∙ same) k)))
      (λ t. rw (t, t) k)

  -- A request put back as a straight call leaves it that writes on a stream.
  stream_holds : (m : Memory) (id i : ℕ) (a : Argument) (o : Output) (bytes : List ℕ) (after : Request) (h : History) → m.state.conn.«open» ≡ true
      → find m.state.conn.table id ≡ Some i → Of.no_output (request_at m.state.conn.table i) ≡ false → Of.is_ended o (request_at m.state.conn.table i).state ≡ false
      → (result_at m i a).memory
      ≡ with_request m i (Of.writes (Of.output_refusal (request_at m.state.conn.table i) o bytes bytes) bytes after (request_at m.state.conn.table i) bytes).request
      → change_by R id (called m id a).answer ≡ Keeps → Holds R m h → Holds R (with_request m i after) h
  unfolding memory_after
  stream_holds m id i a o bytes after h open-now found early ended left quiet k =
      let c : (called m id a).memory ≡ with_request m i after =
      ap (λ (x : CallResult). x.memory) (result_found m id i a k.steady open-now found) ∙ left
      ∙ ap (with_request m i) (writes_after (request_at m.state.conn.table i) after o bytes early ended) in
      subst (λ d. Holds R (with_request m i after) (changed d h)) quiet
      (subst (λ x. Holds R x (changed (change_by R id (called m id a).answer) h)) c (holds_call R m id a h k))

  -- Queued say.
  say_holds : (m : QueueMemory) (id : ℕ) (o : Output) (content : List ℕ) (h : History) → Holds R m.memory h → HoldsCalled m id (D.ToSay o content) h
  unfolding queue_called T.queue_say say_refusal put_wait called result_at Of.say_in
  say_holds m id o content h k =
      let rows = queued_rows m id (D.ToSay o content) in
      by_test (eqb (refusal rows) 0)
      (λ t.
      let e = eqb-true (refusal rows) 0 t in
      let q = active m id (let_through rows 1 e refl) (let_through rows 3 e refl) in
      let r = request_at (conn_of m).table q.slot in
      let b = Of.say_bytes r o content in
      let l = rows_open (is_leaving m id) (Of.no_output (T.request_of m id)) (Of.is_ended o (T.request_of m id).state) (let_through rows 4 e refl) (let_through rows 5 e refl) in
      rw (t, q.at) (stream_holds m.memory id q.slot (ForSay o content b) o b (Of.said_on r o content) h q.is_open q.found (rw q.at at l.0) (rw q.at at l.1) refl refl k))
      (λ t. rw t k)

  -- Queued end.
  end_holds : (m : QueueMemory) (id : ℕ) (o : Output) (h : History) → Holds R m.memory h → HoldsCalled m id (D.ToEnd o) h
  unfolding queue_called T.queue_end put_wait called result_at Of.end_in
  end_holds m id o h k =
      let rows = queued_rows m id (D.ToEnd o) in
      by_test (eqb (refusal rows) 0)
      (λ t.
      let e = eqb-true (refusal rows) 0 t in
      let q = active m id (let_through rows 1 e refl) (let_through rows 3 e refl) in
      let r = request_at (conn_of m).table q.slot in
      let b = Of.end_bytes r o in
      let l = rows_open (is_leaving m id) (Of.no_output (T.request_of m id)) (Of.is_ended o (T.request_of m id).state) (let_through rows 4 e refl) (let_through rows 5 e refl) in
      rw (t, q.at) (stream_holds m.memory id q.slot (ForEnd o b) o b (Of.ended_on r o) h q.is_open q.found (rw q.at at l.0) (rw q.at at l.1) refl refl k))
      (λ t. rw t k)

  -- A straight call.
  straight_holds : (m : QueueMemory) (id : ℕ) (a : Argument) (h : History) → Holds R m.memory h → HoldsCalled m id (D.Straight a) h
  unfolding queue_called straight_say straight_end straight_finish called memory_after
  straight_holds m id (ForRead q) h k = k
  straight_holds m id (ForSay o content buffer) h k =
      by_test (eqb (refusal (straight_rows m id (ForSay o content buffer))) 0) (λ t. rw t (holds_call R m.memory id (ForSay o content buffer) h k)) (λ t. rw t k)
  straight_holds m id (ForEnd o buffer) h k =
      by_test (eqb (refusal (straight_rows m id (ForEnd o buffer))) 0) (λ t. rw t (holds_call R m.memory id (ForEnd o buffer) h k)) (λ t. rw t k)
  straight_holds m id (ForFinish status buffer) h k =
      by_test (eqb (refusal (straight_rows m id (ForFinish status buffer))) 0) (λ t. rw t (holds_call R m.memory id (ForFinish status buffer) h k)) (λ t. rw (t, t) k)

  -- Any call.
  pub call_holds : (m : QueueMemory) (id : ℕ) (a : Asking) (h : History) → Holds R m.memory h → HoldsCalled m id a h
  call_holds m id (D.Straight a) h k = straight_holds m id a h k
  call_holds m id (D.ToSay o content) h k = say_holds m id o content h k
  call_holds m id (D.ToEnd o) h k = end_holds m id o h k
  call_holds m id (D.ToFinish status) h k = finish_holds m id status h k

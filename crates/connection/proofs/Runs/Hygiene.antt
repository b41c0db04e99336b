-- What holds of every memory of a run: free areas are zero, areas are zero beyond their lists, a closed connection
-- keeps nothing, and nothing is refused by 2 or 9.
use Rattle.connection.specs.Slots.{Slot}
use Rattle.std.specs.Prelude.{◌≡◌, refl, List, [], ◌∷◌, ◌++◌, Bool, true, false, ◌⊎◌, ℕ, ◌-◌, ◌<◌, length, drop, eqb, Some, None}
use Rattle.std.proofs.Common.{ap, sym, ◌∙◌, subst, inl, inr, arith, eq-eqb}
use Rattle.wire.specs.Test.{by_test}
use Rattle.wire.specs.Buffer.{zeros}
use Rattle.slot_word.specs.Word.{taken}
use Rattle.machine.specs.Timeline.{Item}
use Rattle.machine.specs.Shape.{ItemsOk, ItemsEnd, ItemsMore, SlotOk, WellShaped}
use Rattle.machine.proofs.ShapeKept.{shape_after, shape_fresh, items_all}
use Rattle.connection.specs.Sizes.{SLOTS, AREA, STORE}
use Rattle.connection.specs.Slots.{request_at, area_at, find}
use Rattle.connection.specs.Step.{Stepped, closed_conn, step_refusal, started}
use Rattle.connection.specs.RequestCalls as Of
use Rattle.connection.specs.Calls as C
use Rattle.wire.proofs.Bytes.{take_bytes}
use Rattle.connection.proofs.Laws.Progress.{admitted_fits, step_refused}
use Rattle.connection.proofs.Laws.Closing.{closes_by_cause, closing_frees}
use Rattle.connection.specs.Arguments.{Argument, ForRead, ForSay, ForEnd, ForFinish}
use Rattle.connection.specs.Runs.Receiver.{clean_area, receiver}
use Rattle.connection.proofs.Runs.ReceiverLaws.{receiver_laws}
use Rattle.connection.proofs.Runs.Loading.{loaded_slot, slot_of}
use Rattle.connection.proofs.Runs.LoadingLaws.{slot_loaded}
use Rattle.connection.specs.Run.{Memory, Operation, StepOver, CallFor, CountActive, CallResult, finished_by, called, step_of, memory_of, used_of, memory_after, items_of, final_memory, timeline, start_of, PiecesOk, WholeRun, beginning, ending}
use Rattle.connection.proofs.Runs.LinkingStep.{loaded_of, open_loaded, Steady, step_linked}
use Rattle.connection.proofs.Runs.LinkingCalls.{lent_closed, call_closed, lent_absent, call_absent, lent_found, call_found, refused_call, result_at, slot_found, found_result, call_linked}
use Rattle.connection.proofs.Runs.LinkingRuns.{run_linked, start_loaded, start_steady}

-- ---- the timeline of a run is bytes and calls
items_append : (t u : List (Item Argument)) → ItemsOk receiver t → ItemsOk receiver u → ItemsOk receiver (t ++ u)
items_append [] u p q = q
items_append (x ∷ t) u (ItemsMore a p) q = ItemsMore a (items_append t u p q)

-- Its bytes are bytes.
pub timeline_ok : (os : List Operation) (m : Memory) → PiecesOk os → ItemsOk receiver (timeline m os)
unfolding timeline items_of
timeline_ok [] m p = ItemsEnd
timeline_ok (StepOver piece ∷ os) m p =
    items_append (items_of m (StepOver piece)) (timeline (memory_after m (StepOver piece)) os) (items_all receiver (used_of m piece) (take_bytes (step_of m piece).used piece p.0))
    (timeline_ok os (memory_after m (StepOver piece)) p.1)
timeline_ok (CallFor id a ∷ os) m p = ItemsMore tt (timeline_ok os (memory_after m (CallFor id a)) p)
timeline_ok (CountActive ∷ os) m p = ItemsMore tt (timeline_ok os (memory_after m CountActive) p)

-- ---- areas
-- Of a connection that is open: a free slot's area is all zero, and an active request's area is zero beyond its list.
pub record CleanAreas (m : Memory) : Type 0 where
  pub free : (i : ℕ) → i < SLOTS → taken i m.state.conn.table.occupied ≡ false → area_at m.store i ≡ zeros AREA
  pub beyond : (i : ℕ) → i < SLOTS → taken i m.state.conn.table.occupied ≡ true
      → drop (request_at m.state.conn.table i).length (area_at m.store i) ≡ zeros (AREA - (request_at m.state.conn.table i).length)

clean_areas : (m : Memory) → m.state.conn.«open» ≡ true → WellShaped receiver receiver_laws (loaded_of m) → CleanAreas m
unfolding slot_of loaded_slot clean_area
clean_areas m e w =
    let t = m.state.conn.table in
    let k = subst (λ s. WellShaped receiver receiver_laws s) (open_loaded m e) w in
    let at : (i : ℕ) → i < SLOTS → SlotOk receiver receiver_laws (slot_of t m.store i) =
    λ i low. subst (λ s. SlotOk receiver receiver_laws s) (slot_loaded t m.store i low) (k.0.fits i) in
    record {
      free = λ i low f. rw f at (at i low);
      beyond = λ i low f. let r = rw f at (at i low) in r.1.zero_beyond;
    }

-- ---- a closed connection
-- It is the one closed connection, without requests, and its store is all zero.
pub record ClosedClean (m : Memory) : Type 0 where
  pub connection : m.state.conn.«open» ≡ false → m.state.conn ≡ closed_conn
  pub store : m.state.conn.«open» ≡ false → m.store ≡ zeros STORE

true_false : {A : Type 0} → true ≡ false → A
true_false e = let z : ◌≡◌ {A = ℕ} 0 1 = cc in absurd (omega arith)

still_open : (m : Memory) → m.state.conn.«open» ≡ true → ClosedClean m
still_open m e = record { connection = λ c. true_false (sym e ∙ c); store = λ c. true_false (sym e ∙ c) }

closed_step : (m : Memory) (piece : List ℕ) → Steady m → ClosedClean m → ClosedClean (memory_of (step_of m piece))
closed_step m piece z c = by_test m.state.conn.«open» when_open when_closed_lem
  where
    when_open : m.state.conn.«open» ≡ true → ClosedClean (memory_of (step_of m piece))
    when_open o =
        record {
          connection = λ e. let k = closes_by_cause m.state m.store piece o e in (closing_frees m.state m.store piece k.0 k.2).0;
          store = λ e.
              let k = closes_by_cause m.state m.store piece o e in
              (closing_frees m.state m.store piece k.0 k.2).1 ∙ ap zeros z.sizes.full;
        }

    when_closed_lem : m.state.conn.«open» ≡ false → ClosedClean (memory_of (step_of m piece))
    when_closed_lem o =
        let r = step_refused m.state m.store piece (λ a. true_false (sym (admitted_fits m.state.conn m.store a).is_open ∙ o)) in
        subst (λ (s : Stepped). ClosedClean (memory_of s)) (sym r) c

closed_finish : (m : Memory) (i : ℕ) (keep : Bool) (w : Of.Writing) → m.state.conn.«open» ≡ true → Steady m
    → ClosedClean (finished_by m (C.finishes m.state.conn m.store i keep w)).memory
unfolding C.finishes C.released
closed_finish m i keep w o z =
    by_test (eqb w.refusal 0)
    (λ a. by_test keep
    (λ k. rw (a, k) (record { connection = λ c. true_false (sym o ∙ c); store = λ c. true_false (sym o ∙ c) }))
    (λ k. rw (a, k) (record { connection = λ c. refl; store = λ c. ap zeros z.sizes.full })))
    (λ a. rw a (still_open m o))

closed_result : (m : Memory) (i : ℕ) (a : Argument) → m.state.conn.«open» ≡ true → Steady m → ClosedClean (result_at m i a).memory
unfolding result_at
closed_result m i (ForRead q) o z = still_open m o
closed_result m i (ForSay output bytes buffer) o z = record { connection = λ c. true_false (sym o ∙ c); store = λ c. true_false (sym o ∙ c) }
closed_result m i (ForEnd output buffer) o z = record { connection = λ c. true_false (sym o ∙ c); store = λ c. true_false (sym o ∙ c) }
closed_result m i (ForFinish status buffer) o z = closed_finish m i _ _ o z

closed_call : (m : Memory) (id : ℕ) (a : Argument) → Steady m → ClosedClean m → ClosedClean (called m id a).memory
closed_call m id a z c = by_test m.state.conn.«open» (λ o. when_open o (find m.state.conn.table id) refl) when_closed_lem
  where
    when_open : m.state.conn.«open» ≡ true → (s : Slot) → find m.state.conn.table id ≡ s → ClosedClean (called m id a).memory
    when_open o (Some i) e =
        subst (λ (r : CallResult). ClosedClean r.memory)
        (sym (found_result m id i a (lent_found m z id i o e) (call_found m z id i o e) (slot_found m.state.conn id i e))) (closed_result m i a o z)
    when_open o None e =
        subst (λ (r : CallResult). ClosedClean r.memory) (sym (refused_call m id 2 a (lent_absent m z id o e) (call_absent m z id o e))) c

    when_closed_lem : m.state.conn.«open» ≡ false → ClosedClean (called m id a).memory
    when_closed_lem o =
        subst (λ (r : CallResult). ClosedClean r.memory) (sym (refused_call m id 0 a (lent_closed m z id o) (call_closed m z id o))) c

closed_run : (os : List Operation) (m : Memory) → Steady m → PiecesOk os → ClosedClean m → ClosedClean (final_memory m os)
unfolding final_memory memory_after
closed_run [] m z p c = c
closed_run (StepOver piece ∷ os) m z p c =
    closed_run os (memory_after m (StepOver piece)) (step_linked m piece z p.0).steady p.1 (closed_step m piece z c)
closed_run (CallFor id a ∷ os) m z p c = closed_run os (memory_after m (CallFor id a)) (call_linked m id a z).steady p (closed_call m id a z c)
closed_run (CountActive ∷ os) m z p c = closed_run os m z p c

-- ---- refusals
-- What a step and the calls may be refused by: 1 by a closed connection, 3 by an id that is not active; never 2 or 9.
pub record Refusals (m : Memory) : Type 0 where
  pub step : (step_refusal m.state.conn m.store ≡ 0) ⊎ (step_refusal m.state.conn m.store ≡ 1)
  pub lent : (id : ℕ) → (C.lent_refusal m.state.conn m.store id ≡ 0)
      ⊎ ((C.lent_refusal m.state.conn m.store id ≡ 1) ⊎ (C.lent_refusal m.state.conn m.store id ≡ 3))
  pub call : (id : ℕ) → (C.call_refusal m.state.conn id ≡ 0) ⊎ ((C.call_refusal m.state.conn id ≡ 1) ⊎ (C.call_refusal m.state.conn id ≡ 3))
  pub count : (C.count_refusal m.state.conn ≡ 0) ⊎ (C.count_refusal m.state.conn ≡ 1)

refusals : (m : Memory) → Steady m → Refusals m
unfolding step_refusal C.count_refusal
refusals m z =
    record {
      step = by_test m.state.conn.«open» (λ o. inl (simp (eq-eqb (length m.store) STORE z.sizes.full, z.shape, o)))
          (λ o. inr (simp (eq-eqb (length m.store) STORE z.sizes.full, z.shape, o)));
      lent = λ id. by_test m.state.conn.«open» (λ o. lent_open id o (find m.state.conn.table id) refl) (λ o. inr (inl (lent_closed m z id o)));
      call = λ id. by_test m.state.conn.«open» (λ o. call_open id o (find m.state.conn.table id) refl) (λ o. inr (inl (call_closed m z id o)));
      count = by_test m.state.conn.«open» (λ o. inl (simp (z.shape, o))) (λ o. inr (simp (z.shape, o)));
    }
  where
    lent_open : (id : ℕ) → m.state.conn.«open» ≡ true → (s : Slot) → find m.state.conn.table id ≡ s
        → (C.lent_refusal m.state.conn m.store id ≡ 0) ⊎ ((C.lent_refusal m.state.conn m.store id ≡ 1) ⊎ (C.lent_refusal m.state.conn m.store id ≡ 3))
    lent_open id o (Some i) e = inl (lent_found m z id i o e)
    lent_open id o None e = inr (inr (lent_absent m z id o e))

    call_open : (id : ℕ) → m.state.conn.«open» ≡ true → (s : Slot) → find m.state.conn.table id ≡ s
        → (C.call_refusal m.state.conn id ≡ 0) ⊎ ((C.call_refusal m.state.conn id ≡ 1) ⊎ (C.call_refusal m.state.conn id ≡ 3))
    call_open id o (Some i) e = inl (call_found m z id i o e)
    call_open id o None e = inr (inr (call_absent m z id o e))

-- ---- every run
-- What holds after any run from a start.
pub record Hygienic (m : Memory) : Type 0 where
  pub areas : m.state.conn.«open» ≡ true → CleanAreas m
  pub closed : ClosedClean m
  pub refusals : Refusals m

start_open : (gathered store : List ℕ) → length store ≡ STORE → (start_of gathered store).state.conn.«open» ≡ true
unfolding start_of started
start_open gathered store full = simp (eq-eqb (length store) STORE full)

-- Hygiene: after any run from a start, whatever store and gathered bytes held before.
pub hygiene : (r : WholeRun) → Hygienic (ending r)
hygiene r =
    let os = r.operations in
    let A = beginning r in
    let z = start_steady r.gathered r.store r.gathered_size r.store_size in
    let k = run_linked os A z r.pieces in
    let fresh_ok = subst (λ s. WellShaped receiver receiver_laws s) (sym (start_loaded r.gathered r.store r.store_size)) (shape_fresh receiver receiver_laws) in
    let ends-ok = subst (λ s. WellShaped receiver receiver_laws s) (sym k.state) (shape_after receiver receiver_laws (loaded_of A) (timeline_ok os A r.pieces) fresh_ok) in
    record {
      areas = λ e. clean_areas (ending r) e ends-ok;
      closed = closed_run os A z r.pieces (still_open A (start_open r.gathered r.store r.store_size));
      refusals = refusals (ending r) k.steady;
    }

-- The second half of Isolation, `any_cutting`: every cutting of R's items into pieces can be run to its end.
use Rattle.std.specs.Prelude.{◌≡◌, refl, List, [], ◌∷◌, ◌++◌, true, ℕ, zero, suc, ◌≤◌, ◌<◌, length, take, drop}
use Rattle.std.proofs.Common.{ap, ap₂, sym, ◌∙◌, append_assoc, append-nil, inl, arith, length-drop, take-append-drop}
use Rattle.wire.specs.Test.{by_test}
use Rattle.machine.specs.Timeline.{RequestCall, CountCall, Item, CallItem, byte_items, purge}
use Rattle.machine.specs.Machine.{Connection, Open, Closed, AtHeader, state_after}
use Rattle.machine.proofs.TimelineLaws.{byte_items_append}
use Rattle.machine.proofs.RunLaws.{closed_stays, state_append}
use Rattle.connection.specs.Sizes.{STORE, QUERY}
use Rattle.wire.proofs.Bytes.{AllBytes, drop_bytes}
use Rattle.connection.proofs.Laws.Progress.{step_uses_some}
use Rattle.connection.specs.Runs.Receiver.{receiver}
use Rattle.connection.specs.Arguments.{Argument}
use Rattle.connection.specs.Run.{Memory, Operation, StepOver, CallFor, CountActive, step_of, memory_after, items_of, final_memory, timeline, start_of, PiecesOk, WholeRun, timeline_of, stepped_through, all_stepped, items_in}
use Rattle.connection.proofs.Runs.LinkingStep.{loaded_of, closed_loaded, Steady, step_linked}
use Rattle.connection.proofs.Runs.LinkingCalls.{call_linked, count_linked}
use Rattle.connection.proofs.Runs.LinkingRuns.{run_linked, start_loaded, start_steady}
use Rattle.connection.specs.Isolation.{EndsBetweenRecords, NeverOverloaded, RunsFor, CanBeRun}
use Rattle.connection.proofs.Runs.Theorem.{purged_between, any_run}

-- ---- laws of lists of operations
final_append : (os : List Operation) (m : Memory) (ps : List Operation) → timeline m (os ++ ps) ≡ timeline m os ++ timeline (final_memory m os) ps
unfolding timeline final_memory
final_append [] m ps = refl
final_append (o ∷ os) m ps =
    ap (λ l. items_of m o ++ l) (final_append os (memory_after m o) ps) ∙ sym (append_assoc (items_of m o) (timeline (memory_after m o) os) (timeline (final_memory (memory_after m o) os) ps))

pieces_append : (os ps : List Operation) → PiecesOk os → PiecesOk ps → PiecesOk (os ++ ps)
pieces_append [] ps p q = q
pieces_append (StepOver x ∷ os) ps p q = (p.0, pieces_append os ps p.1 q)
pieces_append (CallFor id a ∷ os) ps p q = pieces_append os ps p q
pieces_append (CountActive ∷ os) ps p q = pieces_append os ps p q

through_pieces : (n : ℕ) (m : Memory) (x : List ℕ) → AllBytes x → PiecesOk (stepped_through n m x)
unfolding stepped_through
through_pieces zero m x b = tt
through_pieces (suc n) m [] b = tt
through_pieces (suc n) m (c ∷ x) b =
    (b, through_pieces n (memory_after m (StepOver (c ∷ x))) (drop (step_of m (c ∷ x)).used (c ∷ x)) (drop_bytes (step_of m (c ∷ x)).used (c ∷ x) b))

-- The steps are over bytes.
pub all_pieces : (os : List Operation) (m : Memory) → PiecesOk os → PiecesOk (all_stepped m os)
unfolding all_stepped
all_pieces [] m p = tt
all_pieces (StepOver x ∷ os) m p =
    pieces_append (stepped_through (length x) m x) (all_stepped (final_memory m (stepped_through (length x) m x)) os) (through_pieces (length x) m x p.0)
    (all_pieces os (final_memory m (stepped_through (length x) m x)) p.1)
all_pieces (CallFor id a ∷ os) m p = all_pieces os (memory_after m (CallFor id a)) p
all_pieces (CountActive ∷ os) m p = all_pieces os (memory_after m CountActive) p

-- ---- a piece is used up
-- a step and what is left of its piece
more_steps : (n : ℕ) (m : Memory) (c : ℕ) (x : List ℕ) → Steady m → AllBytes (c ∷ x) → length (c ∷ x) ≤ suc n
    → (state_after receiver (loaded_of m) (byte_items (c ∷ x)) ≡ Closed → ⊥)
    → (Steady (memory_after m (StepOver (c ∷ x))) → AllBytes (drop (step_of m (c ∷ x)).used (c ∷ x)) → length (drop (step_of m (c ∷ x)).used (c ∷ x)) ≤ n
    → (state_after receiver (loaded_of (memory_after m (StepOver (c ∷ x)))) (byte_items (drop (step_of m (c ∷ x)).used (c ∷ x))) ≡ Closed → ⊥)
    → timeline (memory_after m (StepOver (c ∷ x))) (stepped_through n (memory_after m (StepOver (c ∷ x))) (drop (step_of m (c ∷ x)).used (c ∷ x)))
    ≡ byte_items (drop (step_of m (c ∷ x)).used (c ∷ x)))
    → m.state.conn.«open» ≡ true
    → timeline m (stepped_through (suc n) m (c ∷ x)) ≡ byte_items (c ∷ x)
unfolding stepped_through timeline items_of
more_steps n m c x z b l a rest o =
    let used = (step_of m (c ∷ x)).used in
    let k = step_linked m (c ∷ x) z b in
    let some = step_uses_some m.state m.store (c ∷ x) z.shape o z.sizes.full (omega arith) in
    let less : length (drop used (c ∷ x)) ≤ n = simp length-drop (omega (arith, some.0)) in
    let both : byte_items (take used (c ∷ x)) ++ byte_items (drop used (c ∷ x)) ≡ byte_items (c ∷ x) =
    sym (byte_items_append (take used (c ∷ x)) (drop used (c ∷ x))) ∙ ap (byte_items) (take-append-drop used (c ∷ x)) in
    let same : state_after receiver (loaded_of (memory_after m (StepOver (c ∷ x)))) (byte_items (drop used (c ∷ x))) ≡ state_after receiver (loaded_of m) (byte_items (c ∷ x)) =
    ap (λ w. state_after receiver w (byte_items (drop used (c ∷ x)))) k.state
    ∙ sym (state_append receiver (loaded_of m) (byte_items (take used (c ∷ x))) (byte_items (drop used (c ∷ x))))
    ∙ ap (state_after receiver (loaded_of m)) both in
    ap (λ t. byte_items (take used (c ∷ x)) ++ t) (rest k.steady (drop_bytes used (c ∷ x) b) less (λ d. a (sym same ∙ d))) ∙ both

-- steps over a piece of at most n bytes use it up, if the connection is open after it
stepped_through_lem : (n : ℕ) (m : Memory) (x : List ℕ) → Steady m → AllBytes x → length x ≤ n → (state_after receiver (loaded_of m) (byte_items x) ≡ Closed → ⊥)
    → timeline m (stepped_through n m x) ≡ byte_items x
unfolding stepped_through timeline byte_items
stepped_through_lem zero m [] z b l a = refl
stepped_through_lem zero m (c ∷ x) z b l a = absurd (omega arith)
stepped_through_lem (suc n) m [] z b l a = refl
stepped_through_lem (suc n) m (c ∷ x) z b l a =
    by_test m.state.conn.«open»
    (more_steps n m c x z b l a (stepped_through_lem n (memory_after m (StepOver (c ∷ x))) (drop (step_of m (c ∷ x)).used (c ∷ x))))
    (λ e. absurd (a (ap (λ w. state_after receiver w (byte_items (c ∷ x))) (closed_loaded m e) ∙ closed_stays receiver (byte_items (c ∷ x)))))

-- ---- all pieces and calls
open_before : (s : Connection receiver) (t u : List (Item Argument)) → (state_after receiver s (t ++ u) ≡ Closed → ⊥) → state_after receiver s t ≡ Closed → ⊥
open_before s t u a e = a (state_append receiver s t u ∙ ap (λ w. state_after receiver w u) e ∙ closed_stays receiver u)

-- Any bytes and calls, cut into pieces in any way, can be run: the steps use all of them, in order, if they leave the
-- connection open.
pub all_stepped_lem : (os : List Operation) (m : Memory) → Steady m → PiecesOk os → (state_after receiver (loaded_of m) (items_in os) ≡ Closed → ⊥)
    → timeline m (all_stepped m os) ≡ items_in os
unfolding all_stepped items_in timeline state_after items_of
all_stepped_lem [] m z p a = refl
all_stepped_lem (StepOver x ∷ os) m z p a =
    let qs = stepped_through (length x) m x in
    let i = byte_items x in
    let e = stepped_through_lem (length x) m x z p.0 (omega arith) (open_before (loaded_of m) i (items_in os) a) in
    let k = run_linked qs m z (through_pieces (length x) m x p.0) in
    let s : loaded_of (final_memory m qs) ≡ state_after receiver (loaded_of m) i = k.state ∙ ap (state_after receiver (loaded_of m)) e in
    let r = all_stepped_lem os (final_memory m qs) k.steady p.1 (λ d. a (state_append receiver (loaded_of m) i (items_in os) ∙ ap (λ w. state_after receiver w (items_in os)) (sym s) ∙ d)) in
    final_append qs m (all_stepped (final_memory m qs) os) ∙ ap₂ (λ v w. v ++ w) e r
all_stepped_lem (CallFor id a ∷ os) m z p open' =
    let k = call_linked m id a z in
    ap (λ l. CallItem (RequestCall id a) ∷ l)
    (all_stepped_lem os (memory_after m (CallFor id a)) k.steady p (λ d. open' (ap (λ w. state_after receiver w (items_in os)) (sym k.state) ∙ d)))
all_stepped_lem (CountActive ∷ os) m z p a =
    let k = count_linked m z in
    ap (λ l. CallItem CountCall ∷ l)
    (all_stepped_lem os (memory_after m CountActive) k.steady p (λ d. a (ap (λ w. state_after receiver w (items_in os)) (sym k.state) ∙ d)))

-- The second run. Take any run A as isolation does, cut what purging leaves of its timeline into pieces in any way,
-- ps, and step over each piece until it is used up.
abbrev pub second_run : (gathered store : List ℕ) (ps : List Operation) → length gathered ≡ QUERY → length store ≡ STORE → PiecesOk ps → WholeRun
second_run gathered store ps size full p =
    record {
      gathered = gathered;
      store = store;
      operations = all_stepped (start_of gathered store) ps;
      gathered_size = size;
      store_size = full;
      pieces = all_pieces ps (start_of gathered store) p;
    }

-- This is a run for R's items.
pub second_run_lem : (R : ℕ) (A : WholeRun) (gathered store : List ℕ) (ps : List Operation) (size : length gathered ≡ QUERY) (full : length store ≡ STORE) (p : PiecesOk ps)
    → 0 < R → EndsBetweenRecords A → NeverOverloaded R A → items_in ps ≡ purge R (timeline_of A) → RunsFor R A (second_run gathered store ps size full p)
second_run_lem R A gathered store ps size full p r b room e =
    let B = start_of gathered store in
    let i = purged_between R A r b room in
    let s : state_after receiver (loaded_of B) (items_in ps) ≡ Open i.slots (AtHeader []) = ap₂ (λ v w. state_after receiver v w) (start_loaded gathered store full) e ∙ i.is_open in
    let a : state_after receiver (loaded_of B) (items_in ps) ≡ Closed → ⊥ = λ d. let y : ◌≡◌ {A = ℕ} 0 1 = cc in omega arith in
    record { rest = []; prefix = append-nil _ ∙ all_stepped_lem ps B (start_steady gathered store size full) p a ∙ e; all_or_closed = inl refl }

-- So it is isolated.
pub any_cutting : (R : ℕ) (A : WholeRun) (gathered store : List ℕ) (ps : List Operation) → 0 < R → EndsBetweenRecords A → NeverOverloaded R A
    → length gathered ≡ QUERY → length store ≡ STORE → PiecesOk ps → items_in ps ≡ purge R (timeline_of A)
    → CanBeRun R A gathered store ps
any_cutting R A gathered store ps r b room size full p e =
    record {
      run = second_run gathered store ps size full p;
      same_gathered = refl;
      same_store = refl;
      each_stepped = refl;
      isolated = any_run R A (second_run gathered store ps size full p) r b room (second_run_lem R A gathered store ps size full p r b room e);
    }

-- That any cutting can be run follows from the isolation of any two runs.
--
-- The second half of isolation without a queue, `any_cutting`, says that the run which steps over each piece until it
-- is used up does not get stuck. That follows from the first half, `any_run`, however that was shown: were R's items
-- to close the connection, some run of the first of them would end closed; and a run for R's items ends open.
use Rattle.std.specs.Prelude.{◌≡◌, refl, List, [], ◌∷◌, ◌++◌, true, false, ℕ, zero, suc, ◌<◌, length}
use Rattle.std.proofs.Common.{ap, sym, ◌∙◌, append-nil, inl, inr, arith}
use Rattle.wire.specs.Test.{by_test}
use Rattle.wire.proofs.Bytes.{AllBytes, append_bytes}
use Rattle.machine.specs.Timeline.{RequestCall, CountCall, Item, ByteItem, CallItem, byte_items, item_bytes, purge}
use Rattle.machine.proofs.TimelineLaws.{bytes_of_items}
use Rattle.machine.specs.Machine.{Closed, state_after}
use Rattle.machine.proofs.RunLaws.{state_append}
use Rattle.connection.specs.Sizes.{STORE, QUERY}
use Rattle.connection.specs.Arguments.{Argument}
use Rattle.connection.specs.Run.{Memory, Operation, StepOver, CallFor, CountActive, step_of, memory_after, items_of, final_memory, timeline, start_of, PiecesOk, WholeRun, timeline_of, items_in}
use Rattle.connection.specs.Isolation.{EndsBetweenRecords, NeverOverloaded, RunsFor, Isolated, CanBeRun}
use Rattle.connection.proofs.Laws.Progress.{step_uses_some}
use Rattle.connection.specs.Runs.Receiver.{receiver}
use Rattle.connection.proofs.Runs.LinkingStep.{loaded_of, open_loaded, Steady, Linked, step_linked}
use Rattle.connection.proofs.Runs.LinkingCalls.{call_linked, count_linked}
use Rattle.connection.proofs.Runs.LinkingRuns.{start_steady}
use Rattle.connection.proofs.Runs.SecondRun.{all_stepped_lem, second_run}
use Rattle.queue_runs.proofs.Closing.{both_ways}

-- ---- definitions
-- Any run for R's items of A is isolated: the first half of Isolation.
abbrev pub AnyRun : Type 0
AnyRun = (R : ℕ) (A B : WholeRun) → 0 < R → EndsBetweenRecords A → NeverOverloaded R A → RunsFor R A B → Isolated R A B

-- Any cutting of R's items of A can be run: the second half.
abbrev pub AnyCutting : Type 0
AnyCutting = (R : ℕ) (A : WholeRun) (gathered store : List ℕ) (ps : List Operation) → 0 < R → EndsBetweenRecords A → NeverOverloaded R A
    → length gathered ≡ QUERY → length store ≡ STORE → PiecesOk ps → items_in ps ≡ purge R (timeline_of A)
    → CanBeRun R A gathered store ps

-- Some operations from m have the first of these items and end closed.
record EndsClosed (m : Memory) (t : List (Item Argument)) : Type 0 where
  operations : List Operation
  pieces : PiecesOk operations
  rest : List (Item Argument)
  prefix : timeline m operations ++ rest ≡ t
  closed : (final_memory m operations).state.conn.«open» ≡ false

-- ---- items that close
-- one operation, of one item, before them
one_more_lem : (m : Memory) (o : Operation) (x : Item Argument) (t : List (Item Argument)) → ((os : List Operation) → PiecesOk os → PiecesOk (o ∷ os)) → items_of m o ≡ x ∷ []
    → EndsClosed (memory_after m o) t → EndsClosed m (x ∷ t)
unfolding timeline final_memory
one_more_lem m o x t p e c = record {
  operations = o ∷ c.operations;
  pieces = p c.operations c.pieces;
  rest = c.rest;
  prefix = ap (λ l. (l ++ timeline (memory_after m o) c.operations) ++ c.rest) e ∙ ap (λ l. x ∷ l) c.prefix;
  closed = c.closed;
}

-- what closes after it
closes_on : (m : Memory) (o : Operation) (x : Item Argument) (t : List (Item Argument)) → Linked m o → items_of m o ≡ x ∷ [] → state_after receiver (loaded_of m) (x ∷ t) ≡ Closed
    → state_after receiver (loaded_of (memory_after m o)) t ≡ Closed
closes_on m o x t k e c =
    ap (λ s. state_after receiver s t) (k.state ∙ ap (state_after receiver (loaded_of m)) e) ∙ sym (state_append receiver (loaded_of m) (x ∷ []) t) ∙ c

-- a step over one byte uses it
one_used : (m : Memory) (b : ℕ) → Steady m → m.state.conn.«open» ≡ true → items_of m (StepOver (b ∷ [])) ≡ ByteItem b ∷ []
unfolding items_of byte_items
one_used m b z o =
    let u = step_uses_some m.state m.store (b ∷ []) z.shape o z.sizes.full (omega arith) in
    let e : (step_of m (b ∷ [])).used ≡ 1 = omega (arith, u.0, u.1) in
    rw e

-- an open connection is not closed
not_closed : (m : Memory) → m.state.conn.«open» ≡ true → state_after receiver (loaded_of m) [] ≡ Closed → ⊥
unfolding state_after
not_closed m o c = let e = open_loaded m o in let y : ◌≡◌ {A = ℕ} 0 1 = cc in omega arith

-- one byte, as a piece
one_byte_lem : (b : ℕ) → b < 256 → AllBytes (b ∷ [])
one_byte_lem b h zero = h
one_byte_lem b h (suc i) = omega arith

-- a closed connection: no operation is needed
closed_here : (m : Memory) (t : List (Item Argument)) → m.state.conn.«open» ≡ false → EndsClosed m t
unfolding timeline final_memory
closed_here m t c = record { operations = []; pieces = tt; rest = t; prefix = refl; closed = c }

-- Items that close: some operations have the first of them and end closed.
ends_closed : (t : List (Item Argument)) (m : Memory) → Steady m → AllBytes (item_bytes t) → state_after receiver (loaded_of m) t ≡ Closed → EndsClosed m t
unfolding item_bytes items_of
ends_closed [] m z a c = by_test m.state.conn.«open» (λ o. absurd (not_closed m o c)) (closed_here m [])
ends_closed (ByteItem b ∷ t) m z a c =
    by_test m.state.conn.«open»
    (λ o.
    let k = step_linked m (b ∷ []) z (one_byte_lem b (a 0)) in
    let e = one_used m b z o in
    one_more_lem m (StepOver (b ∷ [])) (ByteItem b) t (λ os p. (one_byte_lem b (a 0), p)) e (ends_closed t (memory_after m (StepOver (b ∷ []))) k.steady (λ i. a (suc i)) (closes_on m (StepOver (b ∷ [])) (ByteItem b) t k e c)))
    (closed_here m (ByteItem b ∷ t))
ends_closed (CallItem (RequestCall id x) ∷ t) m z a c =
    let k = call_linked m id x z in
    one_more_lem m (CallFor id x) (CallItem (RequestCall id x)) t (λ os p. p) refl (ends_closed t (memory_after m (CallFor id x)) k.steady a (closes_on m (CallFor id x) (CallItem (RequestCall id x)) t k refl c))
ends_closed (CallItem CountCall ∷ t) m z a c =
    let k = count_linked m z in
    one_more_lem m CountActive (CallItem CountCall) t (λ os p. p) refl (ends_closed t (memory_after m CountActive) k.steady a (closes_on m CountActive (CallItem CountCall) t k refl c))

-- the bytes of pieces are bytes
items_bytes : (ps : List Operation) → PiecesOk ps → AllBytes (item_bytes (items_in ps))
unfolding items_in item_bytes
items_bytes [] p = λ i. omega arith
items_bytes (StepOver x ∷ ps) p = rw (bytes_of_items x (items_in ps)) (append_bytes x (item_bytes (items_in ps)) p.0 (items_bytes ps p.1))
items_bytes (CallFor id a ∷ ps) p = items_bytes ps p
items_bytes (CountActive ∷ ps) p = items_bytes ps p

-- ---- the second half from the first
module _ (any_run : AnyRun) (R : ℕ) (A : WholeRun) (gathered store : List ℕ) (ps : List Operation) (low : 0 < R) (ends : EndsBetweenRecords A) (never : NeverOverloaded R A) (size : length gathered ≡ QUERY) (full : length store ≡ STORE) (p : PiecesOk ps) (e : items_in ps ≡ purge R (timeline_of A)) where
  abbrev start : Memory
  start = start_of gathered store

  steady : Steady start
  steady = start_steady gathered store size full

  -- R's items leave the connection open: a run of the first of them that ends closed would be isolated.
  stays_open : state_after receiver (loaded_of start) (items_in ps) ≡ Closed → ⊥
  stays_open c =
      let s = ends_closed (items_in ps) start steady (items_bytes ps p) c in
      let B : WholeRun = record { gathered = gathered; store = store; operations = s.operations; gathered_size = size; store_size = full; pieces = s.pieces } in
      let i = any_run R A B low ends never (record { rest = s.rest; prefix = s.prefix ∙ e; all_or_closed = inr s.closed }) in
      both_ways (final_memory start s.operations).state.conn.«open» i.ends_between.is_open s.closed

  -- So the steps use them up.
  can_be_run : CanBeRun R A gathered store ps
  can_be_run =
      let B = second_run gathered store ps size full p in
      record {
        run = B;
        same_gathered = refl;
        same_store = refl;
        each_stepped = refl;
        isolated = any_run R A B low ends never (record { rest = []; prefix = append-nil _ ∙ all_stepped_lem ps start steady p stays_open ∙ e; all_or_closed = inl refl });
      }

-- Where any two runs are isolated, any cutting can be run.
pub cutting_from : AnyRun → AnyCutting
cutting_from any_run R A gathered store ps low ends never size full p e = can_be_run any_run R A gathered store ps low ends never size full p e

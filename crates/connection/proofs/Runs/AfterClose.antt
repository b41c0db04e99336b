-- After a close every call is refused by 1.
use Rattle.std.specs.Prelude.{◌≡◌, refl, List, [], ◌∷◌, ◌++◌, true, false, ℕ, length, eqb, if◌then◌else◌}
use Rattle.std.proofs.Common.{ap, ap₂, sym, ◌∙◌, subst, arith, eq-eqb}
use Rattle.std.proofs.Math.Option.{none}
use Rattle.wire.specs.Test.{by_test, ◌=?◌}
use Rattle.connection.specs.declared.state.Conn.{Conn}
use Rattle.connection.specs.Sizes.{STORE}
use Rattle.connection.specs.Shape.{in_shape}
use Rattle.connection.specs.Step.{stays, step_refusal}
use Rattle.connection.specs.Calls as C
use Rattle.connection.specs.Arguments.{Argument, refused}
use Rattle.connection.specs.Run.{Memory, Operation, StepOver, CallFor, CountActive, Observed, Answered, request_of, CallResult, unchanged, called, step_of, memory_after, seen_in, final_memory, all_seen, PiecesOk, WholeRun, beginning}
use Rattle.connection.proofs.Laws.Progress.{step_refused}
use Rattle.connection.proofs.Runs.Closed.{closed_final}
use Rattle.connection.proofs.Runs.LinkingCalls.{refused_call}
use Rattle.connection.proofs.Runs.LinkingRuns.{start_steady, run_linked}

-- ---- any closed connection
-- The first of the rows 2, 9 and 1 where the connection is closed: row 1 holds.
abbrev pub closed_number : Conn → List ℕ → ℕ
closed_number c store = if length store =? STORE then (if in_shape c then 1 else 9) else 2

-- The same for a call that is not lent the store.
abbrev pub closed_unlent : Conn → ℕ
closed_unlent c = if in_shape c then 1 else 9

-- On a closed connection, whatever its shape and the store, every refusal is the first of 2, 9 and 1 that holds: no
-- id is looked up first, and nothing else is tested before.
pub record ClosedRefusals (c : Conn) (store : List ℕ) : Type 0 where
  pub step : step_refusal c store ≡ closed_number c store
  pub lent : (id : ℕ) → C.lent_refusal c store id ≡ closed_number c store
  pub call : (id : ℕ) → C.call_refusal c id ≡ closed_unlent c
  pub count : C.count_refusal c ≡ closed_unlent c

-- They are.
pub closed_refusals : (c : Conn) (store : List ℕ) → c.«open» ≡ false → ClosedRefusals c store
unfolding step_refusal C.lent_refusal C.call_refusal C.count_refusal
closed_refusals c store e =
    record {
      step = by_test (eqb (length store) STORE) (λ s. by_test (in_shape c) (λ i. simp (s, i, e)) (λ i. simp (s, i, e))) (λ s. simp (s, e));
      lent = λ id. by_test (eqb (length store) STORE) (λ s. by_test (in_shape c) (λ i. simp (s, i, e)) (λ i. simp (s, i, e))) (λ s. simp (s, e));
      call = λ id. by_test (in_shape c) (λ i. simp (i, e)) (λ i. simp (i, e));
      count = by_test (in_shape c) (λ i. simp (i, e)) (λ i. simp (i, e));
    }

-- ---- a closed connection in shape, with a store of the right size
-- Every call is refused by 1 and changes nothing: a step uses no byte and tells nothing, value answers the fallback,
-- a call that writes leaves its buffer, and nothing is counted.
pub record AllRefused (m : Memory) : Type 0 where
  pub step : (piece : List ℕ) → step_of m piece ≡ stays 1 m.state m.store
  pub call : (id : ℕ) (a : Argument) → called m id a ≡ unchanged m (refused 1 a)
  pub count : C.active_count m.state.conn ≡ record { refusal = 1; count = 0 }

-- It is.
pub closed_all_refused : (m : Memory) → m.state.conn.«open» ≡ false → in_shape m.state.conn ≡ true → length m.store ≡ STORE → AllRefused m
unfolding C.active_count
closed_all_refused m e shape full =
    let r = closed_refusals m.state.conn m.store e in
    let lent : closed_number m.state.conn m.store ≡ 1 = simp (eq-eqb (length m.store) STORE full, shape) in
    let call : closed_unlent m.state.conn ≡ 1 = simp shape in
    let one : step_refusal m.state.conn m.store ≡ 1 = r.step ∙ lent in
    let count : C.count_refusal m.state.conn ≡ 1 = r.count ∙ call in
    record {
      step = λ piece. step_refused m.state m.store piece (λ z. omega arith) ∙ ap (λ n. stays n m.state m.store) one;
      call = λ id a. refused_call m id 0 a (r.lent id ∙ lent) (r.call id ∙ call);
      count = rw count;
    }

-- What is observed of operations that are all refused by 1: of each call its refusal, of steps nothing.
unfoldable pub only_refused : List Operation → List Observed
only_refused [] = []
only_refused (StepOver piece ∷ os) = only_refused os
only_refused (CallFor id a ∷ os) = Answered id a (refused 1 a) none none ∷ only_refused os
only_refused (CountActive ∷ os) = only_refused os

none_closed : (m : Memory) (id : ℕ) → m.state.conn.«open» ≡ false → request_of id m ≡ none
unfolding request_of
none_closed m id e = rw e

-- On such a connection any operations come to that.
pub closed_observed : (os : List Operation) (m : Memory) → m.state.conn.«open» ≡ false → in_shape m.state.conn ≡ true → length m.store ≡ STORE
    → all_seen m os ≡ only_refused os
unfolding all_seen only_refused seen_in memory_after
closed_observed [] m e shape full = refl
closed_observed (StepOver piece ∷ os) m e shape full =
    rw ((closed_all_refused m e shape full).step piece) (closed_observed os m e shape full)
closed_observed (CallFor id a ∷ os) m e shape full =
    subst (λ (r : CallResult). Answered id a r.answer (request_of id m) (request_of id r.memory) ∷ all_seen r.memory os ≡ only_refused (CallFor id a ∷ os))
    (sym ((closed_all_refused m e shape full).call id a))
    (ap₂ (λ x l. Answered id a (refused 1 a) x x ∷ l) (none_closed m id e) (closed_observed os m e shape full))
closed_observed (CountActive ∷ os) m e shape full = closed_observed os m e shape full

-- ---- runs
final_append : (os more : List Operation) (m : Memory) → final_memory m (os ++ more) ≡ final_memory (final_memory m os) more
unfolding final_memory
final_append [] more m = refl
final_append (o ∷ os) more m = final_append os more (memory_after m o)

pieces_before : (os more : List Operation) → PiecesOk (os ++ more) → PiecesOk os
pieces_before [] more p = tt
pieces_before (StepOver piece ∷ os) more p = (p.0, pieces_before os more p.1)
pieces_before (CallFor id a ∷ os) more p = pieces_before os more p
pieces_before (CountActive ∷ os) more p = pieces_before os more p

-- In a run that is closed at some point, after some of its operations, every call at that point and at any later one
-- is refused by 1: step, value's sister, pair, walk, say, end, finish and the active number; value is the fallback.
pub after_close : (r : WholeRun) (before between rest : List Operation) → r.operations ≡ before ++ (between ++ rest)
    → (final_memory (beginning r) before).state.conn.«open» ≡ false → AllRefused (final_memory (beginning r) (before ++ between))
after_close r before between rest split e =
    let m = final_memory (beginning r) before in
    let z = (run_linked before (beginning r) (start_steady r.gathered r.store r.gathered_size r.store_size) (pieces_before before (between ++ rest) (subst (λ os. PiecesOk os) split r.pieces))).steady in
    let same : final_memory (beginning r) (before ++ between) ≡ m = final_append before between (beginning r) ∙ closed_final between m z e in
    subst AllRefused (sym same) (closed_all_refused m e z.shape z.sizes.full)

-- A spent request stays spent until it is finished.
use Rattle.std.specs.Prelude.{◌≡◌, refl, ◌⊎◌, List, [], ◌∷◌, true, ℕ, eqb, Some}
use Rattle.std.proofs.Math.Path.{ap, subst}
use Rattle.std.proofs.Common.{sym, ◌∙◌, inl, inr, arith}
use Rattle.std.proofs.Math.Option.{some}
use borrow.Author.Tests.{eqb-true, eqb-false}
use Rattle.wire.specs.Test.{by_test}
use Rattle.connection.specs.declared.request.Request.{Request}
use Rattle.connection.specs.declared.state.Conn.{Conn}
use Rattle.connection.specs.declared.answer.Output.{Output}
use Rattle.connection.specs.Request.{Held, is_spent}
use Rattle.connection.specs.RequestCalls as Of
use Rattle.connection.specs.Slots.{request_at, held_at, free_slot, find}
use Rattle.connection.specs.Calls as C
use Rattle.connection.specs.Arguments.{Argument, ForRead, ForSay, ForEnd, ForFinish}
use Rattle.connection.specs.Run.{Memory, Operation, StepOver, CallFor, CountActive, request_of, changed_by, finished_by, called, step_of, memory_of, memory_after, final_memory, PiecesOk, WholeRun, beginning, ending}
use Rattle.connection.proofs.Laws.SlotsLaws.{Sized, Distinct, other_of_free, taken_of_free_other, find_at, only_slot}
use Rattle.connection.proofs.Laws.ShapeLaws.{shaped}
use Rattle.connection.proofs.Laws.SpentStays.{Like, put_same_life, spent_stays}
use Rattle.connection.proofs.Runs.CallShape.{free_holds}
use Rattle.connection.proofs.Runs.LinkingStep.{Steady, step_linked}
use Rattle.connection.proofs.Runs.LinkingCalls.{call_linked}
use Rattle.connection.proofs.Runs.LinkingRuns.{run_linked, start_steady}
use Rattle.connection.proofs.Runs.Freed.{Kept, Shut, Done, finish_done, finish_refused}
use Rattle.connection.proofs.Runs.SpentSilent.{ActiveAt, active_at}

-- ---- what is said
-- R is active and spent, with the life that h has: faulted or aborted.
pub record StillSpent (R : ℕ) (h : Held) (m : Memory) : Type 0 where
  pub now : Held
  pub active : request_of R m ≡ some now
  pub spent : is_spent now.request.state.life ≡ true
  pub same_life : now.request.state.life ≡ h.request.state.life

-- The operation leaves the connection open, and is no finish of R but one that is refused.
pub record LeavesAlone (R : ℕ) (m : Memory) (o : Operation) : Type 0 where
  pub is_open : (memory_after m o).state.conn.«open» ≡ true
  pub unfinished : (status : ℕ) (buffer : List ℕ) → o ≡ CallFor R (ForFinish status buffer) → (C.finish m.state.conn m.store R status buffer).refusal ≡ 0 → ⊥

-- So does each of some operations.
abbrev pub AllLeaveAlone : ℕ → Memory → List Operation → Type 0
AllLeaveAlone R m [] = Unit {0}
AllLeaveAlone R m (o ∷ os) = LeavesAlone R m o × AllLeaveAlone R (memory_after m o) os

-- ---- the ways that an operation leaves R
-- a request that writes keeps its id and its life
writes_like : (n : ℕ) (bytes : List ℕ) (after r : Request) (buffer : List ℕ) → Like r after → Like r (Of.writes n bytes after r buffer).request
unfolding Of.writes
writes_like n bytes after r buffer l = by_test (eqb n 0) (λ e. simp e l) (λ e. simp e (record { id = refl; life = refl }))

say_like : (r : Request) (output : Output) (bytes buffer : List ℕ) → Like r (Of.say_in r output bytes buffer).request
unfolding Of.say_in Of.said_on
say_like r output bytes buffer = writes_like _ _ _ r buffer (record { id = refl; life = refl })

end_like : (r : Request) (output : Output) (buffer : List ℕ) → Like r (Of.end_in r output buffer).request
unfolding Of.end_in Of.ended_on
end_like r output buffer = writes_like _ _ _ r buffer (record { id = refl; life = refl })

module _ (R : ℕ) (h : Held) (spent : is_spent h.request.state.life ≡ true) where
  still : (m : Memory) (i : ℕ) → m.state.conn.«open» ≡ true → find m.state.conn.table R ≡ Some i → (request_at m.state.conn.table i).state.life ≡ h.request.state.life → StillSpent R h m
  unfolding request_of
  still m i o f l =
      record {
        now = held_at m.state.conn.table m.store i;
        active = rw (o, f);
        spent = subst (λ w. is_spent w ≡ true) (sym l) spent;
        same_life = l;
      }

  module _ (m : Memory) (sized : Sized m.state.conn.table) (i : ℕ) (is_open : m.state.conn.«open» ≡ true) (found : find m.state.conn.table R ≡ Some i)
      (life : (request_at m.state.conn.table i).state.life ≡ h.request.state.life) where
    -- a step
    still_step : (piece : List ℕ) → (step_of m piece).state.conn.«open» ≡ true → StillSpent R h (memory_after m (StepOver piece))
    unfolding memory_after
    still_step piece o =
        let k = spent_stays m.state m.store piece R i sized found (subst (λ w. is_spent w ≡ true) (sym life) spent) o in
        still (memory_of (step_of m piece)) i o k.found (k.life ∙ life)

    -- a call that writes
    still_written : (j : ℕ) (w : Of.Writing) → Like (request_at m.state.conn.table j) w.request → StillSpent R h (changed_by m (C.written_by m.state.conn j w)).memory
    still_written j w like =
        let k = put_same_life m.state.conn.table R i j w.request sized found like.id (λ q. like.life) in
        still _ i is_open k.found (k.life ∙ life)

    -- a finish of another request
    still_freed : (j id : ℕ) → Distinct m.state.conn.table → find m.state.conn.table id ≡ Some j → (id ≡ R → ⊥) → (w : C.Finished) → Kept m.state.conn m.store j w
        → StillSpent R h (finished_by m w).memory
    unfolding C.released request_at
    still_freed j id d e apart w k =
        let t = m.state.conn.table in
        let own = find_at t R i found in
        let other : i ≡ j → ⊥ = λ q. apart (sym (find_at t id j e).has_id ∙ subst (λ n. (request_at t n).id ≡ R) q own.has_id) in
        let kept = other_of_free t j i other in
        let there : find (free_slot t j) R ≡ Some i =
        only_slot (free_slot t j) (λ k a b x y. d k a b (free_holds t j k a x).held (free_holds t j k b y).held) R i
        (record { low = own.low; slot_taken = taken_of_free_other t j i other ∙ own.slot_taken; has_id = ap (λ (x : Request). x.id) kept ∙ own.has_id }) in
        still (finished_by m w).memory i (ap (λ (c : Conn). c.«open») k.conn ∙ is_open) (ap (λ (c : Conn). find c.table R) k.conn ∙ there)
        (ap (λ (c : Conn). (request_at c.table i).state.life) k.conn ∙ ap (λ (x : Request). x.state.life) kept ∙ life)

    -- any finish
    still_finished : (id status : ℕ) (buffer : List ℕ) → LeavesAlone R m (CallFor id (ForFinish status buffer)) → StillSpent R h (called m id (ForFinish status buffer)).memory
    unfolding called memory_after
    still_finished id status buffer a =
        by_test (eqb w.refusal 0)
        (λ t.
        let q = eqb-true w.refusal 0 t in
        let d = finish_done c m.store id status buffer q in
        done q d d.way)
        (λ t. let k = (finish_refused c m.store id status buffer (eqb-false w.refusal 0 t)).0 in still _ i (ap (λ (x : Conn). x.«open») k ∙ is_open) (ap (λ (x : Conn). find x.table R) k ∙ found)
        (ap (λ (x : Conn). (request_at x.table i).state.life) k ∙ life))
      where
        c : Conn
        c = m.state.conn

        w : C.Finished
        w = C.finish c m.store id status buffer

        done : w.refusal ≡ 0 → (d : Done c m.store id w) → Kept c m.store d.admitted.slot w ⊎ Shut m.store w → StillSpent R h (finished_by m w).memory
        done q d (inl k) =
            still_freed d.admitted.slot id (shaped c d.admitted.fits.shape).table.distinct d.admitted.found
            (λ s. a.unfinished status buffer (ap (λ n. CallFor n (ForFinish status buffer)) s) (subst (λ n. (C.finish c m.store n status buffer).refusal ≡ 0) s q)) w k
        done q d (inr k) = let y : ◌≡◌ {A = ℕ} 0 1 = cc (ap (λ (x : Conn). x.«open») k.conn, a.is_open) in absurd (omega arith)

    -- any call
    still_called : (id : ℕ) (a : Argument) → LeavesAlone R m (CallFor id a) → StillSpent R h (called m id a).memory
    unfolding called C.say C.end_stream
    still_called id (ForRead q) a = still m i is_open found life
    still_called id (ForSay output bytes buffer) a =
        let j = C.slot_of m.state.conn id in
        let r = request_at m.state.conn.table j in
        by_test (eqb (C.call_refusal m.state.conn id) 0) (λ t. simp t (still_written j (Of.say_in r output bytes buffer) (say_like r output bytes buffer))) (λ t. simp t (still _ i is_open found life))
    still_called id (ForEnd output buffer) a =
        let j = C.slot_of m.state.conn id in
        let r = request_at m.state.conn.table j in
        by_test (eqb (C.call_refusal m.state.conn id) 0) (λ t. simp t (still_written j (Of.end_in r output buffer) (end_like r output buffer))) (λ t. simp t (still _ i is_open found life))
    still_called id (ForFinish status buffer) a = still_finished id status buffer a

-- ---- operations
-- A spent request stays spent, faulted or aborted as it was, whatever operation comes, unless it closes the
-- connection or is a finish of that request that is not refused. Nothing is asked of the memory but that its table
-- has a place for each slot, as the code's types have it.
pub stays_spent : (R : ℕ) (m : Memory) (o : Operation) (h : Held) → Sized m.state.conn.table → request_of R m ≡ some h → is_spent h.request.state.life ≡ true → LeavesAlone R m o
    → StillSpent R h (memory_after m o)
unfolding memory_after
stays_spent R m o h sized e spent a = go o a
  where
    own : ActiveAt R m h
    own = active_at R m h e

    life : (request_at m.state.conn.table own.slot).state.life ≡ h.request.state.life
    life = ap (λ (x : Held). x.request.state.life) own.same

    go : (o : Operation) → LeavesAlone R m o → StillSpent R h (memory_after m o)
    go (StepOver piece) a = still_step R h spent m sized own.slot own.is_open own.found life piece a.is_open
    go (CallFor id x) a = still_called R h spent m sized own.slot own.is_open own.found life id x a
    go CountActive a = still R h spent m own.slot own.is_open own.found life

-- what holds of R's life now holds of its life before
again : (R : ℕ) (h : Held) (m : Memory) {m' : Memory} (k : StillSpent R h m') → StillSpent R k.now m → StillSpent R h m
again R h m k n = record { now = n.now; active = n.active; spent = n.spent; same_life = n.same_life ∙ k.same_life }

-- The same for any operations, one after the other.
pub stays_spent_on : (R : ℕ) (os : List Operation) (m : Memory) (h : Held) → Steady m → PiecesOk os → request_of R m ≡ some h → is_spent h.request.state.life ≡ true → AllLeaveAlone R m os
    → StillSpent R h (final_memory m os)
unfolding final_memory memory_after
stays_spent_on R [] m h z p e spent a = record { now = h; active = e; spent = spent; same_life = refl }
stays_spent_on R (StepOver piece ∷ os) m h z p e spent a =
    let k = stays_spent R m (StepOver piece) h z.sizes.table e spent a.0 in
    again R h (final_memory (memory_after m (StepOver piece)) os) k
    (stays_spent_on R os (memory_after m (StepOver piece)) k.now (step_linked m piece z p.0).steady p.1 k.active k.spent a.1)
stays_spent_on R (CallFor id x ∷ os) m h z p e spent a =
    let k = stays_spent R m (CallFor id x) h z.sizes.table e spent a.0 in
    again R h (final_memory (memory_after m (CallFor id x)) os) k
    (stays_spent_on R os (memory_after m (CallFor id x)) k.now (call_linked m id x z).steady p k.active k.spent a.1)
stays_spent_on R (CountActive ∷ os) m h z p e spent a = stays_spent_on R os m h z p e spent a.1

-- And so in every run: a request that is spent at some point is spent until it is finished or the connection closes.
pub run_stays_spent : (R : ℕ) (r : WholeRun) (os : List Operation) (h : Held) → PiecesOk os → request_of R (ending r) ≡ some h → is_spent h.request.state.life ≡ true
    → AllLeaveAlone R (ending r) os → StillSpent R h (final_memory (ending r) os)
run_stays_spent R r os h p e spent a =
    let start = start_steady r.gathered r.store r.gathered_size r.store_size in
    stays_spent_on R os (ending r) h (run_linked r.operations (beginning r) start r.pieces).steady p e spent a

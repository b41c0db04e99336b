-- In a run, the counts of an active request are those of what was shown of it (`Counts`).
use Rattle.std.specs.Prelude.{◌≡◌, refl, ◌⊎◌, List, [], ◌∷◌, ◌++◌, ℕ, length, eqb}
use Rattle.std.proofs.Common.{ap, ap₂, sym, ◌∙◌, inl, inr, arith, eqb-true, eq-eqb}
use Rattle.std.proofs.Math.Path.{subst}
use Rattle.std.proofs.lemmas.Bool.{eqb-false}
use Rattle.wire.specs.Test.{by_test}
use Rattle.record.specs.Names.{STDIN, DATA}
use Rattle.connection.specs.declared.request.Request.{Request}
use Rattle.connection.specs.declared.request.Shown.{Shown}
use Rattle.connection.specs.declared.state.Table.{Table}
use Rattle.connection.specs.declared.state.Conn.{Conn}
use Rattle.connection.specs.declared.answer.Output.{Output}
use Rattle.connection.specs.Sizes.{STORE}
use Rattle.connection.specs.Request.{Held, unshown}
use Rattle.connection.specs.RequestCalls as Of
use Rattle.connection.specs.Slots.{request_at, free_slot}
use Rattle.connection.specs.Step.{started}
use Rattle.connection.specs.Calls as C
use Rattle.connection.specs.Arguments.{Argument, ForRead, ForSay, ForEnd, ForFinish}
use Rattle.connection.specs.Run.{Memory, Operation, StepOver, CallFor, CountActive, Observed, called, memory_after, seen_in, final_memory, all_seen, start_of, PiecesOk, beginning, ending, observed_in}
use Rattle.connection.specs.Counts.{shown_in, CountsAreShown}
use Rattle.connection.proofs.Laws.SlotsLaws.{Sized, Distinct, other_of_free, find_at, only_slot}
use Rattle.connection.proofs.Laws.ShapeLaws.{shaped}
use Rattle.connection.proofs.Laws.CountsSteps.{shown_append, shown_after, CountsIn, CountsOf, put_counts, step_counts}
use Rattle.connection.proofs.Runs.CallShape.{free_holds}
use Rattle.connection.proofs.Runs.LinkingStep.{Steady, step_linked}
use Rattle.connection.proofs.Runs.LinkingCalls.{call_linked}
use Rattle.connection.proofs.Runs.LinkingRuns.{start_steady}
use Rattle.connection.proofs.Runs.Freed.{Kept, Shut, Done, finish_done, finish_refused, empty_nowhere}
use Rattle.connection.proofs.Runs.SpentSilent.{active_at}

-- ---- calls
-- a request with the id and the counts of another
record Alike (r q : Request) : Type 0 where
  id : q.id ≡ r.id
  shown : q.state.shown ≡ r.state.shown

-- a request that writes keeps its id and its counts
writes_alike : (n : ℕ) (bytes : List ℕ) (after r : Request) (buffer : List ℕ) → Alike r after → Alike r (Of.writes n bytes after r buffer).request
unfolding Of.writes
writes_alike n bytes after r buffer l = by_test (eqb n 0) (λ e. simp e l) (λ e. simp e (record { id = refl; shown = refl }))

say_alike : (r : Request) (output : Output) (bytes buffer : List ℕ) → Alike r (Of.say_in r output bytes buffer).request
unfolding Of.say_in Of.said_on
say_alike r output bytes buffer = writes_alike _ _ _ r buffer (record { id = refl; shown = refl })

end_alike : (r : Request) (output : Output) (buffer : List ℕ) → Alike r (Of.end_in r output buffer).request
unfolding Of.end_in Of.ended_on
end_alike r output buffer = writes_alike _ _ _ r buffer (record { id = refl; shown = refl })

module _ (R : ℕ) (c : Shown) where
  -- a call that writes
  written_counts : (conn : Conn) (j : ℕ) (w : Of.Writing) → Sized conn.table → Alike (request_at conn.table j) w.request → CountsOf R c conn → CountsOf R c (C.written_by conn j w).conn
  written_counts conn j w sized a counts o =
      put_counts R c c conn.table j w.request sized (counts o) a.id (λ f. a.shown ∙ counts o j f) (λ f. refl)

  -- a slot that is freed
  free_counts : (t : Table) (j : ℕ) → Distinct t → CountsIn R c t → CountsIn R c (free_slot t j)
  free_counts t j distinct counts i f =
      let w = free_holds t j R i (find_at (free_slot t j) R i f) in
      ap (λ (x : Request). x.state.shown) (other_of_free t j i w.other) ∙ counts i (only_slot t distinct R i w.held)

  -- a finish, whether it is refused, keeps the connection open or closes it
  finish_counts : (conn : Conn) (store : List ℕ) (id status : ℕ) (buffer : List ℕ) → CountsOf R c conn → CountsOf R c (C.finish conn store id status buffer).conn
  unfolding C.released
  finish_counts conn store id status buffer counts =
      by_test (eqb w.refusal 0)
      (λ t. let d = finish_done conn store id status buffer (eqb-true w.refusal 0 t) in done d d.way)
      (λ t. subst (CountsOf R c) (sym (finish_refused conn store id status buffer (eqb-false w.refusal 0 t)).0) counts)
    where
      w : C.Finished
      w = C.finish conn store id status buffer

      done : (d : Done conn store id w) → Kept conn store d.admitted.slot w ⊎ Shut store w → CountsOf R c w.conn
      done d (inl k) =
          subst (CountsOf R c) (sym k.conn)
          (λ o. free_counts conn.table d.admitted.slot (shaped conn d.admitted.fits.shape).table.distinct (counts o))
      done d (inr k) = subst (CountsOf R c) (sym k.conn) (λ o. let z : ◌≡◌ {A = ℕ} 0 1 = cc in absurd (omega arith))

  -- Any call: R's counts stay, or R is not active after it.
  call_counts : (m : Memory) (id : ℕ) (a : Argument) → Sized m.state.conn.table → CountsOf R c m.state.conn → CountsOf R c (called m id a).memory.state.conn
  unfolding called C.say C.end_stream
  call_counts m id (ForRead q) sized counts = counts
  call_counts m id (ForSay output bytes buffer) sized counts =
      let conn = m.state.conn in
      let j = C.slot_of conn id in
      let r = request_at conn.table j in
      by_test (eqb (C.call_refusal conn id) 0)
      (λ t. simp t (written_counts conn j (Of.say_in r output bytes buffer) sized (say_alike r output bytes buffer) counts))
      (λ t. simp t counts)
  call_counts m id (ForEnd output buffer) sized counts =
      let conn = m.state.conn in
      let j = C.slot_of conn id in
      let r = request_at conn.table j in
      by_test (eqb (C.call_refusal conn id) 0)
      (λ t. simp t (written_counts conn j (Of.end_in r output buffer) sized (end_alike r output buffer) counts))
      (λ t. simp t counts)
  call_counts m id (ForFinish status buffer) sized counts = finish_counts m.state.conn m.store id status buffer counts

-- ---- operations
-- one more operation: what is observed of it, and then what is observed of those after it
more_counts : (R : ℕ) (c : Shown) (x y : List Observed) (conn : Conn) → CountsOf R (shown_after R (shown_after R c x) y) conn → CountsOf R (shown_after R c (x ++ y)) conn
more_counts R c x y conn =
    subst (λ d. CountsOf R d conn) (ap₂ (λ n k. record { stdin = n; «data» = k }) (sym (shown_append R STDIN c.stdin x y)) (sym (shown_append R DATA c.«data» x y)))

-- After any operations the counts of R are those before them, changed by what is observed of them.
pub counts_on_lem : (R : ℕ) (os : List Operation) (m : Memory) (c : Shown) → Steady m → PiecesOk os → CountsOf R c m.state.conn
    → CountsOf R (shown_after R c (all_seen m os)) (final_memory m os).state.conn
unfolding final_memory all_seen memory_after seen_in shown_in
counts_on_lem R [] m c z p counts = counts
counts_on_lem R (StepOver piece ∷ os) m c z p counts =
    more_counts R c (seen_in m (StepOver piece)) (all_seen (memory_after m (StepOver piece)) os) (final_memory (memory_after m (StepOver piece)) os).state.conn
    (counts_on_lem R os (memory_after m (StepOver piece)) (shown_after R c (seen_in m (StepOver piece))) (step_linked m piece z p.0).steady p.1
    (step_counts R c m.state m.store piece z.sizes.table counts))
counts_on_lem R (CallFor id a ∷ os) m c z p counts =
    counts_on_lem R os (memory_after m (CallFor id a)) c (call_linked m id a z).steady p (call_counts R c m id a z.sizes.table counts)
counts_on_lem R (CountActive ∷ os) m c z p counts = counts_on_lem R os m c z p counts

-- No request is active at a start.
start_counts : (R : ℕ) (gathered store : List ℕ) → length store ≡ STORE → CountsOf R unshown (start_of gathered store).state.conn
unfolding start_of started
start_counts R gathered store full =
    simp (eq-eqb (length store) STORE full) (λ o i f. let z : ◌≡◌ {A = ℕ} 0 1 = cc (f, empty_nowhere R) in absurd (omega arith))

-- The statement of Counts.
pub counts_shown : CountsAreShown
counts_shown R r h e =
    let a = active_at R (ending r) h e in
    let z = start_steady r.gathered r.store r.gathered_size r.store_size in
    let counts = counts_on_lem R r.operations (beginning r) unshown z r.pieces (start_counts R r.gathered r.store r.store_size) in
    let same : h.request.state.shown ≡ shown_after R unshown (observed_in r) = ap (λ (x : Held). x.request.state.shown) (sym a.same) ∙ counts a.is_open a.slot a.found in
    record { stdin = ap (λ (s : Shown). s.stdin) same; «data» = ap (λ (s : Shown). s.«data») same }

-- After a finish with a queue no byte of the rest of its record is shown or kept.
--
-- While some content is skipped, no call ends the skipping, straight or queued, and no turn of the pump does. A
-- finish of R, queued or straight, that is made while content of a record of R is still to come makes the rest of
-- it be skipped. So nothing is heard until that content is used up, whatever is called meanwhile and whatever the
-- pump writes.
use Rattle.std.specs.Prelude.{◌≡◌, refl, List, [], ◌∷◌, ◌++◌, Bool, true, false, ℕ, ◌+◌, ◌-◌, ◌≤◌, length, eqb}
use Rattle.std.proofs.Math.Path.{ap}
use Rattle.std.proofs.Common.{sym, ◌∙◌, subst, inl, inr, arith, length-append, length-take-le, eq-eqb}
use Rattle.std.proofs.lemmas.Bool.{eqb-false}
use Rattle.wire.specs.Test.{by_test}
use Rattle.record_reader.specs.declared.Position.{Position}
use Rattle.machine.specs.Timeline.{Item, byte_items, item_bytes}
use Rattle.machine.proofs.TimelineLaws.{bytes_of_items}
use Rattle.connection.specs.declared.request.Due.{Due}
use Rattle.connection.specs.declared.request.Request.{Request}
use Rattle.connection.specs.declared.state.Target.{Target}
use Rattle.connection.specs.Slots.{request_at}
use Rattle.connection.specs.Step.{due_to}
use Rattle.connection.specs.Bytewise.{notes}
use Rattle.connection.specs.Refusal.{refusal}
use Rattle.connection.specs.Calls as C
use Rattle.connection.specs.Arguments.{ForFinish}
use Rattle.connection.specs.Run.{Memory, memory_after, called}
use Rattle.connection.proofs.Laws.Progress.{step_uses_no_more}
use Rattle.connection.proofs.Runs.LinkingCalls.{slot_found}
use Rattle.connection.proofs.Runs.RestSkipped.{Skips, Silent, silent_step, skips_call, RestUnaimed}
use Rattle.connection.proofs.Runs.RestSkipped as Without
use Rattle.queue_slot.specs.Wait.{Wait}
use Rattle.queue.specs.Calls as T
use Rattle.queue.specs.Calls.{QueueMemory, conn_of, put_wait, put_both, with_conn, skipping, queue_step_refusal, queue_step, served_last, released_slot, pump_slot, PumpedRecord, straight_finish}
use Rattle.queue.specs.Run as D
use Rattle.queue.specs.Run.{Asking, QueueOperation, CallFor, CountActive, TurnWith, queue_called, queue_after, used_of, queue_items, queue_timeline, notes_all, final_queue}
use Rattle.queue_runs.proofs.Changes.{Change, Keeps, Steps, Writes, Waits, Retires, Turns, change, Serving, Goes, Ends, serving, turn_keeps, straight_rows}
use Rattle.queue_runs.proofs.Closing.{both_ways}
use Rattle.queue_kept.proofs.QueueSilent.{finish_retires}

-- ---- what keeps skipping
-- a request put back, and the rest of a record skipped
both_skips : (n : ℕ) (m : QueueMemory) (i : ℕ) (r : Request) (w : Wait) → Skips n m.memory → Skips n (put_both m i r w).memory
unfolding put_wait
both_skips n m i r w k = k

-- content that is skipped stays so where content for a slot is skipped, too
retires_skips : (n : ℕ) (m : QueueMemory) (i : ℕ) → Skips n m.memory → Skips n (with_conn m (skipping (conn_of m) i)).memory
retires_skips n m i (inl (t, l)) = inl (ap (C.redirected i) t, l)
retires_skips n m i (inr o) = inr o

-- a record of the pump
record_skips : (n : ℕ) (m : QueueMemory) (i : ℕ) (p : PumpedRecord) → Skips n m.memory → Serving m i p → Skips n p.left.memory
unfolding C.released
record_skips n m i p k (Goes e) = subst (Skips n) (sym e) k
record_skips n m i p k (Ends status) = go (request_at (conn_of m).table i).state.keep k
  where
    go : (b : Bool) → Skips n m.memory → Skips n (released_slot (served_last m i) i b).memory
    go true (inl (t, l)) = inl (ap (C.redirected i) t, l)
    go true (inr o) = inr o
    go false k = inr refl

-- an operation that is a step
abbrev is_step : QueueOperation → Bool
is_step (D.StepOver piece) = true
is_step (CallFor id a) = false
is_step CountActive = false
is_step (TurnWith allowance buffer) = false

-- every change that is no step
change_skips : (n : ℕ) (m l : QueueMemory) (o : QueueOperation) → is_step o ≡ false → Skips n m.memory → Change m o l → Skips n l.memory
change_skips n m l o q k Keeps = k
change_skips n m l o q k (Steps piece e) = both_ways true refl q
change_skips n m l o q k (Writes id a e) = skips_call n m.memory id a k
change_skips n m l o q k (Waits id i a e found r w same) = both_skips n m i r w k
change_skips n m l o q k (Retires id i a e found r w same) = both_skips n (with_conn m (skipping (conn_of m) i)) i r w (retires_skips n m i k)
change_skips n m l o q k (Turns allowance buffer) = turn_keeps (λ x. Skips n x.memory) (λ x i low w c. record_skips n x i (pump_slot x i) c (serving x i)) allowance m k

-- No call and no turn ends the skipping, from every memory.
pub skips_on : (n : ℕ) (m : QueueMemory) (o : QueueOperation) → is_step o ≡ false → Skips n m.memory → Skips n (queue_after m o).memory
skips_on n m o q k = change_skips n m (queue_after m o) o q k (change m o)

-- ---- steps
-- A step that uses not more than the n bytes that are skipped tells nothing and keeps nothing.
pub queue_silent : (n : ℕ) (m : QueueMemory) (piece : List ℕ) → Skips n m.memory → (queue_step m piece).used ≤ n → Silent n m.memory.state m.memory.store (queue_step m piece)
unfolding queue_step
queue_silent n m piece k u =
    by_test (eqb (queue_step_refusal m) 0)
    (λ t. rw t (silent_step n m.memory.state m.memory.store piece k (rw t at u)))
    (λ t. rw t (record { event = refl; table = refl; store_same = refl; skips = fewer k }))
  where
    fewer : Skips n m.memory → Skips (n - 0) m.memory
    fewer (inl (t, l)) = inl (t, omega arith)
    fewer (inr o) = inr o

-- it uses no more than there is
uses_no_more : (m : QueueMemory) (piece : List ℕ) → (queue_step m piece).used ≤ length piece
unfolding queue_step
uses_no_more m piece = by_test (eqb (queue_step_refusal m) 0) (λ t. rw t (step_uses_no_more m.memory.state m.memory.store piece)) (λ t. rw t (omega arith))

used_and_rest : (m : QueueMemory) (piece : List ℕ) (rest : List (Item Asking)) → length (item_bytes (byte_items (used_of m piece) ++ rest)) ≡ (queue_step m piece).used + length (item_bytes rest)
used_and_rest m piece rest =
    let used : length (used_of m piece) ≡ (queue_step m piece).used = length-take-le (queue_step m piece).used piece (uses_no_more m piece) in
    ap length (bytes_of_items (used_of m piece) rest) ∙ length-append (used_of m piece) (item_bytes rest) ∙ ap (λ n. n + length (item_bytes rest)) used

-- what a step leaves below what waits
step_memory : (m : QueueMemory) (piece : List ℕ) → (queue_after m (D.StepOver piece)).memory ≡ record { state = (queue_step m piece).state; store = (queue_step m piece).store }
unfolding queue_after
step_memory m piece = refl

-- ---- operations
-- While n bytes are skipped, nothing is heard, whatever calls and turns come, for as long as the steps use not more
-- than n bytes in all.
pub nothing_heard : (os : List QueueOperation) (n : ℕ) (m : QueueMemory) → Skips n m.memory → length (item_bytes (queue_timeline m os)) ≤ n → notes_all m os ≡ []
unfolding notes_all queue_timeline queue_items item_bytes queue_after
nothing_heard [] n m k l = refl
nothing_heard (D.StepOver piece ∷ os) n m k l =
    let after = queue_after m (D.StepOver piece) in
    let all = used_and_rest m piece (queue_timeline after os) in
    let s = queue_silent n m piece k (omega arith) in
    ap (λ e. notes e (used_of m piece) ++ notes_all after os) s.event
    ∙ nothing_heard os (n - (queue_step m piece).used) after (subst (Skips (n - (queue_step m piece).used)) (sym (step_memory m piece)) s.skips) (omega arith)
nothing_heard (CallFor id a ∷ os) n m k l = nothing_heard os n (queue_after m (CallFor id a)) (skips_on n m (CallFor id a) refl k) l
nothing_heard (CountActive ∷ os) n m k l = nothing_heard os n m k l
nothing_heard (TurnWith allowance buffer ∷ os) n m k l = nothing_heard os n (queue_after m (TurnWith allowance buffer)) (skips_on n m (TurnWith allowance buffer) refl k) l

-- The bytes that the steps used are the fewer left to skip.
pub skips_after : (os : List QueueOperation) (n : ℕ) (m : QueueMemory) → Skips n m.memory → length (item_bytes (queue_timeline m os)) ≤ n
    → Skips (n - length (item_bytes (queue_timeline m os))) (final_queue m os).memory
unfolding final_queue queue_timeline queue_items item_bytes queue_after
skips_after [] n m k l = let z : n - 0 ≡ n = omega arith in subst (λ j. Skips j m.memory) (sym z) k
skips_after (D.StepOver piece ∷ os) n m k l =
    let after = queue_after m (D.StepOver piece) in
    let rest = queue_timeline after os in
    let all = used_and_rest m piece rest in
    let s = queue_silent n m piece k (omega arith) in
    let fewer : n - length (item_bytes (byte_items (used_of m piece) ++ rest)) ≡ n - (queue_step m piece).used - length (item_bytes rest) = omega arith in
    subst (λ j. Skips j (final_queue after os).memory) (sym fewer) (skips_after os (n - (queue_step m piece).used) after (subst (Skips (n - (queue_step m piece).used)) (sym (step_memory m piece)) s.skips) (omega arith))
skips_after (CallFor id a ∷ os) n m k l = skips_after os n (queue_after m (CallFor id a)) (skips_on n m (CallFor id a) refl k) l
skips_after (CountActive ∷ os) n m k l = skips_after os n m k l
skips_after (TurnWith allowance buffer ∷ os) n m k l = skips_after os n (queue_after m (TurnWith allowance buffer)) (skips_on n m (TurnWith allowance buffer) refl k) l

-- ---- after a finish
-- The rest of a record is for nobody, from m to n: whatever operations follow, nothing is heard until it is used
-- up, and a step over some of it changes no request and no byte of the store.
pub record RestSkipped (m n : QueueMemory) : Type 0 where
  pub unheard : (os : List QueueOperation) → length (item_bytes (queue_timeline n os)) ≤ (conn_of m).frame.position.content → notes_all n os ≡ []
  pub unkept : (os : List QueueOperation) (piece : List ℕ)
      → length (item_bytes (queue_timeline n os)) + (queue_step (final_queue n os) piece).used ≤ (conn_of m).frame.position.content
      → ((queue_step (final_queue n os) piece).state.conn.table ≡ (conn_of (final_queue n os)).table) × ((queue_step (final_queue n os) piece).store ≡ (final_queue n os).memory.store)

-- It is, where the target was forgotten and the position is as before.
unaimed_skipped : (m n : QueueMemory) → RestUnaimed m.memory n.memory → RestSkipped m n
unaimed_skipped m n r =
    let c = (conn_of m).frame.position.content in
    let k : Skips c n.memory = inl (r.target, omega (arith, ap (λ (p : Position). p.content) r.position)) in
    record {
      unheard = λ os l. nothing_heard os c n k l;
      unkept = λ os piece l.
          let s = queue_silent (c - length (item_bytes (queue_timeline n os))) (final_queue n os) piece (skips_after os c n k (omega arith)) (omega arith) in
          (s.table, s.store_same);
    }

-- content due to a slot is skipped for that slot
own_skipped : (due : Due) (i : ℕ) → C.redirected i (due_to due i) ≡ Target.Skip
own_skipped Due.Skip i = refl
own_skipped Due.Params i = simp (eq-eqb i i refl)
own_skipped Due.Stdin i = simp (eq-eqb i i refl)
own_skipped Due.Data i = simp (eq-eqb i i refl)

module _ (m : QueueMemory) (R status : ℕ) (due : Due) (aimed : (conn_of m).frame.target ≡ due_to due (T.slot_of m R)) where
  -- A queued finish of R that is not refused, made while content of a record of R was still to come: the rest is
  -- skipped, between the finish and END, and after it.
  pub queued_rest_skipped : (queue_called m R (D.ToFinish status)).answer ≡ D.Queued 0 → RestSkipped m (queue_after m (CallFor R (D.ToFinish status)))
  queued_rest_skipped e =
      let w = finish_retires m R status e in
      let own : (conn_of m).frame.target ≡ due_to due w.slot = aimed ∙ ap (due_to due) (slot_found (conn_of m) R w.slot w.found) in
      unaimed_skipped m (queue_after m (CallFor R (D.ToFinish status)))
      (record {
        target = ap (λ (x : Memory). x.state.conn.frame.target) w.left ∙ ap (C.redirected w.slot) own ∙ own_skipped due w.slot;
        position = ap (λ (x : Memory). x.state.conn.frame.position) w.left;
      })

  module _ (buffer : List ℕ) (done : (straight_finish m R status buffer).refusal ≡ 0) where
    -- a straight finish that is not refused is the one without a queue
    straight_is : straight_finish m R status buffer ≡ C.finish (conn_of m) m.memory.store R status buffer
    unfolding straight_finish
    straight_is =
        by_test (eqb (refusal (straight_rows m R (ForFinish status buffer))) 0) (λ t. rw t)
        (λ t. let n = rw t at done in absurd (eqb-false (refusal (straight_rows m R (ForFinish status buffer))) 0 t n))

    -- and leaves what that one leaves
    left_is : (queue_after m (CallFor R (D.Straight (ForFinish status buffer)))).memory ≡ Without.after_finish m.memory R status buffer
    unfolding queue_after queue_called memory_after called
    left_is = ap (λ (w : C.Finished). record { state = record { conn = w.conn; gathered = m.memory.state.gathered }; store = w.store }) straight_is

    -- So it is after a straight one, if it leaves the connection open.
    pub straight_rest_skipped : (straight_finish m R status buffer).closed ≡ false → RestSkipped m (queue_after m (CallFor R (D.Straight (ForFinish status buffer))))
    straight_rest_skipped still_Open =
        unaimed_skipped m (queue_after m (CallFor R (D.Straight (ForFinish status buffer))))
        (subst (RestUnaimed m.memory) (sym left_is)
        (Without.rest_unaimed m.memory R status buffer due (ap (λ (w : C.Finished). w.refusal) (sym straight_is) ∙ done) aimed (ap (λ (w : C.Finished). w.closed) (sym straight_is) ∙ still_Open)))

-- After a finish no byte of the rest of its record is shown or kept.
use Rattle.std.specs.Prelude.{◌≡◌, refl, ◌⊎◌, false, length, eqb}
use Rattle.std.proofs.Math.Path.{ap}
use Rattle.std.proofs.Common.{sym, ◌∙◌, subst, arith, length-append, length-take-le, eqb-true, eq-eqb}
use Rattle.std.proofs.Math.Logic.{inl, inr}
use mathlib.Core.List.Memᴰ
use mathlib.Core.List.{List, [], ◌∷◌, ◌++◌, map, Memᴰ}
use Prim.Native.Nat.{ℕ, ◌+◌, ◌-◌, ◌≤◌, ◌<◌, min}
use Rattle.std.proofs.lemmas.Bool.{eqb-false}
use Rattle.wire.specs.Test.{by_test}
use Rattle.record_reader.specs.declared.Position.{Position}
use Rattle.machine.specs.Timeline.{Item, byte_items, item_bytes}
use Rattle.machine.proofs.TimelineLaws.{bytes_of_items}
use Rattle.connection.specs.declared.request.Due.{Due}
use Rattle.connection.specs.declared.state.Target.{Target}
use Rattle.connection.specs.declared.state.Conn.{Conn}
use Rattle.connection.specs.Event.{Event}
use Rattle.connection.specs.Step.{State, Stepped, due_to, advances, step_refusal, stepped}
use Rattle.connection.specs.Calls as C
use Rattle.connection.specs.Bytewise.{Note, notes}
use Rattle.connection.specs.Arguments.{Argument, ForRead, ForSay, ForEnd, ForFinish}
use Rattle.connection.specs.Run.{Memory, Operation, StepOver, CallFor, CountActive, Heard, Answered, request_of, finished_by, called, step_of, memory_of, used_of, memory_after, seen_in, items_of, final_memory, all_seen, timeline}
use Rattle.connection.proofs.Laws.Progress.{admitted_fits, in_content, step_refused, step_nothing, step_advances, step_uses_some, step_uses_no_more}
use Rattle.connection.proofs.Runs.LinkingCalls.{slot_found}
use Rattle.connection.proofs.Runs.Freed.{Kept, Shut, Done, finish_done, done_closed, finish_refused}

-- ---- a memory that skips
-- The next n bytes are skipped: they are content that is for nobody. Or the connection is closed.
abbrev pub Skips : ℕ → Memory → Type 0
Skips n m = ((m.state.conn.frame.target ≡ Target.Skip) × (n ≤ m.state.conn.frame.position.content)) ⊎ (m.state.conn.«open» ≡ false)

-- ---- a step
-- Such a step tells nothing, keeps nothing, and skips on.
pub record Silent (n : ℕ) (st : State) (store : List ℕ) (s : Stepped) : Type 0 where
  pub event : s.event ≡ Event.None
  pub table : s.state.conn.table ≡ st.conn.table
  pub store_same : s.store ≡ store
  pub skips : Skips (n - s.used) (memory_of s)

module _ (n : ℕ) (st : State) (store : List ℕ) where
  -- where nothing changes
  silent_stays : Skips n (record { state = st; store = store }) → (s : Stepped) → s.event ≡ Event.None → s.used ≡ 0 → s.state ≡ st → s.store ≡ store → Silent n st store s
  silent_stays k s e u q r =
      record {
        event = e;
        table = ap (λ (x : State). x.conn.table) q;
        store_same = r;
        skips = subst (λ (x : State). Skips (n - s.used) (record { state = x; store = s.store })) (sym q) (fewer k);
      }
    where
      fewer : Skips n (record { state = st; store = store }) → Skips (n - s.used) (record { state = st; store = s.store })
      fewer (inl (t, l)) = inl (t, omega arith)
      fewer (inr o) = inr o

  -- a step that is not refused, in content that is skipped
  silent_content : (piece : List ℕ) → step_refusal st.conn store ≡ 0 → 0 < length piece → 0 < st.conn.frame.position.content
      → st.conn.frame.target ≡ Target.Skip → n ≤ st.conn.frame.position.content → Silent n st store (stepped st store piece)
  unfolding advances
  silent_content piece a some left t l =
      let p = st.conn.frame.position in
      rw (step_advances st store piece a some, in_content p piece left, t)
      (record {
        event = refl;
        table = refl;
        store_same = refl;
        skips = inl (by_test (eqb (p.content - min p.content (length piece)) 0) (λ e. simp e) (λ e. simp e), omega arith);
      })

-- A step that uses not more than the n bytes that are skipped.
pub silent_step : (n : ℕ) (st : State) (store piece : List ℕ) → Skips n (record { state = st; store = store }) → (stepped st store piece).used ≤ n → Silent n st store (stepped st store piece)
silent_step n st store [] k u =
    rw (step_nothing st store) (silent_stays n st store k _ refl refl refl refl)
silent_step n st store (b ∷ x) k u =
    by_test (eqb (step_refusal st.conn store) 0)
    (λ t. admitted (eqb-true (step_refusal st.conn store) 0 t) k)
    (λ t. rw (step_refused st store (b ∷ x) (eqb-false (step_refusal st.conn store) 0 t)) (silent_stays n st store k _ refl refl refl refl))
  where
    admitted : step_refusal st.conn store ≡ 0 → Skips n (record { state = st; store = store }) → Silent n st store (stepped st store (b ∷ x))
    admitted a (inl (t, l)) =
        let f = admitted_fits st.conn store a in
        let used = step_uses_some st store (b ∷ x) f.shape f.is_open f.size (omega arith) in
        silent_content n st store (b ∷ x) a (omega arith) (omega (arith, used)) t l
    admitted a (inr o) = let z : ◌≡◌ {A = ℕ} 0 1 = cc ((admitted_fits st.conn store a).is_open, o) in absurd (omega arith)

-- ---- a call
skips_finish : (n : ℕ) (m : Memory) (id status : ℕ) (buffer : List ℕ) → Skips n m → Skips n (called m id (ForFinish status buffer)).memory
unfolding called C.released
skips_finish n m id status buffer k =
    by_test (eqb w.refusal 0)
    (λ t. let d = finish_done c m.store id status buffer (eqb-true w.refusal 0 t) in done d.admitted.slot d.way k)
    (λ t. as_before_lem (finish_refused c m.store id status buffer (eqb-false w.refusal 0 t)).0 k)
  where
    c : Conn
    c = m.state.conn

    w : C.Finished
    w = C.finish c m.store id status buffer

    as_before_lem : w.conn ≡ c → Skips n m → Skips n (finished_by m w).memory
    as_before_lem e (inl (t, l)) = inl (ap (λ (x : Conn). x.frame.target) e ∙ t, rw e l)
    as_before_lem e (inr o) = inr (ap (λ (x : Conn). x.«open») e ∙ o)

    done : (i : ℕ) → Kept c m.store i w ⊎ Shut m.store w → Skips n m → Skips n (finished_by m w).memory
    done i (inl q) (inl (t, l)) = inl (ap (λ (x : Conn). x.frame.target) q.conn ∙ ap (C.redirected i) t, rw q.conn l)
    done i (inl q) (inr o) = inr (ap (λ (x : Conn). x.«open») q.conn ∙ o)
    done i (inr q) k = inr (ap (λ (x : Conn). x.«open») q.conn)

-- No call ends the skipping.
pub skips_call : (n : ℕ) (m : Memory) (id : ℕ) (a : Argument) → Skips n m → Skips n (called m id a).memory
unfolding called C.say C.end_stream
skips_call n m id (ForRead q) k = k
skips_call n m id (ForSay output bytes buffer) k =
    by_test (eqb (C.call_refusal m.state.conn id) 0) (λ t. simp t k) (λ t. simp t k)
skips_call n m id (ForEnd output buffer) k =
    by_test (eqb (C.call_refusal m.state.conn id) 0) (λ t. simp t k) (λ t. simp t k)
skips_call n m id (ForFinish status buffer) k = skips_finish n m id status buffer k

-- ---- operations
used_and_rest : (m : Memory) (piece : List ℕ) (rest : List (Item Argument)) → length (item_bytes (byte_items (used_of m piece) ++ rest)) ≡ (step_of m piece).used + length (item_bytes rest)
used_and_rest m piece rest =
    let used : length (used_of m piece) ≡ (step_of m piece).used = length-take-le (step_of m piece).used piece (step_uses_no_more m.state m.store piece) in
    ap length (bytes_of_items (used_of m piece) rest) ∙ length-append (used_of m piece) (item_bytes rest) ∙ ap (λ n. n + length (item_bytes rest)) used

-- While n bytes are skipped, nothing is heard: no byte is shown and nothing is told, whatever calls are made, for as
-- long as the steps use not more than n bytes in all.
pub nothing_heard : (os : List Operation) (n : ℕ) (m : Memory) → Skips n m → length (item_bytes (timeline m os)) ≤ n → (x : Note) → Memᴰ (Heard x) (all_seen m os) → ⊥
unfolding all_seen seen_in timeline items_of memory_after item_bytes
nothing_heard [] n m k l x h = Memᴰ.not-nil h
nothing_heard (StepOver piece ∷ os) n m k l x h =
    let s = step_of m piece in
    let rest = timeline (memory_of s) os in
    let all = used_and_rest m piece rest in
    let silent = silent_step n m.state m.store piece k (omega arith) in
    nothing_heard os (n - s.used) (memory_of s) silent.skips (omega arith) x
    (subst (λ e. Memᴰ (Heard x) (map Heard (notes e (used_of m piece)) ++ all_seen (memory_of s) os)) silent.event h)
nothing_heard (CallFor id a ∷ os) n m k l x h = go (Memᴰ.cases_cons h) (nothing_heard os n (called m id a).memory (skips_call n m id a k) l x)
  where
    go : (Heard x ≡ Answered id a (called m id a).answer (request_of id m) (request_of id (called m id a).memory)) ⊎ Memᴰ (Heard x) (all_seen (called m id a).memory os)
        → (Memᴰ (Heard x) (all_seen (called m id a).memory os) → ⊥) → ⊥
    go (inl e) later = let z : ◌≡◌ {A = ℕ} 0 1 = cc in omega arith
    go (inr r) later = later r
nothing_heard (CountActive ∷ os) n m k l x h = nothing_heard os n m k l x h

-- The bytes that the steps used are the fewer left to skip.
pub skips_after : (os : List Operation) (n : ℕ) (m : Memory) → Skips n m → length (item_bytes (timeline m os)) ≤ n → Skips (n - length (item_bytes (timeline m os))) (final_memory m os)
unfolding final_memory timeline items_of memory_after item_bytes
skips_after [] n m k l = let z : n - 0 ≡ n = omega arith in subst (λ j. Skips j m) (sym z) k
skips_after (StepOver piece ∷ os) n m k l =
    let s = step_of m piece in
    let rest = timeline (memory_of s) os in
    let all = used_and_rest m piece rest in
    let silent = silent_step n m.state m.store piece k (omega arith) in
    let fewer : n - length (item_bytes (byte_items (used_of m piece) ++ rest)) ≡ n - s.used - length (item_bytes rest) = omega arith in
    subst (λ j. Skips j (final_memory (memory_of s) os)) (sym fewer) (skips_after os (n - s.used) (memory_of s) silent.skips (omega arith))
skips_after (CallFor id a ∷ os) n m k l = skips_after os n (called m id a).memory (skips_call n m id a k) l
skips_after (CountActive ∷ os) n m k l = skips_after os n m k l

-- ---- after a finish
-- content due to a slot is skipped once that slot is given back
redirected_own : (due : Due) (i : ℕ) → C.redirected i (due_to due i) ≡ Target.Skip
redirected_own Due.Skip i = refl
redirected_own Due.Params i = simp (eq-eqb i i refl)
redirected_own Due.Stdin i = simp (eq-eqb i i refl)
redirected_own Due.Data i = simp (eq-eqb i i refl)

-- A finish of R while a record of R is half read: the rest of its content is for nobody, and as much of it and of the
-- padding is left as before.
pub record RestUnaimed (before after : Memory) : Type 0 where
  pub target : after.state.conn.frame.target ≡ Target.Skip
  pub position : after.state.conn.frame.position ≡ before.state.conn.frame.position

-- what a finish leaves
abbrev pub after_finish : Memory → ℕ → ℕ → List ℕ → Memory
after_finish m R status buffer = memory_after m (CallFor R (ForFinish status buffer))

module _ (m : Memory) (R status : ℕ) (buffer : List ℕ) (due : Due) (done : (C.finish m.state.conn m.store R status buffer).refusal ≡ 0)
    (aimed : m.state.conn.frame.target ≡ due_to due (C.slot_of m.state.conn R)) where
  -- It is, where the finish is not refused and leaves the connection open.
  pub rest_unaimed : (C.finish m.state.conn m.store R status buffer).closed ≡ false → RestUnaimed m (after_finish m R status buffer)
  unfolding memory_after called C.released
  rest_unaimed still_Open = go d.way
    where
      c : Conn
      c = m.state.conn

      w : C.Finished
      w = C.finish c m.store R status buffer

      d : Done c m.store R w
      d = finish_done c m.store R status buffer done

      own : c.frame.target ≡ due_to due d.admitted.slot
      own = aimed ∙ ap (due_to due) (slot_found c R d.admitted.slot d.admitted.found)

      go : Kept c m.store d.admitted.slot w ⊎ Shut m.store w → RestUnaimed m (finished_by m w).memory
      go (inl k) =
          record {
            target = ap (λ (x : Conn). x.frame.target) k.conn ∙ ap (C.redirected d.admitted.slot) own ∙ redirected_own due d.admitted.slot;
            position = ap (λ (x : Conn). x.frame.position) k.conn;
          }
      go (inr k) = let z : ◌≡◌ {A = ℕ} 0 1 = cc (k.closed_now, still_Open) in absurd (omega arith)

  -- so that many bytes are skipped
  skips_rest : Skips m.state.conn.frame.position.content (after_finish m R status buffer)
  unfolding memory_after called
  skips_rest =
      let w = C.finish m.state.conn m.store R status buffer in
      by_test w.closed
      (λ t. inr (done_closed m.state.conn m.store R w (finish_done m.state.conn m.store R status buffer done) t))
      (λ t. let r = rest_unaimed t in inl (r.target, omega (arith, ap (λ (p : Position). p.content) r.position)))

  -- After a finish of R that is not refused, made while content of a record of R was still to come: whatever
  -- operations follow, with any calls among them, nothing is heard until that content is used up. So no byte of the
  -- rest is shown, also when R is opened again, since its BEGIN cannot come before that.
  pub rest_skipped : (os : List Operation) → length (item_bytes (timeline (after_finish m R status buffer) os)) ≤ m.state.conn.frame.position.content
      → (x : Note) → Memᴰ (Heard x) (all_seen (after_finish m R status buffer) os) → ⊥
  rest_skipped os = nothing_heard os m.state.conn.frame.position.content (after_finish m R status buffer) skips_rest

  -- Nor is a byte of the rest kept: a step over some of it changes no request and no byte of the store, whatever
  -- operations came in between.
  pub rest_not_kept : (os : List Operation) (piece : List ℕ)
      → length (item_bytes (timeline (after_finish m R status buffer) os)) + (step_of (final_memory (after_finish m R status buffer) os) piece).used ≤ m.state.conn.frame.position.content
      → ((step_of (final_memory (after_finish m R status buffer) os) piece).state.conn.table ≡ (final_memory (after_finish m R status buffer) os).state.conn.table)
      × ((step_of (final_memory (after_finish m R status buffer) os) piece).store ≡ (final_memory (after_finish m R status buffer) os).store)
  rest_not_kept os piece few =
      let m' = after_finish m R status buffer in
      let n = m.state.conn.frame.position.content in
      let f = final_memory m' os in
      let s = silent_step (n - length (item_bytes (timeline m' os))) f.state f.store piece (skips_after os n m' skips_rest (omega arith)) (omega arith) in
      (s.table, s.store_same)

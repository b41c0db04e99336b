-- A call is the machine's item of that call.
use Rattle.connection.specs.Slots.{Slot}
use Rattle.std.specs.Prelude.{◌≡◌, List, [], ◌∷◌, Bool, ℕ, zero, suc, length, take, eqb, if◌then◌else◌, Some, None}
use Rattle.std.proofs.Math.Path.{refl, ap, ap₂}
use Rattle.std.proofs.Common.{sym, ◌∙◌, subst, append-nil, arith, eq-eqb, ne_eqb, eqb-true}
use Rattle.std.proofs.Math.Option.{none, some}
use Rattle.std.proofs.Math.Bool.{true, false}
use Rattle.std.proofs.Math.ListN.{set}
use Rattle.std.proofs.lemmas.Bool.{eqb-false}
use Rattle.wire.specs.Test.{◌=?◌, by_test}
use Rattle.wire.specs.Buffer.{zeros}
use Rattle.machine.specs.Slots.{HeldBy}
use Rattle.machine.specs.Timeline.{RequestCall, CountCall, CallItem}
use Rattle.machine.specs.Machine.{Stays, Leaves, Closes, Target, Reading, Slots, Connection, Open, Closed, CallAnswer, Effect, target_without, reading_without, call_decided, request_called, on_item, state_after, observations, as_list}
use Rattle.connection.specs.declared.state.Table.{Table}
use Rattle.connection.specs.declared.state.Target.{Target as Aim}
use Rattle.connection.specs.declared.state.Frame.{Frame}
use Rattle.connection.specs.declared.state.Conn.{Conn}
use Rattle.connection.specs.Sizes.{STORE}
use Rattle.connection.specs.Request.{Held}
use Rattle.connection.specs.RequestCalls as Of
use Rattle.connection.specs.Slots.{request_at, area_at, held_at, put_request, put_area, free_slot, find}
use Rattle.connection.specs.Step.{open_with, closed_conn}
use Rattle.connection.specs.Calls as C
use Rattle.connection.proofs.Laws.SlotsLaws.{Holds, request_of_put, find_put, find_at, nowhere_find}
use Rattle.connection.specs.Fits.{InUse}
use Rattle.connection.proofs.Laws.ShapeLaws.{shaped}
use Rattle.connection.specs.Arguments.{Question, ValueOf, SourceOf, PairOf, WalkOf, refused_reply, Argument, ForRead, ForSay, ForEnd, ForFinish, Answer, RepliedWith, Wrote, FinishedWith, refused}
use Rattle.connection.specs.Runs.Receiver.{receiver, reply_in, written_as, finished_as, receive_call}
use Rattle.connection.proofs.Runs.ReceiverLaws.{SameList, say_same, end_same}
use Rattle.connection.proofs.Runs.Loading.{loaded_slots, loaded_target, reading_at, loaded_reading, loaded_when}
use Rattle.connection.proofs.Runs.LoadingLaws.{loaded_kept, loaded_states, loaded_free, found_as, lookup_loaded}
use Rattle.connection.specs.Run.{Memory, CallFor, CountActive, request_of, CallResult, replied_to, unchanged, changed_by, finished_by, called, memory_after, seen_in, items_of}
use Rattle.connection.proofs.Runs.Telling.{told_all}
use Rattle.connection.proofs.Runs.LinkingStep.{loaded_of, Steady, Linked}
use Rattle.connection.proofs.Runs.CallShape.{with_request, steady_put, free_holds, without_request, steady_free, closed_memory, steady_closed}

-- What a call comes to is what the machine's item leads to.
record Agrees (m : Memory) (id : ℕ) (a : Argument) (r : CallResult) (E : Effect receiver) : Type 0 where
  state : loaded_of r.memory ≡ E.0
  tells : some (CallAnswer id a r.answer (request_of id m) (request_of id r.memory)) ≡ E.1
  steady : Steady r.memory

-- ---- refusals
module _ (m : Memory) (z : Steady m) (id : ℕ) where
  pub lent_closed : m.state.conn.«open» ≡ false → C.lent_refusal m.state.conn m.store id ≡ 1
  unfolding C.lent_refusal
  lent_closed e = simp (eq-eqb (length m.store) STORE z.sizes.full, z.shape, e)

  pub call_closed : m.state.conn.«open» ≡ false → C.call_refusal m.state.conn id ≡ 1
  unfolding C.call_refusal
  call_closed e = simp (z.shape, e)

  pub lent_absent : m.state.conn.«open» ≡ true → find m.state.conn.table id ≡ None → C.lent_refusal m.state.conn m.store id ≡ 3
  unfolding C.lent_refusal
  lent_absent e f = simp (eq-eqb (length m.store) STORE z.sizes.full, z.shape, e, f)

  pub call_absent : m.state.conn.«open» ≡ true → find m.state.conn.table id ≡ None → C.call_refusal m.state.conn id ≡ 3
  unfolding C.call_refusal
  call_absent e f = simp (z.shape, e, f)

  pub lent_found : (i : ℕ) → m.state.conn.«open» ≡ true → find m.state.conn.table id ≡ Some i → C.lent_refusal m.state.conn m.store id ≡ 0
  unfolding C.lent_refusal
  lent_found i e f = simp (eq-eqb (length m.store) STORE z.sizes.full, z.shape, e, f)

  pub call_found : (i : ℕ) → m.state.conn.«open» ≡ true → find m.state.conn.table id ≡ Some i → C.call_refusal m.state.conn id ≡ 0
  unfolding C.call_refusal
  call_found i e f = simp (z.shape, e, f)

-- A call that only reads is answered by the request that is named, or refused.
pub replied_or_refused : (c : Conn) (store : List ℕ) (id : ℕ) (q : Question)
    → replied_to c store id q ≡ (if C.lent_refusal c store id =? 0 then reply_in (held_at c.table store (C.slot_of c id)) q else refused_reply (C.lent_refusal c store id) q)
unfolding C.value C.source C.pair_at_number C.walk
replied_or_refused c store id (ValueOf name fallback) = by_test (C.lent_refusal c store id =? 0) (λ e. rw e) (λ e. rw e)
replied_or_refused c store id (SourceOf name) = by_test (C.lent_refusal c store id =? 0) (λ e. rw e) (λ e. rw e)
replied_or_refused c store id (PairOf k) = by_test (C.lent_refusal c store id =? 0) (λ e. rw e) (λ e. rw e)
replied_or_refused c store id WalkOf = by_test (C.lent_refusal c store id =? 0) (λ e. rw e) (λ e. rw e)

-- a call that is refused by 1 or 3 changes nothing
pub refused_call : (m : Memory) (id n : ℕ) (a : Argument) → C.lent_refusal m.state.conn m.store id ≡ suc n → C.call_refusal m.state.conn id ≡ suc n
    → called m id a ≡ unchanged m (refused (suc n) a)
unfolding called refused C.say C.end_stream C.finish
refused_call m id n (ForRead q) l c = rw (replied_or_refused m.state.conn m.store id q, l, ne_eqb (suc n) 0 (λ e. omega arith))
refused_call m id n (ForSay output bytes buffer) l c = rw (c, ne_eqb (suc n) 0 (λ e. omega arith))
refused_call m id n (ForEnd output buffer) l c = rw (c, ne_eqb (suc n) 0 (λ e. omega arith))
refused_call m id n (ForFinish status buffer) l c = rw (l, ne_eqb (suc n) 0 (λ e. omega arith))

-- ---- the request of an id
none_closed : (m : Memory) (id : ℕ) → m.state.conn.«open» ≡ false → request_of id m ≡ none
unfolding request_of
none_closed m id e = rw e

none_absent : (m : Memory) (id : ℕ) → find m.state.conn.table id ≡ None → request_of id m ≡ none
unfolding request_of
none_absent m id f = by_test m.state.conn.«open» (λ e. rw (e, f)) (λ e. rw e)

some_found : (m : Memory) (id i : ℕ) → m.state.conn.«open» ≡ true → find m.state.conn.table id ≡ Some i
    → request_of id m ≡ some (held_at m.state.conn.table m.store i)
unfolding request_of
some_found m id i e f = rw (e, f)

-- ---- a target redirected
pub redirected_target : (i : ℕ) (target : Aim) (n : ℕ) (body gathered : List ℕ)
    → loaded_target (C.redirected i target) n body gathered ≡ target_without receiver i (loaded_target target n body gathered)
unfolding target_without
redirected_target i Aim.Skip n body gathered = refl
redirected_target i (Aim.Begin id) n body gathered = refl
redirected_target i Aim.Query n body gathered = refl
redirected_target i (Aim.Params j) n body gathered = by_test (eqb j i) (λ e. rw (e, eq-eqb i j (sym (eqb-true j i e)))) (λ e. rw (e, ne_eqb i j (λ q. eqb-false j i e (sym q))))
redirected_target i (Aim.Stdin j) n body gathered = by_test (eqb j i) (λ e. rw (e, eq-eqb i j (sym (eqb-true j i e)))) (λ e. rw (e, ne_eqb i j (λ q. eqb-false j i e (sym q))))
redirected_target i (Aim.Data j) n body gathered = by_test (eqb j i) (λ e. rw (e, eq-eqb i j (sym (eqb-true j i e)))) (λ e. rw (e, ne_eqb i j (λ q. eqb-false j i e (sym q))))

pub redirected_reading : (i c p : ℕ) (header : List ℕ) (s : Target receiver) → reading_at c p header (target_without receiver i s) ≡ reading_without receiver i (reading_at c p header s)
unfolding reading_without target_without
redirected_reading i zero zero header s = refl
redirected_reading i zero (suc p) header s = refl
redirected_reading i (suc c) p header s = refl

-- ---- an open memory
-- its fields
abbrev memory_at : Table → Frame → List ℕ → List ℕ → Memory
memory_at t f gathered store = record { state = record { conn = open_with t f; gathered = gathered }; store = store }

module _ (t : Table) (f : Frame) (gathered store : List ℕ) (z : Steady (memory_at t f gathered store)) (id : ℕ) (a : Argument) where
  -- the memory
  abbrev memory : Memory
  memory = memory_at t f gathered store

  -- its slots
  abbrev slots : Slots receiver
  slots = loaded_slots t store

  -- where it reads
  abbrev reading : Reading receiver
  reading = loaded_reading f gathered

  module _ (i : ℕ) (found : find t id ≡ Some i) where
    -- the request
    abbrev own : Held
    own = held_at t store i

    holds : Holds t id i
    holds = find_at t id i found

    in_use : InUse t i
    in_use = record { low = holds.low; slot_taken = holds.slot_taken }

    own_id : (request_at t i).id ≡ id
    unfolding request_at
    own_id = holds.has_id

    -- a call that only answers
    answers : (n : Answer) → Agrees memory id a (unchanged memory n) (call_decided receiver (Stays own n) i own id a slots reading)
    unfolding call_decided loaded_when
    answers n =
        record {
          state = ap (λ w. Open w reading) (loaded_kept t store i in_use ∙ ap (λ k. set slots i (HeldBy k own)) own_id);
          tells = ap₂ (λ v w. some (CallAnswer id a n v w)) (some_found memory id i refl found) (some_found memory id i refl found);
          steady = z;
        }

    -- a call that writes
    writes : (w : Of.Writing) → SameList (request_at t i) w.request
        → Agrees memory id a (changed_by memory (C.written_by (open_with t f) i w)) (call_decided receiver (written_as own w) i own id a slots reading)
    unfolding call_decided loaded_when
    writes w same =
        let r = w.request in
        let back : held_at (put_request t i r) store i ≡ record { request = r; area = area_at store i } =
        ap (λ x. record { request = x; area = area_at store i }) (request_of_put t i r z.sizes.table holds.low) in
        record {
          state = ap (λ x. Open x reading) (loaded_states t store i r z.sizes.table z.sizes.full in_use
              ∙ ap (λ k. set slots i (HeldBy k (record { request = r; area = area_at store i }))) (same.id ∙ own_id));
          tells = ap₂ (λ x y. some (CallAnswer id a (Wrote w.refusal w.written w.buffer) x y)) (some_found memory id i refl found)
              (some_found (with_request memory i r) id i refl (find_put t i r id same.id ∙ found) ∙ ap some back);
          steady = steady_put memory i r holds.low same z;
        }

    -- finish
    freed_absent : find (free_slot t i) id ≡ None
    freed_absent =
        nowhere_find (free_slot t i) id
        (λ j g. let k = free_holds t i id j g in k.other ((shaped (open_with t f) z.shape).table.distinct id j i k.held holds))

    leaves : (n : Answer) → Agrees memory id a (record { memory = without_request memory i; answer = n }) (call_decided receiver (Leaves n) i own id a slots reading)
    unfolding call_decided loaded_when C.released
    leaves n =
        record {
          state = ap₂ (λ x y. Open x y) (loaded_free t store i z.sizes.full holds.low)
              (ap (reading_at f.position.content f.position.padding (take f.position.held f.position.header)) (redirected_target i f.target f.gathered f.body gathered)
              ∙ redirected_reading i f.position.content f.position.padding (take f.position.held f.position.header) (loaded_target f.target f.gathered f.body gathered));
          tells = ap₂ (λ x y. some (CallAnswer id a n x y)) (some_found memory id i refl found) (none_absent (without_request memory i) id freed_absent);
          steady = steady_free memory i holds.low z;
        }

    shuts : (n : Answer) → Agrees memory id a (record { memory = closed_memory memory; answer = n }) (call_decided receiver (Closes n) i own id a slots reading)
    unfolding call_decided loaded_when
    shuts n =
        record {
          state = refl;
          tells = ap₂ (λ x y. some (CallAnswer id a n x y)) (some_found memory id i refl found) (none_closed (closed_memory memory) id refl);
          steady = steady_closed memory z;
        }

    finishes : (keep : Bool) (w : Of.Writing) → Agrees memory id a (finished_by memory (C.finishes (open_with t f) store i keep w)) (call_decided receiver (finished_as keep own w) i own id a slots reading)
    unfolding C.finishes finished_as
    finishes keep w = go (eqb w.refusal 0) keep
      where
        go : (x k : Bool)
            → Agrees memory id a
            (finished_by memory
            (if x then
            (if k then record { refusal = 0; written = w.written; closed = false; conn = C.released (open_with t f) i; store = put_area store i (zeros (length (area_at store i))); buffer = w.buffer }
            else record { refusal = 0; written = w.written; closed = true; conn = closed_conn; store = zeros (length store); buffer = w.buffer })
            else C.unfinished w.refusal (open_with t f) store w.buffer))
            (call_decided receiver
            (if x then (if k then Leaves (FinishedWith 0 w.written false w.buffer) else Closes (FinishedWith 0 w.written true w.buffer))
            else Stays own (FinishedWith w.refusal 0 false w.buffer)) i own id a slots reading)
        go true true = leaves (FinishedWith 0 w.written false w.buffer)
        go true false = shuts (FinishedWith 0 w.written true w.buffer)
        go false k = answers (FinishedWith w.refusal 0 false w.buffer)

-- ---- every call
-- what a call of the request in slot i comes to
unfoldable pub result_at : Memory → ℕ → Argument → CallResult
result_at m i (ForRead q) = unchanged m (RepliedWith (reply_in (held_at m.state.conn.table m.store i) q))
result_at m i (ForSay output bytes buffer) = changed_by m (C.written_by m.state.conn i (Of.say_in (request_at m.state.conn.table i) output bytes buffer))
result_at m i (ForEnd output buffer) = changed_by m (C.written_by m.state.conn i (Of.end_in (request_at m.state.conn.table i) output buffer))
result_at m i (ForFinish status buffer) =
    finished_by m
    (C.finishes m.state.conn m.store i (request_at m.state.conn.table i).state.keep (Of.finish_in (request_at m.state.conn.table i) status buffer))

-- the slot of an id that is found
pub slot_found : (c : Conn) (id i : ℕ) → find c.table id ≡ Some i → C.slot_of c id ≡ i
slot_found c id i e = rw e

-- A call of an id that is found.
pub found_result : (m : Memory) (id i : ℕ) (a : Argument) → C.lent_refusal m.state.conn m.store id ≡ 0 → C.call_refusal m.state.conn id ≡ 0 → C.slot_of m.state.conn id ≡ i
    → called m id a ≡ result_at m i a
unfolding called result_at C.say C.end_stream C.finish
found_result m id i (ForRead q) l c s = rw (replied_or_refused m.state.conn m.store id q, l, s)
found_result m id i (ForSay output bytes buffer) l c s = rw (c, s)
found_result m id i (ForEnd output buffer) l c s = rw (c, s)
found_result m id i (ForFinish status buffer) l c s = rw (l, s)

agrees_found : (t : Table) (f : Frame) (gathered store : List ℕ) → Steady (memory_at t f gathered store) → (id i : ℕ) (a : Argument) → find t id ≡ Some i
    → Agrees (memory_at t f gathered store) id a (result_at (memory_at t f gathered store) i a)
    (call_decided receiver (receive_call a (held_at t store i)) i (held_at t store i) id a (loaded_slots t store) (loaded_reading f gathered))
unfolding result_at receive_call
agrees_found t f gathered store z id i (ForRead q) e = answers t f gathered store z id (ForRead q) i e (RepliedWith (reply_in (held_at t store i) q))
agrees_found t f gathered store z id i (ForSay output bytes buffer) e =
    writes t f gathered store z id (ForSay output bytes buffer) i e (Of.say_in (request_at t i) output bytes buffer) (say_same (request_at t i) output bytes buffer)
agrees_found t f gathered store z id i (ForEnd output buffer) e =
    writes t f gathered store z id (ForEnd output buffer) i e (Of.end_in (request_at t i) output buffer) (end_same (request_at t i) output buffer)
agrees_found t f gathered store z id i (ForFinish status buffer) e =
    finishes t f gathered store z id (ForFinish status buffer) i e (request_at t i).state.keep (Of.finish_in (request_at t i) status buffer)

-- a call on an open connection
agrees_open : (t : Table) (f : Frame) (gathered store : List ℕ) → Steady (memory_at t f gathered store) → (id : ℕ) (a : Argument) (s : Slot) → find t id ≡ s
    → Agrees (memory_at t f gathered store) id a (called (memory_at t f gathered store) id a)
    (request_called receiver (found_as t store s) id a (loaded_slots t store) (loaded_reading f gathered))
unfolding request_called loaded_when
agrees_open t f gathered store z id a (Some i) e =
    let m = memory_at t f gathered store in
    subst (λ (r : CallResult). Agrees m id a r (call_decided receiver (receive_call a (held_at t store i)) i (held_at t store i) id a (loaded_slots t store) (loaded_reading f gathered)))
    (sym (found_result m id i a (lent_found m z id i refl e) (call_found m z id i refl e) (slot_found (open_with t f) id i e)))
    (agrees_found t f gathered store z id i a e)
agrees_open t f gathered store z id a None e =
    let m = memory_at t f gathered store in
    subst (λ (r : CallResult). Agrees m id a r (Open (loaded_slots t store) (loaded_reading f gathered), some (CallAnswer id a (refused 3 a) none none)))
    (sym (refused_call m id 2 a (lent_absent m z id refl e) (call_absent m z id refl e)))
    (record { state = refl; tells = ap₂ (λ x y. some (CallAnswer id a (refused 3 a) x y)) (none_absent m id e) (none_absent m id e); steady = z })

agrees_when_open : (t : Table) (f : Frame) (gathered store : List ℕ) → Steady (memory_at t f gathered store) → (id : ℕ) (a : Argument)
    → Agrees (memory_at t f gathered store) id a (called (memory_at t f gathered store) id a) (on_item receiver (loaded_of (memory_at t f gathered store)) (CallItem (RequestCall id a)))
unfolding on_item loaded_when
agrees_when_open t f gathered store z id a =
    let m = memory_at t f gathered store in
    subst (λ w. Agrees m id a (called m id a) (request_called receiver w id a (loaded_slots t store) (loaded_reading f gathered))) (sym (lookup_loaded t store id))
    (agrees_open t f gathered store z id a (find t id) refl)

agrees_when_closed : (m : Memory) → Steady m → (id : ℕ) (a : Argument) → m.state.conn.«open» ≡ false
    → Agrees m id a (called m id a) (on_item receiver (loaded_of m) (CallItem (RequestCall id a)))
unfolding on_item loaded_when
agrees_when_closed m z id a e =
    let shut : loaded_of m ≡ Closed = rw e in
    subst (λ w. Agrees m id a (called m id a) (on_item receiver w (CallItem (RequestCall id a)))) (sym shut)
    (subst (λ (r : CallResult). Agrees m id a r (Closed, some (CallAnswer id a (refused 1 a) none none)))
    (sym (refused_call m id 0 a (lent_closed m z id e) (call_closed m z id e)))
    (record { state = shut; tells = ap₂ (λ x y. some (CallAnswer id a (refused 1 a) x y)) (none_closed m id e) (none_closed m id e); steady = z }))

-- any call
agrees : (m : Memory) (id : ℕ) (a : Argument) → Steady m → Agrees m id a (called m id a) (on_item receiver (loaded_of m) (CallItem (RequestCall id a)))
agrees m id a = go m.state.conn.«open»
  where
    with_open : Bool → Memory
    with_open o =
        record { state = record { conn = record { table = m.state.conn.table; frame = m.state.conn.frame; «open» = o }; gathered = m.state.gathered }; store = m.store }

    go : (o : Bool) → Steady (with_open o) → Agrees (with_open o) id a (called (with_open o) id a) (on_item receiver (loaded_of (with_open o)) (CallItem (RequestCall id a)))
    go true z = agrees_when_open m.state.conn.table m.state.conn.frame m.state.gathered m.store z id a
    go false z = agrees_when_closed (with_open false) z id a refl

-- A call.
pub call_linked : (m : Memory) (id : ℕ) (a : Argument) → Steady m → Linked m (CallFor id a)
unfolding memory_after seen_in items_of state_after observations told_all as_list
call_linked m id a z =
    let k = agrees m id a z in
    record {
      state = k.state;
      tells = ap (λ o. told_all (as_list receiver o)) k.tells ∙ ap told_all (sym (append-nil (as_list receiver (on_item receiver (loaded_of m) (CallItem (RequestCall id a))).1)));
      steady = k.steady;
    }

-- The active number.
pub count_linked : (m : Memory) → Steady m → Linked m CountActive
unfolding memory_after seen_in items_of state_after observations told_all as_list on_item
count_linked m z = go (loaded_of m) refl
  where
    go : (s : Connection receiver) → loaded_of m ≡ s → Linked m CountActive
    go (Open T F) e = record { state = e ∙ sym (ap (λ w. (on_item receiver w (CallItem CountCall)).0) e); tells = sym (ap (λ w. told_all (observations receiver w (CallItem CountCall ∷ []))) e); steady = z }
    go Closed e = record { state = e ∙ sym (ap (λ w. (on_item receiver w (CallItem CountCall)).0) e); tells = sym (ap (λ w. told_all (observations receiver w (CallItem CountCall ∷ []))) e); steady = z }

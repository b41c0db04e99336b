-- Nobody hogs the wire: whoever waits is served within 16 records of the pump, on runs.
use Rattle.connection.specs.Slots.{Slot}
use Rattle.std.proofs.Math.Path.{◌≡◌, refl, ap, sym, subst}
use Rattle.std.proofs.Common.{◌∙◌, inl, inr, lt-ltb}
use mathlib.Core.List.{List, [], ◌∷◌, ◌++◌, flatten}
use Rattle.std.proofs.Math.Option.{Option, none, some}
use Rattle.std.specs.Prelude.{◌⊎◌, true, false, get_or, eqb, if◌then◌else◌, Some, None}
use Prim.Native.Nat.{ℕ, zero, suc, ◌≤◌, ◌<◌}
use native.Mathlib.Omega.{arith}
use Rattle.std.proofs.Math.ListN.{length}
use Rattle.std.proofs.lemmas.Bool.{eqb-false}
use Rattle.wire.specs.Test.{by_test}
use Rattle.record.specs.Names.{END_REQUEST, REQUEST_COMPLETE}
use Rattle.record.specs.Body.{end_body_bytes}
use Rattle.record.proofs.BodyLaws.{end_length}
use Rattle.record.specs.Split.{Record, Split, split_in, split}
use Rattle.record_writer.specs.Written.{record_bytes}
use Rattle.record_writer.proofs.ReadBack.{record_of, record_read_back}
use Rattle.machine.specs.Slots.{SlotState, Vacant, HeldBy, FoundAt, lookup, slot_at, LookupRight, lookup_right}
use Rattle.machine.specs.Machine.{Slots, Open, state_after}
use Rattle.machine_queue.proofs.Everywhere.{any_reading}
use Rattle.machine_queue.specs.Pump.{slot_after, next_waiting, distance}
use Rattle.machine_queue.proofs.Pumping.{distance_below, after_below, Nearer, nearer, waiting_below}
use Rattle.connection.specs.declared.request.Request.{Request}
use Rattle.connection.specs.Sizes.{SLOTS}
use Rattle.connection.specs.Codes.{output_type}
use Rattle.connection.specs.Request.{Held}
use Rattle.connection.specs.Slots.{request_at, find, on_slot}
use Rattle.connection.specs.Runs.Receiver.{receiver}
use Rattle.connection.proofs.Runs.Loading.{loaded_slots, loaded_reading}
use Rattle.connection.proofs.Runs.LoadingLaws.{lookup_loaded}
use Rattle.connection.proofs.Runs.LinkingStep.{open_loaded}
use Rattle.queue_slot.specs.Atoms.{Atom, is_some}
use Rattle.queue_slot.specs.Wait.{anything, Served, ServesNothing, ServesEnd, ServesData, ServesLast, served, atoms_in}
use Rattle.queue_slot.proofs.WaitRefines.{anything_is}
use Rattle.queue_slot.proofs.ServeLaws.{ServedWell, served_well, nothing_waits}
use Rattle.queue_machine.specs.Queued.{Queued, queued, queueing_receiver}
use Rattle.queue_machine.proofs.Lift.{lift_slot, lift_slots, lift_reading, lift_connection, lift_lookup_lem, lift_at}
use Rattle.queue_machine.proofs.StillWaits.{WaitsAt, waiting_slot, StillWaits, bytes_waits, call_waits, serve_waits}
use Rattle.queue.proofs.Areas.{Roomy}
use Rattle.queue.specs.Calls as T
use Rattle.queue.specs.Calls.{QueueMemory, conn_of, wait_at, served_last, write_served, pump_slot, Turned, on_some, slot_waits, first_slot, turned, pump_refusal}
use Rattle.queue.specs.Run as D
use Rattle.queue.specs.Run.{Asking, QueueOperation, CallFor, CountActive, TurnWith, queue_after, waits_of, used_of, final_queue, PiecesAreBytes, beginning}
use Rattle.queue.specs.Fairness.{pumped_in, pumped_all, count_before, Fairness}
use Rattle.queue_link.proofs.Loaded.{waiting_of, loaded_queue}
use Rattle.queue_link.proofs.LoadedCalls as L
use Rattle.queue_link.proofs.LoadedPump as P
use Rattle.queue_link.proofs.LoadedTurn.{waits_open, waits_found_lem, waiting_is, first_below}
use Rattle.queue_link.proofs.LinkedStraight.{asked}
use Rattle.queue_link.proofs.LinkedRuns.{machine_items, Fine, PieceOk, op_is, op_fine, piece_ok, run_is, pump_done, pump_refused_lem}
use Rattle.queue_link.proofs.LinkedShown.{no_serve}
use Rattle.queue_link.proofs.LinkedWrites.{found_below, slot_fine, turn_bytes, no_turn_bytes}
use Rattle.queue_link.proofs.LinkedPosition.{still_closed}
use Rattle.queue_theorem.proofs.NextSlot.{next_of, served_next, call_kept, step_kept}
use Rattle.queue_theorem.proofs.Theorem.{start_fine}

-- ---- a record of the pump
-- these bytes are one record of that id
record OneRecord (id : ℕ) (bytes : List ℕ) : Type 0 where
  kind : ℕ
  content : List ℕ
  is : bytes ≡ record_bytes kind id content
  short : length content < 65536

module _ (m : QueueMemory) (k : Fine m) (o : (conn_of m).«open» ≡ true) (id j : ℕ) (f : find (conn_of m).table id ≡ Some j) where
  abbrev request : Request
  request = request_at (conn_of m).table j

  own_id : request.id ≡ id
  own_id = L.own_id m k.good.steady k.good.roomy o id j f

  written_one : (s : Served) → ServedWell (wait_at m j) s → anything (wait_at m j) ≡ true → OneRecord id (write_served (served_last m j) j request s).bytes
  unfolding write_served
  written_one ServesNothing h w =
      let z : ◌≡◌ {A = ℕ} 0 1 = cc (anything_is (wait_at m j) (k.good.steady.sized j (L.holds m k.good.steady k.good.roomy o id j f).low) h, w) in
      absurd (omega arith)
  written_one (ServesEnd p v) h w = record { kind = output_type p; content = []; is = ap (λ n. record_bytes (output_type p) n []) own_id; short = omega arith }
  written_one (ServesData p content v) h w =
      record { kind = output_type p; content = content; is = ap (λ n. record_bytes (output_type p) n content) own_id; short = let l : length content ≤ 512 = h.4 in omega arith }
  written_one (ServesLast status) h w =
      record {
        kind = END_REQUEST;
        content = end_body_bytes status REQUEST_COMPLETE;
        is = ap (λ n. record_bytes END_REQUEST n (end_body_bytes status REQUEST_COMPLETE)) own_id;
        short = omega (arith, end_length status REQUEST_COMPLETE);
      }

  one_record : anything (wait_at m j) ≡ true → OneRecord id (pump_slot m j).bytes
  unfolding pump_slot
  one_record w = written_one (served (wait_at m j)) (served_well (wait_at m j) (k.good.steady.sized j (L.holds m k.good.steady k.good.roomy o id j f).low)) w

  -- who holds the slot, on the machine
  held_at : slot_at queueing_receiver.clean (lift_slots (waiting_of m) (loaded_slots (conn_of m).table m.memory.store)) j ≡ HeldBy id (L.mine m k.good.steady k.good.roomy o id j f)
  held_at =
      let T = lift_slots (waiting_of m) (loaded_slots (conn_of m).table m.memory.store) in
      let e : lookup id T ≡ FoundAt j (L.mine m k.good.steady k.good.roomy o id j f) =
      lift_lookup_lem (waiting_of m) id (loaded_slots (conn_of m).table m.memory.store) ∙ rw (lookup_loaded (conn_of m).table m.memory.store id, f) in
      subst (λ x. LookupRight queueing_receiver.clean id T x) e (lookup_right queueing_receiver.clean id T)

-- asking for the active number changes nothing
count_kept : (m : QueueMemory) → queue_after m CountActive ≡ m
unfolding queue_after
count_kept m = refl

-- ---- how many records may still come before one of R
first_same : (n : ℕ) → n < SLOTS → first_slot n ≡ n
first_same n h = rw (lt-ltb n SLOTS h)

module _ (R i : ℕ) (low : i < SLOTS) where
  -- the slots from the first to that of R; none on a closed connection
  abbrev ahead : QueueMemory → ℕ
  ahead m = if (conn_of m).«open» then distance SLOTS i (first_slot (next_of m)) else 0

  ahead_open : (m : QueueMemory) → (conn_of m).«open» ≡ true → ahead m ≡ distance SLOTS i (first_slot (next_of m))
  ahead_open m o = rw o

  -- they are fewer than the slots
  pub ahead_few : (m : QueueMemory) → ahead m < SLOTS
  ahead_few m = by_test (conn_of m).«open» (λ o. rw o (distance_below SLOTS i (first_slot (next_of m)) low (first_below (next_of m)))) (λ o. rw o (omega arith))

  -- no more where the slot that is looked at first stays
  ahead_kept : (m n : QueueMemory) → ((conn_of m).«open» ≡ false → (conn_of n).«open» ≡ true → ⊥) → ((conn_of n).«open» ≡ true → next_of n ≡ next_of m) → ahead n ≤ ahead m
  ahead_kept m n c e =
      by_test (conn_of n).«open»
      (λ o. by_test (conn_of m).«open» (λ p. rw (o, p, e o) (omega arith)) (λ p. absurd (c p o)))
      (λ o. rw o (omega arith))

  -- R in its slot: something of it waits
  own_held : (s : SlotState (List ℕ) Queued) → WaitsAt R i i s → (r : Queued) × (s ≡ HeldBy R r) × (is_some r.waiting ≡ true)
  own_held (Vacant x) w = absurd (w refl)
  own_held (HeldBy id r) w = (r, ap (λ k. HeldBy k r) (w refl).0, (w refl).1)

  abbrev slots_of : QueueMemory → Slots queueing_receiver
  slots_of m = lift_slots (waiting_of m) (loaded_slots (conn_of m).table m.memory.store)

  here : (m : QueueMemory) → (conn_of m).«open» ≡ true → StillWaits R i (loaded_queue m) → (r : Queued) × (slot_at queueing_receiver.clean (slots_of m) i ≡ HeldBy R r) × (is_some r.waiting ≡ true)
  here m o h =
      let s : StillWaits R i (Open (slots_of m) (lift_reading (loaded_reading (conn_of m).frame m.memory.state.gathered))) =
      subst (λ s. StillWaits R i s) (ap (lift_connection (waiting_of m)) (open_loaded m.memory o)) h in
      own_held (slot_at queueing_receiver.clean (slots_of m) i) (s.0 i)

  -- the id that is served from slot i is R
  is_own_lem : (m : QueueMemory) (k : Fine m) (o : (conn_of m).«open» ≡ true) (id : ℕ) → find (conn_of m).table id ≡ Some i → StillWaits R i (loaded_queue m) → id ≡ R
  is_own_lem m k o id f h =
      let q = here m o h in
      let e : HeldBy id (L.mine m k.good.steady k.good.roomy o id i f) ≡ HeldBy R q.0 = sym (held_at m k o id i f) ∙ q.1 in
      cc

  -- slot i waits
  still_here : (m : QueueMemory) → (conn_of m).«open» ≡ true → StillWaits R i (loaded_queue m) → anything (wait_at m i) ≡ true
  unfolding is_some
  still_here m o h =
      by_test (anything (wait_at m i)) (λ e. e)
      (λ e.
      let q = here m o h in
      let w : q.0.waiting ≡ [] = waits_as (slot_at receiver.clean (loaded_slots (conn_of m).table m.memory.store) i) q.0 (sym (lift_at (waiting_of m) (loaded_slots (conn_of m).table m.memory.store) i) ∙ q.1) ∙ nothing_waits (wait_at m i) e in
      let z : ◌≡◌ {A = ℕ} 0 1 = cc (sym (ap is_some w) ∙ q.2) in
      absurd (omega arith))
    where
      waits_as : (s : SlotState (List ℕ) Held) (r : Queued) → lift_slot (waiting_of m i) s ≡ HeldBy R r → r.waiting ≡ waiting_of m i
      waits_as (Vacant x) r e = cc
      waits_as (HeldBy id x) r e = let d : queued x (waiting_of m i) ≡ r = cc in sym (ap (λ (y : Queued). y.waiting) d)

  -- ---- a turn
  -- a record of another slot brings R one record nearer
  one_less : (m : QueueMemory) (j : ℕ) → Roomy m → (conn_of m).«open» ≡ true → StillWaits R i (loaded_queue m) → next_waiting SLOTS SLOTS (slot_waits m) (first_slot (next_of m)) ≡ some j → (j ≡ i → ⊥)
      → ahead (pump_slot m j).left < ahead m
  one_less m j full o h e d =
      let p = first_slot (next_of m) in
      let b = first_below (next_of m) in
      let n = nearer SLOTS SLOTS (slot_waits m) i p low b (still_here m o h) (distance_below SLOTS i p low b) in
      let x : n.0 ≡ j = cc (n.1, e) in
      let y : Nearer SLOTS i p j = subst (λ k. Nearer SLOTS i p k) x n.2 in
      go y.itself_or_nearer y.below (after_below SLOTS j y.below)
    where
      go : (j ≡ i) ⊎ (distance SLOTS i (slot_after SLOTS j) < distance SLOTS i (first_slot (next_of m))) → j < SLOTS → slot_after SLOTS j < SLOTS → ahead (pump_slot m j).left < ahead m
      go (inl x) b l = absurd (d x)
      go (inr x) b l =
          by_test (conn_of (pump_slot m j).left).«open»
          (λ q.
          let s : first_slot (next_of (pump_slot m j).left) ≡ slot_after SLOTS j = ap first_slot (served_next m j full b q) ∙ first_same (slot_after SLOTS j) l in
          let a : ahead (pump_slot m j).left ≡ distance SLOTS i (slot_after SLOTS j) = ahead_open (pump_slot m j).left q ∙ ap (distance SLOTS i) s in
          subst (λ n. n < ahead m) (sym a) (subst (λ n. distance SLOTS i (slot_after SLOTS j) < n) (sym (ahead_open m o)) x))
          (λ q. subst (λ n. ahead (pump_slot m j).left < n) (sym (ahead_open m o)) (rw q (omega (arith, x))))

  before_record : (r : Record) (l : List Record) (n : ℕ) → (eqb r.id R ≡ false → count_before R l < n) → count_before R (r ∷ l) ≤ n
  unfolding count_before
  before_record r l n f = by_test (eqb r.id R) (λ e. rw e (omega arith)) (λ e. rw e (f e))

  -- With whatever records come after it.
  turn_fair : (k : ℕ) (m : QueueMemory) → Fine m → StillWaits R i (loaded_queue m) → (l : List Record)
      → (StillWaits R i (loaded_queue (turned k m).left) → count_before R l ≤ ahead (turned k m).left)
      → count_before R ((split (flatten (turned k m).records)).records ++ l) ≤ ahead m
  unfolding turned flatten split split_in
  turn_fair zero m g h l f = f h
  turn_fair (suc k) m g h l f = go (next_waiting SLOTS SLOTS (slot_waits m) (first_slot (next_of m))) refl f (λ j a b c. turn_fair k (pump_slot m j).left a b l c)
    where
      afterwards : Option ℕ → Turned
      afterwards o = on_some o (λ j. let p = pump_slot m j in let t = turned k p.left in record { records = p.bytes ∷ t.records; left = t.left }) (record { records = []; left = m })

      Rest : ℕ → Type 0
      Rest j = Fine (pump_slot m j).left → StillWaits R i (loaded_queue (pump_slot m j).left)
          → (StillWaits R i (loaded_queue (turned k (pump_slot m j).left).left) → count_before R l ≤ ahead (turned k (pump_slot m j).left).left)
          → count_before R ((split (flatten (turned k (pump_slot m j).left).records)).records ++ l) ≤ ahead (pump_slot m j).left

      more : (j : ℕ) → next_waiting SLOTS SLOTS (slot_waits m) (first_slot (next_of m)) ≡ some j → j < SLOTS → anything (wait_at m j) ≡ true
          → (StillWaits R i (loaded_queue (turned k (pump_slot m j).left).left) → count_before R l ≤ ahead (turned k (pump_slot m j).left).left)
          → Rest j
          → count_before R ((split (flatten ((pump_slot m j).bytes ∷ (turned k (pump_slot m j).left).records))).records ++ l) ≤ ahead m
      more j e b w f ih =
          let o = waits_open m j g.good.steady w in
          let id = get_or (conn_of m).table.ids j 0 in
          let d = waits_found_lem m j g.good.steady b o w in
          let c = one_record m g o id j d w in
          let rest = flatten (turned k (pump_slot m j).left).records in
          let s : (split ((pump_slot m j).bytes ++ rest)).records ≡ record_of c.kind id c.content ∷ (split rest).records =
          ap (λ x. (split (x ++ rest)).records) c.is ∙ ap (λ (x : Split). x.records) (record_read_back c.kind id c.content rest (found_below 0 m g id j o d) c.short) in
          subst (λ x. count_before R (x ++ l) ≤ ahead m) (sym s)
          (before_record (record_of c.kind id c.content) ((split rest).records ++ l) (ahead m)
          (λ n.
          let ne = eqb-false id R n in
          let other : j ≡ i → ⊥ = λ q. ne (is_own_lem m g o id (d ∙ ap Some q) h) in
          let less = one_less m j g.good.roomy o h e other in
          let still = subst (λ s. StillWaits R i s) (sym (P.serve_loaded m g.good.steady g.good.roomy o id j d)) (serve_waits R i (loaded_queue m) id ne h) in
          let r = ih (slot_fine m g o id j d) still f in
          omega (arith, r, less)))

      go : (o : Option ℕ) → next_waiting SLOTS SLOTS (slot_waits m) (first_slot (next_of m)) ≡ o
          → (StillWaits R i (loaded_queue (afterwards o).left) → count_before R l ≤ ahead (afterwards o).left)
          → ((j : ℕ) → Rest j)
          → count_before R ((split (flatten (afterwards o).records)).records ++ l) ≤ ahead m
      go none e f ih = f h
      go (some j) e f ih = more j e (waiting_below SLOTS SLOTS (slot_waits m) (first_slot (next_of m)) j (first_below (next_of m)) e) (waiting_is SLOTS SLOTS (slot_waits m) (first_slot (next_of m)) j e) f (ih j)

  -- ---- operations
  -- Whoever waits goes on waiting, over all that is no turn.
  step_still : (m : QueueMemory) (piece : List ℕ) → Fine m → PieceOk (D.StepOver piece) → StillWaits R i (loaded_queue m) → StillWaits R i (loaded_queue (queue_after m (D.StepOver piece)))
  unfolding machine_items
  step_still m piece k p h = subst (λ s. StillWaits R i s) (sym (op_is m (D.StepOver piece) k p).state) (bytes_waits R i (used_of m piece) (loaded_queue m) h)

  call_still : (m : QueueMemory) (id : ℕ) (a : Asking) → Fine m → StillWaits R i (loaded_queue m) → StillWaits R i (loaded_queue (queue_after m (CallFor id a)))
  unfolding machine_items state_after
  call_still m id a k h = subst (λ s. StillWaits R i s) (sym (op_is m (CallFor id a) k tt).state) (call_waits R i (loaded_queue m) id (asked a) (no_serve a) h)

  turn_done : (m : QueueMemory) (allowance : ℕ) (buffer : List ℕ) → eqb (pump_refusal m allowance buffer) 0 ≡ true → queue_after m (TurnWith allowance buffer) ≡ (turned allowance m).left
  unfolding queue_after
  turn_done m allowance buffer e = ap (λ (p : T.Pumped). p.left) (pump_done m allowance buffer e)

  turn_refused : (m : QueueMemory) (allowance : ℕ) (buffer : List ℕ) → eqb (pump_refusal m allowance buffer) 0 ≡ false → queue_after m (TurnWith allowance buffer) ≡ m
  unfolding queue_after
  turn_refused m allowance buffer e = ap (λ (p : T.Pumped). p.left) (pump_refused_lem m allowance buffer e)

  op_fair : (m : QueueMemory) (o : QueueOperation) → Fine m → PieceOk o → StillWaits R i (loaded_queue m) → (l : List Record)
      → (StillWaits R i (loaded_queue (queue_after m o)) → count_before R l ≤ ahead (queue_after m o))
      → count_before R (pumped_in m o ++ l) ≤ ahead m
  unfolding pumped_in split split_in
  op_fair m (D.StepOver piece) k p h l f =
      let a = ahead_kept m (queue_after m (D.StepOver piece)) (still_closed m (D.StepOver piece) k p) (step_kept m piece) in
      let b = f (step_still m piece k p h) in omega (arith, a, b)
  op_fair m (CallFor id a) k p h l f =
      let c = ahead_kept m (queue_after m (CallFor id a)) (still_closed m (CallFor id a) k p) (call_kept m id a) in
      let b = f (call_still m id a k h) in omega (arith, c, b)
  op_fair m CountActive k p h l f = subst (λ n. (StillWaits R i (loaded_queue n) → count_before R l ≤ ahead n) → count_before R l ≤ ahead m) (sym (count_kept m)) (λ f. f h) f
  op_fair m (TurnWith allowance buffer) k p h l f =
      by_test (eqb (pump_refusal m allowance buffer) 0)
      (λ e. subst (λ x. count_before R ((split x).records ++ l) ≤ ahead m) (sym (turn_bytes m allowance buffer k e))
      (turn_fair allowance m k h l (subst (λ n. StillWaits R i (loaded_queue n) → count_before R l ≤ ahead n) (turn_done m allowance buffer e) f)))
      (λ e. subst (λ x. count_before R ((split x).records ++ l) ≤ ahead m) (sym (no_turn_bytes m allowance buffer e))
      (subst (λ n. StillWaits R i (loaded_queue n) → count_before R l ≤ ahead n) (turn_refused m allowance buffer e) f h))

  -- Over any operations no more records come before one of R than were ahead of it.
  pub run_fair : (os : List QueueOperation) (m : QueueMemory) → Fine m → PiecesAreBytes os → StillWaits R i (loaded_queue m) → count_before R (pumped_all m os) ≤ ahead m
  unfolding pumped_all count_before
  run_fair [] m k p h = omega arith
  run_fair (o ∷ os) m k p h =
      let q = piece_ok o os p in
      op_fair m o k q.0 h (pumped_all (queue_after m o) os) (λ s. run_fair os (queue_after m o) (op_fine m o k q.0) q.1 s)

-- ---- runs
pieces_front : (os ps : List QueueOperation) → PiecesAreBytes (os ++ ps) → PiecesAreBytes os × PiecesAreBytes ps
pieces_front [] ps p = (tt, p)
pieces_front (D.StepOver piece ∷ os) ps p = let q = pieces_front os ps p.1 in ((p.0, q.0), q.1)
pieces_front (CallFor id a ∷ os) ps p = pieces_front os ps p
pieces_front (CountActive ∷ os) ps p = pieces_front os ps p
pieces_front (TurnWith allowance buffer ∷ os) ps p = pieces_front os ps p

-- where something of R waits, it has a slot
waits_slot : (R : ℕ) (m : QueueMemory) → (waits_of R m ≡ [] → ⊥) → ((conn_of m).«open» ≡ true) × ((i : ℕ) × (find (conn_of m).table R ≡ Some i) × (atoms_in (wait_at m i) ≡ [] → ⊥))
unfolding waits_of
waits_slot R m w = by_test (conn_of m).«open» (λ o. (o, go (find (conn_of m).table R) refl (λ e. w (subst (λ b. (if b then on_slot (find (conn_of m).table R) (λ i. atoms_in (wait_at m i)) [] else []) ≡ []) (sym o) e)))) (λ o. absurd (w (rw o)))
  where
    go : (s : Slot) → find (conn_of m).table R ≡ s → (on_slot s (λ i. atoms_in (wait_at m i)) [] ≡ [] → ⊥) → (i : ℕ) × (find (conn_of m).table R ≡ Some i) × (atoms_in (wait_at m i) ≡ [] → ⊥)
    go (Some i) e w = (i, e, w)
    go None e w = absurd (w refl)

some_waits_lem : (l : List Atom) → (l ≡ [] → ⊥) → is_some l ≡ true
unfolding is_some
some_waits_lem [] w = absurd (w refl)
some_waits_lem (x ∷ l) w = refl

begins_waiting : (R i : ℕ) (m : QueueMemory) (k : Fine m) (o : (conn_of m).«open» ≡ true) (f : find (conn_of m).table R ≡ Some i) → (atoms_in (wait_at m i) ≡ [] → ⊥) → StillWaits R i (loaded_queue m)
begins_waiting R i m k o f w =
    let T = lift_slots (waiting_of m) (loaded_slots (conn_of m).table m.memory.store) in
    let F = lift_reading (loaded_reading (conn_of m).frame m.memory.state.gathered) in
    let t : StillWaits R i (Open T F) = ((λ j. at_slot j (slot_at queueing_receiver.clean T j) refl), any_reading queueing_receiver (waiting_slot R i) (λ id. tt) F) in
    subst (λ s. StillWaits R i s) (sym (ap (lift_connection (waiting_of m)) (open_loaded m.memory o))) t
  where
    T : Slots queueing_receiver
    T = lift_slots (waiting_of m) (loaded_slots (conn_of m).table m.memory.store)

    at_slot : (j : ℕ) (s : SlotState (List ℕ) Queued) → slot_at queueing_receiver.clean T j ≡ s → WaitsAt R i j s
    at_slot j (Vacant x) e = λ q.
        let z : ◌≡◌ {A = ℕ} 0 1 = cc (sym (held_at m k o R i f) ∙ ap (slot_at queueing_receiver.clean T) (sym q) ∙ e) in omega arith
    at_slot j (HeldBy id r) e = λ q.
        let d : HeldBy R (L.mine m k.good.steady k.good.roomy o R i f) ≡ HeldBy id r = sym (held_at m k o R i f) ∙ ap (slot_at queueing_receiver.clean T) (sym q) ∙ e in
        let a : id ≡ R = cc in
        let b : L.mine m k.good.steady k.good.roomy o R i f ≡ r = cc in
        (a, subst (λ (x : Queued). is_some x.waiting ≡ true) b (some_waits_lem (atoms_in (wait_at m i)) w))

-- Served within 16 records.
pub fairness : Fairness
fairness R r os ps e w =
    let q = pieces_front os ps (subst (λ x. PiecesAreBytes x) e r.pieces) in
    let m = final_queue (beginning r) os in
    let k = (run_is os (beginning r) (start_fine r) q.0).fine in
    let s = waits_slot R m w in
    let i = s.1.0 in
    let low = (L.holds m k.good.steady k.good.roomy s.0 R i s.1.1).low in
    let a = run_fair R i low ps m k q.1 (begins_waiting R i m k s.0 s.1.1 s.1.2) in
    let b = ahead_few R i low m in
    omega (arith, a, b)

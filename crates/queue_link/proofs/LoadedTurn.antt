-- A turn of the pump on the whole state is a list of the machine's serves.
use Rattle.std.specs.Prelude.{◌≡◌, Bool, ℕ, zero, suc, ◌<◌, length, get_or, set, eqb, ltb, if◌then◌else◌, Some}
use Rattle.std.proofs.Math.Path.{refl}
use Rattle.std.proofs.Common.{ap, sym, ◌∙◌, subst, arith, eqb-true, ltb-true}
use mathlib.Core.List.{List, [], ◌∷◌}
use Rattle.std.proofs.Math.Option.{Option, none, some}
use Rattle.std.proofs.Math.Bool.{true, false}
use Rattle.std.proofs.lemmas.Bool.{eqb-false}
use Rattle.wire.specs.Test.{by_test}
use Rattle.machine.specs.Slots.{SlotState, Vacant, HeldBy}
use Rattle.machine.specs.Machine.{Slots, state_after}
use Rattle.machine.specs.Timeline.{RequestCall, CallItem, Item}
use Rattle.machine_queue.specs.Pump.{slot_after, next_waiting}
use Rattle.machine_queue.proofs.Pumping.{waiting_below}
use Rattle.connection.specs.Sizes.{SLOTS}
use Rattle.connection.specs.Request.{Held}
use Rattle.connection.specs.Slots.{request_at, find}
use Rattle.connection.specs.Calls as C
use Rattle.connection.proofs.Laws.SlotsLaws.{only_slot}
use Rattle.connection.proofs.Laws.ShapeLaws.{shaped}
use Rattle.slot_word.specs.Word.{taken}
use Rattle.connection.proofs.Runs.Loading.{loaded_when}
use Rattle.connection.specs.Runs.Receiver.{receiver, clean_area}
use Rattle.connection.proofs.Runs.LinkingStep.{open_loaded, Steady}
use Rattle.connection.proofs.Runs.LoadingLaws.{loaded_kept}
use Rattle.connection.proofs.Runs.CallShape.{steady_free, steady_closed}
use Rattle.queue_slot.specs.Atoms.{Atom}
use Rattle.queue_slot.specs.Wait.{Wait, nothing_in, anything, Served, ServesNothing, ServesEnd, ServesData, ServesLast, served, byte_atoms, atoms_in}
use Rattle.queue_slot.proofs.WaitLaws.{Sized}
use Rattle.queue_slot.proofs.ServeLaws.{ServedWell, served_well}
use Rattle.queue_machine.specs.Queued.{Asked, Serve, queueing_receiver}
use Rattle.queue_machine.proofs.Lift.{Waiting, NothingFree, FreeEnd, FreeVacant, FreeHeld}
use Rattle.queue_machine.proofs.LiftRuns.{FreeIn}
use Rattle.queue.specs.Numbers.{NEXT, WAITS}
use Rattle.queue.proofs.NumberLaws.{numbers_length, count_of_put, front_of_put, last_of_put}
use Rattle.queue.proofs.Areas.{Roomy, wait_of_put, wait_of_other, roomy_put}
use Rattle.queue_link.proofs.Loaded.{waiting_of, loaded_queue, QueueSteady, slot_below, slot_free, nobody_count, nobody_at}
use Rattle.queue_link.proofs.LoadedCalls as L
use Rattle.queue_link.proofs.LoadedPump as P
use Rattle.queue.specs.Calls.{Turned, on_some, slot_waits, first_slot, turned, QueueMemory, conn_of, wait_at, put_wait, served_last, released_slot, write_served, pump_slot}

-- ---- nothing in free slots, with one slot changed
abbrev pub FreeSlot : List Atom → SlotState (List ℕ) Held → Type 0
FreeSlot l (Vacant x) = l ≡ []
FreeSlot l (HeldBy id h) = Unit {0}

free_same : {f : Waiting} {T : Slots receiver} (g : Waiting) → ((j : ℕ) → j < length T → g j ≡ f j) → NothingFree f T → NothingFree g T
free_same g e FreeEnd = FreeEnd
free_same g e (FreeVacant a h) = FreeVacant (e 0 (omega arith) ∙ a) (free_same (λ j. g (suc j)) (λ j l. e (suc j) (omega arith)) h)
free_same g e (FreeHeld h) = FreeHeld (free_same (λ j. g (suc j)) (λ j l. e (suc j) (omega arith)) h)

free_cons : (g : Waiting) (T : Slots receiver) (s : SlotState (List ℕ) Held) → FreeSlot (g 0) s → NothingFree (λ j. g (suc j)) T → NothingFree g (s ∷ T)
free_cons g T (Vacant x) a h = FreeVacant a h
free_cons g T (HeldBy id q) a h = FreeHeld h

-- one slot changed
pub free_changed : {f : Waiting} {T : Slots receiver} (g : Waiting) (i : ℕ) (s : SlotState (List ℕ) Held)
    → ((j : ℕ) → j < length T → (j ≡ i → ⊥) → g j ≡ f j) → FreeSlot (g i) s → NothingFree f T → NothingFree g (set T i s)
free_changed g i s e a FreeEnd = FreeEnd
free_changed g zero s e a (FreeVacant {T = T} b h) = free_cons g T s a (free_same (λ j. g (suc j)) (λ j l. e (suc j) (omega arith) (λ z. omega arith)) h)
free_changed g zero s e a (FreeHeld {T = T} h) = free_cons g T s a (free_same (λ j. g (suc j)) (λ j l. e (suc j) (omega arith) (λ z. omega arith)) h)
free_changed g (suc i) s e a (FreeVacant b h) =
    FreeVacant (e 0 (omega arith) (λ z. omega arith) ∙ b) (free_changed (λ j. g (suc j)) i s (λ j l d. e (suc j) (omega arith) (λ z. d (omega arith))) a h)
free_changed g (suc i) s e a (FreeHeld h) = FreeHeld (free_changed (λ j. g (suc j)) i s (λ j l d. e (suc j) (omega arith) (λ z. d (omega arith))) a h)

-- ---- a record of the pump keeps what every state fulfils
pub record Good (m : QueueMemory) : Type 0 where
  pub steady : QueueSteady m
  pub roomy : Roomy m

module _ (m : QueueMemory) (k : Good m) (is_open : (conn_of m).«open» ≡ true) (id i : ℕ) (found : find (conn_of m).table id ≡ Some i) where
  abbrev z : QueueSteady m
  z = k.steady

  abbrev y : Roomy m
  y = k.roomy

  low : i < SLOTS
  low = (L.holds m z y is_open id i found).low

  own_free : NothingFree (waiting_of m) (set (L.slots m z y is_open id i found) i (HeldBy id (L.own m z y is_open id i found)))
  own_free =
      let t = loaded_kept (conn_of m).table m.memory.store i (L.in_use m z y is_open id i found) ∙ ap (λ n. set (L.slots m z y is_open id i found) i (HeldBy n (L.own m z y is_open id i found))) (L.own_id m z y is_open id i found) in
      subst (λ T. NothingFree (waiting_of m) T) t (rw (open_loaded m.memory is_open) at z.free)

  slots_free : NothingFree (waiting_of m) (L.slots m z y is_open id i found)
  slots_free = rw (open_loaded m.memory is_open) at z.free

  below : (j : ℕ) → j < length (L.slots m z y is_open id i found) → j < SLOTS
  below j h = slot_below (conn_of m).table m.memory.store j h

  -- what is left waits in slot i
  put_steady : (v : Wait) → Sized v → Steady (put_wait (served_last m i) i v).memory
  unfolding put_wait
  put_steady v s = z.steady

  put_open : (v : Wait) → (conn_of (put_wait (served_last m i) i v)).«open» ≡ true
  unfolding put_wait
  put_open v = is_open

  put_good : (v : Wait) → Sized v → Good (put_wait (served_last m i) i v)
  put_good v s =
      let n = put_wait (served_last m i) i v in
      let r = P.roomy_last m z y is_open id i found in
      let there : (j : ℕ) → j < SLOTS → (j ≡ i → ⊥) → wait_at n j ≡ wait_at m j = λ j h d. wait_of_other (served_last m i) i v r low s j h d ∙ P.same_wait m z y is_open id i found j h in
      let t = loaded_kept (conn_of m).table m.memory.store i (L.in_use m z y is_open id i found) ∙ ap (λ n. set (L.slots m z y is_open id i found) i (HeldBy n (L.own m z y is_open id i found))) (L.own_id m z y is_open id i found) in
      record {
        steady = record {
          steady = put_steady v s;
          sized = λ j h. by_test (eqb j i) (λ e. let w : wait_at n j ≡ v = ap (wait_at n) (eqb-true j i e) ∙ wait_of_put (served_last m i) i v r low s in subst (λ x. Sized x) (sym w) s)
              (λ e. subst (λ x. Sized x) (sym (there j h (eqb-false j i e))) (z.sized j h));
          free = subst (λ w. FreeIn (waiting_of n) w) (sym (P.put_memory m z y is_open id i found v))
              (subst (λ T. NothingFree (waiting_of n) T) (sym t) (free_changed (waiting_of n) i (HeldBy id (L.own m z y is_open id i found)) (λ j h d. ap atoms_in (there j (below j h) d)) tt slots_free));
          dropped = λ o. let q : ◌≡◌ {A = ℕ} 0 1 = cc (put_open v, o) in absurd (omega arith);
        };
        roomy = roomy_put (served_last m i) i v r low s;
      }

  -- slot i is given back
  abbrev waits : List ℕ
  waits = (served_last m i).waits

  full : length waits ≡ WAITS
  full = (P.roomy_last m z y is_open id i found).waits

  freed_wait : Sized (wait_at (released_slot (served_last m i) i true) i)
  unfolding wait_at
  freed_wait =
      let s = z.sized i low in record { count_fits = rw (count_of_put waits i (nothing_in [] []) full low) (omega arith); bytes_size = s.bytes_size; marks_size = s.marks_size }

  freed_none : waiting_of (released_slot (served_last m i) i true) i ≡ []
  unfolding wait_at atoms_in byte_atoms
  freed_none = rw (count_of_put waits i (nothing_in [] []) full low, front_of_put waits i (nothing_in [] []) full low, last_of_put waits i (nothing_in [] []) full low)

  freed_roomy : Roomy (released_slot (served_last m i) i true)
  freed_roomy = record { waits = numbers_length waits i (nothing_in [] []) full low; queue = y.queue; marks = y.marks }

  freed_open : (conn_of (released_slot (served_last m i) i true)).«open» ≡ true
  unfolding C.released
  freed_open = is_open

  freed_good : Good (released_slot (served_last m i) i true)
  freed_good =
      let n = released_slot (served_last m i) i true in
      let there = P.other_wait m z y is_open id i found in
      record {
        steady = record {
          steady = steady_free m.memory i low z.steady;
          sized = λ j h. by_test (eqb j i) (λ e. subst (λ x. Sized (wait_at n x)) (sym (eqb-true j i e)) freed_wait) (λ e. subst (λ x. Sized x) (sym (there j h (eqb-false j i e))) (z.sized j h));
          free = subst (λ w. FreeIn (waiting_of n) w) (sym (P.free_memory m z y is_open id i found))
              (free_changed (waiting_of n) i (Vacant clean_area) (λ j h d. ap atoms_in (there j (below j h) d)) freed_none slots_free);
          dropped = λ o. let q : ◌≡◌ {A = ℕ} 0 1 = cc (freed_open, o) in absurd (omega arith);
        };
        roomy = freed_roomy;
      }

  -- the connection is closed
  shut_sized : (j : ℕ) → j < SLOTS → Sized (wait_at (released_slot (served_last m i) i false) j)
  unfolding wait_at
  shut_sized j h =
      let s = z.sized j h in record { count_fits = rw (nobody_count j) (omega arith); bytes_size = s.bytes_size; marks_size = s.marks_size }

  shut_good : Good (released_slot (served_last m i) i false)
  unfolding loaded_when
  shut_good = record {
    steady = record { steady = steady_closed m.memory z.steady; sized = shut_sized; free = tt; dropped = λ o. refl };
    roomy = record { waits = refl; queue = y.queue; marks = y.marks };
  }

  -- nothing waits in slot i
  last_good : Good (served_last m i)
  last_good = record {
    steady = record {
      steady = z.steady;
      sized = λ j h. subst (λ x. Sized x) (sym (P.same_wait m z y is_open id i found j h)) (z.sized j h);
      free = subst (λ w. FreeIn (waiting_of (served_last m i)) w) (sym (open_loaded m.memory is_open))
          (free_same (waiting_of (served_last m i)) (λ j h. ap atoms_in (P.same_wait m z y is_open id i found j (below j h))) slots_free);
      dropped = λ o. let q : ◌≡◌ {A = ℕ} 0 1 = cc (is_open, o) in absurd (omega arith);
    };
    roomy = P.roomy_last m z y is_open id i found;
  }

  served_good : (s : Served) → ServedWell (wait_at m i) s → Good (write_served (served_last m i) i (request_at (conn_of m).table i) s).left
  unfolding write_served
  served_good ServesNothing h = last_good
  served_good (ServesEnd o v) h = put_good v h.1
  served_good (ServesData o content v) h = put_good v h.1
  served_good (ServesLast status) h = go (request_at (conn_of m).table i).state.keep
    where
      go : (b : Bool) → Good (released_slot (served_last m i) i b)
      go true = freed_good
      go false = shut_good

  -- A record of the pump keeps it.
  pub pump_good : Good (pump_slot m i).left
  unfolding pump_slot
  pump_good = served_good (served (wait_at m i)) (served_well (wait_at m i) (z.sized i low))

-- ---- the slot that is served
pub waiting_is : (N k : ℕ) (waits : ℕ → Bool) (p i : ℕ) → next_waiting N k waits p ≡ some i → waits i ≡ true
unfolding next_waiting
waiting_is N zero waits p i e = let q : ◌≡◌ {A = ℕ} 0 1 = cc in absurd (omega arith)
waiting_is N (suc k) waits p i e = go (waits p) refl e (λ d. waiting_is N k waits (slot_after N p) i d)
  where
    go : (b : Bool) → waits p ≡ b → (if b then some p else next_waiting N k waits (slot_after N p)) ≡ some i → (next_waiting N k waits (slot_after N p) ≡ some i → waits i ≡ true) → waits i ≡ true
    go true w e f = let q : p ≡ i = cc in rw (← q) w
    go false w e f = f e

-- whoever waits is active, on an open connection
pub waits_open : (m : QueueMemory) (i : ℕ) → QueueSteady m → anything (wait_at m i) ≡ true → (conn_of m).«open» ≡ true
waits_open m i z w = by_test (conn_of m).«open» (λ o. o) (λ o. let q : ◌≡◌ {A = ℕ} 0 1 = cc (nobody_at m i (z.dropped o), w) in absurd (omega arith))

waits_taken : (m : QueueMemory) (i : ℕ) → QueueSteady m → i < SLOTS → (conn_of m).«open» ≡ true → anything (wait_at m i) ≡ true → taken i (conn_of m).table.occupied ≡ true
waits_taken m i z h o w = by_test (taken i (conn_of m).table.occupied) (λ e. e) (λ e. let q : ◌≡◌ {A = ℕ} 0 1 = cc (slot_free m i z o h e, w) in absurd (omega arith))

-- and it is found
pub waits_found_lem : (m : QueueMemory) (i : ℕ) → QueueSteady m → i < SLOTS → (conn_of m).«open» ≡ true → anything (wait_at m i) ≡ true → find (conn_of m).table (get_or (conn_of m).table.ids i 0) ≡ Some i
waits_found_lem m i z h o w =
    only_slot (conn_of m).table (shaped (conn_of m) z.steady.shape).table.distinct (get_or (conn_of m).table.ids i 0) i
    (record { low = h; slot_taken = waits_taken m i z h o w; has_id = refl })

-- ---- a turn
abbrev pub on_id : Option ℕ → (ℕ → List ℕ) → List ℕ
on_id none f = []
on_id (some i) f = f i

-- the ids that a turn serves, in order
unfoldable pub served_in : ℕ → QueueMemory → List ℕ
served_in zero m = []
served_in (suc k) m = on_id (next_waiting SLOTS SLOTS (slot_waits m) (first_slot (get_or m.waits NEXT 0))) (λ i. get_or (conn_of m).table.ids i 0 ∷ served_in k (pump_slot m i).left)

-- the serves of these ids
unfoldable pub serves_of : List ℕ → List (Item Asked)
serves_of [] = []
serves_of (id ∷ l) = CallItem (RequestCall id Serve) ∷ serves_of l

-- a turn from m leaves n, with these records, and served these ids
pub record TurnFrom (m n : QueueMemory) (records : List (List ℕ)) (ids : List ℕ) : Type 0 where
  pub state : loaded_queue n ≡ state_after queueing_receiver (loaded_queue m) (serves_of ids)
  pub good : Good n
  -- as many records as serves
  pub count : length records ≡ length ids

-- it is a slot
pub first_below : (n : ℕ) → first_slot n < SLOTS
first_below n = by_test (ltb n SLOTS) (λ e. let h = ltb-true n SLOTS e in rw e h) (λ e. rw e (omega arith))

-- A turn of the pump is the machine's serves of these ids, one after another.
pub turn_is : (k : ℕ) (m : QueueMemory) → Good m → TurnFrom m (turned k m).left (turned k m).records (served_in k m)
unfolding turned served_in serves_of state_after
turn_is zero m g = record { state = refl; good = g; count = refl }
turn_is (suc k) m g = go (next_waiting SLOTS SLOTS (slot_waits m) (first_slot (get_or m.waits NEXT 0))) refl (λ i h. turn_is k (pump_slot m i).left h)
  where
    afterwards : Option ℕ → Turned
    afterwards o = on_some o (λ i. let p = pump_slot m i in let t = turned k p.left in record { records = p.bytes ∷ t.records; left = t.left }) (record { records = []; left = m })

    ids : Option ℕ → List ℕ
    ids o = on_id o (λ i. get_or (conn_of m).table.ids i 0 ∷ served_in k (pump_slot m i).left)

    more : (i : ℕ) → (h : i < SLOTS) → anything (wait_at m i) ≡ true
        → (Good (pump_slot m i).left → TurnFrom (pump_slot m i).left (turned k (pump_slot m i).left).left (turned k (pump_slot m i).left).records (served_in k (pump_slot m i).left))
        → TurnFrom m (afterwards (some i)).left (afterwards (some i)).records (ids (some i))
    more i h w f =
        let o = waits_open m i g.steady w in
        let e = waits_found_lem m i g.steady h o w in
        let r = f (pump_good m g o (get_or (conn_of m).table.ids i 0) i e) in
        record {
          state = r.state ∙ ap (λ s. state_after queueing_receiver s (serves_of (served_in k (pump_slot m i).left))) (P.serve_loaded m g.steady g.roomy o (get_or (conn_of m).table.ids i 0) i e);
          good = r.good;
          count = ap suc r.count;
        }

    go : (o : Option ℕ) → next_waiting SLOTS SLOTS (slot_waits m) (first_slot (get_or m.waits NEXT 0)) ≡ o
        → ((i : ℕ) → Good (pump_slot m i).left → TurnFrom (pump_slot m i).left (turned k (pump_slot m i).left).left (turned k (pump_slot m i).left).records (served_in k (pump_slot m i).left))
        → TurnFrom m (afterwards o).left (afterwards o).records (ids o)
    go none e f = record { state = refl; good = g; count = refl }
    go (some i) e f =
        more i (waiting_below SLOTS SLOTS (slot_waits m) (first_slot (get_or m.waits NEXT 0)) i (first_below (get_or m.waits NEXT 0)) e) (waiting_is SLOTS SLOTS (slot_waits m) (first_slot (get_or m.waits NEXT 0)) i e) (f i)

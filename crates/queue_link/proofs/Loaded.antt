-- The whole state, read as the connection of the machine with a queue; a step is the items of the bytes that it used.
use Rattle.std.specs.Prelude.{◌≡◌, refl, List, [], ◌∷◌, Bool, true, false, not, ℕ, zero, suc, ◌+◌, ◌<◌, length, take, if◌then◌else◌}
use Rattle.std.proofs.Common.{ap, sym, ◌∙◌, subst, arith, eq-eqb, le-leb}
use Rattle.wire.specs.Test.{by_test}
use Rattle.slot_word.specs.Word.{taken}
use Rattle.slot_word.proofs.WordLaws.{taken_out}
use Rattle.machine.specs.Slots.{SlotState, Vacant, HeldBy}
use Rattle.machine.specs.Timeline.{byte_items}
use Rattle.machine.specs.Machine.{Connection, state_after}
use Rattle.connection.specs.declared.state.Table.{Table}
use Rattle.connection.specs.Sizes.{SLOTS, STORE}
use Rattle.connection.specs.Request.{Held}
use Rattle.connection.specs.Step.{stepped, stays, step_refusal}
use Rattle.wire.proofs.Bytes.{AllBytes}
use Rattle.connection.proofs.Laws.Progress.{step_refused}
use Rattle.connection.specs.Run.{Memory, StepOver, step_of, memory_of, memory_after, items_of}
use Rattle.connection.specs.Runs.Receiver.{receiver}
use Rattle.connection.proofs.Runs.Loading.{elements, loaded_slot, slot_of, loaded_slots}
use Rattle.connection.proofs.Runs.LinkingStep.{loaded_of, open_loaded, closed_loaded, Steady, Linked, step_linked}
use Rattle.queue_slot.specs.Atoms.{Atom}
use Rattle.queue_slot.specs.Wait.{ROOM, anything, atoms_in}
use Rattle.queue_slot.proofs.WaitLaws.{Sized}
use Rattle.queue_slot.proofs.WaitRefines.{anything_is}
use Rattle.queue_machine.specs.Queued.{queueing_receiver}
use Rattle.queue_machine.proofs.Lift.{Waiting, lift_connection, NothingFree, FreeEnd, FreeVacant, FreeHeld}
use Rattle.queue_machine.proofs.LiftRuns.{FreeIn, lift_bytes}
use Rattle.queue.specs.Numbers.{nobody_waits, kept_waits, count_at, front_at, last_at}
use Rattle.queue.specs.Calls.{QueueMemory, beside, conn_of, wait_at, wait_fits, waits_fit, queue_in_shape, queue_step_refusal, queue_step}
use Rattle.queue.specs.Run.{StepOver as QueueStep, queue_after, with_memory}

-- what waits in each slot, and the machine's connection
abbrev pub waiting_of : QueueMemory → Waiting
waiting_of m i = atoms_in (wait_at m i)

-- the machine's connection
abbrev pub loaded_queue : QueueMemory → Connection queueing_receiver
loaded_queue m = lift_connection (waiting_of m) (loaded_of m.memory)

-- What every state of a run fulfils.
pub record QueueSteady (m : QueueMemory) : Type 0 where
  pub steady : Steady m.memory
  pub sized : (i : ℕ) → i < SLOTS → Sized (wait_at m i)
  pub free : FreeIn (waiting_of m) (loaded_of m.memory)
  pub dropped : (conn_of m).«open» ≡ false → m.waits ≡ nobody_waits

-- ---- nothing in free slots, slot by slot and in the list
abbrev FreeAt : List Atom → SlotState (List ℕ) Held → Type 0
FreeAt l (Vacant x) = l ≡ []
FreeAt l (HeldBy id h) = Unit {0}

pub free_elements : (g : ℕ → SlotState (List ℕ) Held) (f : Waiting) (i n : ℕ) → ((k : ℕ) → k < n → FreeAt (f k) (g (i + k))) → NothingFree f (elements g i n)
unfolding elements
free_elements g f i zero h = FreeEnd
free_elements g f i (suc n) h =
    let z : i + 0 ≡ i = omega arith in
    go (g i) (rw z at (h 0 (omega arith))) (free_elements g (λ j. f (suc j)) (suc i) n (λ k l. let e : i + suc k ≡ suc i + k = omega arith in rw e at (h (suc k) (omega arith))))
  where
    go : (s : SlotState (List ℕ) Held) → FreeAt (f 0) s → NothingFree (λ j. f (suc j)) (elements g (suc i) n) → NothingFree f (s ∷ elements g (suc i) n)
    go (Vacant x) a r = FreeVacant a r
    go (HeldBy id q) a r = FreeHeld r

pub elements_free : (g : ℕ → SlotState (List ℕ) Held) (f : Waiting) (i n k : ℕ) → k < n → NothingFree f (elements g i n) → FreeAt (f k) (g (i + k))
unfolding elements
elements_free g f i zero k h r = absurd (omega arith)
elements_free g f i (suc n) k h r = go (g i) refl k h r (λ j l t. elements_free g (λ j. f (suc j)) (suc i) n j l t)
  where
    first : (k : ℕ) → g i ≡ g (i + k) → FreeAt (f k) (g i) → FreeAt (f k) (g (i + k))
    first k e a = rw (← e) a

    later : (k : ℕ) → FreeAt (f (suc k)) (g (suc i + k)) → FreeAt (f (suc k)) (g (i + suc k))
    later k a = let e : suc i + k ≡ i + suc k = omega arith in rw (← e) a

    here : i ≡ i + 0
    here = omega arith

    go : (s : SlotState (List ℕ) Held) → g i ≡ s → (k : ℕ) → k < suc n → NothingFree f (s ∷ elements g (suc i) n)
        → ((j : ℕ) → j < n → NothingFree (λ j. f (suc j)) (elements g (suc i) n) → FreeAt (f (suc j)) (g (suc i + j))) → FreeAt (f k) (g (i + k))
    go (Vacant x) e zero h (FreeVacant a r) w = first 0 (ap g here) (rw e a)
    go (Vacant x) e (suc k) h (FreeVacant a r) w = later k (w k (omega arith) r)
    go (HeldBy id q) e zero h (FreeHeld r) w = first 0 (ap g here) (rw e tt)
    go (HeldBy id q) e (suc k) h (FreeHeld r) w = later k (w k (omega arith) r)

-- there are as many slots as SLOTS says
pub slot_below : (t : Table) (store : List ℕ) (j : ℕ) → j < length (loaded_slots t store) → j < SLOTS
unfolding loaded_slots elements
slot_below t store j h = h

-- a free slot
free_slot_lem : (t : Table) (store : List ℕ) (i : ℕ) (l : List Atom) → taken i t.occupied ≡ false → FreeAt l (slot_of t store i) → l ≡ []
unfolding slot_of loaded_slot
free_slot_lem t store i l e a = rw e at a

-- nothing waits in a free slot
pub slot_free : (m : QueueMemory) (i : ℕ) → QueueSteady m → (conn_of m).«open» ≡ true → i < SLOTS → taken i (conn_of m).table.occupied ≡ false → anything (wait_at m i) ≡ false
unfolding loaded_slots
slot_free m i z o h e =
    let t = (conn_of m).table in
    let f : NothingFree (waiting_of m) (loaded_slots t m.memory.store) = rw (open_loaded m.memory o) at z.free in
    let a = elements_free (slot_of t m.memory.store) (waiting_of m) 0 SLOTS i h f in
    let zero-plus : 0 + i ≡ i = omega arith in
    let b : FreeAt (waiting_of m i) (slot_of t m.memory.store i) = rw zero-plus at a in
    anything_is (wait_at m i) (z.sized i h) (free_slot_lem t m.memory.store i (waiting_of m i) e b)

-- ---- shape
fits_all : (waits : List ℕ) (occupied n i : ℕ) → ((k : ℕ) → k < i + n → wait_fits waits occupied k ≡ true) → waits_fit n waits occupied i ≡ true
unfolding waits_fit
fits_all waits occupied zero i h = refl
fits_all waits occupied (suc n) i h = rw (h i (omega arith)) (fits_all waits occupied n (i + 1) (λ k l. h k (omega arith)))

fits_one : (m : QueueMemory) (i : ℕ) → Sized (wait_at m i) → (taken i (conn_of m).table.occupied ≡ false → anything (wait_at m i) ≡ false)
    → wait_fits m.waits (conn_of m).table.occupied i ≡ true
unfolding wait_fits wait_at anything
fits_one m i s f = rw (le-leb (wait_at m i).count ROOM s.count_fits) (go (taken i (conn_of m).table.occupied) refl)
  where
    go : (b : Bool) → taken i (conn_of m).table.occupied ≡ b → (if b then true else not (anything (wait_at m i))) ≡ true
    go true e = refl
    go false e = rw (f e)

-- where nothing waits anywhere
no_bit : (i : ℕ) → taken i 0 ≡ false
no_bit i = taken_out 0 i 0 (omega arith) (omega arith)

pub nobody_count : (i : ℕ) → count_at nobody_waits i ≡ 0
unfolding count_at
nobody_count i = rw (no_bit i)

pub nobody_at : (m : QueueMemory) (i : ℕ) → m.waits ≡ nobody_waits → anything (wait_at m i) ≡ false
unfolding anything wait_at count_at front_at last_at
nobody_at m i e = rw (e, no_bit i)

free_at : (m : QueueMemory) (i : ℕ) (o : Bool) → (conn_of m).«open» ≡ o → QueueSteady m → i < SLOTS → taken i (conn_of m).table.occupied ≡ false → anything (wait_at m i) ≡ false
free_at m i true o z h e = slot_free m i z o h e
free_at m i false o z h e = nobody_at m i (z.dropped o)

-- such a state is in shape
pub queue_shape : (m : QueueMemory) → QueueSteady m → queue_in_shape m ≡ true
unfolding queue_in_shape
queue_shape m z =
    rw z.steady.shape
    (fits_all m.waits (conn_of m).table.occupied SLOTS 0 (λ k l. let h : k < SLOTS = omega arith in fits_one m k (z.sized k h) (λ e. free_at m k (conn_of m).«open» refl z h e)))

-- ---- a step
closed_refusal : (m : Memory) → Steady m → m.state.conn.«open» ≡ false → step_refusal m.state.conn m.store ≡ 1
unfolding step_refusal
closed_refusal m z o = rw (eq-eqb (length m.store) STORE z.sizes.full, z.shape, o)

refusal_open : (m : QueueMemory) → QueueSteady m → (conn_of m).«open» ≡ true → queue_step_refusal m ≡ 0
unfolding queue_step_refusal
refusal_open m z o = rw (eq-eqb (length m.memory.store) STORE z.steady.sizes.full, queue_shape m z, o)

refusal_closed : (m : QueueMemory) → QueueSteady m → (conn_of m).«open» ≡ false → queue_step_refusal m ≡ 1
unfolding queue_step_refusal
refusal_closed m z o = rw (eq-eqb (length m.memory.store) STORE z.steady.sizes.full, queue_shape m z, o)

-- In a run the queue changes nothing of a step.
pub queue_step_is : (m : QueueMemory) (piece : List ℕ) → QueueSteady m → queue_step m piece ≡ stepped m.memory.state m.memory.store piece
unfolding queue_step
queue_step_is m piece z = by_test (conn_of m).«open» (λ o. rw (refusal_open m z o))
    (λ o.
    let one = closed_refusal m.memory z.steady o in
    let none : step_refusal (conn_of m) m.memory.store ≡ 0 → ⊥ = λ e. let y : ◌≡◌ {A = ℕ} 1 0 = sym one ∙ e in omega arith in
    rw (refusal_closed m z o) (sym (step_refused m.memory.state m.memory.store piece none ∙ ap (λ n. stays n m.memory.state m.memory.store) one)))

pub linked_state : (m : Memory) (piece : List ℕ) → Linked m (StepOver piece) → loaded_of (memory_of (step_of m piece)) ≡ state_after receiver (loaded_of m) (byte_items (take (step_of m piece).used piece))
unfolding memory_after items_of
linked_state m piece k = k.state

-- ---- what a call or a step keeps of what waits
-- where the connection is open behind it, and where it does nothing to it: all
pub kept_open : (b : Bool) (w : List ℕ) → kept_waits b true w ≡ w
kept_open true w = refl
kept_open false w = refl

pub kept_same : (b : Bool) (w : List ℕ) → kept_waits b b w ≡ w
kept_same true w = refl
kept_same false w = refl

-- all of it or nothing
pub kept_either : (P : List ℕ → Type 0) (a b : Bool) (w : List ℕ) → P w → P nobody_waits → P (kept_waits a b w)
kept_either P true true w h n = h
kept_either P true false w h n = n
kept_either P false b w h n = h

-- nothing where it is closed behind it
kept_closed : (a : Bool) (w : List ℕ) → (a ≡ false → w ≡ nobody_waits) → kept_waits a false w ≡ nobody_waits
kept_closed true w h = refl
kept_closed false w h = h refl

same_waiting : (m : QueueMemory) (n : Memory) → n.state.conn.«open» ≡ true → waiting_of (with_memory m n) ≡ waiting_of m
unfolding wait_at
same_waiting m n o = rw (o, kept_open (conn_of m).«open» m.waits)

-- with another memory: what waits stays, or is dropped by a close
pub with_memory_lem : (m : QueueMemory) (n : Memory) → loaded_queue (with_memory m n) ≡ lift_connection (waiting_of m) (loaded_of n)
with_memory_lem m n = go n.state.conn.«open» refl
  where
    go : (o : Bool) → n.state.conn.«open» ≡ o → loaded_queue (with_memory m n) ≡ lift_connection (waiting_of m) (loaded_of n)
    go true o = ap (λ (f : Waiting). lift_connection f (loaded_of n)) (same_waiting m n o)
    go false o = ap (lift_connection (waiting_of (with_memory m n))) (closed_loaded n o) ∙ sym (ap (lift_connection (waiting_of m)) (closed_loaded n o))

-- the state behind a step: the machine's, and every request keeps what waits
pub step_loaded : (m : QueueMemory) (piece : List ℕ) → QueueSteady m → AllBytes piece
    → loaded_queue (queue_after m (QueueStep piece)) ≡ state_after queueing_receiver (loaded_queue m) (byte_items (take (queue_step m piece).used piece))
unfolding queue_after
step_loaded m piece z all =
    let k = step_linked m.memory piece z.steady all in
    let x = take (step_of m.memory piece).used piece in
    let r = lift_bytes (waiting_of m) x (loaded_of m.memory) z.free in
    let n = memory_of (step_of m.memory piece) in
    let same : loaded_of n ≡ state_after receiver (loaded_of m.memory) (byte_items x) = linked_state m.memory piece k in
    rw (queue_step_is m piece z) (with_memory_lem m n ∙ ap (lift_connection (waiting_of m)) same ∙ sym r.state)

-- ---- what every state fulfils, behind a step
sized_kept : (m : QueueMemory) (n : Memory) (i : ℕ) → Sized (wait_at m i) → Sized (wait_at (with_memory m n) i)
unfolding wait_at
sized_kept m n i s =
    kept_either (λ w. Sized (wait_at (beside n w m.marks m.queue) i)) (conn_of m).«open» n.state.conn.«open» m.waits
    (record { count_fits = s.count_fits; bytes_size = s.bytes_size; marks_size = s.marks_size })
    (record { count_fits = rw (nobody_count i) (omega arith); bytes_size = s.bytes_size; marks_size = s.marks_size })

free_kept : (m : QueueMemory) (n : Memory) (o : Bool) → n.state.conn.«open» ≡ o → FreeIn (waiting_of m) (loaded_of n) → FreeIn (waiting_of (with_memory m n)) (loaded_of n)
free_kept m n true o h = subst (λ f. FreeIn f (loaded_of n)) (sym (same_waiting m n o)) h
free_kept m n false o h = subst (λ w. FreeIn (waiting_of (with_memory m n)) w) (sym (closed_loaded n o)) tt

-- with another memory below
pub steady_with : (m : QueueMemory) (n : Memory) → QueueSteady m → Steady n → FreeIn (waiting_of m) (loaded_of n) → QueueSteady (with_memory m n)
steady_with m n z s f = record {
  steady = s;
  sized = λ i h. sized_kept m n i (z.sized i h);
  free = free_kept m n n.state.conn.«open» refl f;
  dropped = λ o. rw o (kept_closed (conn_of m).«open» m.waits z.dropped);
}

pub linked_steady : (m : Memory) (piece : List ℕ) → Linked m (StepOver piece) → Steady (memory_of (step_of m piece))
unfolding memory_after
linked_steady m piece k = k.steady

-- A step keeps it.
pub step_steady : (m : QueueMemory) (piece : List ℕ) → QueueSteady m → AllBytes piece → QueueSteady (queue_after m (QueueStep piece))
unfolding queue_after
step_steady m piece z all =
    let k = step_linked m.memory piece z.steady all in
    let x = take (step_of m.memory piece).used piece in
    let r = lift_bytes (waiting_of m) x (loaded_of m.memory) z.free in
    let n = memory_of (step_of m.memory piece) in
    let same : loaded_of n ≡ state_after receiver (loaded_of m.memory) (byte_items x) = linked_state m.memory piece k in
    rw (queue_step_is m piece z) (steady_with m n z (linked_steady m.memory piece k) (rw same r.free))

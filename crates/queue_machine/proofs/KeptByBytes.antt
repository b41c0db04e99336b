-- Bytes keep what waits of R: whoever holds a slot goes on holding it with the same waiting, and for whoever is opened
-- nothing waits. An opening that is refused changes nothing of R.
use Rattle.std.specs.Prelude.{◌≡◌, refl, List, [], ◌∷◌, ℕ}
use Rattle.std.proofs.Common.{ap, sym, ◌∙◌, subst}
use Rattle.machine.specs.Slots.{SlotState, Vacant, HeldBy, Lookup, Absent, FoundAt, lookup, slot_at, LookupRight, lookup_right}
use Rattle.machine.specs.Timeline.{ByteItem, byte_items}
use Rattle.machine.specs.Machine.{HeaderOutcome, Decided, BeginOutcome, Declined, Accepted, Slots, Connection, Open, Closed, on_item, state_after, request_found, request_in}
use Rattle.machine.proofs.RunLaws.{closed_stays}
use Rattle.machine.specs.Shape.{SlotsOk, WellShaped}
use Rattle.machine.proofs.ShapeSlots.{lookup_absent}
use Rattle.machine_queue.specs.Waiting.{waits_in}
use Rattle.machine_queue.proofs.Everywhere.{any_header, any_reading, AfterHeader, AfterBegin, Property, Holds, byte_holds}
use Rattle.connection.specs.declared.request.Due.{Due}
use Rattle.connection.specs.Request.{Held}
use Rattle.connection.specs.Bytewise.{Note}
use Rattle.connection.specs.Runs.Receiver.{receive_header, receive_begin}
use Rattle.queue_slot.specs.Atoms.{Atom}
use Rattle.queue_machine.specs.Queued.{Queued, queued, lifted_header, queued_header, queued_byte, lifted_begin, queued_begin, queueing_receiver, waiting_queue}
use Rattle.queue_machine.proofs.EndsRight.{ends_laws}

-- A slot before and after: it is held by the same id with the same waiting; or it was free, and then nothing waits
-- in it.
abbrev SameWaits : SlotState (List ℕ) Queued → SlotState (List ℕ) Queued → Type 0
SameWaits (Vacant y) (Vacant x) = Unit {0}
SameWaits (Vacant y) (HeldBy id r) = r.waiting ≡ []
SameWaits (HeldBy k q) (Vacant x) = ⊥
SameWaits (HeldBy k q) (HeldBy id r) = (id ≡ k) × (r.waiting ≡ q.waiting)

same_itself : (s : SlotState (List ℕ) Queued) → SameWaits s s
same_itself (Vacant x) = tt
same_itself (HeldBy id r) = (refl, refl)

-- another request with the same waiting
same_put : (s : SlotState (List ℕ) Queued) (id : ℕ) (r q : Queued) → q.waiting ≡ r.waiting → SameWaits s (HeldBy id r) → SameWaits s (HeldBy id q)
same_put (Vacant y) id r q e h = e ∙ h
same_put (HeldBy k p) id r q e h = (h.0, e ∙ h.1)

lifted_same : (s : SlotState (List ℕ) Queued) (id : ℕ) (o : HeaderOutcome Held Due Note) (r : Queued) → SameWaits s (HeldBy id r) → AfterHeader queueing_receiver (λ q. SameWaits s (HeldBy id q)) (lifted_header o r.waiting)
lifted_same s id (Decided h e k) r w = same_put s id r (queued h r.waiting) refl w

header_same : (t c : ℕ) (s : SlotState (List ℕ) Queued) (id : ℕ) (r : Queued) → SameWaits s (HeldBy id r) → AfterHeader queueing_receiver (λ q. SameWaits s (HeldBy id q)) (queued_header t c r)
unfolding queued_header
header_same t c s id r w = lifted_same s id (receive_header t c r.held) r w

byte_same : (k : Due) (b : ℕ) (s : SlotState (List ℕ) Queued) (id : ℕ) (r : Queued) → SameWaits s (HeldBy id r) → SameWaits s (HeldBy id (queued_byte k b r).0)
unfolding queued_byte
byte_same k b s id r w = same_put s id r _ refl w

opened_same : (s : SlotState (List ℕ) Queued) (id : ℕ) (x : List ℕ) (o : BeginOutcome (List ℕ) Held Note) → SameWaits s (Vacant x) → AfterBegin queueing_receiver (λ f. SameWaits s (HeldBy id (f x))) (lifted_begin o)
opened_same s id x (Declined e) w = tt
opened_same (Vacant y) id x (Accepted f e) w = refl
opened_same (HeldBy k q) id x (Accepted f e) w = absurd w

begin_same : (id : ℕ) (g : List ℕ) (s : SlotState (List ℕ) Queued) (x : List ℕ) → SameWaits s (Vacant x) → AfterBegin queueing_receiver (λ f. SameWaits s (HeldBy id (f x))) (queued_begin id g)
unfolding queued_begin
begin_same id g s x w = opened_same s id x (receive_begin id g) w

-- every slot, against what it was among these
abbrev kept_waits_lem : Slots queueing_receiver → Property queueing_receiver
kept_waits_lem T =
    record {
      IdOk = λ id. Unit {0};
      Ok = λ i s. SameWaits (slot_at queueing_receiver.clean T i) s;
      header_keeps = λ t c i id r w. header_same t c (slot_at queueing_receiver.clean T i) id r w;
      byte_keeps = λ k b i id r w. byte_same k b (slot_at queueing_receiver.clean T i) id r w;
      begin_keeps = λ id g i x u w. begin_same id g (slot_at queueing_receiver.clean T i) x w;
    }

bytes_hold : (T : Slots queueing_receiver) (x : List ℕ) (s : Connection queueing_receiver) → Holds queueing_receiver (kept_waits_lem T) s → Holds queueing_receiver (kept_waits_lem T) (state_after queueing_receiver s (byte_items x))
unfolding state_after byte_items
bytes_hold T [] s h = h
bytes_hold T (b ∷ x) s h = bytes_hold T x (on_item queueing_receiver s (ByteItem b)).0 (byte_holds queueing_receiver (kept_waits_lem T) s b (any_header queueing_receiver (kept_waits_lem T) (λ id. tt) s b) h)

-- ---- R's slot
-- R is found in the slot that it holds
held_found : (R : ℕ) (T : Slots queueing_receiver) (i : ℕ) (r : Queued) → SlotsOk queueing_receiver ends_laws T → slot_at queueing_receiver.clean T i ≡ HeldBy R r → lookup R T ≡ FoundAt i r
held_found R T i r ok e = go (lookup R T) refl (lookup_right queueing_receiver.clean R T)
  where
    go : (o : Lookup Queued) → lookup R T ≡ o → LookupRight queueing_receiver.clean R T o → o ≡ FoundAt i r
    go Absent d h = absurd (lookup_absent queueing_receiver ends_laws R T d i r e)
    go (FoundAt j q) d h =
        let x : j ≡ i = ok.once j i R q r h e in
        let y : HeldBy R q ≡ HeldBy R r = sym h ∙ ap (slot_at queueing_receiver.clean T) x ∙ e in
        let z : q ≡ r = cc in
        rw (x, z)

-- what waits of whoever was found
abbrev waits_found : Lookup Queued → List Atom
waits_found o = waits_in queueing_receiver waiting_queue (request_found queueing_receiver o)

slots_keep : (R : ℕ) (T U : Slots queueing_receiver) → SlotsOk queueing_receiver ends_laws U → ((i : ℕ) → SameWaits (slot_at queueing_receiver.clean T i) (slot_at queueing_receiver.clean U i))
    → waits_found (lookup R U) ≡ waits_found (lookup R T)
unfolding waits_in request_found
slots_keep R T U ok same = go (lookup R T) refl (lookup_right queueing_receiver.clean R T)
  where
    there : (i : ℕ) (q : Queued) (s : SlotState (List ℕ) Queued) → slot_at queueing_receiver.clean U i ≡ s → SameWaits (HeldBy R q) s → waits_found (lookup R U) ≡ q.waiting
    there i q (Vacant x) e h = absurd h
    there i q (HeldBy id r) e h = ap waits_found (held_found R U i r ok (e ∙ ap (λ k. HeldBy k r) h.0)) ∙ h.1

    opened : lookup R T ≡ Absent → (j : ℕ) (r : Queued) (s : SlotState (List ℕ) Queued) → slot_at queueing_receiver.clean T j ≡ s → SameWaits s (HeldBy R r) → r.waiting ≡ []
    opened a j r (Vacant y) e h = h
    opened a j r (HeldBy k q) e h = absurd (lookup_absent queueing_receiver ends_laws R T a j q (e ∙ ap (λ n. HeldBy n q) (sym h.0)))

    gone : lookup R T ≡ Absent → (o : Lookup Queued) → LookupRight queueing_receiver.clean R U o → waits_found o ≡ []
    gone a Absent h = refl
    gone a (FoundAt j r) h = opened a j r (slot_at queueing_receiver.clean T j) refl (subst (λ s. SameWaits (slot_at queueing_receiver.clean T j) s) h (same j))

    go : (o : Lookup Queued) → lookup R T ≡ o → LookupRight queueing_receiver.clean R T o → waits_found (lookup R U) ≡ waits_found o
    go Absent d h = gone d (lookup R U) (lookup_right queueing_receiver.clean R U)
    go (FoundAt i q) d h = there i q (slot_at queueing_receiver.clean U i) refl (subst (λ s. SameWaits s (slot_at queueing_receiver.clean U i)) h (same i))

-- Bytes after which the connection is open keep what waits of R.
pub bytes_keep : (R : ℕ) (x : List ℕ) (s u : Connection queueing_receiver) → state_after queueing_receiver s (byte_items x) ≡ u → WellShaped queueing_receiver ends_laws u → (u ≡ Closed → ⊥)
    → waits_in queueing_receiver waiting_queue (request_in queueing_receiver R u) ≡ waits_in queueing_receiver waiting_queue (request_in queueing_receiver R s)
unfolding request_in
bytes_keep R x s Closed e w o = absurd (o refl)
bytes_keep R x Closed (Open U G) e w o = absurd (o (sym e ∙ closed_stays queueing_receiver (byte_items x)))
bytes_keep R x (Open T F) (Open U G) e w o =
    let h = bytes_hold T x (Open T F) ((λ i. same_itself (slot_at queueing_receiver.clean T i)), any_reading queueing_receiver (kept_waits_lem T) (λ id. tt) F) in
    let k = subst (λ v. Holds queueing_receiver (kept_waits_lem T) v) e h in
    slots_keep R T U w.0 k.0

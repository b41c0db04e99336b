-- What is observed of calls and serves on the machine with a queue.
use Rattle.std.specs.Prelude.{◌≡◌, refl, [], ◌∷◌, Bool, true, false, ℕ, suc, set, eqb, if◌then◌else◌}
use Rattle.std.proofs.Common.{ap, sym, ◌∙◌, subst, arith, get_or-set_other, eqb-true, eq-eqb}
use Rattle.std.proofs.Math.Option.{Option, none, some}
use Rattle.std.proofs.lemmas.Bool.{eqb-false}
use Rattle.wire.specs.Test.{by_test}
use Rattle.machine.specs.Slots.{Vacant, HeldBy, Lookup, Absent, FoundAt, lookup_further, lookup, slot_at, LookupRight, lookup_right, slot_written}
use Rattle.machine.specs.Timeline.{RequestCall, CallItem}
use Rattle.machine.specs.Machine.{Slots, Reading, Connection, Open, Closed, CallOutcome, Stays, Retires, Leaves, Closes, Observation, CallAnswer, call_decided, request_called, on_item, request_found, request_in}
use Rattle.machine.specs.Shape.{SlotsOk, WellShaped}
use Rattle.record.specs.Names.{END_REQUEST}
use Rattle.record_writer.specs.Written.{record_bytes}
use Rattle.queue_slot.specs.Atoms.{Next, NoNext, NextEnd, NextData, NextLast, next}
use Rattle.queue_machine.specs.Queued as Q
use Rattle.queue_machine.specs.Queued.{outcome_answer, Queued, Asked, Serve, QueueAnswer, queueing_receiver}
use Rattle.queue_machine.proofs.EndsRight.{ends_laws}
use Rattle.queue_link.proofs.LinkedStraight.{answer_in}

-- ---- the slot of an id, written to
further_found : (o : Lookup Queued) (i : ℕ) (r : Queued) → lookup_further o ≡ FoundAt i r → (j : ℕ) × (i ≡ suc j) × (o ≡ FoundAt j r)
unfolding lookup_further
further_found Absent i r e = let z : ◌≡◌ {A = ℕ} 0 1 = cc in absurd (omega arith)
further_found (FoundAt j q) i r e = let a : i ≡ suc j = cc in let b : q ≡ r = cc in (j, a, ap (FoundAt j) b)

-- a request that is put back is found again
pub found_again : (id : ℕ) (T : Slots queueing_receiver) (i : ℕ) (r q : Queued) → lookup id T ≡ FoundAt i r → lookup id (set T i (HeldBy id q)) ≡ FoundAt i q
unfolding lookup lookup_further
found_again id [] i r q e = let z : ◌≡◌ {A = ℕ} 0 1 = cc in absurd (omega arith)
found_again id (Vacant x ∷ T) i r q e =
    let k = further_found (lookup id T) i r e in
    rw k.1 (ap lookup_further (found_again id T k.0 r q k.2))
found_again id (HeldBy j p ∷ T) i r q e = go (eqb j id) refl e (λ i d. found_again id T i r q d)
  where
    go : (b : Bool) → eqb j id ≡ b → (if b then FoundAt 0 p else lookup_further (lookup id T)) ≡ FoundAt i r
        → ((i : ℕ) → lookup id T ≡ FoundAt i r → lookup id (set T i (HeldBy id q)) ≡ FoundAt i q) → lookup id (set (HeldBy j p ∷ T) i (HeldBy id q)) ≡ FoundAt i q
    go true d e f = let z : 0 ≡ i = cc in rw (← z, eq-eqb id id refl)
    go false d e f = let k = further_found (lookup id T) i r e in rw (k.1, d) (ap lookup_further (f k.0 k.2))

-- one that leaves is not
pub gone : (id : ℕ) (T : Slots queueing_receiver) (i : ℕ) (r : Queued) → SlotsOk queueing_receiver ends_laws T → lookup id T ≡ FoundAt i r → lookup id (set T i (Vacant queueing_receiver.clean)) ≡ Absent
gone id T i r ok e = go (lookup id U) refl
  where
    U : Slots queueing_receiver
    U = set T i (Vacant queueing_receiver.clean)

    here : slot_at queueing_receiver.clean T i ≡ HeldBy id r
    here = subst (λ o. LookupRight queueing_receiver.clean id T o) e (lookup_right queueing_receiver.clean id T)

    go : (o : Lookup Queued) → lookup id U ≡ o → lookup id U ≡ Absent
    go Absent d = d
    go (FoundAt j q) d =
        let there : slot_at queueing_receiver.clean U j ≡ HeldBy id q = subst (λ o. LookupRight queueing_receiver.clean id U o) d (lookup_right queueing_receiver.clean id U) in
        by_test (eqb j i)
        (λ s.
        let w : slot_at queueing_receiver.clean U j ≡ Vacant queueing_receiver.clean = ap (slot_at queueing_receiver.clean U) (eqb-true j i s) ∙ slot_written queueing_receiver.clean T i id r (Vacant queueing_receiver.clean) here in
        let z : ◌≡◌ {A = ℕ} 0 1 = cc (w, there) in absurd (omega arith))
        (λ s.
        let n = eqb-false j i s in
        let w : slot_at queueing_receiver.clean T j ≡ HeldBy id q = sym (get_or-set_other T i j (Vacant queueing_receiver.clean) (Vacant queueing_receiver.clean) n) ∙ there in
        absurd (n (ok.once j i id q r w here)))

-- ---- a call
-- what a call with this answer shows
abbrev pub Seen : Connection queueing_receiver → ℕ → Asked → Type 0
Seen s id a =
    (on_item queueing_receiver s (CallItem (RequestCall id a))).1
    ≡ some (CallAnswer id a (answer_in (on_item queueing_receiver s (CallItem (RequestCall id a))).1) (request_in queueing_receiver id s) (request_in queueing_receiver id (on_item queueing_receiver s (CallItem (RequestCall id a))).0))

decided_seen : (o : CallOutcome Queued QueueAnswer) (i : ℕ) (r : Queued) (id : ℕ) (a : Asked) (T : Slots queueing_receiver) (F : Reading queueing_receiver) → SlotsOk queueing_receiver ends_laws T → lookup id T ≡ FoundAt i r
    → (call_decided queueing_receiver o i r id a T F).1
    ≡ some (CallAnswer id a (answer_in (call_decided queueing_receiver o i r id a T F).1) (some r) (request_in queueing_receiver id (call_decided queueing_receiver o i r id a T F).0))
unfolding call_decided answer_in request_in request_found
decided_seen (Stays q n) i r id a T F ok e = rw (found_again id T i r q e)
decided_seen (Retires q n) i r id a T F ok e = rw (found_again id T i r q e)
decided_seen (Leaves n) i r id a T F ok e = rw (gone id T i r ok e)
decided_seen (Closes n) i r id a T F ok e = refl

-- A call shows its answer, and the request before and after it.
pub call_seen : (s : Connection queueing_receiver) (id : ℕ) (a : Asked) → WellShaped queueing_receiver ends_laws s → Seen s id a
unfolding on_item request_called answer_in request_in request_found
call_seen Closed id a w = refl
call_seen (Open T F) id a w = go (lookup id T) refl
  where
    go : (o : Lookup Queued) → lookup id T ≡ o → Seen (Open T F) id a
    go Absent e = rw e (ap (λ o. some (CallAnswer id a (queueing_receiver.when_inactive a) none (request_found queueing_receiver o))) (sym e))
    go (FoundAt i r) e = rw e (decided_seen (queueing_receiver.on_call a r) i r id a T F w.0 e)

-- whatever a serve shows, it is nothing that is heard
-- (a serve's observation is a call's, and its call a serve)
abbrev pub is_served : ℕ → Option (Observation queueing_receiver) → Type 0
is_served id o = (n : QueueAnswer) × (v : Option Queued) × (w : Option Queued) × (o ≡ some (CallAnswer id Serve n v w))

served_decided : (o : CallOutcome Queued QueueAnswer) (i : ℕ) (r : Queued) (id : ℕ) (T : Slots queueing_receiver) (F : Reading queueing_receiver) → is_served id (call_decided queueing_receiver o i r id Serve T F).1
unfolding call_decided
served_decided (Stays q n) i r id T F = (n, some r, some q, refl)
served_decided (Retires q n) i r id T F = (n, some r, some q, refl)
served_decided (Leaves n) i r id T F = (n, some r, none, refl)
served_decided (Closes n) i r id T F = (n, some r, none, refl)

-- a serve is observed as a call
pub served_seen : (s : Connection queueing_receiver) (id : ℕ) → is_served id (on_item queueing_receiver s (CallItem (RequestCall id Serve))).1
unfolding on_item request_called
served_seen Closed id = (queueing_receiver.when_closed Serve, none, none, refl)
served_seen (Open T F) id = go (lookup id T)
  where
    go : (o : Lookup Queued) → is_served id (request_called queueing_receiver o id Serve T F).1
    go Absent = (queueing_receiver.when_inactive Serve, none, none, refl)
    go (FoundAt i r) = served_decided (queueing_receiver.on_call Serve r) i r id T F

-- a serve answers a record
abbrev pub answers_serve : QueueAnswer → Bool
answers_serve (Q.Straightly n) = false
answers_serve (Q.Queueing n) = false
answers_serve (Q.Record bytes) = true

serves_record : (r : Queued) (n : Next) → answers_serve (outcome_answer (Q.served r n)) ≡ true
unfolding Q.served
serves_record r NoNext = refl
serves_record r (NextEnd o l) = refl
serves_record r (NextData o content l) = refl
serves_record r (NextLast content l) = go r.held.request.state.keep (Q.Record (record_bytes END_REQUEST r.held.request.id content)) refl
  where
    go : (b : Bool) (n : QueueAnswer) → answers_serve n ≡ true → answers_serve (outcome_answer (if b then Leaves n else Closes n)) ≡ true
    go true n e = e
    go false n e = e

abbrev pub RecordServed : ℕ → Option (Observation queueing_receiver) → Type 0
RecordServed id o = (n : QueueAnswer) × (v : Option Queued) × (w : Option Queued) × (o ≡ some (CallAnswer id Serve n v w)) × (answers_serve n ≡ true)

record_decided : (o : CallOutcome Queued QueueAnswer) (i : ℕ) (r : Queued) (id : ℕ) (T : Slots queueing_receiver) (F : Reading queueing_receiver) → answers_serve (outcome_answer o) ≡ true → RecordServed id (call_decided queueing_receiver o i r id Serve T F).1
unfolding call_decided
record_decided (Stays q n) i r id T F e = (n, some r, some q, refl, e)
record_decided (Retires q n) i r id T F e = (n, some r, some q, refl, e)
record_decided (Leaves n) i r id T F e = (n, some r, none, refl, e)
record_decided (Closes n) i r id T F e = (n, some r, none, refl, e)

-- and answered by a record
pub served_record : (s : Connection queueing_receiver) (id : ℕ) → RecordServed id (on_item queueing_receiver s (CallItem (RequestCall id Serve))).1
unfolding on_item request_called Q.refused_by Q.queued_call
served_record Closed id = (Q.Record [], none, none, refl, refl)
served_record (Open T F) id = go (lookup id T)
  where
    go : (o : Lookup Queued) → RecordServed id (request_called queueing_receiver o id Serve T F).1
    go Absent = (Q.Record [], none, none, refl, refl)
    go (FoundAt i r) = record_decided (Q.served r (next r.waiting)) i r id T F (serves_record r (next r.waiting))

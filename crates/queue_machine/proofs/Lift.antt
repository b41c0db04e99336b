-- Bytes touch nothing that waits: on bytes the receiver with a queue is the receiver without one, each request keeping
-- what waits.
use Rattle.std.specs.Prelude.{◌≡◌, refl, List, [], ◌∷◌, ◌++◌, Bool, true, false, ℕ, zero, suc, ◌<◌, length, set, eqb, ltb, if◌then◌else◌}
use Rattle.std.proofs.Common.{ap, ap₂, sym, ◌∙◌, arith}
use Rattle.std.proofs.Math.Option.{Option, none, some}
use Rattle.machine.specs.Slots.{SlotState, Vacant, HeldBy, Lookup, Absent, FoundAt, Vacancy, NoVacancy, VacancyAt, lookup_further, vacancy_further, lookup, first_vacancy, slot_at}
use Rattle.machine.specs.Timeline.{header_version, header_type, header_id, header_content, header_padding}
use Rattle.machine.specs.Machine.{QueryOutcome, Asks, Breaks, HeaderOutcome, Decided, BeginOutcome, Declined, Accepted, InactiveOutcome, WrongBegin, NewBegin, PassedOver, ManagementOutcome, QueryTooLong, Notices, Gathers, Target, Skip, ToBegin, ToQuery, ToSlot, Reading, AtHeader, PastHeader, Slots, Connection, Open, Closed, Observation, RequestEvent, NoticeEvent, CloseEvent, CountAnswer, CallAnswer, Effect, event_from, with_left, query_whole, query_header, management_header, inactive_header, target_at, header_decided, header_found, header_routed, header_versioned, header_byte, request_seated, begin_whole, stream_byte, content_byte, record_byte}
use Rattle.connection.specs.declared.request.Due.{Due}
use Rattle.connection.specs.Request.{Held}
use Rattle.connection.specs.Bytewise.{Note}
use Rattle.connection.specs.Runs.Receiver.{receiver, Notice, receive_header, receive_byte, receive_begin, receive_query, receive_management, receive_inactive}
use Rattle.queue_slot.specs.Atoms.{Atom}
use Rattle.queue_machine.specs.Queued.{Queued, queued, lifted_header, queued_header, queued_byte, lifted_begin, queued_begin, queueing_receiver}

-- what waits in each slot
abbrev pub Waiting : Type 0
Waiting = ℕ → List Atom

-- ---- states
abbrev pub lift_slot : List Atom → SlotState (List ℕ) Held → SlotState (List ℕ) Queued
lift_slot l (Vacant x) = Vacant x
lift_slot l (HeldBy id h) = HeldBy id (queued h l)

-- slot by slot
unfoldable pub lift_slots : Waiting → Slots receiver → Slots queueing_receiver
lift_slots f [] = []
lift_slots f (s ∷ T) = lift_slot (f 0) s ∷ lift_slots (λ j. f (suc j)) T

-- what content goes to
abbrev pub lift_target : Target receiver → Target queueing_receiver
lift_target Skip = Skip
lift_target (ToBegin id g) = ToBegin id g
lift_target (ToQuery g) = ToQuery g
lift_target (ToSlot i k) = ToSlot i k

-- where it reads
abbrev pub lift_reading : Reading receiver → Reading queueing_receiver
lift_reading (AtHeader h) = AtHeader h
lift_reading (PastHeader s c p) = PastHeader (lift_target s) c p

-- the connection
abbrev pub lift_connection : Waiting → Connection receiver → Connection queueing_receiver
lift_connection f (Open T F) = Open (lift_slots f T) (lift_reading F)
lift_connection f Closed = Closed

-- what bytes show (no calls)
abbrev pub lift_observation : Option (Observation receiver) → Option (Observation queueing_receiver)
lift_observation none = none
lift_observation (some (RequestEvent id e)) = some (RequestEvent id e)
lift_observation (some (NoticeEvent w)) = some (NoticeEvent w)
lift_observation (some (CloseEvent n)) = some (CloseEvent n)
lift_observation (some (CountAnswer n)) = none
lift_observation (some (CallAnswer id a n v w)) = none

-- an effect
abbrev pub lift_effect : Waiting → Effect receiver → Effect queueing_receiver
lift_effect f e = (lift_connection f e.0, lift_observation e.1)

-- nothing waits in a free slot
pub data NothingFree : Waiting → Slots receiver → Type 0 where
  FreeEnd : {f : Waiting} → NothingFree f []
  FreeVacant : {f : Waiting} {T : Slots receiver} {x : List ℕ} → f 0 ≡ [] → NothingFree (λ j. f (suc j)) T → NothingFree f (Vacant x ∷ T)
  FreeHeld : {f : Waiting} {T : Slots receiver} {id : ℕ} {h : Held} → NothingFree (λ j. f (suc j)) T → NothingFree f (HeldBy id h ∷ T)

-- ---- slots
abbrev pub lift_lookup : Waiting → Lookup Held → Lookup Queued
lift_lookup f Absent = Absent
lift_lookup f (FoundAt j h) = FoundAt j (queued h (f j))

lift_further : (f : Waiting) (o : Lookup Held) → lift_lookup f (lookup_further o) ≡ lookup_further (lift_lookup (λ j. f (suc j)) o)
unfolding lookup_further
lift_further f Absent = refl
lift_further f (FoundAt j h) = refl

-- the slot of an id
pub lift_lookup_lem : (f : Waiting) (id : ℕ) (T : Slots receiver) → lookup id (lift_slots f T) ≡ lift_lookup f (lookup id T)
unfolding lookup lift_slots
lift_lookup_lem f id [] = refl
lift_lookup_lem f id (Vacant x ∷ T) = ap lookup_further (lift_lookup_lem (λ j. f (suc j)) id T) ∙ sym (lift_further f (lookup id T))
lift_lookup_lem f id (HeldBy j h ∷ T) = go (eqb j id) (lift_lookup_lem (λ j. f (suc j)) id T)
  where
    go : (k : Bool) → lookup id (lift_slots (λ j. f (suc j)) T) ≡ lift_lookup (λ j. f (suc j)) (lookup id T) → (if k then FoundAt 0 (queued h (f 0)) else lookup_further (lookup id (lift_slots (λ j. f (suc j)) T))) ≡ lift_lookup f (if k then FoundAt 0 h else lookup_further (lookup id T))
    go true e = refl
    go false e = ap lookup_further e ∙ sym (lift_further f (lookup id T))

-- the lowest free slot
pub lift_vacancy : (f : Waiting) (T : Slots receiver) → first_vacancy (lift_slots f T) ≡ first_vacancy T
unfolding first_vacancy lift_slots
lift_vacancy f [] = refl
lift_vacancy f (Vacant x ∷ T) = refl
lift_vacancy f (HeldBy j h ∷ T) = ap vacancy_further (lift_vacancy (λ j. f (suc j)) T)

-- a slot that is written
pub lift_set : (f : Waiting) (T : Slots receiver) (i : ℕ) (s : SlotState (List ℕ) Held) → lift_slots f (set T i s) ≡ set (lift_slots f T) i (lift_slot (f i) s)
unfolding lift_slots
lift_set f [] i s = refl
lift_set f (x ∷ T) zero s = refl
lift_set f (x ∷ T) (suc i) s = ap (λ l. lift_slot (f 0) x ∷ l) (lift_set (λ j. f (suc j)) T i s)

-- a slot
pub lift_at : (f : Waiting) (T : Slots receiver) (i : ℕ) → slot_at receiver.clean (lift_slots f T) i ≡ lift_slot (f i) (slot_at receiver.clean T i)
unfolding lift_slots
lift_at f [] i = refl
lift_at f (x ∷ T) zero = refl
lift_at f (x ∷ T) (suc i) = lift_at (λ j. f (suc j)) T i

-- the free slot that is found has nothing waiting
abbrev VacancyFree : Waiting → Vacancy (List ℕ) → Type 0
VacancyFree f NoVacancy = Unit {0}
VacancyFree f (VacancyAt i x) = f i ≡ []

vacancy_further_lem : (f : Waiting) (o : Vacancy (List ℕ)) → VacancyFree (λ j. f (suc j)) o → VacancyFree f (vacancy_further o)
unfolding vacancy_further
vacancy_further_lem f NoVacancy h = tt
vacancy_further_lem f (VacancyAt i x) h = h

vacancy_free : {f : Waiting} {T : Slots receiver} → NothingFree f T → VacancyFree f (first_vacancy T)
unfolding first_vacancy
vacancy_free FreeEnd = tt
vacancy_free (FreeVacant e h) = e
vacancy_free {f} (FreeHeld {T = T} h) = vacancy_further_lem f (first_vacancy T) (vacancy_free h)

-- ---- bytes
lift_left : (s : Target receiver) (c p : ℕ) → lift_reading (with_left receiver s c p) ≡ with_left queueing_receiver (lift_target s) c p
unfolding with_left
lift_left s zero zero = refl
lift_left s zero (suc p) = refl
lift_left s (suc c) p = refl

lift_event : (id : ℕ) (e : Option Note) → lift_observation (event_from receiver id e) ≡ event_from queueing_receiver id e
unfolding event_from
lift_event id none = refl
lift_event id (some e) = refl

lift_query : (f : Waiting) (o : QueryOutcome Notice) (T : Slots receiver) (F : Reading receiver) → query_whole queueing_receiver o (lift_slots f T) (lift_reading F) ≡ lift_effect f (query_whole receiver o T F)
unfolding query_whole
lift_query f (Breaks place) T F = refl
lift_query f (Asks w) T F = refl

lift_query_header : (f : Waiting) (c p : ℕ) (T : Slots receiver) → query_header queueing_receiver c (lift_slots f T) p ≡ lift_effect f (query_header receiver c T p)
unfolding query_header
lift_query_header f zero p T = ap (λ F. query_whole queueing_receiver (receive_query []) (lift_slots f T) F) (sym (lift_left Skip zero p)) ∙ lift_query f (receive_query []) T (with_left receiver Skip zero p)
lift_query_header f (suc c) p T = refl

lift_management : (f : Waiting) (o : ManagementOutcome Notice) (T : Slots receiver) (h : List ℕ) → management_header queueing_receiver o (lift_slots f T) h ≡ lift_effect f (management_header receiver o T h)
unfolding management_header
lift_management f QueryTooLong T h = refl
lift_management f (Notices w) T h = ap (λ F. (Open (lift_slots f T) F, some (NoticeEvent w))) (sym (lift_left Skip (header_content h) (header_padding h)))
lift_management f Gathers T h = lift_query_header f (header_content h) (header_padding h) T

lift_inactive : (f : Waiting) (o : InactiveOutcome) (T : Slots receiver) (h : List ℕ) → inactive_header queueing_receiver o (lift_slots f T) h ≡ lift_effect f (inactive_header receiver o T h)
unfolding inactive_header
lift_inactive f WrongBegin T h = refl
lift_inactive f PassedOver T h = ap (λ F. (Open (lift_slots f T) F, none)) (sym (lift_left Skip (header_content h) (header_padding h)))
lift_inactive f NewBegin T h = ap (λ F. (Open (lift_slots f T) F, none)) (sym (lift_left (ToBegin (header_id h) []) (header_content h) (header_padding h)))

lift_target_lem : (i : ℕ) (k : Option Due) → target_at queueing_receiver i k ≡ lift_target (target_at receiver i k)
unfolding target_at
lift_target_lem i none = refl
lift_target_lem i (some k) = refl

lift_decided : (f : Waiting) (o : HeaderOutcome Held Due Note) (i : ℕ) (T : Slots receiver) (h : List ℕ) → header_decided queueing_receiver (lifted_header o (f i)) i (lift_slots f T) h ≡ lift_effect f (header_decided receiver o i T h)
unfolding header_decided
lift_decided f (Decided r e k) i T h =
    rw (lift_target_lem i k, ← (lift_left (target_at receiver i k) (header_content h) (header_padding h)), ← (lift_event (header_id h) e), ← (lift_set f T i (HeldBy (header_id h) r))) refl

lift_found : (f : Waiting) (o : Lookup Held) (T : Slots receiver) (h : List ℕ) → header_found queueing_receiver (lift_lookup f o) (lift_slots f T) h ≡ lift_effect f (header_found receiver o T h)
unfolding header_found queued_header
lift_found f Absent T h = lift_inactive f (receive_inactive (header_type h) (header_content h)) T h
lift_found f (FoundAt i r) T h = lift_decided f (receive_header (header_type h) (header_content h) r) i T h

lift_routed : (f : Waiting) (o : Bool) (T : Slots receiver) (h : List ℕ) → header_routed queueing_receiver o (lift_slots f T) h ≡ lift_effect f (header_routed receiver o T h)
unfolding header_routed
lift_routed f true T h = lift_management f (receive_management (header_type h) (header_content h)) T h
lift_routed f false T h = ap (λ o. header_found queueing_receiver o (lift_slots f T) h) (lift_lookup_lem f (header_id h) T) ∙ lift_found f (lookup (header_id h) T) T h

lift_versioned : (f : Waiting) (o : Bool) (T : Slots receiver) (h : List ℕ) → header_versioned queueing_receiver o (lift_slots f T) h ≡ lift_effect f (header_versioned receiver o T h)
unfolding header_versioned
lift_versioned f false T h = refl
lift_versioned f true T h = lift_routed f (eqb (header_id h) 0) T h

lift_header : (f : Waiting) (o : Bool) (T : Slots receiver) (h : List ℕ) → header_byte queueing_receiver o (lift_slots f T) h ≡ lift_effect f (header_byte receiver o T h)
unfolding header_byte
lift_header f true T h = refl
lift_header f false T h = lift_versioned f (eqb (header_version h) 1) T h

-- a BEGIN body: the new request has nothing waiting, as its slot had nothing
lift_seated : (f : Waiting) (o : Vacancy (List ℕ)) (id : ℕ) (r : List ℕ → Held) (e : Note) (T : Slots receiver) (F : Reading receiver) → VacancyFree f o
    → request_seated queueing_receiver o id (λ area. queued (r area) []) e (lift_slots f T) (lift_reading F) ≡ lift_effect f (request_seated receiver o id r e T F)
unfolding request_seated
lift_seated f NoVacancy id r e T F h = refl
lift_seated f (VacancyAt i x) id r e T F h =
    ap (λ S. (Open S (lift_reading F), some (RequestEvent id e))) (ap (λ l. set (lift_slots f T) i (HeldBy id (queued (r x) l))) (sym h) ∙ sym (lift_set f T i (HeldBy id (r x))))

lift_begin : (f : Waiting) (o : BeginOutcome (List ℕ) Held Note) (id : ℕ) (T : Slots receiver) (F : Reading receiver) → NothingFree f T
    → begin_whole queueing_receiver (lifted_begin o) id (lift_slots f T) (lift_reading F) ≡ lift_effect f (begin_whole receiver o id T F)
unfolding begin_whole
lift_begin f (Declined e) id T F h = refl
lift_begin f (Accepted r e) id T F h =
    ap (λ o. request_seated queueing_receiver o id (λ area. queued (r area) []) e (lift_slots f T) (lift_reading F)) (lift_vacancy f T) ∙ lift_seated f (first_vacancy T) id r e T F (vacancy_free h)

lift_stream : (f : Waiting) (s : SlotState (List ℕ) Held) (i : ℕ) (k : Due) (c p b : ℕ) (T : Slots receiver)
    → stream_byte queueing_receiver (lift_slot (f i) s) i k c p b (lift_slots f T) ≡ lift_effect f (stream_byte receiver s i k c p b T)
unfolding stream_byte queued_byte
lift_stream f (Vacant x) i k c p b T = ap (λ F. (Open (lift_slots f T) F, none)) (sym (lift_left Skip c p))
lift_stream f (HeldBy id r) i k c p b T =
    ap₂ (λ S F. (Open S F, event_from queueing_receiver id (receive_byte k b r).1)) (sym (lift_set f T i (HeldBy id (receive_byte k b r).0))) (sym (lift_left (ToSlot i k) c p))
    ∙ ap (λ o. (Open (lift_slots f (set T i (HeldBy id (receive_byte k b r).0))) (lift_reading (with_left receiver (ToSlot i k) c p)), o)) (sym (lift_event id (receive_byte k b r).1))

lift_content : (f : Waiting) (s : Target receiver) (c p b : ℕ) (T : Slots receiver) → NothingFree f T → content_byte queueing_receiver (lift_target s) c p b (lift_slots f T) ≡ lift_effect f (content_byte receiver s c p b T)
unfolding content_byte queued_begin
lift_content f Skip c p b T h = ap (λ F. (Open (lift_slots f T) F, none)) (sym (lift_left Skip c p))
lift_content f (ToBegin id g) zero p b T h =
    ap (λ F. begin_whole queueing_receiver (lifted_begin (receive_begin id (g ++ b ∷ []))) id (lift_slots f T) F) (sym (lift_left Skip zero p)) ∙ lift_begin f (receive_begin id (g ++ b ∷ [])) id T (with_left receiver Skip zero p) h
lift_content f (ToBegin id g) (suc c) p b T h = refl
lift_content f (ToQuery g) zero p b T h =
    ap (λ F. query_whole queueing_receiver (receive_query (g ++ b ∷ [])) (lift_slots f T) F) (sym (lift_left Skip zero p)) ∙ lift_query f (receive_query (g ++ b ∷ [])) T (with_left receiver Skip zero p)
lift_content f (ToQuery g) (suc c) p b T h = refl
lift_content f (ToSlot i k) c p b T h = ap (λ s. stream_byte queueing_receiver s i k c p b (lift_slots f T)) (lift_at f T i) ∙ lift_stream f (slot_at receiver.clean T i) i k c p b T

-- One byte.
pub lift_byte : (f : Waiting) (T : Slots receiver) (F : Reading receiver) (b : ℕ) → NothingFree f T → record_byte queueing_receiver (lift_slots f T) (lift_reading F) b ≡ lift_effect f (record_byte receiver T F b)
unfolding record_byte
lift_byte f T (AtHeader g) b h = lift_header f (ltb (length (g ++ b ∷ [])) 8) T (g ++ b ∷ [])
lift_byte f T (PastHeader s (suc c) p) b h = lift_content f s c p b T h
lift_byte f T (PastHeader s zero (suc p)) b h = ap (λ F. (Open (lift_slots f T) F, none)) (sym (lift_left s zero p))
lift_byte f T (PastHeader s zero zero) b h = refl

-- ---- the slots of the machine, with another list in one of them
-- the same lists in all slots
pub lift_same : (f g : Waiting) (T : Slots receiver) → ((j : ℕ) → j < length T → g j ≡ f j) → lift_slots g T ≡ lift_slots f T
unfolding lift_slots
lift_same f g [] e = refl
lift_same f g (x ∷ T) e = ap₂ (λ l k. lift_slot l x ∷ k) (e 0 (omega arith)) (lift_same (λ j. f (suc j)) (λ j. g (suc j)) T (λ j h. e (suc j) (omega arith)))

-- a slot that is written, with what waits in it
pub lift_changed : (f g : Waiting) (T : Slots receiver) (i : ℕ) (s : SlotState (List ℕ) Held) → ((j : ℕ) → j < length T → (j ≡ i → ⊥) → g j ≡ f j)
    → lift_slots g (set T i s) ≡ set (lift_slots f T) i (lift_slot (g i) s)
unfolding lift_slots
lift_changed f g [] i s e = refl
lift_changed f g (x ∷ T) zero s e = ap (λ k. lift_slot (g 0) s ∷ k) (lift_same (λ j. f (suc j)) (λ j. g (suc j)) T (λ j h. e (suc j) (omega arith) (λ z. omega arith)))
lift_changed f g (x ∷ T) (suc i) s e =
    ap₂ (λ l k. lift_slot l x ∷ k) (e 0 (omega arith) (λ z. omega arith)) (lift_changed (λ j. f (suc j)) (λ j. g (suc j)) T i s (λ j h d. e (suc j) (omega arith) (λ z. d (omega arith))))

-- How two runs go together: the whole run, with all requests, and the purged run, which has R alone. What holds of
-- their states after each item.
use Rattle.std.specs.Prelude.{◌≡◌, List, [], ◌∷◌, ◌++◌, Bool, true, false, replicate, eqb, if◌then◌else◌}
use Rattle.std.proofs.Math.Path.{refl}
use Rattle.std.proofs.Math.Option.{Option, none, some}
use Prim.Native.Nat.{ℕ, zero, suc}
use Rattle.std.proofs.Common.{eq-eqb, ne_eqb}
use Rattle.machine.specs.Slots.{SlotState, Vacant, HeldBy, Absent, FoundAt, lookup, slot_at, OfOthers, Contains, ContainsVacant, ContainsOwn, contains_absent, own_slot, contains_none}
use Rattle.machine.specs.Timeline.{header_id, Scan, ScanHeader, ScanRest, scan_left}
use Rattle.machine.specs.Machine.{Decided, Declined, Accepted, Stays, Retires, Leaves, Machine, Target, Skip, ToBegin, ToQuery, ToSlot, Reading, AtHeader, PastHeader, Slots, Connection, Open, Closed, Observation, RequestEvent, CallAnswer, Effect, event_from, with_left, as_list, concerns, observed, request_found, request_in}

module _ (M : Machine) (R : ℕ) where
  open M use {Leftover, clean, Request, Stream, Event, Argument, Answer, on_header, on_byte, on_begin, overloaded, on_call, when_inactive}

  -- ---- the states
  -- the first slot of the purged run: held by R, or free
  abbrev pub alone_slot : Option Request → SlotState Leftover Request
  alone_slot none = Vacant clean
  alone_slot (some r) = HeldBy R r

  -- the slots of the purged run: R holds the first, or nobody holds any
  abbrev pub alone_slots : ℕ → Option Request → Slots M
  alone_slots n v = alone_slot v ∷ replicate n (Vacant clean)

  -- Where content goes in a record of R: to nobody in both runs, to a BEGIN body of R in both while R is not active,
  -- or to the same stream of R, in its slot there and in slot 0 here.
  pub data SameTargets (T : Slots M) : Option Request → Target M → Target M → Type 0 where
    SameSkip : {v : Option Request} → SameTargets T v Skip Skip
    SameBegin : {g : List ℕ} → SameTargets T none (ToBegin R g) (ToBegin R g)
    SameSlot : {r : Request} {i : ℕ} {k : Stream} → lookup R T ≡ FoundAt i r → SameTargets T (some r) (ToSlot i k) (ToSlot 0 k)

  -- Where content goes in a record of others: not to R.
  pub data OthersTarget (T : Slots M) : Target M → Type 0 where
    OthersSkip : OthersTarget T Skip
    OthersBegin : {id : ℕ} {g : List ℕ} → (id ≡ R → ⊥) → OthersTarget T (ToBegin id g)
    OthersQuery : {g : List ℕ} → OthersTarget T (ToQuery g)
    OthersSlot : {i : ℕ} {k : Stream} → OfOthers clean R (slot_at clean T i) → OthersTarget T (ToSlot i k)

  -- Where the two runs read, with l the bytes of the whole run that still come: both in the same header if it is R's,
  -- and the purged run between records if it is not; both as far in a record of R; the purged run between records
  -- while the whole run is in a record of others.
  pub data Readings (T : Slots M) (l : List ℕ) (v : Option Request) : Scan → Reading M → Reading M → Type 0 where
    BothInHeader : {h : List ℕ} (k : Bool) → eqb (header_id (h ++ l)) R ≡ k → Readings T l v (ScanHeader h) (AtHeader h) (AtHeader (if k then h else []))
    InOwnRecord : {s s' : Target M} {c p : ℕ} → SameTargets T v s s' → Readings T l v (ScanRest true c p) (PastHeader s c p) (PastHeader s' c p)
    InOthersRecord : {s : Target M} {c p : ℕ} → OthersTarget T s → Readings T l v (ScanRest false c p) (PastHeader s c p) (AtHeader [])

  -- ---- the life of R
  -- What an item does to R, as its machine decides, with what is observed of it.
  pub data LifeStep : Option Request → Option (Observation M) → Option Request → Type 0 where
    NothingHappens : {v : Option Request} → LifeStep v none v
    OwnHeader : {r q : Request} {e : Option Event} {k : Option Stream} (t c : ℕ) → on_header t c r ≡ Decided q e k → LifeStep (some r) (event_from M R e) (some q)
    OwnByte : {r : Request} (k : Stream) (b : ℕ) → LifeStep (some r) (event_from M R (on_byte k b r).1) (some (on_byte k b r).0)
    IsDeclined : {e : Event} (g : List ℕ) → on_begin R g ≡ Declined e → LifeStep none (some (RequestEvent R e)) none
    IsAccepted : {f : Leftover → Request} {e : Event} (g : List ℕ) → on_begin R g ≡ Accepted f e → LifeStep none (some (RequestEvent R e)) (some (f clean))
    CallInactive : (a : Argument) → LifeStep none (some (CallAnswer R a (when_inactive a) none none)) none
    CallStays : {r q : Request} {n : Answer} (a : Argument) → on_call a r ≡ Stays q n → LifeStep (some r) (some (CallAnswer R a n (some r) (some q))) (some q)
    CallRetires : {r q : Request} {n : Answer} (a : Argument) → on_call a r ≡ Retires q n → LifeStep (some r) (some (CallAnswer R a n (some r) (some q))) (some q)
    CallLeaves : {r : Request} {n : Answer} (a : Argument) → on_call a r ≡ Leaves n → LifeStep (some r) (some (CallAnswer R a n (some r) none)) none

  -- ---- one item in both runs
  -- The effects A in the whole run and B in the purged run: the states still go together, and the same of R is
  -- observed. v₀ is R before the item, m where the whole run stands after it.
  pub record StepTogether (v₀ : Option Request) (n : ℕ) (l : List ℕ) (m : Scan) (A B : Effect M) : Type 0 where
    pub slots : Slots M
    pub reading : Reading M
    pub request : Option Request
    pub alone_reading : Reading M
    pub is_whole : A.0 ≡ Open slots reading
    pub is_alone : B.0 ≡ Open (alone_slots n request) alone_reading
    pub contains : Contains clean R slots request
    pub readings : Readings slots l request m reading alone_reading
    pub same_observed : observed M R (as_list M A.1) ≡ observed M R (as_list M B.1)
    pub life : LifeStep v₀ B.1 request

  -- the whole run takes an item of others, and the purged run stays between two records
  abbrev pub PurgedWaits : Option Request → ℕ → List ℕ → Scan → Effect M → Type 0
  PurgedWaits v n l m A = StepTogether v n l m A (Open (alone_slots n v) (AtHeader []), none)

  -- both runs take the item
  pub together : {T : Slots M} {v₀ v : Option Request} {m : Scan} {l : List ℕ} {F F' : Reading M} {os ps : Option (Observation M)} {n : ℕ}
      → Contains clean R T v → Readings T l v m F F' → observed M R (as_list M os) ≡ observed M R (as_list M ps) → LifeStep v₀ ps v
      → StepTogether v₀ n l m (Open T F, os) (Open (alone_slots n v) F', ps)
  together {T} {v = v} {m} {l} {F} {F'} s f e w =
      record { slots = T; reading = F; request = v; alone_reading = F'; is_whole = refl; is_alone = refl; contains = s; readings = f; same_observed = e; life = w }

  -- only the whole run takes it, and it is nothing to R
  pub waits : {T : Slots M} {v : Option Request} {m : Scan} {l : List ℕ} {F F' : Reading M} {os : Option (Observation M)} {n : ℕ}
      → Contains clean R T v → Readings T l v m F F' → observed M R (as_list M os) ≡ observed M R (as_list M none)
      → StepTogether v n l m (Open T F, os) (Open (alone_slots n v) F', none)
  waits s f e = together s f e NothingHappens

  -- ---- first facts
  -- both runs between two records
  pub between_records_lem : {T : Slots M} {l : List ℕ} {v : Option Request} → Readings T l v (ScanHeader []) (AtHeader []) (AtHeader [])
  between_records_lem {T} {l} {v} = go (eqb (header_id l) R) refl
    where
      go : (k : Bool) → eqb (header_id l) R ≡ k → Readings T l v (ScanHeader []) (AtHeader []) (AtHeader [])
      go true e = BothInHeader true e
      go false e = BothInHeader false e

  -- both runs with as much left of a record of R
  pub own_left : {T : Slots M} {l : List ℕ} {v : Option Request} {s s' : Target M} (c p : ℕ) → SameTargets T v s s'
      → Readings T l v (scan_left true c p) (with_left M s c p) (with_left M s' c p)
  unfolding scan_left with_left
  own_left zero zero h = between_records_lem
  own_left zero (suc p) h = InOwnRecord SameSkip
  own_left (suc c) p h = InOwnRecord h

  -- the whole run with so much left of a record of others
  pub others_left : {T : Slots M} {l : List ℕ} {v : Option Request} {s : Target M} (c p : ℕ) → OthersTarget T s
      → Readings T l v (scan_left false c p) (with_left M s c p) (AtHeader [])
  unfolding scan_left with_left
  others_left zero zero h = between_records_lem
  others_left zero (suc p) h = InOthersRecord OthersSkip
  others_left (suc c) p h = InOthersRecord h

  -- an event of others is not observed of R
  pub others_event : (id : ℕ) (es : Option Event) → (id ≡ R → ⊥) → observed M R (as_list M (event_from M id es)) ≡ []
  unfolding observed event_from concerns as_list
  others_event id none n = refl
  others_event id (some e) n = rw (ne_eqb id R n)

  -- ---- the premises on the whole run
  -- it stays open
  abbrev pub LeftOpen : Effect M → Type 0
  LeftOpen A = A.0 ≡ Closed → ⊥

  -- R is not refused for want of a slot
  abbrev pub NotOverloaded : Effect M → Type 0
  NotOverloaded A = A.1 ≡ some (RequestEvent R overloaded) → ⊥

  -- ---- R in both runs
  -- R alone is found in slot 0
  pub alone_found : (n : ℕ) (r : Request) → lookup R (alone_slots n (some r)) ≡ FoundAt 0 r
  unfolding lookup
  alone_found n r = rw (eq-eqb R R refl)

  pub alone_absent : (n : ℕ) → lookup R (alone_slots n none) ≡ Absent
  alone_absent n = contains_absent clean (ContainsVacant refl (contains_none clean R n))

  -- the request of R in a state
  pub contains_request : {T : Slots M} (v : Option Request) (F : Reading M) → Contains clean R T v → request_in M R (Open T F) ≡ v
  unfolding request_in request_found
  contains_request none F s = rw (contains_absent clean s)
  contains_request (some r) F s = rw (own_slot clean s).is_found_lem

  pub alone_request : (n : ℕ) (v : Option Request) (F : Reading M) → request_in M R (Open (alone_slots n v) F) ≡ v
  alone_request n none F = contains_request none F (contains_none clean R (suc n))
  alone_request n (some r) F = contains_request (some r) F (ContainsOwn (contains_none clean R n))

  -- a slot that is found for another id is of others
  pub found_of_others : (T : Slots M) (id i : ℕ) (r : Request) → (id ≡ R → ⊥) → slot_at clean T i ≡ HeldBy id r → OfOthers clean R (slot_at clean T i)
  found_of_others T id i r e h = rw h e

  -- the purged run takes an item if it is R's, and stays as it is if not
  abbrev pub when_own : Bool → Effect M → Connection M → Effect M
  when_own true A s = A
  when_own false A s = (s, none)

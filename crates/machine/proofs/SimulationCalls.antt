-- A call in both runs: those that name R are made in both, others in the whole run only.
use Rattle.std.specs.Prelude.{◌≡◌, List, Bool, true, false, ℕ, set, eqb, if◌then◌else◌}
use Rattle.std.proofs.Math.Path.{refl}
use Rattle.std.proofs.Common.{◌∙◌, eqb-true, eq-eqb, ne_eqb}
use Rattle.std.proofs.Math.Option.{Option, none, some}
use Rattle.std.proofs.lemmas.Bool.{eqb-false}
use Rattle.machine.specs.Slots.{SlotState, Vacant, HeldBy, Lookup, Absent, FoundAt, lookup, slot_at, OfOthers, Contains, contains_absent, OwnSlot, own_slot, LookupRight, lookup_right, contains_set, lookup_set, others_set, others_not_own, others_kept}
use Rattle.machine.specs.Timeline.{Call, RequestCall, CountCall, CallItem, Scan, is_own_call}
use Rattle.machine.specs.Machine.{CallOutcome, Stays, Retires, Leaves, Closes, Machine, Skip, ToSlot, Reading, Slots, Open, target_without, reading_without, call_decided, request_called, on_item, as_list, concerns, observed}
use Rattle.machine.proofs.SimulationRelation.{alone_slots, SameSkip, SameBegin, SameSlot, OthersTarget, OthersSkip, OthersBegin, OthersQuery, OthersSlot, Readings, BothInHeader, InOwnRecord, InOthersRecord, CallInactive, CallStays, CallRetires, CallLeaves, StepTogether, together, waits, LeftOpen, alone_found, alone_absent, found_of_others, when_own}

module _ (M : Machine) (R : ℕ) where
  open M use {Leftover, clean, Request, Stream, Argument, Answer, on_call}

  -- ---- where the runs read, when a slot is written between two bytes
  -- others write into a slot of theirs
  readings_others : {T : Slots M} {l : List ℕ} {v : Option Request} {m : Scan} {F F' : Reading M} (i : ℕ) (s : SlotState Leftover Request)
      → OfOthers clean R (slot_at clean T i) → OfOthers clean R s
      → Readings M R T l v m F F' → Readings M R (set T i s) l v m F F'
  readings_others i s f g (BothInHeader k e) = BothInHeader k e
  readings_others i s f g (InOwnRecord SameSkip) = InOwnRecord SameSkip
  readings_others i s f g (InOwnRecord SameBegin) = InOwnRecord SameBegin
  readings_others {T} i s f g (InOwnRecord (SameSlot e)) = InOwnRecord (SameSlot (lookup_set clean R T i s f g ∙ e))
  readings_others i s f g (InOthersRecord OthersSkip) = InOthersRecord OthersSkip
  readings_others i s f g (InOthersRecord (OthersBegin d)) = InOthersRecord (OthersBegin d)
  readings_others i s f g (InOthersRecord OthersQuery) = InOthersRecord OthersQuery
  readings_others {T} i s f g (InOthersRecord (OthersSlot {i = j} h)) = InOthersRecord (OthersSlot (others_set clean R T i j s g h))

  found_own : (T : Slots M) (i : ℕ) (r : Request) → lookup R T ≡ FoundAt i r → slot_at clean T i ≡ HeldBy R r
  found_own T i r e = let h : LookupRight clean R T (FoundAt i r) = rw e at (lookup_right clean R T) in h

  others_without : (T : Slots M) (j : ℕ) (k : Stream) (o : Bool) → OfOthers clean R (slot_at clean T j) → OthersTarget M R T (if o then Skip else ToSlot j k)
  others_without T j k true h = OthersSkip
  others_without T j k false h = OthersSlot h

  -- others leave their slot, or stay in it: content for it is skipped
  readings_others_leave : {T : Slots M} {l : List ℕ} {v : Option Request} {m : Scan} {F F' : Reading M} (i : ℕ) (s : SlotState Leftover Request)
      → OfOthers clean R (slot_at clean T i) → OfOthers clean R s
      → Readings M R T l v m F F' → Readings M R (set T i s) l v m (reading_without M i F) F'
  unfolding reading_without target_without
  readings_others_leave i s f g (BothInHeader k e) = BothInHeader k e
  readings_others_leave i s f g (InOwnRecord SameSkip) = InOwnRecord SameSkip
  readings_others_leave i s f g (InOwnRecord SameBegin) = InOwnRecord SameBegin
  readings_others_leave {T} i s f g (InOwnRecord (SameSlot {r = r} {i = j} e)) =
      let d : i ≡ j → ⊥ = λ x. others_not_own clean R r (slot_at clean T i) (rw x (found_own T j r e)) f in
      rw (ne_eqb i j d) (InOwnRecord (SameSlot (lookup_set clean R T i s f g ∙ e)))
  readings_others_leave i s f g (InOthersRecord OthersSkip) = InOthersRecord OthersSkip
  readings_others_leave i s f g (InOthersRecord (OthersBegin d)) = InOthersRecord (OthersBegin d)
  readings_others_leave i s f g (InOthersRecord OthersQuery) = InOthersRecord OthersQuery
  readings_others_leave {T} i s f g (InOthersRecord (OthersSlot {i = j} {k = k} h)) =
      InOthersRecord (others_without (set T i s) j k (eqb i j) (others_set clean R T i j s g h))

  -- R is written back into its slot
  readings_own : {T : Slots M} {l : List ℕ} {r : Request} {m : Scan} {F F' : Reading M} (q : OwnSlot clean R T r) (x : Request)
      → Readings M R T l (some r) m F F' → Readings M R (set T q.index (HeldBy R x)) l (some x) m F F'
  readings_own q x (BothInHeader k e) = BothInHeader k e
  readings_own q x (InOwnRecord SameSkip) = InOwnRecord SameSkip
  readings_own q x (InOwnRecord (SameSlot {i = i} e)) =
      let y : q.index ≡ i = cc q.is_found_lem in
      rw (← y) (InOwnRecord (SameSlot (q.found_again x)))
  readings_own q x (InOthersRecord OthersSkip) = InOthersRecord OthersSkip
  readings_own q x (InOthersRecord (OthersBegin d)) = InOthersRecord (OthersBegin d)
  readings_own q x (InOthersRecord OthersQuery) = InOthersRecord OthersQuery
  readings_own {T} {r = r} q x (InOthersRecord (OthersSlot {i = j} h)) = InOthersRecord (OthersSlot (others_kept clean R T q.index j r (HeldBy R x) q.is_there h))

  -- R leaves its slot, or stays in it, in both runs: content for it is skipped
  readings_own_leaves : {T : Slots M} {l : List ℕ} {r : Request} {m : Scan} {F F' : Reading M} (q : OwnSlot clean R T r) (s : SlotState Leftover Request) (w : Option Request)
      → Readings M R T l (some r) m F F' → Readings M R (set T q.index s) l w m (reading_without M q.index F) (reading_without M 0 F')
  unfolding reading_without target_without
  readings_own_leaves q s w (BothInHeader k e) = BothInHeader k e
  readings_own_leaves q s w (InOwnRecord SameSkip) = InOwnRecord SameSkip
  readings_own_leaves q s w (InOwnRecord (SameSlot {i = i} {k = k} e)) =
      let y : q.index ≡ i = cc q.is_found_lem in
      rw (eq-eqb q.index i y) (InOwnRecord SameSkip)
  readings_own_leaves q s w (InOthersRecord OthersSkip) = InOthersRecord OthersSkip
  readings_own_leaves q s w (InOthersRecord (OthersBegin d)) = InOthersRecord (OthersBegin d)
  readings_own_leaves q s w (InOthersRecord OthersQuery) = InOthersRecord OthersQuery
  readings_own_leaves {T} {r = r} q s w (InOthersRecord (OthersSlot {i = j} {k = k} h)) =
      InOthersRecord (others_without (set T q.index s) j k (eqb q.index j) (others_kept clean R T q.index j r s q.is_there h))

  -- ---- calls
  -- a call that names R
  own_call_decided : {T : Slots M} {r : Request} {m : Scan} {F F' : Reading M} (n : ℕ) (l : List ℕ) (o : CallOutcome Request Answer) (a : Argument) (q : OwnSlot clean R T r)
      → on_call a r ≡ o → Readings M R T l (some r) m F F' → LeftOpen M R (call_decided M o q.index r R a T F)
      → StepTogether M R (some r) n l m (call_decided M o q.index r R a T F) (call_decided M o 0 r R a (alone_slots M R n (some r)) F')
  unfolding call_decided
  own_call_decided n l (Stays x y) a q w f d = together M R (q.rewritten x) (readings_own q x f) refl (CallStays a w)
  own_call_decided n l (Retires x y) a q w f d = together M R (q.rewritten x) (readings_own_leaves q (HeldBy R x) (some x) f) refl (CallRetires a w)
  own_call_decided n l (Leaves y) a q w f d = together M R q.vacated (readings_own_leaves q (Vacant clean) none f) refl (CallLeaves a w)
  own_call_decided n l (Closes y) a q w f d = absurd (d refl)

  own_call : {T : Slots M} (v : Option Request) {m : Scan} {F F' : Reading M} (n : ℕ) (l : List ℕ) (a : Argument) → Contains clean R T v → Readings M R T l v m F F'
      → LeftOpen M R (request_called M (lookup R T) R a T F)
      → StepTogether M R v n l m (request_called M (lookup R T) R a T F) (request_called M (lookup R (alone_slots M R n v)) R a (alone_slots M R n v) F')
  unfolding request_called
  own_call none n l a s f d = rw (contains_absent clean s, alone_absent M R n) (together M R s f refl (CallInactive a))
  own_call (some r) n l a s f d =
      let q = own_slot clean s in rw (q.is_found_lem, alone_found M R n r) (own_call_decided n l (on_call a r) a q refl f (rw q.is_found_lem at d))

  -- a call that names another id
  others_call_decided : {T : Slots M} {v : Option Request} {m : Scan} {F F' : Reading M} (n : ℕ) (l : List ℕ) (o : CallOutcome Request Answer) (i : ℕ) (r : Request) (id : ℕ) (a : Argument)
      → Contains clean R T v → Readings M R T l v m F F' → (id ≡ R → ⊥) → OfOthers clean R (slot_at clean T i)
      → LeftOpen M R (call_decided M o i r id a T F) → StepTogether M R v n l m (call_decided M o i r id a T F) (Open (alone_slots M R n v) F', none)
  unfolding call_decided observed as_list concerns
  others_call_decided n l (Stays x y) i r id a s f e g d =
      waits M R (contains_set clean i (HeldBy id x) g e s) (readings_others i (HeldBy id x) g e f) (rw (ne_eqb id R e))
  others_call_decided n l (Retires x y) i r id a s f e g d =
      waits M R (contains_set clean i (HeldBy id x) g e s) (readings_others_leave i (HeldBy id x) g e f) (rw (ne_eqb id R e))
  others_call_decided n l (Leaves y) i r id a s f e g d =
      waits M R (contains_set clean i (Vacant clean) g refl s) (readings_others_leave i (Vacant clean) g refl f) (rw (ne_eqb id R e))
  others_call_decided n l (Closes y) i r id a s f e g d = absurd (d refl)

  others_call : {T : Slots M} {v : Option Request} {m : Scan} {F F' : Reading M} (n : ℕ) (l : List ℕ) (o : Lookup Request) (id : ℕ) (a : Argument)
      → Contains clean R T v → Readings M R T l v m F F' → (id ≡ R → ⊥) → LookupRight clean id T o
      → LeftOpen M R (request_called M o id a T F) → StepTogether M R v n l m (request_called M o id a T F) (Open (alone_slots M R n v) F', none)
  unfolding request_called observed as_list concerns
  others_call n l Absent id a s f e g d = waits M R s f (rw (ne_eqb id R e))
  others_call {T} n l (FoundAt i r) id a s f e g d = others_call_decided n l (on_call a r) i r id a s f e (found_of_others M R T id i r e g) d

  request_call_together : {T : Slots M} {v : Option Request} {m : Scan} {F F' : Reading M} (n : ℕ) (l : List ℕ) (id : ℕ) (a : Argument) (o : Bool) → eqb id R ≡ o
      → Contains clean R T v → Readings M R T l v m F F' → LeftOpen M R (request_called M (lookup id T) id a T F)
      → StepTogether M R v n l m (request_called M (lookup id T) id a T F) (when_own M R o (request_called M (lookup id (alone_slots M R n v)) id a (alone_slots M R n v) F') (Open (alone_slots M R n v) F'))
  request_call_together {T} {v} n l id a true e s f d =
      let x : id ≡ R = eqb-true _ _ e in
      rw x (own_call v n l a s f (rw x at d))
  request_call_together {T} n l id a false e s f d = others_call n l (lookup id T) id a s f (eqb-false _ _ e) (lookup_right clean id T) d

  pub call_together : {T : Slots M} {v : Option Request} {m : Scan} {F F' : Reading M} (n : ℕ) (l : List ℕ) (c : Call M.Argument) → Contains clean R T v
      → Readings M R T l v m F F' → LeftOpen M R (on_item M (Open T F) (CallItem c))
      → StepTogether M R v n l m (on_item M (Open T F) (CallItem c)) (when_own M R (is_own_call R c) (on_item M (Open (alone_slots M R n v) F') (CallItem c)) (Open (alone_slots M R n v) F'))
  unfolding on_item is_own_call observed as_list concerns
  call_together n l (RequestCall id a) s f d = request_call_together n l id a (eqb id R) refl s f d
  call_together n l CountCall s f d = waits M R s f refl

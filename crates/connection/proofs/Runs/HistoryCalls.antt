-- Whether R takes PARAMS, and where a byte stands, as the history says it: for calls, and for every item.
use Rattle.std.specs.Prelude.{◌≡◌, List, [], ◌∷◌, Bool, set, ◌⊎◌, if◌then◌else◌}
use Rattle.std.proofs.Math.Path.{refl, ap, sym, subst}
use Rattle.std.proofs.Common.{◌∙◌, arith, inl, inr}
use Rattle.std.proofs.Math.Option.{none, some}
use Rattle.std.proofs.Math.Bool.{true, false}
use Prim.Native.Nat.{ℕ, zero, suc}
use Rattle.std.proofs.Math.Dec.{eqb}
use Rattle.wire.specs.Test.{by_test}
use Rattle.machine.specs.Slots.{SlotState, Vacant, HeldBy, slot_at, Lookup, Absent, FoundAt, lookup_further, lookup, LookupRight, lookup_right, lookup_set, slot_written}
use Rattle.machine.specs.Timeline.{Call, RequestCall, CountCall, Item, ByteItem, CallItem, Scan, ScanHeader, ScanRest}
use Rattle.machine.specs.Machine.{CallOutcome, Stays, Retires, Leaves, Closes, Target, Skip, ToBegin, ToQuery, ToSlot, Reading, AtHeader, PastHeader, Slots, Connection, Open, Closed, CallAnswer, on_item, fresh, record_byte, reading_without, call_decided, request_called, request_found, target_without}
use Rattle.connection.specs.declared.request.Due.{Due}
use Rattle.connection.specs.Sizes.{SLOTS}
use Rattle.connection.specs.Request.{Held}
use borrow.Author.Tests.{eqb-true, eqb-false, ne_eqb}
use Rattle.machine.specs.Shape.{IsAbsent, SlotsOk, WellShaped, EffectOk}
use Rattle.machine.proofs.ShapeSlots.{written_or_not, lookup_absent}
use Rattle.connection.specs.Arguments.{Argument, Answer}
use Rattle.connection.specs.Runs.Receiver.{clean_area, receiver, receive_call}
use Rattle.connection.proofs.Runs.ReceiverLaws.{receiver_laws}
use Rattle.connection.specs.History.{scan_params}
use Rattle.connection.specs.Runs.HistoryOnMachine.{scan_item, takes_then, content_by}
use Rattle.connection.proofs.Runs.HistoryRequest.{CallKeeps, call_keeps, refused_keeps, off, CallTakes, takes_call}
use Rattle.connection.proofs.Runs.HistoryTarget.{is_params_of, content_for, content_of, other_slot}
use Rattle.connection.proofs.Runs.HistoryScan.{takes_among, due_for, Placed, Agrees, Tracks, takes_held, takes_same, takes_absent, same_due, tracks_byte}

module _ (R : ℕ) where
  -- ---- calls
  -- a slot is written: what is due stays, if it does for that slot
  pub due_written : (T : Slots receiver) (i : ℕ) (o : SlotState (List ℕ) Held) (s : Target receiver) → ((due : Due) → is_params_of R o due ≡ is_params_of R (slot_at clean_area T i) due)
      → due_for R T s ≡ due_for R (set T i o) s
  due_written T i o Skip e = refl
  due_written T i o (ToBegin id g) e = refl
  due_written T i o (ToQuery g) e = refl
  due_written T i o (ToSlot j due) e = go (written_or_not (Vacant clean_area) T i j o)
    where
      go : ((j ≡ i) × (slot_at clean_area (set T i o) j ≡ o)) ⊎ (slot_at clean_area (set T i o) j ≡ slot_at clean_area T j)
          → is_params_of R (slot_at clean_area T j) due ≡ is_params_of R (slot_at clean_area (set T i o) j) due
      go (inl h) = ap (λ k. is_params_of R (slot_at clean_area T k) due) h.0 ∙ sym (e due) ∙ ap (λ s. is_params_of R s due) (sym h.1)
      go (inr h) = ap (λ s. is_params_of R s due) (sym h)

  placed_again : (T T' : Slots receiver) (F : Reading receiver) (m : Scan) → takes_among R T' ≡ takes_among R T → ((s : Target receiver) → due_for R T s ≡ due_for R T' s)
      → Placed R T F m → Placed R T' F m
  placed_again T T' (AtHeader h) m e f d = d
  placed_again T T' (PastHeader s zero p) m e f d = d
  placed_again T T' (PastHeader s (suc c) p) m e f d = (d.0, d.1, ap (λ k. if d.0 then k else false) e ∙ d.2 ∙ f s)

  pub placed_without : (T T' : Slots receiver) (i : ℕ) (F : Reading receiver) (m : Scan)
      → ((own : Bool) (s : Target receiver) → (if own then takes_among R T else false) ≡ due_for R T s → (if own then takes_among R T' else false) ≡ due_for R T' (target_without receiver i s))
      → Placed R T F m → Placed R T' (reading_without receiver i F) m
  unfolding reading_without
  placed_without T T' i (AtHeader h) m f d = d
  placed_without T T' i (PastHeader s zero p) m f d = d
  placed_without T T' i (PastHeader s (suc c) p) m f d = (d.0, d.1, f d.0 s d.2)

  -- R is in no slot: nothing is due to it
  pub slot_absent : (o : SlotState (List ℕ) Held) (due : Due) → ((h : Held) → o ≡ HeldBy R h → ⊥) → is_params_of R o due ≡ false
  slot_absent (Vacant x) due n = refl
  slot_absent (HeldBy id h) Due.Skip n = refl
  slot_absent (HeldBy id h) Due.Params n = ne_eqb id R (λ e. n h (ap (λ k. HeldBy k h) e))
  slot_absent (HeldBy id h) Due.Stdin n = refl
  slot_absent (HeldBy id h) Due.Data n = refl

  due_absent : (T : Slots receiver) (s : Target receiver) → IsAbsent receiver receiver_laws R T → due_for R T s ≡ false
  due_absent T Skip a = refl
  due_absent T (ToBegin id g) a = refl
  due_absent T (ToQuery g) a = refl
  due_absent T (ToSlot j due) a = slot_absent (slot_at clean_area T j) due (a j)

  -- R is finished: it is in no slot
  freed_absent : (T : Slots receiver) (i : ℕ) (h : Held) → SlotsOk receiver receiver_laws T → slot_at clean_area T i ≡ HeldBy R h → lookup R (set T i (Vacant clean_area)) ≡ Absent
  freed_absent T i h t d = go (lookup R (set T i (Vacant clean_area))) (lookup_right clean_area R (set T i (Vacant clean_area)))
    where
      go : (o : Lookup Held) → LookupRight clean_area R (set T i (Vacant clean_area)) o → o ≡ Absent
      go Absent r = refl
      go (FoundAt j q) r = which (written_or_not (Vacant clean_area) T i j (Vacant clean_area))
        where
          none_here : slot_at clean_area (set T i (Vacant clean_area)) j ≡ Vacant clean_area → FoundAt j q ≡ Absent
          none_here e =
              let y : ◌≡◌ {A = SlotState (List ℕ) Held} (Vacant clean_area) (HeldBy R q) = sym e ∙ r in
              let z : ◌≡◌ {A = ℕ} 0 1 = cc in
              absurd (omega arith)

          which : ((j ≡ i) × (slot_at clean_area (set T i (Vacant clean_area)) j ≡ Vacant clean_area)) ⊎ (slot_at clean_area (set T i (Vacant clean_area)) j ≡ slot_at clean_area T j) → FoundAt j q ≡ Absent
          which (inl e) = none_here e.1
          which (inr e) =
              let x : j ≡ i = t.once j i R q h (sym e ∙ r) d in
              none_here (ap (slot_at clean_area (set T i (Vacant clean_area))) x ∙ slot_written clean_area T i R h (Vacant clean_area) d)

  -- another is finished: what is due to R stays
  due_without : (T : Slots receiver) (i id : ℕ) (h : Held) (s : Target receiver) → slot_at clean_area T i ≡ HeldBy id h → (id ≡ R → ⊥)
      → due_for R T s ≡ due_for R (set T i (Vacant clean_area)) (target_without receiver i s)
  unfolding target_without
  due_without T i id h Skip d n = refl
  due_without T i id h (ToBegin k g) d n = refl
  due_without T i id h (ToQuery g) d n = refl
  due_without T i id h (ToSlot j due) d n =
      let idle : is_params_of R (slot_at clean_area T i) due ≡ false = ap (λ o. is_params_of R o due) d ∙ slot_absent (HeldBy id h) due (λ q e. n (cc)) in
      by_test (eqb i j)
      (λ e. let k : i ≡ j = eqb-true i j e in rw e (subst (λ k. is_params_of R (slot_at clean_area T k) due ≡ false) k idle))
      (λ e. rw e (due_written T i (Vacant clean_area) (ToSlot j due) (λ u. sym (ap (λ o. is_params_of R o u) d ∙ slot_absent (HeldBy id h) u (λ q e. n (cc))))))

  tracks_answer : (o : CallOutcome Held Answer) (i id : ℕ) (h : Held) (a : Argument) (T : Slots receiver) (F : Reading receiver) (m : Scan) → SlotsOk receiver receiver_laws T
      → slot_at clean_area T i ≡ HeldBy id h → CallKeeps h o → CallTakes h o → Placed R T F m → EffectOk receiver receiver_laws (call_decided receiver o i h id a T F)
      → Tracks R T m (call_decided receiver o i h id a T F)
  unfolding call_decided
  tracks_answer (Stays q n) i id h a T F m t d k l p w =
      (rw k.0 (sym same), placed_again T (set T i (HeldBy id q)) F m same (λ s. due_written T i (HeldBy id q) s (λ due. same_due R id q h due ∙ ap (λ o. is_params_of R o due) (sym d))) p)
    where
      own : eqb id R ≡ true → takes_among R (set T i (HeldBy id q)) ≡ takes_among R T
      own e =
          let r : id ≡ R = eqb-true id R e in
          let there = slot_written clean_area T i id h (HeldBy id q) d in
          takes_held R (set T i (HeldBy id q)) i q w.0 (subst (λ m. slot_at clean_area (set T i (HeldBy id q)) i ≡ HeldBy m q) r there) ∙ l
          ∙ sym (takes_held R T i h t (subst (λ m. slot_at clean_area T i ≡ HeldBy m h) r d))

      other : eqb id R ≡ false → takes_among R (set T i (HeldBy id q)) ≡ takes_among R T
      other e = let n = eqb-false id R e in takes_same R T (set T i (HeldBy id q)) (lookup_set clean_area R T i (HeldBy id q) (other_slot R T i id h d n) n)

      same : takes_among R (set T i (HeldBy id q)) ≡ takes_among R T
      same = by_test (eqb id R) own other
  tracks_answer (Retires q n) i id h a T F m t d k l p w = absurd k
  tracks_answer (Leaves n) i id h a T F m t d k l p w = by_test (eqb id R) own other
    where
      own : eqb id R ≡ true → Tracks R T m (Open (set T i (Vacant clean_area)) (reading_without receiver i F), some (CallAnswer id a n (some h) none))
      own e =
          let r : id ≡ R = eqb-true id R e in
          let gone = freed_absent T i h t (subst (λ m. slot_at clean_area T i ≡ HeldBy m h) r d) in
          let idle = takes_absent R (set T i (Vacant clean_area)) gone in
          let nobody = lookup_absent receiver receiver_laws R (set T i (Vacant clean_area)) gone in (
            rw (k.0, k.1, e) (sym idle),
            placed_without T (set T i (Vacant clean_area)) i F m (λ own s x. rw idle (sym (off own)) ∙ sym (due_absent (set T i (Vacant clean_area)) (target_without receiver i s) nobody)) p,
          )

      other : eqb id R ≡ false → Tracks R T m (Open (set T i (Vacant clean_area)) (reading_without receiver i F), some (CallAnswer id a n (some h) none))
      other e =
          let v = eqb-false id R e in
          let same : takes_among R (set T i (Vacant clean_area)) ≡ takes_among R T = takes_same R T (set T i (Vacant clean_area)) (lookup_set clean_area R T i (Vacant clean_area) (other_slot R T i id h d v) refl) in (
            rw (k.0, k.1, e) (sym same),
            placed_without T (set T i (Vacant clean_area)) i F m (λ own s x. ap (λ k. if own then k else false) same ∙ x ∙ due_without T i id h s d v) p,
          )
  tracks_answer (Closes n) i id h a T F m t d k l p w = rw (k.0, k.1)

  tracks_called : (o : Lookup Held) (id : ℕ) (a : Argument) (T : Slots receiver) (F : Reading receiver) (m : Scan) → SlotsOk receiver receiver_laws T → LookupRight clean_area id T o
      → Placed R T F m → EffectOk receiver receiver_laws (request_called receiver o id a T F)
      → Tracks R T m (request_called receiver o id a T F)
  unfolding request_called
  tracks_called Absent id a T F m t r p w = (rw (refused_keeps 3 a refl), p)
  tracks_called (FoundAt i h) id a T F m t r p w = tracks_answer (receive_call a h) i id h a T F m t r (call_keeps a h) (takes_call a h) p w

  -- ---- every item
  pub tracks_item : (s : Connection receiver) (m : Scan) (k : Bool) (x : (Item Argument)) → WellShaped receiver receiver_laws s → EffectOk receiver receiver_laws (on_item receiver s x)
      → Agrees R s m k
      → Agrees R (on_item receiver s x).0 (scan_item R m x) (takes_then R (on_item receiver s x).1 k)
  unfolding on_item
  tracks_item Closed m k (ByteItem b) h w e = e
  tracks_item Closed m k (CallItem (RequestCall id a)) h w e = rw (refused_keeps 1 a refl) e
  tracks_item Closed m k (CallItem CountCall) h w e = e
  tracks_item (Open T F) m k (ByteItem b) h w e =
      subst (λ k. Agrees R (record_byte receiver T F b).0 (scan_params R m b) (takes_then R (record_byte receiver T F b).1 k)) (sym e.0) (tracks_byte R T F m b h.0 h.1 e.1 w)
  tracks_item (Open T F) m k (CallItem (RequestCall id a)) h w e =
      let A = request_called receiver (lookup id T) id a T F in
      subst (λ k. Agrees R A.0 m (takes_then R A.1 k)) (sym e.0) (tracks_called (lookup id T) id a T F m h.0 (lookup_right clean_area id T) e.1 w)
  tracks_item (Open T F) m k (CallItem CountCall) h w e = e

  -- the content that the bytes say is what the target says
  content_for_lem : (T : Slots receiver) (s : Target receiver) (b : ℕ) → content_for R T s b ≡ (if due_for R T s then b ∷ [] else [])
  content_for_lem T Skip b = refl
  content_for_lem T (ToBegin id g) b = refl
  content_for_lem T (ToQuery g) b = refl
  content_for_lem T (ToSlot i due) b = refl

  idle_content : (m : Scan) (x : (Item Argument)) → content_by m false x ≡ []
  idle_content (ScanHeader h) x = refl
  idle_content (ScanRest own zero p) x = refl
  idle_content (ScanRest true (suc c) p) (ByteItem b) = refl
  idle_content (ScanRest false (suc c) p) (ByteItem b) = refl
  idle_content (ScanRest own (suc c) p) (CallItem a) = refl

  call_content : (m : Scan) (k : Bool) (c : (Call Argument)) → content_by m k (CallItem c) ≡ []
  call_content (ScanHeader h) k c = refl
  call_content (ScanRest own zero p) k c = refl
  call_content (ScanRest own (suc n) p) k c = refl

  pub same_content : (s : Connection receiver) (m : Scan) (k : Bool) (x : (Item Argument)) → Agrees R s m k → content_of R s x ≡ content_by m k x
  same_content Closed m k x e = rw e (sym (idle_content m x))
  same_content (Open T F) m k (CallItem c) e = sym (call_content m k c)
  same_content (Open T (AtHeader h)) m k (ByteItem b) e = rw e.1
  same_content (Open T (PastHeader s zero p)) m k (ByteItem b) e = rw e.1.1
  same_content (Open T (PastHeader s (suc c) p)) m k (ByteItem b) e =
      content_for_lem T s b ∙ rw (e.1.1, e.0) (ap (λ (z : Bool). if z then b ∷ [] else []) (sym e.1.2))

-- at a fresh start
pub fresh_agrees : (R : ℕ) → Agrees R (fresh receiver SLOTS) (ScanHeader []) false
unfolding fresh lookup request_found lookup_further
fresh_agrees R = (refl, refl)

-- A header byte in both runs. Names that begin with own are of a header of R, those with others of any other header.
use Rattle.std.specs.Prelude.{◌≡◌, List, [], ◌++◌, Bool, length, eqb, ltb}
use Rattle.std.proofs.Math.Path.{refl, sym}
use Rattle.std.proofs.Common.{◌∙◌}
use Rattle.std.proofs.Math.Option.{Option, none, some}
use Rattle.std.proofs.Math.Bool.{true, false}
use Prim.Native.Nat.{ℕ, zero, suc}
use borrow.Author.Tests.{eqb-true, eqb-false, eq-eqb, ne_eqb, ltb-false}
use Rattle.machine.specs.Slots.{SlotState, HeldBy, Lookup, Absent, FoundAt, lookup, slot_at, OfOthers, Contains, contains_absent, OwnSlot, own_slot, LookupRight, lookup_right, contains_set, others_set}
use Rattle.machine.specs.Timeline.{header_version, header_type, header_id, header_content, header_padding, Scan, scan_left, scan_whole}
use Rattle.machine.specs.Machine.{HeaderOutcome, Decided, InactiveOutcome, WrongBegin, NewBegin, PassedOver, ManagementOutcome, QueryTooLong, Notices, Gathers, QueryOutcome, Asks, Breaks, Machine, Skip, Reading, AtHeader, Slots, with_left, query_whole, query_header, management_header, inactive_header, target_at, header_decided, header_found, header_routed, header_versioned, header_byte, as_list, concerns, observed}
use Rattle.machine.proofs.Purge.{header_id_known}
use Rattle.machine.proofs.SimulationRelation.{alone_slots, SameSkip, SameBegin, SameSlot, OthersSkip, OthersBegin, OthersQuery, OthersSlot, Readings, BothInHeader, InOthersRecord, OwnHeader, StepTogether, PurgedWaits, together, waits, own_left, others_left, others_event, LeftOpen, alone_found, alone_absent, found_of_others}

module _ (M : Machine) (R : ℕ) where
  open M use {Leftover, clean, Request, Stream, Event, Notice, on_header, on_inactive, on_management, on_query}

  -- ---- the eighth byte of a header of R
  own_inactive : {T : Slots M} (n : ℕ) (l h : List ℕ) (o : InactiveOutcome) → Contains clean R T none → header_id h ≡ R
      → LeftOpen M R (inactive_header M o T h)
      → StepTogether M R none n l (scan_left true (header_content h) (header_padding h)) (inactive_header M o T h) (inactive_header M o (alone_slots M R n none) h)
  unfolding inactive_header
  own_inactive n l h WrongBegin s e a = absurd (a refl)
  own_inactive n l h PassedOver s e a = waits M R s (own_left M R (header_content h) (header_padding h) SameSkip) refl
  own_inactive n l h NewBegin s e a = rw e (waits M R s (own_left M R (header_content h) (header_padding h) SameBegin) refl)

  own_decided : {T : Slots M} {r : Request} (n : ℕ) (l h : List ℕ) (o : HeaderOutcome Request Stream Event) (p : OwnSlot clean R T r) → header_id h ≡ R
      → on_header (header_type h) (header_content h) r ≡ o
      → StepTogether M R (some r) n l (scan_left true (header_content h) (header_padding h)) (header_decided M o p.index T h) (header_decided M o 0 (alone_slots M R n (some r)) h)
  unfolding header_decided target_at
  own_decided n l h (Decided q es none) p e d =
      rw e (together M R (p.rewritten q) (own_left M R (header_content h) (header_padding h) SameSkip) refl (OwnHeader (header_type h) (header_content h) d))
  own_decided n l h (Decided q es (some k)) p e d =
      rw e (together M R (p.rewritten q) (own_left M R (header_content h) (header_padding h) (SameSlot (p.found_again q))) refl (OwnHeader (header_type h) (header_content h) d))

  own_found : {T : Slots M} (n : ℕ) (l h : List ℕ) (v : Option Request) → Contains clean R T v → header_id h ≡ R
      → LeftOpen M R (header_found M (lookup R T) T h)
      → StepTogether M R v n l (scan_left true (header_content h) (header_padding h)) (header_found M (lookup R T) T h) (header_found M (lookup R (alone_slots M R n v)) (alone_slots M R n v) h)
  unfolding header_found
  own_found n l h none s e a =
      rw (contains_absent clean s, alone_absent M R n) (own_inactive n l h (on_inactive (header_type h) (header_content h)) s e (rw (contains_absent clean s) at a))
  own_found n l h (some r) s e a =
      let p = own_slot clean s in rw (p.is_found_lem, alone_found M R n r) (own_decided n l h (on_header (header_type h) (header_content h) r) p e refl)

  own_versioned : {T : Slots M} {v : Option Request} (n : ℕ) (l h : List ℕ) (o : Bool) → eqb R 0 ≡ false → Contains clean R T v → header_id h ≡ R
      → LeftOpen M R (header_versioned M o T h)
      → StepTogether M R v n l (scan_left true (header_content h) (header_padding h)) (header_versioned M o T h) (header_versioned M o (alone_slots M R n v) h)
  unfolding header_versioned header_routed
  own_versioned n l h false z s e a = absurd (a refl)
  own_versioned {T} {v} n l h true z s e a = rw (e, z, e) (own_found n l h v s e (rw (e, z, e) at a))

  -- ---- the eighth byte of a header of others
  -- a query that is whole (here without content)
  pub others_query : {T : Slots M} {v : Option Request} (n : ℕ) (l : List ℕ) (o : QueryOutcome Notice) (m : Scan) (F : Reading M) → Contains clean R T v
      → Readings M R T l v m F (AtHeader [])
      → LeftOpen M R (query_whole M o T F) → PurgedWaits M R v n l m (query_whole M o T F)
  unfolding query_whole observed as_list concerns
  others_query n l (Breaks place) m F s f a = absurd (a refl)
  others_query n l (Asks w) m F s f a = waits M R s f refl

  others_query_header : {T : Slots M} {v : Option Request} (n : ℕ) (l : List ℕ) (c p : ℕ) → Contains clean R T v
      → LeftOpen M R (query_header M c T p) → PurgedWaits M R v n l (scan_left false c p) (query_header M c T p)
  unfolding query_header scan_left
  others_query_header n l zero p s a = others_query n l (on_query []) (scan_left false zero p) (with_left M Skip zero p) s (others_left M R zero p OthersSkip) a
  others_query_header n l (suc c) p s a = waits M R s (InOthersRecord OthersQuery) refl

  -- id 0
  others_management : {T : Slots M} {v : Option Request} (n : ℕ) (l h : List ℕ) (o : ManagementOutcome Notice) → Contains clean R T v
      → LeftOpen M R (management_header M o T h)
      → PurgedWaits M R v n l (scan_left false (header_content h) (header_padding h)) (management_header M o T h)
  unfolding management_header observed as_list concerns
  others_management n l h QueryTooLong s a = absurd (a refl)
  others_management n l h (Notices w) s a = waits M R s (others_left M R (header_content h) (header_padding h) OthersSkip) refl
  others_management n l h Gathers s a = others_query_header n l (header_content h) (header_padding h) s a

  others_inactive : {T : Slots M} {v : Option Request} (n : ℕ) (l h : List ℕ) (o : InactiveOutcome) → Contains clean R T v → (header_id h ≡ R → ⊥)
      → LeftOpen M R (inactive_header M o T h)
      → PurgedWaits M R v n l (scan_left false (header_content h) (header_padding h)) (inactive_header M o T h)
  unfolding inactive_header
  others_inactive n l h WrongBegin s e a = absurd (a refl)
  others_inactive n l h PassedOver s e a = waits M R s (others_left M R (header_content h) (header_padding h) OthersSkip) refl
  others_inactive n l h NewBegin s e a = waits M R s (others_left M R (header_content h) (header_padding h) (OthersBegin e)) refl

  others_decided : {T : Slots M} {v : Option Request} (n : ℕ) (l h : List ℕ) (o : HeaderOutcome Request Stream Event) (i : ℕ) → Contains clean R T v
      → (header_id h ≡ R → ⊥) → OfOthers clean R (slot_at clean T i)
      → PurgedWaits M R v n l (scan_left false (header_content h) (header_padding h)) (header_decided M o i T h)
  unfolding header_decided target_at observed as_list
  others_decided n l h (Decided q es none) i s e f =
      waits M R (contains_set clean i (HeldBy (header_id h) q) f e s) (others_left M R (header_content h) (header_padding h) OthersSkip) (others_event M R (header_id h) es e)
  others_decided {T} n l h (Decided q es (some k)) i s e f =
      let x : SlotState Leftover Request = HeldBy (header_id h) q in
      let to = OthersSlot (others_set clean R T i i x e f) in
      waits M R (contains_set clean i x f e s) (others_left M R (header_content h) (header_padding h) to) (others_event M R (header_id h) es e)

  others_found : {T : Slots M} {v : Option Request} (n : ℕ) (l h : List ℕ) (o : Lookup Request) → Contains clean R T v → (header_id h ≡ R → ⊥)
      → LookupRight clean (header_id h) T o → LeftOpen M R (header_found M o T h)
      → PurgedWaits M R v n l (scan_left false (header_content h) (header_padding h)) (header_found M o T h)
  unfolding header_found
  others_found n l h Absent s e f a = others_inactive n l h (on_inactive (header_type h) (header_content h)) s e a
  others_found {T} n l h (FoundAt i r) s e f a = others_decided n l h (on_header (header_type h) (header_content h) r) i s e (found_of_others M R T (header_id h) i r e f)

  others_routed : {T : Slots M} {v : Option Request} (n : ℕ) (l h : List ℕ) (o : Bool) → Contains clean R T v → (header_id h ≡ R → ⊥)
      → LeftOpen M R (header_routed M o T h)
      → PurgedWaits M R v n l (scan_left false (header_content h) (header_padding h)) (header_routed M o T h)
  unfolding header_routed
  others_routed n l h true s e a = others_management n l h (on_management (header_type h) (header_content h)) s a
  others_routed {T} n l h false s e a = others_found n l h (lookup (header_id h) T) s e (lookup_right clean (header_id h) T) a

  others_versioned : {T : Slots M} {v : Option Request} (n : ℕ) (l h : List ℕ) (o : Bool) → Contains clean R T v → (header_id h ≡ R → ⊥)
      → LeftOpen M R (header_versioned M o T h)
      → PurgedWaits M R v n l (scan_left false (header_content h) (header_padding h)) (header_versioned M o T h)
  unfolding header_versioned
  others_versioned n l h false s e a = absurd (a refl)
  others_versioned n l h true s e a = others_routed n l h (eqb (header_id h) 0) s e a

  -- ---- any byte of a header
  pub own_header_byte : {T : Slots M} {v : Option Request} (n : ℕ) (l h : List ℕ) (o : Bool) → ltb (length h) 8 ≡ o → eqb R 0 ≡ false → Contains clean R T v
      → eqb (header_id (h ++ l)) R ≡ true
      → LeftOpen M R (header_byte M o T h) → StepTogether M R v n l (scan_whole o R h) (header_byte M o T h) (header_byte M o (alone_slots M R n v) h)
  unfolding header_byte scan_whole
  own_header_byte n l h true w z s e a = waits M R s (BothInHeader true e) refl
  own_header_byte n l h false w z s e a =
      let x : header_id h ≡ R = sym (header_id_known h l (ltb-false (length h) 8 w)) ∙ eqb-true _ _ e in
      rw (eq-eqb (header_id h) R x) (own_versioned n l h (eqb (header_version h) 1) z s x a)

  pub others_header_byte : {T : Slots M} {v : Option Request} (n : ℕ) (l h : List ℕ) (o : Bool) → ltb (length h) 8 ≡ o → Contains clean R T v
      → eqb (header_id (h ++ l)) R ≡ false
      → LeftOpen M R (header_byte M o T h) → PurgedWaits M R v n l (scan_whole o R h) (header_byte M o T h)
  unfolding header_byte scan_whole
  others_header_byte n l h true w s e a = waits M R s (BothInHeader false e) refl
  others_header_byte n l h false w s e a =
      let x : header_id h ≡ R → ⊥ = λ y. eqb-false _ _ e (header_id_known h l (ltb-false (length h) 8 w) ∙ y) in
      rw (ne_eqb (header_id h) R x) (others_versioned n l h (eqb (header_version h) 1) s x a)

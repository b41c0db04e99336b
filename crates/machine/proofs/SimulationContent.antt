-- A byte past the header in both runs, and with it any byte.
use Rattle.std.specs.Prelude.{◌≡◌, List, [], ◌∷◌, ◌++◌, length, eqb, ltb}
use Rattle.std.proofs.Math.Path.{refl}
use Rattle.std.proofs.Common.{append_assoc, ne_eqb}
use Rattle.std.proofs.Math.Option.{Option, none, some}
use Rattle.std.proofs.Math.Bool.{true, false}
use Prim.Native.Nat.{ℕ, zero, suc}
use Rattle.machine.specs.Slots.{SlotState, Vacant, HeldBy, Vacancy, NoVacancy, VacancyAt, first_vacancy, slot_at, OfOthers, Contains, OwnSlot, own_slot, contains_set, VacancyClean, vacancy_clean, VacancyOpens, vacancy_opens, others_set}
use Rattle.machine.specs.Timeline.{Scan, scan_left, scan_next, is_own}
use Rattle.machine.specs.Machine.{BeginOutcome, Declined, Accepted, Machine, Target, Skip, Reading, AtHeader, Slots, Open, with_left, request_seated, begin_whole, stream_byte, content_byte, record_byte, as_list, concerns, observed}
use Rattle.machine.proofs.SimulationRelation.{alone_slots, SameTargets, SameSkip, SameBegin, SameSlot, OthersTarget, OthersSkip, OthersBegin, OthersQuery, OthersSlot, Readings, BothInHeader, InOwnRecord, InOthersRecord, OwnByte, IsDeclined, IsAccepted, StepTogether, PurgedWaits, together, waits, between_records_lem, own_left, others_left, others_event, LeftOpen, NotOverloaded, when_own}
use Rattle.machine.proofs.SimulationHeader.{others_query, own_header_byte, others_header_byte}

module _ (M : Machine) (R : ℕ) where
  open M use {Leftover, clean, Request, Stream, Event, on_byte, on_begin, on_query}

  -- ---- a content byte of a record of R
  own_seated : (T : Slots M) (n : ℕ) (l g : List ℕ) (r : Leftover → Request) (e : Event) → on_begin R g ≡ Accepted r e
      → (o : Vacancy Leftover) (m : Scan) (F F' : Reading M) → VacancyOpens clean R T o → ((T' : Slots M) → Readings M R T' l (some (r clean)) m F F')
      → NotOverloaded M R (request_seated M o R r e T F)
      → StepTogether M R none n l m (request_seated M o R r e T F) (request_seated M (VacancyAt 0 clean) R r e (alone_slots M R n none) F')
  unfolding request_seated
  own_seated T n l g r e w NoVacancy m F F' s f a = absurd (a refl)
  own_seated T n l g r e w (VacancyAt i x) m F F' s f a = rw s.0 (together M R (s.1 (r clean)) (f _) refl (IsAccepted g w))

  own_begin : {T : Slots M} (n : ℕ) (l g : List ℕ) (o : BeginOutcome Leftover Request Event) → on_begin R g ≡ o → (m : Scan) (F F' : Reading M) → Contains clean R T none
      → ((T' : Slots M) (v : Option Request) → Readings M R T' l v m F F')
      → NotOverloaded M R (begin_whole M o R T F) → StepTogether M R none n l m (begin_whole M o R T F) (begin_whole M o R (alone_slots M R n none) F')
  unfolding begin_whole first_vacancy
  own_begin n l g (Declined e) w m F F' s f a = together M R s (f _ _) refl (IsDeclined g w)
  own_begin {T} n l g (Accepted r e) w m F F' s f a = own_seated T n l g r e w (first_vacancy T) m F F' (vacancy_opens clean s) (λ T'. f T' (some (r clean))) a

  own_stream_byte : {T : Slots M} {r : Request} (n : ℕ) (l : List ℕ) (k : Stream) (c p b : ℕ) (q : OwnSlot clean R T r)
      → StepTogether M R (some r) n l (scan_left true c p) (stream_byte M (slot_at clean T q.index) q.index k c p b T) (stream_byte M (HeldBy R r) 0 k c p b (alone_slots M R n (some r)))
  unfolding stream_byte
  own_stream_byte n l k c p b q = rw q.is_there (together M R (q.rewritten _) (own_left M R c p (SameSlot (q.found_again _))) refl (OwnByte k b))

  own_content_byte : {T : Slots M} {v : Option Request} {s s' : Target M} (n : ℕ) (l : List ℕ) (c p b : ℕ) → Contains clean R T v → SameTargets M R T v s s'
      → NotOverloaded M R (content_byte M s c p b T) → StepTogether M R v n l (scan_left true c p) (content_byte M s c p b T) (content_byte M s' c p b (alone_slots M R n v))
  unfolding content_byte scan_left
  own_content_byte n l c p b s SameSkip a = waits M R s (own_left M R c p SameSkip) refl
  own_content_byte n l zero p b s (SameBegin {g = g}) a =
      own_begin n l (g ++ b ∷ []) (on_begin R (g ++ b ∷ [])) refl (scan_left true zero p) (with_left M Skip zero p) (with_left M Skip zero p) s (λ T' v. own_left M R zero p SameSkip) a
  own_content_byte n l (suc c) p b s SameBegin a = waits M R s (InOwnRecord SameBegin) refl
  own_content_byte n l c p b s (SameSlot {r = r} {i = i} {k = k} e) a =
      let q = own_slot clean s in
      let x : q.index ≡ i = cc q.is_found_lem in
      rw (← x) (own_stream_byte n l k c p b q)

  -- ---- a content byte of a record of others
  others_seated : {T : Slots M} {v : Option Request} (n : ℕ) (l : List ℕ) (id : ℕ) (r : Leftover → Request) (e : Event) (o : Vacancy Leftover) (m : Scan) (F : Reading M)
      → (id ≡ R → ⊥) → Contains clean R T v → VacancyClean clean T o → ((T' : Slots M) → Readings M R T' l v m F (AtHeader []))
      → PurgedWaits M R v n l m (request_seated M o id r e T F)
  unfolding request_seated observed as_list concerns
  others_seated n l id r e NoVacancy m F d s h f = waits M R s (f _) (rw (ne_eqb id R d))
  others_seated n l id r e (VacancyAt i x) m F d s h f = waits M R (contains_set clean i (HeldBy id (r x)) (rw h.0 h.1) d s) (f _) (rw (ne_eqb id R d))

  others_begin : {T : Slots M} {v : Option Request} (n : ℕ) (l : List ℕ) (id : ℕ) (o : BeginOutcome Leftover Request Event) (m : Scan) (F : Reading M) → (id ≡ R → ⊥)
      → Contains clean R T v → ((T' : Slots M) → Readings M R T' l v m F (AtHeader []))
      → PurgedWaits M R v n l m (begin_whole M o id T F)
  unfolding begin_whole observed as_list concerns
  others_begin n l id (Declined e) m F d s f = waits M R s (f _) (rw (ne_eqb id R d))
  others_begin {T} n l id (Accepted r e) m F d s f = others_seated n l id r e (first_vacancy T) m F d s (vacancy_clean clean s) f

  others_stream_byte : {T : Slots M} {v : Option Request} (n : ℕ) (l : List ℕ) (o : SlotState Leftover Request) (i : ℕ) (k : Stream) (c p b : ℕ) → Contains clean R T v
      → slot_at clean T i ≡ o → OfOthers clean R o
      → PurgedWaits M R v n l (scan_left false c p) (stream_byte M o i k c p b T)
  unfolding stream_byte observed as_list
  others_stream_byte n l (Vacant x) i k c p b s e f = waits M R s (others_left M R c p OthersSkip) refl
  others_stream_byte {T} n l (HeldBy id r) i k c p b s e f =
      let x : SlotState Leftover Request = HeldBy id (on_byte k b r).0 in
      let g : OfOthers clean R (slot_at clean T i) = rw e f in
      waits M R (contains_set clean i x g f s) (others_left M R c p (OthersSlot (others_set clean R T i i x f g))) (others_event M R id (on_byte k b r).1 f)

  others_content_byte : {T : Slots M} {v : Option Request} {s : Target M} (n : ℕ) (l : List ℕ) (c p b : ℕ) → Contains clean R T v → OthersTarget M R T s
      → LeftOpen M R (content_byte M s c p b T) → PurgedWaits M R v n l (scan_left false c p) (content_byte M s c p b T)
  unfolding content_byte scan_left
  others_content_byte n l c p b s OthersSkip a = waits M R s (others_left M R c p OthersSkip) refl
  others_content_byte n l zero p b s (OthersBegin {id = id} {g = g} d) a =
      others_begin n l id (on_begin id (g ++ b ∷ [])) (scan_left false zero p) (with_left M Skip zero p) d s (λ T'. others_left M R zero p OthersSkip)
  others_content_byte n l (suc c) p b s (OthersBegin d) a = waits M R s (InOthersRecord (OthersBegin d)) refl
  others_content_byte n l zero p b s (OthersQuery {g = g}) a =
      others_query M R n l (on_query (g ++ b ∷ [])) (scan_left false zero p) (with_left M Skip zero p) s (others_left M R zero p OthersSkip) a
  others_content_byte n l (suc c) p b s OthersQuery a = waits M R s (InOthersRecord OthersQuery) refl
  others_content_byte {T} n l c p b s (OthersSlot {i = i} {k = k} f) a = others_stream_byte n l (slot_at clean T i) i k c p b s refl f

  -- ---- any byte
  pub byte_together : {T : Slots M} {v : Option Request} {m : Scan} {F F' : Reading M} (n : ℕ) (l : List ℕ) (b : ℕ) → eqb R 0 ≡ false → Contains clean R T v
      → Readings M R T (b ∷ l) v m F F' → LeftOpen M R (record_byte M T F b) → NotOverloaded M R (record_byte M T F b)
      → StepTogether M R v n l (scan_next R m b) (record_byte M T F b) (when_own M R (is_own R m (b ∷ l)) (record_byte M (alone_slots M R n v) F' b) (Open (alone_slots M R n v) F'))
  unfolding record_byte scan_next is_own
  byte_together n l b z s (BothInHeader {h = h} true e) a r =
      rw e (own_header_byte M R n l (h ++ b ∷ []) (ltb (length (h ++ b ∷ [])) 8) refl z s (rw (append_assoc h (b ∷ []) l) e) a)
  byte_together n l b z s (BothInHeader {h = h} false e) a r =
      rw e (others_header_byte M R n l (h ++ b ∷ []) (ltb (length (h ++ b ∷ [])) 8) refl s (rw (append_assoc h (b ∷ []) l) e) a)
  byte_together n l b z s (InOwnRecord {s = x} {c = suc c} {p = p} h) a r = own_content_byte n l c p b s h r
  byte_together n l b z s (InOwnRecord {s = x} {c = zero} {p = suc p} h) a r = waits M R s (own_left M R zero p h) refl
  byte_together n l b z s (InOwnRecord {s = x} {c = zero} {p = zero} h) a r = waits M R s (between_records_lem M R) refl
  byte_together n l b z s (InOthersRecord {s = x} {c = suc c} {p = p} h) a r = others_content_byte n l c p b s h a
  byte_together n l b z s (InOthersRecord {s = x} {c = zero} {p = suc p} h) a r = waits M R s (others_left M R zero p h) refl
  byte_together n l b z s (InOthersRecord {s = x} {c = zero} {p = zero} h) a r = waits M R s (between_records_lem M R) refl

-- Whether R takes PARAMS, and where a byte stands, as the history says it: for headers and content.
use Rattle.std.specs.Prelude.{◌≡◌, List, [], ◌∷◌, ◌++◌, Bool, length, ltb, if◌then◌else◌}
use Rattle.std.proofs.Math.Path.{refl, ap, sym, subst}
use Rattle.std.proofs.Common.{◌∙◌, arith}
use Rattle.std.proofs.Math.Option.{Option, none, some}
use Rattle.std.proofs.Math.Bool.{true, false}
use Prim.Native.Nat.{ℕ, zero, suc, ◌<◌}
use Rattle.std.proofs.Math.ListN.{set}
use Rattle.std.proofs.Math.Dec.{eqb}
use Rattle.wire.specs.Test.{by_test}
use Rattle.record.specs.Names.{PARAMS, STDIN, DATA}
use Rattle.machine.specs.Slots.{SlotState, Vacant, HeldBy, slot_at, Lookup, Absent, FoundAt, Vacancy, NoVacancy, VacancyAt, lookup, first_vacancy, OfOthers, LookupRight, lookup_right, lookup_set, slot_written, vacancy_further}
use Rattle.machine.specs.Timeline.{header_version, header_type, header_id, header_content, header_padding, Scan, ScanHeader, ScanRest, scan_left}
use Rattle.machine.specs.Machine.{QueryOutcome, Asks, Breaks, BeginOutcome, Declined, Accepted, Target, Skip, ToBegin, ToQuery, ToSlot, Reading, AtHeader, PastHeader, Slots, Connection, Open, Closed, InactiveOutcome, WrongBegin, NewBegin, PassedOver, ManagementOutcome, QueryTooLong, Notices, Gathers, Effect, event_from, with_left, query_whole, query_header, management_header, inactive_header, header_decided, header_found, header_routed, header_versioned, header_byte, request_seated, begin_whole, stream_byte, content_byte, record_byte, request_found, target_at}
use Rattle.connection.specs.declared.request.Due.{Due}
use Rattle.connection.specs.Event.{Event}
use Rattle.connection.specs.Request.{Held, on_header, grown, showed}
use Rattle.connection.specs.Bytewise.{Note}
use borrow.Author.Tests.{eqb-true, eq-eqb, eqb-false}
use Rattle.machine.specs.Shape.{SlotOk, SlotsOk, TargetOk, ReadingOk, EffectOk}
use Rattle.machine.proofs.ShapeSlots.{VacancyThere, vacancy_there}
use Rattle.connection.specs.Runs.Receiver.{clean_area, receiver, receive_begin, Notice, note_of, receive_header, receive_byte, receive_query, receive_management, receive_inactive, due_stream}
use Rattle.connection.proofs.Runs.ReceiverLaws.{receiver_laws}
use Rattle.connection.specs.History.{is_params_header, scan_whole_params, scan_params}
use Rattle.connection.specs.Runs.HistoryOnMachine.{takes_after, takes_told, takes_then}
use Rattle.connection.proofs.Runs.HistoryRequest.{takes, takes_found, is_params_due, off, takes_header, takes_grown, TakesNew, takes_new}
use Rattle.connection.proofs.Runs.HistoryTarget.{is_params_of, held_found, other_slot}

-- the lowest free slot takes what is written into it
abbrev VacancyWritten : Slots receiver → SlotState (List ℕ) Held → Vacancy (List ℕ) → Type 0
VacancyWritten T s NoVacancy = Unit {0}
VacancyWritten T s (VacancyAt i x) = slot_at clean_area (set T i s) i ≡ s

written_further : (y s : SlotState (List ℕ) Held) (T : Slots receiver) (o : Vacancy (List ℕ)) → VacancyWritten T s o → VacancyWritten (y ∷ T) s (vacancy_further o)
unfolding vacancy_further
written_further y s T NoVacancy h = tt
written_further y s T (VacancyAt i x) h = h

vacancy_written : (T : Slots receiver) (s : SlotState (List ℕ) Held) → VacancyWritten T s (first_vacancy T)
unfolding first_vacancy
vacancy_written [] s = tt
vacancy_written (Vacant x ∷ T) s = refl
vacancy_written (HeldBy j r ∷ T) s = written_further (HeldBy j r) s T (first_vacancy T) (vacancy_written T s)

module _ (R : ℕ) where
  abbrev pub takes_among : Slots receiver → Bool
  takes_among T = takes_found (request_found receiver (lookup R T))

  -- content of this target is PARAMS of R
  abbrev pub due_for : Slots receiver → Target receiver → Bool
  due_for T Skip = false
  due_for T (ToBegin id g) = false
  due_for T (ToQuery g) = false
  due_for T (ToSlot i due) = is_params_of R (slot_at clean_area T i) due

  -- The place in the bytes is where the connection reads. Of a PARAMS record of R content is due to R just where R
  -- takes PARAMS.
  abbrev pub Placed : Slots receiver → Reading receiver → Scan → Type 0
  Placed T (AtHeader h) m = m ≡ ScanHeader h
  Placed T (PastHeader s zero p) m = (own : Bool) × (m ≡ ScanRest own zero p)
  Placed T (PastHeader s (suc c) p) m = (own : Bool) × (m ≡ ScanRest own (suc c) p) × ((if own then takes_among T else false) ≡ due_for T s)

  abbrev pub Agrees : Connection receiver → Scan → Bool → Type 0
  Agrees Closed m k = k ≡ false
  Agrees (Open T F) m k = (k ≡ takes_among T) × Placed T F m

  abbrev pub Tracks : Slots receiver → Scan → Effect receiver → Type 0
  Tracks T m A = Agrees A.0 m (takes_then R A.1 (takes_among T))

  placed_left : (T : Slots receiver) (s : Target receiver) (own : Bool) (c p : ℕ) → (0 < c → (if own then takes_among T else false) ≡ due_for T s)
      → Placed T (with_left receiver s c p) (scan_left own c p)
  unfolding with_left scan_left
  placed_left T s own zero zero d = refl
  placed_left T s own zero (suc p) d = (own, refl)
  placed_left T s own (suc c) p d = (own, refl, d (omega arith))

  pub takes_held : (T : Slots receiver) (i : ℕ) (h : Held) → SlotsOk receiver receiver_laws T → slot_at clean_area T i ≡ HeldBy R h → takes_among T ≡ takes h
  unfolding request_found
  takes_held T i h t e = ap (λ o. takes_found (request_found receiver o)) (held_found R T i h t e)

  pub takes_same : (T T' : Slots receiver) → lookup R T' ≡ lookup R T → takes_among T' ≡ takes_among T
  takes_same T T' e = ap (λ o. takes_found (request_found receiver o)) e

  pub takes_absent : (T : Slots receiver) → lookup R T ≡ Absent → takes_among T ≡ false
  unfolding request_found
  takes_absent T e = ap (λ o. takes_found (request_found receiver o)) e

  -- ---- a header
  -- id 0 is in no slot
  zero_takes : (T : Slots receiver) → SlotsOk receiver receiver_laws T → R ≡ 0 → takes_among T ≡ false
  unfolding request_found
  zero_takes T t z = go (lookup R T) (lookup_right clean_area R T)
    where
      go : (o : Lookup Held) → LookupRight clean_area R T o → takes_found (request_found receiver o) ≡ false
      go Absent r = refl
      go (FoundAt i h) r = let f : SlotOk receiver receiver_laws (HeldBy R h) = rw r at (t.fits i) in absurd (omega (arith, f.0))

  not_own : (T : Slots receiver) (h : List ℕ) → (header_id h ≡ R → takes_among T ≡ false) → (if is_params_header R h then takes_among T else false) ≡ false
  not_own T h f =
      by_test (eqb (header_id h) R) (λ e. rw (e, f (eqb-true (header_id h) R e)) (sym (off (eqb (header_type h) PARAMS)))) (λ e. rw e)

  tracks_query : (o : QueryOutcome Notice) (T : Slots receiver) (F : Reading receiver) (m : Scan) → Placed T F m → Tracks T m (query_whole receiver o T F)
  unfolding query_whole
  tracks_query (Breaks place) T F m d = refl
  tracks_query (Asks w) T F m d = (refl, d)

  tracks_query_header : (c : ℕ) (T : Slots receiver) (p : ℕ) (own : Bool) → (if own then takes_among T else false) ≡ false → Tracks T (scan_left own c p) (query_header receiver c T p)
  unfolding query_header scan_left
  tracks_query_header zero T p own d = tracks_query (receive_query []) T (with_left receiver Skip zero p) (scan_left own zero p) (placed_left T Skip own zero p (λ z. d))
  tracks_query_header (suc c) T p own d = (refl, (own, refl, d))

  tracks_management : (o : ManagementOutcome Notice) (T : Slots receiver) (h : List ℕ) (own : Bool) → (if own then takes_among T else false) ≡ false
      → Tracks T (scan_left own (header_content h) (header_padding h)) (management_header receiver o T h)
  unfolding management_header
  tracks_management QueryTooLong T h own d = refl
  tracks_management (Notices w) T h own d = (refl, placed_left T Skip own (header_content h) (header_padding h) (λ z. d))
  tracks_management Gathers T h own d = tracks_query_header (header_content h) T (header_padding h) own d

  tracks_inactive : (o : InactiveOutcome) (T : Slots receiver) (h : List ℕ) (own : Bool) → (if own then takes_among T else false) ≡ false
      → Tracks T (scan_left own (header_content h) (header_padding h)) (inactive_header receiver o T h)
  unfolding inactive_header
  tracks_inactive WrongBegin T h own d = refl
  tracks_inactive PassedOver T h own d = (refl, placed_left T Skip own (header_content h) (header_padding h) (λ z. d))
  tracks_inactive NewBegin T h own d = (refl, placed_left T (ToBegin (header_id h) []) own (header_content h) (header_padding h) (λ z. d))

  event_takes : (e : Event) (b : ℕ) (k : Bool) → takes_then R (event_from receiver R (note_of e b)) k ≡ takes_after e k
  unfolding event_from
  event_takes Event.None b k = refl
  event_takes (Event.Open id role keep) b k = rw (eq-eqb R R refl)
  event_takes (Event.Ready id n) b k = rw (eq-eqb R R refl)
  event_takes (Event.Data id stream n) b k = rw (eq-eqb R R refl)
  event_takes (Event.End id stream measure) b k = rw (eq-eqb R R refl)
  event_takes (Event.Abort id) b k = rw (eq-eqb R R refl)
  event_takes (Event.Refuse id n) b k = rw (eq-eqb R R refl)
  event_takes (Event.Fault id n) b k = rw (eq-eqb R R refl)
  event_takes (Event.Query conns reqs mpxs) b k = rw (eq-eqb R R refl)
  event_takes (Event.Unknown kind) b k = rw (eq-eqb R R refl)
  event_takes (Event.Closed n) b k = rw (eq-eqb R R refl)

  event_others : (id : ℕ) (e : Option Note) (k : Bool) → eqb id R ≡ false → takes_then R (event_from receiver id e) k ≡ k
  unfolding event_from
  event_others id none k f = refl
  event_others id (some n) k f = rw f

  -- a request decides on an item and is put back
  takes_put : (T : Slots receiver) (i id : ℕ) (h q : Held) (e : Event) (b : ℕ) → SlotsOk receiver receiver_laws T → SlotsOk receiver receiver_laws (set T i (HeldBy id q))
      → slot_at clean_area T i ≡ HeldBy id h → takes q ≡ takes_after e (takes h)
      → takes_then R (event_from receiver id (note_of e b)) (takes_among T) ≡ takes_among (set T i (HeldBy id q))
  takes_put T i id h q e b t u d l = by_test (eqb id R) own other
    where
      own : eqb id R ≡ true → takes_then R (event_from receiver id (note_of e b)) (takes_among T) ≡ takes_among (set T i (HeldBy id q))
      own w =
          let k : id ≡ R = eqb-true id R w in
          let d' : slot_at clean_area T i ≡ HeldBy R h = subst (λ n. slot_at clean_area T i ≡ HeldBy n h) k d in
          subst (λ n. takes_then R (event_from receiver n (note_of e b)) (takes_among T) ≡ takes_among (set T i (HeldBy n q))) (sym k)
          (event_takes e b (takes_among T) ∙ ap (takes_after e) (takes_held T i h t d') ∙ sym l
          ∙ sym (takes_held (set T i (HeldBy R q)) i q (subst (λ n. SlotsOk receiver receiver_laws (set T i (HeldBy n q))) k u) (slot_written clean_area T i R h (HeldBy R q) d')))

      other : eqb id R ≡ false → takes_then R (event_from receiver id (note_of e b)) (takes_among T) ≡ takes_among (set T i (HeldBy id q))
      other w =
          let n = eqb-false id R w in
          event_others id (note_of e b) (takes_among T) w ∙ sym (takes_same T (set T i (HeldBy id q)) (lookup_set clean_area R T i (HeldBy id q) (other_slot R T i id h d n) n))

  -- what is due to the slot of an id
  due_target : (T : Slots receiver) (i id : ℕ) (q : Held) (due : Due) → slot_at clean_area T i ≡ HeldBy id q → due_for T (target_at receiver i (due_stream due)) ≡ (if eqb id R then is_params_due due else false)
  unfolding target_at
  due_target T i id q Due.Skip e = off (eqb id R)
  due_target T i id q Due.Params e = ap (λ s. is_params_of R s Due.Params) e ∙ by_test (eqb id R) (λ w. rw w) (λ w. rw w)
  due_target T i id q Due.Stdin e = ap (λ s. is_params_of R s Due.Stdin) e ∙ off (eqb id R)
  due_target T i id q Due.Data e = ap (λ s. is_params_of R s Due.Data) e ∙ off (eqb id R)

  tracks_header : (i : ℕ) (T : Slots receiver) (h : List ℕ) (r : Held) → SlotsOk receiver receiver_laws T → slot_at clean_area T i ≡ HeldBy (header_id h) r
      → EffectOk receiver receiver_laws (header_decided receiver (receive_header (header_type h) (header_content h) r) i T h)
      → Tracks T (scan_left (is_params_header R h) (header_content h) (header_padding h)) (header_decided receiver (receive_header (header_type h) (header_content h) r) i T h)
  unfolding header_decided receive_header
  tracks_header i T h r t d w =
      let u = on_header (header_type h) (header_content h) r in
      let x = takes_header (header_type h) (header_content h) r in
      let T' = set T i (HeldBy (header_id h) u.held) in
      let there = slot_written clean_area T i (header_id h) r (HeldBy (header_id h) u.held) d in
      let own : 0 < header_content h → eqb (header_id h) R ≡ true → (if is_params_header R h then takes_among T' else false) ≡ due_for T' (target_at receiver i (due_stream u.due)) =
      λ z e.
      let k : header_id h ≡ R = eqb-true (header_id h) R e in
      let f = takes_held T' i u.held w.0 (subst (λ n. slot_at clean_area T' i ≡ HeldBy n u.held) k there) in
      rw (due_target T' i (header_id h) u.held u.due there, e, f) (sym (x.due z)) in
      let other : eqb (header_id h) R ≡ false → (if is_params_header R h then takes_among T' else false) ≡ due_for T' (target_at receiver i (due_stream u.due)) =
      λ e. rw (due_target T' i (header_id h) u.held u.due there, e) in (
        takes_put T i (header_id h) r u.held u.event 0 t w.0 d x.told,
        placed_left T' (target_at receiver i (due_stream u.due)) (is_params_header R h) (header_content h) (header_padding h) (λ z. by_test (eqb (header_id h) R) (own z) other),
      )

  tracks_found : (o : Lookup Held) (T : Slots receiver) (h : List ℕ) → SlotsOk receiver receiver_laws T → lookup (header_id h) T ≡ o → LookupRight clean_area (header_id h) T o
      → EffectOk receiver receiver_laws (header_found receiver o T h)
      → Tracks T (scan_left (is_params_header R h) (header_content h) (header_padding h)) (header_found receiver o T h)
  unfolding header_found
  tracks_found Absent T h t e r w =
      tracks_inactive (receive_inactive (header_type h) (header_content h)) T h (is_params_header R h) (not_own T h (λ k. takes_absent T (subst (λ n. lookup n T ≡ Absent) k e)))
  tracks_found (FoundAt i q) T h t e r w = tracks_header i T h q t r w

  tracks_routed : (o : Bool) (T : Slots receiver) (h : List ℕ) → eqb (header_id h) 0 ≡ o → SlotsOk receiver receiver_laws T → EffectOk receiver receiver_laws (header_routed receiver o T h)
      → Tracks T (scan_left (is_params_header R h) (header_content h) (header_padding h)) (header_routed receiver o T h)
  unfolding header_routed
  tracks_routed true T h e t w =
      tracks_management (receive_management (header_type h) (header_content h)) T h (is_params_header R h) (not_own T h (λ k. zero_takes T t (sym k ∙ eqb-true (header_id h) 0 e)))
  tracks_routed false T h e t w = tracks_found (lookup (header_id h) T) T h t refl (lookup_right clean_area (header_id h) T) w

  tracks_versioned : (o : Bool) (T : Slots receiver) (h : List ℕ) → SlotsOk receiver receiver_laws T → EffectOk receiver receiver_laws (header_versioned receiver o T h)
      → Tracks T (scan_left (is_params_header R h) (header_content h) (header_padding h)) (header_versioned receiver o T h)
  unfolding header_versioned
  tracks_versioned false T h t w = refl
  tracks_versioned true T h t w = tracks_routed (eqb (header_id h) 0) T h refl t w

  tracks_header_byte : (o : Bool) (T : Slots receiver) (h : List ℕ) → SlotsOk receiver receiver_laws T → EffectOk receiver receiver_laws (header_byte receiver o T h)
      → Tracks T (scan_whole_params o R h) (header_byte receiver o T h)
  unfolding header_byte scan_whole_params
  tracks_header_byte true T h t w = (refl, refl)
  tracks_header_byte false T h t w = tracks_versioned (eqb (header_version h) 1) T h t w

  -- ---- content
  tracks_seated : (o : Vacancy (List ℕ)) (id : ℕ) (r : List ℕ → Held) (e : Note) (T : Slots receiver) (F : Reading receiver) (m : Scan) → SlotsOk receiver receiver_laws T
      → VacancyThere receiver T o → ((s : SlotState (List ℕ) Held) → VacancyWritten T s o) → ((k : Bool) → takes_told e k ≡ true) → ((x : List ℕ) → takes (r x) ≡ true)
      → ((T' : Slots receiver) → Placed T' F m) → EffectOk receiver receiver_laws (request_seated receiver o id r e T F)
      → Tracks T m (request_seated receiver o id r e T F)
  unfolding request_seated
  tracks_seated NoVacancy id r e T F m t v y f l d w = (by_test (eqb id R) (λ z. rw z) (λ z. rw z), d T)
  tracks_seated (VacancyAt i x) id r e T F m t v y f l d w = (by_test (eqb id R) own other, d (set T i (HeldBy id (r x))))
    where
      own : eqb id R ≡ true → (if eqb id R then takes_told e (takes_among T) else takes_among T) ≡ takes_among (set T i (HeldBy id (r x)))
      own z =
          let k : id ≡ R = eqb-true id R z in
          let there = subst (λ n. slot_at clean_area (set T i (HeldBy id (r x))) i ≡ HeldBy n (r x)) k (y (HeldBy id (r x))) in
          rw z (f (takes_among T) ∙ sym (takes_held (set T i (HeldBy id (r x))) i (r x) w.0 there ∙ l x))

      other : eqb id R ≡ false → (if eqb id R then takes_told e (takes_among T) else takes_among T) ≡ takes_among (set T i (HeldBy id (r x)))
      other z =
          let n = eqb-false id R z in
          let c : x ≡ clean_area = rw v at (t.fits i) in
          rw z (sym (takes_same T (set T i (HeldBy id (r x))) (lookup_set clean_area R T i (HeldBy id (r x)) (subst (λ s. OfOthers clean_area R s) (sym v) c) n)))

  tracks_begin : (o : BeginOutcome (List ℕ) Held Note) (id : ℕ) (T : Slots receiver) (F : Reading receiver) (m : Scan) → SlotsOk receiver receiver_laws T → TakesNew o
      → ((T' : Slots receiver) → Placed T' F m) → EffectOk receiver receiver_laws (begin_whole receiver o id T F)
      → Tracks T m (begin_whole receiver o id T F)
  unfolding begin_whole
  tracks_begin (Declined e) id T F m t f d w = (by_test (eqb id R) (λ z. rw z (f (takes_among T))) (λ z. rw z), d T)
  tracks_begin (Accepted r e) id T F m t f d w = tracks_seated (first_vacancy T) id r e T F m t (vacancy_there receiver T) (vacancy_written T) f.0 f.1 d w

  pub same_due : (id : ℕ) (h q : Held) (due : Due) → is_params_of R (HeldBy id h) due ≡ is_params_of R (HeldBy id q) due
  same_due id h q Due.Skip = refl
  same_due id h q Due.Params = refl
  same_due id h q Due.Stdin = refl
  same_due id h q Due.Data = refl

  -- a byte for a stream of a request
  tracks_put : (due : Due) (i c p b id : ℕ) (h q : Held) (e : Event) (T : Slots receiver) (own : Bool) → SlotsOk receiver receiver_laws T → SlotsOk receiver receiver_laws (set T i (HeldBy id q))
      → slot_at clean_area T i ≡ HeldBy id h → takes q ≡ takes h → ((k : Bool) → takes_after e k ≡ k) → ((k : Bool) → takes_then R (event_from receiver id (note_of e b)) k ≡ k)
      → (if own then takes_among T else false) ≡ due_for T (ToSlot i due)
      → Tracks T (scan_left own c p) (Open (set T i (HeldBy id q)) (with_left receiver (ToSlot i due) c p), event_from receiver id (note_of e b))
  tracks_put due i c p b id h q e T own t u d l f g o =
      let T' = set T i (HeldBy id q) in
      let x = takes_put T i id h q e b t u d (l ∙ sym (f (takes h))) in
      let y : takes_among T' ≡ takes_among T = sym x ∙ g (takes_among T) in
      let there = slot_written clean_area T i id h (HeldBy id q) d in
      (x, placed_left T' (ToSlot i due) own c p (λ z. ap (λ k. if own then k else false) y ∙ o ∙ ap (λ s. is_params_of R s due) d ∙ same_due id h q due ∙ sym (ap (λ s. is_params_of R s due) there)))

  silent : (id : ℕ) (k : Bool) → takes_then R (event_from receiver id none) k ≡ k
  unfolding event_from
  silent id k = refl

  shown : (id j stream b : ℕ) (k : Bool) → takes_then R (event_from receiver id (some (Note.Shown j stream b))) k ≡ k
  unfolding event_from
  shown id j stream b k = by_test (eqb id R) (λ z. rw z) (λ z. rw z)

  tracks_stream : (due : Due) (i c p b id : ℕ) (h : Held) (T : Slots receiver) (own : Bool) → SlotsOk receiver receiver_laws T → slot_at clean_area T i ≡ HeldBy id h
      → (if own then takes_among T else false) ≡ due_for T (ToSlot i due) → EffectOk receiver receiver_laws (stream_byte receiver (HeldBy id h) i due c p b T)
      → Tracks T (scan_left own c p) (stream_byte receiver (HeldBy id h) i due c p b T)
  unfolding stream_byte receive_byte
  tracks_stream Due.Skip i c p b id h T own t d o w = tracks_put Due.Skip i c p b id h h Event.None T own t w.0 d refl (λ k. refl) (silent id) o
  tracks_stream Due.Params i c p b id h T own t d o w = tracks_put Due.Params i c p b id h (grown h (b ∷ [])) Event.None T own t w.0 d (takes_grown h (b ∷ [])) (λ k. refl) (silent id) o
  tracks_stream Due.Stdin i c p b id h T own t d o w =
      tracks_put Due.Stdin i c p b id h (showed Due.Stdin 1 h) (Event.Data h.request.id STDIN 1) T own t w.0 d refl (λ k. refl) (shown id h.request.id STDIN b) o
  tracks_stream Due.Data i c p b id h T own t d o w =
      tracks_put Due.Data i c p b id h (showed Due.Data 1 h) (Event.Data h.request.id DATA 1) T own t w.0 d refl (λ k. refl) (shown id h.request.id DATA b) o

  tracks_content : (s : Target receiver) (c p b : ℕ) (T : Slots receiver) (own : Bool) → SlotsOk receiver receiver_laws T → TargetOk receiver receiver_laws T s (suc c)
      → (if own then takes_among T else false) ≡ due_for T s → EffectOk receiver receiver_laws (content_byte receiver s c p b T)
      → Tracks T (scan_left own c p) (content_byte receiver s c p b T)
  unfolding content_byte scan_left
  tracks_content Skip c p b T own t s d w = (refl, placed_left T Skip own c p (λ z. d))
  tracks_content (ToBegin id g) zero p b T own t s d w =
      tracks_begin (receive_begin id (g ++ b ∷ [])) id T (with_left receiver Skip zero p) (scan_left own zero p) t (takes_new id (g ++ b ∷ []))
      (λ T'. placed_left T' Skip own zero p (λ z. absurd (omega arith))) w
  tracks_content (ToBegin id g) (suc c) p b T own t s d w = (refl, (own, refl, d))
  tracks_content (ToQuery g) zero p b T own t s d w =
      tracks_query (receive_query (g ++ b ∷ [])) T (with_left receiver Skip zero p) (scan_left own zero p) (placed_left T Skip own zero p (λ z. d))
  tracks_content (ToQuery g) (suc c) p b T own t s d w = (refl, (own, refl, d))
  tracks_content (ToSlot i due) c p b T own t s d w =
      subst (λ o. Tracks T (scan_left own c p) (stream_byte receiver o i due c p b T)) (sym s.2)
      (tracks_stream due i c p b s.0 s.1 T own t s.2 d (subst (λ o. EffectOk receiver receiver_laws (stream_byte receiver o i due c p b T)) s.2 w))

  pub tracks_byte : (T : Slots receiver) (F : Reading receiver) (m : Scan) (b : ℕ) → SlotsOk receiver receiver_laws T → ReadingOk receiver receiver_laws T F → Placed T F m
      → EffectOk receiver receiver_laws (record_byte receiver T F b)
      → Tracks T (scan_params R m b) (record_byte receiver T F b)
  unfolding record_byte scan_params
  tracks_byte T (AtHeader h) m b t f d w = rw d (tracks_header_byte (ltb (length (h ++ b ∷ [])) 8) T (h ++ b ∷ []) t w)
  tracks_byte T (PastHeader s (suc c) p) m b t f d w = rw d.1 (tracks_content s c p b T d.0 t f.target_ok d.2 w)
  tracks_byte T (PastHeader s zero (suc p)) m b t f d w = rw d.1 (refl, placed_left T s d.0 zero p (λ z. absurd (omega arith)))
  tracks_byte T (PastHeader s zero zero) m b t f d w = rw d.1 (refl, refl)

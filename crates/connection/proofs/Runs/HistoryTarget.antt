-- A request's list, by the connection's target: it is emptied where the history says so, and content of PARAMS of R
-- is added to it.
use Rattle.std.proofs.Math.Path.{◌≡◌, refl, ap, sym, subst}
use Rattle.std.proofs.Common.{◌∙◌, arith, inl, inr}
use mathlib.Core.List.{List, [], ◌∷◌, ◌++◌, append-nil}
use Rattle.std.proofs.Math.Option.{Option, none, some}
use Rattle.std.specs.Prelude.{Bool, length, set, ltb, ◌⊎◌, if◌then◌else◌}
use Rattle.std.proofs.Math.Bool.{true, false}
use Prim.Native.Nat.{ℕ, zero, suc}
use Rattle.std.proofs.Math.Dec.{eqb}
use Rattle.wire.specs.Test.{◌=?◌, by_test}
use Rattle.machine.specs.Slots.{SlotState, Vacant, HeldBy, slot_at, Lookup, Absent, FoundAt, Vacancy, NoVacancy, VacancyAt, lookup, first_vacancy, OfOthers, LookupRight, lookup_right, lookup_set, slot_written}
use Rattle.machine.specs.Timeline.{RequestCall, CountCall, Item, ByteItem, CallItem, header_version, header_type, header_id, header_content, header_padding}
use Rattle.machine.specs.Machine.{QueryOutcome, Asks, Breaks, BeginOutcome, Declined, Accepted, CallOutcome, Stays, Retires, Leaves, Closes, Target, Skip, ToBegin, ToQuery, ToSlot, Reading, AtHeader, PastHeader, Slots, Connection, Open, Closed, Observation, RequestEvent, NoticeEvent, CloseEvent, CountAnswer, CallAnswer, on_item, InactiveOutcome, WrongBegin, NewBegin, PassedOver, ManagementOutcome, QueryTooLong, Notices, Gathers, Effect, event_from, with_left, query_whole, query_header, management_header, inactive_header, header_decided, header_found, header_routed, header_versioned, header_byte, request_seated, begin_whole, stream_byte, content_byte, record_byte, reading_without, call_decided, request_called, request_found, request_in}
use Rattle.connection.specs.declared.request.Due.{Due}
use Rattle.connection.specs.Event.{Event}
use Rattle.connection.specs.Request.{Held, list_of, on_header, grown, showed}
use Rattle.connection.specs.Bytewise.{Note}
use borrow.Author.Tests.{eqb-true, eq-eqb, eqb-false}
use Rattle.machine.specs.Shape.{SlotOk, IsAbsent, SlotsOk, TargetOk, ReadingOk, WellShaped, EffectOk}
use Rattle.machine.proofs.ShapeSlots.{written_or_not, lookup_absent, VacancyThere, vacancy_there}
use Rattle.connection.specs.Arguments.{Argument, Answer, refused}
use Rattle.connection.specs.Runs.Receiver.{clean_area, receiver, receive_begin, receive_call, Notice, note_of, receive_header, receive_byte, receive_query, receive_management, receive_inactive}
use Rattle.connection.proofs.Runs.ReceiverLaws.{StreamOk, receiver_laws}
use Rattle.connection.specs.History.{list_found}
use Rattle.connection.specs.Runs.HistoryOnMachine.{opens_or_faults, tells_anew, empties_any, parameters_then}
use Rattle.connection.proofs.Runs.HistoryRequest.{list_header, list_grown, BeginsAnew, begins, CallKeeps, call_keeps, refused_keeps}
use Rattle.machine.specs.Cause.{Plain, At}

-- ---- content, by the connection's target
-- a stream of a slot is PARAMS of R
abbrev pub is_params_of : ℕ → SlotState (List ℕ) Held → Due → Bool
is_params_of R (Vacant x) due = false
is_params_of R (HeldBy id h) Due.Skip = false
is_params_of R (HeldBy id h) Due.Params = id =? R
is_params_of R (HeldBy id h) Due.Stdin = false
is_params_of R (HeldBy id h) Due.Data = false

-- the byte b of a record with this target is content of PARAMS of R
abbrev pub content_for : ℕ → Slots receiver → Target receiver → ℕ → List ℕ
content_for R T Skip b = []
content_for R T (ToBegin id g) b = []
content_for R T (ToQuery g) b = []
content_for R T (ToSlot i due) b = if is_params_of R (slot_at clean_area T i) due then b ∷ [] else []

-- the byte b in the place where the connection reads
abbrev pub content_at : ℕ → Slots receiver → Reading receiver → ℕ → List ℕ
content_at R T (AtHeader h) b = []
content_at R T (PastHeader s zero p) b = []
content_at R T (PastHeader s (suc c) p) b = content_for R T s b

-- of an item: none of a call, none of a closed connection
abbrev pub content_of : ℕ → Connection receiver → Item Argument → List ℕ
content_of R Closed x = []
content_of R (Open T F) (ByteItem b) = content_at R T F b
content_of R (Open T F) (CallItem c) = []

-- ---- one item
module _ (R : ℕ) where
  -- the list of R among the slots, and in a state
  abbrev pub list_among : Slots receiver → List ℕ
  list_among T = list_found (request_found receiver (lookup R T))

  abbrev pub list_in : Connection receiver → List ℕ
  list_in s = list_found (request_in receiver R s)

  -- what an item leads to has the list that the history says
  abbrev Follows : Slots receiver → List ℕ → Effect receiver → Type 0
  Follows T content A = list_in A.0 ≡ parameters_then R A.1 content (list_among T)

  -- R stands in one slot
  pub held_found : (T : Slots receiver) (i : ℕ) (h : Held) → SlotsOk receiver receiver_laws T → slot_at clean_area T i ≡ HeldBy R h → lookup R T ≡ FoundAt i h
  held_found T i h t e = go (lookup R T) refl (lookup_right clean_area R T)
    where
      go : (o : Lookup Held) → lookup R T ≡ o → LookupRight clean_area R T o → o ≡ FoundAt i h
      go Absent d r = absurd (lookup_absent receiver receiver_laws R T d i h e)
      go (FoundAt j q) d r =
          let x : j ≡ i = t.once j i R q h r e in
          let y : ◌≡◌ {A = SlotState (List ℕ) Held} (HeldBy R q) (HeldBy R h) = sym r ∙ ap (slot_at clean_area T) x ∙ e in
          let z : q ≡ h = cc in
          rw (x, z)

  list_held : (T : Slots receiver) (i : ℕ) (h : Held) → SlotsOk receiver receiver_laws T → slot_at clean_area T i ≡ HeldBy R h → list_among T ≡ list_of h
  unfolding request_found
  list_held T i h t e = ap (λ o. list_found (request_found receiver o)) (held_found T i h t e)

  -- nothing is told, and the same request of R is found
  follows_same : (T T' : Slots receiver) (F : Reading receiver) (o : Option (Observation receiver)) → lookup R T' ≡ lookup R T → empties_any R o ≡ false → Follows T [] (Open T' F, o)
  unfolding request_in
  follows_same T T' F o e f = rw f (ap (λ o. list_found (request_found receiver o)) e ∙ sym (append-nil (list_among T)))

  -- the connection closes
  follows_closed : (T : Slots receiver) (content : List ℕ) (o : Option (Observation receiver)) → empties_any R o ≡ true → Follows T content (Closed, o)
  unfolding request_in
  follows_closed T content o f = rw f

  -- a slot of another id is written for that id, or freed
  pub other_slot : (T : Slots receiver) (i id : ℕ) (h : Held) → slot_at clean_area T i ≡ HeldBy id h → (id ≡ R → ⊥) → OfOthers clean_area R (slot_at clean_area T i)
  other_slot T i id h e n = subst (λ s. OfOthers clean_area R s) (sym e) n

  -- the request of R is put back
  follows_put : (T : Slots receiver) (F : Reading receiver) (i : ℕ) (h q : Held) (o : Option (Observation receiver)) (content : List ℕ)
      → SlotsOk receiver receiver_laws T → SlotsOk receiver receiver_laws (set T i (HeldBy R q)) → slot_at clean_area T i ≡ HeldBy R h
      → list_of q ≡ parameters_then R o content (list_of h)
      → Follows T content (Open (set T i (HeldBy R q)) F, o)
  unfolding request_in
  follows_put T F i h q o content t u e l =
      list_held (set T i (HeldBy R q)) i q u (slot_written clean_area T i R h (HeldBy R q) e) ∙ l ∙ ap (λ x. parameters_then R o content x) (sym (list_held T i h t e))

  -- ---- a header
  follows_query : (o : QueryOutcome Notice) (T : Slots receiver) (F : Reading receiver) → Follows T [] (query_whole receiver o T F)
  unfolding query_whole
  follows_query (Breaks place) T F = follows_closed T [] (some (CloseEvent (At 14 place))) refl
  follows_query (Asks w) T F = follows_same T T F (some (NoticeEvent w)) refl refl

  follows_query_header : (c : ℕ) (T : Slots receiver) (p : ℕ) → Follows T [] (query_header receiver c T p)
  unfolding query_header
  follows_query_header zero T p = follows_query (receive_query []) T (with_left receiver Skip zero p)
  follows_query_header (suc c) T p = follows_same T T (PastHeader (ToQuery []) (suc c) p) none refl refl

  follows_management : (o : ManagementOutcome Notice) (T : Slots receiver) (h : List ℕ) → Follows T [] (management_header receiver o T h)
  unfolding management_header
  follows_management QueryTooLong T h = follows_closed T [] (some (CloseEvent (Plain 13))) refl
  follows_management (Notices w) T h = follows_same T T (with_left receiver Skip (header_content h) (header_padding h)) (some (NoticeEvent w)) refl refl
  follows_management Gathers T h = follows_query_header (header_content h) T (header_padding h)

  follows_inactive : (o : InactiveOutcome) (T : Slots receiver) (h : List ℕ) → Follows T [] (inactive_header receiver o T h)
  unfolding inactive_header
  follows_inactive WrongBegin T h = follows_closed T [] (some (CloseEvent (Plain 12))) refl
  follows_inactive PassedOver T h = follows_same T T (with_left receiver Skip (header_content h) (header_padding h)) none refl refl
  follows_inactive NewBegin T h = follows_same T T (with_left receiver (ToBegin (header_id h) []) (header_content h) (header_padding h)) none refl refl

  -- an event of another id; one of R
  event_other : (id : ℕ) (e : Option Note) → eqb id R ≡ false → empties_any R (event_from receiver id e) ≡ false
  unfolding event_from
  event_other id none f = refl
  event_other id (some n) f = rw f

  event_own : (e : Event) (b : ℕ) → empties_any R (event_from receiver R (note_of e b)) ≡ opens_or_faults e
  unfolding event_from
  event_own Event.None b = refl
  event_own (Event.Open id role keep) b = rw (eq-eqb R R refl)
  event_own (Event.Ready id n) b = rw (eq-eqb R R refl)
  event_own (Event.Data id stream n) b = rw (eq-eqb R R refl)
  event_own (Event.End id stream measure) b = rw (eq-eqb R R refl)
  event_own (Event.Abort id) b = rw (eq-eqb R R refl)
  event_own (Event.Refuse id n) b = rw (eq-eqb R R refl)
  event_own (Event.Fault id n) b = rw (eq-eqb R R refl)
  event_own (Event.Query conns reqs mpxs) b = rw (eq-eqb R R refl)
  event_own (Event.Unknown kind) b = rw (eq-eqb R R refl)
  event_own (Event.Closed n) b = rw (eq-eqb R R refl)

  -- a request decides on an item and is put back; the event is its own
  follows_decided : (T : Slots receiver) (F : Reading receiver) (i id : ℕ) (h q : Held) (e : Event) (b : ℕ) (content : List ℕ)
      → SlotsOk receiver receiver_laws T → SlotsOk receiver receiver_laws (set T i (HeldBy id q)) → slot_at clean_area T i ≡ HeldBy id h
      → (id ≡ R → list_of q ≡ (if opens_or_faults e then [] else list_of h ++ content)) → (eqb id R ≡ false → content ≡ [])
      → Follows T content (Open (set T i (HeldBy id q)) F, event_from receiver id (note_of e b))
  follows_decided T F i id h q e b content t u d l c = by_test (eqb id R) own other
    where
      own : eqb id R ≡ true → Follows T content (Open (set T i (HeldBy id q)) F, event_from receiver id (note_of e b))
      own w =
          let k : id ≡ R = eqb-true id R w in
          let l' : list_of q ≡ parameters_then R (event_from receiver R (note_of e b)) content (list_of h) = rw (event_own e b) (l k) in
          subst (λ n. Follows T content (Open (set T i (HeldBy n q)) F, event_from receiver n (note_of e b))) (sym k)
          (follows_put T F i h q (event_from receiver R (note_of e b)) content t
          (subst (λ n. SlotsOk receiver receiver_laws (set T i (HeldBy n q))) k u)
          (subst (λ n. slot_at clean_area T i ≡ HeldBy n h) k d) l')

      other : eqb id R ≡ false → Follows T content (Open (set T i (HeldBy id q)) F, event_from receiver id (note_of e b))
      other w =
          let n = eqb-false id R w in
          rw (c w) (follows_same T (set T i (HeldBy id q)) F (event_from receiver id (note_of e b)) (lookup_set clean_area R T i (HeldBy id q) (other_slot T i id h d n) n) (event_other id (note_of e b) w))

  follows_header : (i : ℕ) (T : Slots receiver) (h : List ℕ) (r : Held) → SlotsOk receiver receiver_laws T → slot_at clean_area T i ≡ HeldBy (header_id h) r
      → EffectOk receiver receiver_laws (header_decided receiver (receive_header (header_type h) (header_content h) r) i T h)
      → Follows T [] (header_decided receiver (receive_header (header_type h) (header_content h) r) i T h)
  unfolding header_decided receive_header
  follows_header i T h r t d w =
      let u = on_header (header_type h) (header_content h) r in
      follows_decided T _ i (header_id h) r u.held u.event 0 [] t w.0 d
      (λ k. list_header (header_content h) r (header_type h) ∙ ap (λ l. if opens_or_faults u.event then [] else l) (sym (append-nil (list_of r)))) (λ k. refl)

  follows_found : (o : Lookup Held) (T : Slots receiver) (h : List ℕ) → SlotsOk receiver receiver_laws T → LookupRight clean_area (header_id h) T o
      → EffectOk receiver receiver_laws (header_found receiver o T h)
      → Follows T [] (header_found receiver o T h)
  unfolding header_found
  follows_found Absent T h t r w = follows_inactive (receive_inactive (header_type h) (header_content h)) T h
  follows_found (FoundAt i q) T h t r w = follows_header i T h q t r w

  follows_routed : (o : Bool) (T : Slots receiver) (h : List ℕ) → SlotsOk receiver receiver_laws T → EffectOk receiver receiver_laws (header_routed receiver o T h)
      → Follows T [] (header_routed receiver o T h)
  unfolding header_routed
  follows_routed true T h t w = follows_management (receive_management (header_type h) (header_content h)) T h
  follows_routed false T h t w = follows_found (lookup (header_id h) T) T h t (lookup_right clean_area (header_id h) T) w

  follows_versioned : (o : Bool) (T : Slots receiver) (h : List ℕ) → SlotsOk receiver receiver_laws T → EffectOk receiver receiver_laws (header_versioned receiver o T h)
      → Follows T [] (header_versioned receiver o T h)
  unfolding header_versioned
  follows_versioned false T h t w = follows_closed T [] (some (CloseEvent (Plain 11))) refl
  follows_versioned true T h t w = follows_routed (eqb (header_id h) 0) T h t w

  follows_header_byte : (o : Bool) (T : Slots receiver) (h : List ℕ) → SlotsOk receiver receiver_laws T → EffectOk receiver receiver_laws (header_byte receiver o T h)
      → Follows T [] (header_byte receiver o T h)
  unfolding header_byte
  follows_header_byte true T h t w = follows_same T T (AtHeader h) none refl refl
  follows_header_byte false T h t w = follows_versioned (eqb (header_version h) 1) T h t w

  -- ---- content
  -- a request is opened, with an empty list
  opened_list : (T : Slots receiver) (i : ℕ) (q : Held) → IsAbsent receiver receiver_laws R T → list_of q ≡ [] → list_among (set T i (HeldBy R q)) ≡ []
  unfolding request_found
  opened_list T i q a l = go (lookup R (set T i (HeldBy R q))) (lookup_right clean_area R (set T i (HeldBy R q)))
    where
      go : (o : Lookup Held) → LookupRight clean_area R (set T i (HeldBy R q)) o → list_found (request_found receiver o) ≡ []
      go Absent r = refl
      go (FoundAt j h) r = which (written_or_not (Vacant clean_area) T i j (HeldBy R q))
        where
          which : ((j ≡ i) × (slot_at clean_area (set T i (HeldBy R q)) j ≡ HeldBy R q)) ⊎ (slot_at clean_area (set T i (HeldBy R q)) j ≡ slot_at clean_area T j) → list_of h ≡ []
          which (inl e) =
              let y : ◌≡◌ {A = SlotState (List ℕ) Held} (HeldBy R h) (HeldBy R q) = sym r ∙ e.1 in
              let z : h ≡ q = cc in
              ap (λ (k : Held). list_of k) z ∙ l
          which (inr e) = absurd (a j h (sym e ∙ r))

  follows_seated : (o : Vacancy (List ℕ)) (id : ℕ) (r : List ℕ → Held) (e : Note) (T : Slots receiver) (F : Reading receiver) → SlotsOk receiver receiver_laws T
      → IsAbsent receiver receiver_laws id T → VacancyThere receiver T o → tells_anew e ≡ true → ((x : List ℕ) → list_of (r x) ≡ [])
      → Follows T [] (request_seated receiver o id r e T F)
  unfolding request_seated request_in
  follows_seated NoVacancy id r e T F t a v f l = follows_same T T F (some (RequestEvent id (Note.Told (Event.Refuse 0 1)))) refl (by_test (eqb id R) (λ w. rw w) (λ w. rw w))
  follows_seated (VacancyAt i x) id r e T F t a v f l = by_test (eqb id R) own other
    where
      own : eqb id R ≡ true → Follows T [] (Open (set T i (HeldBy id (r x))) F, some (RequestEvent id e))
      own w =
          let k : id ≡ R = eqb-true id R w in
          let a' : IsAbsent receiver receiver_laws R T = subst (λ n. IsAbsent receiver receiver_laws n T) k a in
          rw (w, f) (subst (λ n. list_among (set T i (HeldBy n (r x))) ≡ []) (sym k) (opened_list T i (r x) a' (l x)))

      other : eqb id R ≡ false → Follows T [] (Open (set T i (HeldBy id (r x))) F, some (RequestEvent id e))
      other w =
          let n = eqb-false id R w in
          let c : x ≡ clean_area = rw v at (t.fits i) in
          follows_same T (set T i (HeldBy id (r x))) F (some (RequestEvent id e)) (lookup_set clean_area R T i (HeldBy id (r x)) (subst (λ s. OfOthers clean_area R s) (sym v) c) n) (rw w)

  follows_begin : (o : BeginOutcome (List ℕ) Held Note) (id : ℕ) (T : Slots receiver) (F : Reading receiver) → SlotsOk receiver receiver_laws T → IsAbsent receiver receiver_laws id T
      → BeginsAnew o
      → Follows T [] (begin_whole receiver o id T F)
  unfolding begin_whole
  follows_begin (Declined e) id T F t a f = follows_same T T F (some (RequestEvent id e)) refl (by_test (eqb id R) (λ w. rw (w, f)) (λ w. rw w))
  follows_begin (Accepted r e) id T F t a f = follows_seated (first_vacancy T) id r e T F t a (vacancy_there receiver T) f.0 f.1

  -- a byte for a stream of a request
  follows_stream : (due : Due) (i c p b id : ℕ) (h : Held) (T : Slots receiver) → SlotsOk receiver receiver_laws T → slot_at clean_area T i ≡ HeldBy id h → StreamOk due (suc c) h
      → EffectOk receiver receiver_laws (stream_byte receiver (HeldBy id h) i due c p b T)
      → Follows T (if is_params_of R (HeldBy id h) due then b ∷ [] else []) (stream_byte receiver (HeldBy id h) i due c p b T)
  unfolding stream_byte receive_byte
  follows_stream Due.Skip i c p b id h T t d s w = follows_decided T _ i id h h Event.None b [] t w.0 d (λ k. sym (append-nil (list_of h))) (λ k. refl)
  follows_stream Due.Params i c p b id h T t d s w =
      let f : SlotOk receiver receiver_laws (HeldBy id h) = rw d at (t.fits i) in
      follows_decided T _ i id h (grown h (b ∷ [])) Event.None b (if eqb id R then b ∷ [] else []) t w.0 d
      (λ k. rw (eq-eqb id R k) (list_grown h b (omega (arith, s)) f.1.sized)) (λ k. rw k)
  follows_stream Due.Stdin i c p b id h T t d s w = follows_decided T _ i id h (showed Due.Stdin 1 h) (Event.Data h.request.id _ 1) b [] t w.0 d (λ k. sym (append-nil (list_of h))) (λ k. refl)
  follows_stream Due.Data i c p b id h T t d s w = follows_decided T _ i id h (showed Due.Data 1 h) (Event.Data h.request.id _ 1) b [] t w.0 d (λ k. sym (append-nil (list_of h))) (λ k. refl)

  follows_content : (s : Target receiver) (c p b : ℕ) (T : Slots receiver) → SlotsOk receiver receiver_laws T → TargetOk receiver receiver_laws T s (suc c)
      → EffectOk receiver receiver_laws (content_byte receiver s c p b T)
      → Follows T (content_for R T s b) (content_byte receiver s c p b T)
  unfolding content_byte
  follows_content Skip c p b T t s w = follows_same T T (with_left receiver Skip c p) none refl refl
  follows_content (ToBegin id g) zero p b T t s w = follows_begin (receive_begin id (g ++ b ∷ [])) id T _ t s.2 (begins id (g ++ b ∷ []))
  follows_content (ToBegin id g) (suc c) p b T t s w = follows_same T T (PastHeader (ToBegin id (g ++ b ∷ [])) (suc c) p) none refl refl
  follows_content (ToQuery g) zero p b T t s w = follows_query (receive_query (g ++ b ∷ [])) T _
  follows_content (ToQuery g) (suc c) p b T t s w = follows_same T T (PastHeader (ToQuery (g ++ b ∷ [])) (suc c) p) none refl refl
  follows_content (ToSlot i due) c p b T t s w =
      subst (λ o. Follows T (if is_params_of R o due then b ∷ [] else []) (stream_byte receiver o i due c p b T)) (sym s.2)
      (follows_stream due i c p b s.0 s.1 T t s.2 s.3 (subst (λ o. EffectOk receiver receiver_laws (stream_byte receiver o i due c p b T)) s.2 w))

  follows_byte : (T : Slots receiver) (F : Reading receiver) (b : ℕ) → SlotsOk receiver receiver_laws T → ReadingOk receiver receiver_laws T F
      → EffectOk receiver receiver_laws (record_byte receiver T F b)
      → Follows T (content_at R T F b) (record_byte receiver T F b)
  unfolding record_byte
  follows_byte T (AtHeader h) b t f w = follows_header_byte (ltb (length (h ++ b ∷ [])) 8) T (h ++ b ∷ []) t w
  follows_byte T (PastHeader s (suc c) p) b t f w = follows_content s c p b T t f.target_ok w
  follows_byte T (PastHeader s zero (suc p)) b t f w = follows_same T T (with_left receiver s zero p) none refl refl
  follows_byte T (PastHeader s zero zero) b t f w = follows_same T T (AtHeader []) none refl refl

  -- ---- calls
  -- R is finished
  freed_list : (T : Slots receiver) (i : ℕ) (h : Held) → SlotsOk receiver receiver_laws T → slot_at clean_area T i ≡ HeldBy R h → list_among (set T i (Vacant clean_area)) ≡ []
  unfolding request_found
  freed_list T i h t d = go (lookup R (set T i (Vacant clean_area))) (lookup_right clean_area R (set T i (Vacant clean_area)))
    where
      go : (o : Lookup Held) → LookupRight clean_area R (set T i (Vacant clean_area)) o → list_found (request_found receiver o) ≡ []
      go Absent r = refl
      go (FoundAt j q) r = which (written_or_not (Vacant clean_area) T i j (Vacant clean_area))
        where
          none_here : slot_at clean_area (set T i (Vacant clean_area)) j ≡ Vacant clean_area → list_of q ≡ []
          none_here e =
              let y : ◌≡◌ {A = SlotState (List ℕ) Held} (Vacant clean_area) (HeldBy R q) = sym e ∙ r in
              let z : ◌≡◌ {A = ℕ} 0 1 = cc in
              absurd (omega arith)

          which : ((j ≡ i) × (slot_at clean_area (set T i (Vacant clean_area)) j ≡ Vacant clean_area)) ⊎ (slot_at clean_area (set T i (Vacant clean_area)) j ≡ slot_at clean_area T j) → list_of q ≡ []
          which (inl e) = none_here e.1
          which (inr e) =
              let x : j ≡ i = t.once j i R q h (sym e ∙ r) d in
              none_here (ap (slot_at clean_area (set T i (Vacant clean_area))) x ∙ slot_written clean_area T i R h (Vacant clean_area) d)

  follows_answer : (o : CallOutcome Held Answer) (i id : ℕ) (h : Held) (a : Argument) (T : Slots receiver) (F : Reading receiver) → SlotsOk receiver receiver_laws T
      → slot_at clean_area T i ≡ HeldBy id h → CallKeeps h o → EffectOk receiver receiver_laws (call_decided receiver o i h id a T F)
      → Follows T [] (call_decided receiver o i h id a T F)
  unfolding call_decided request_in
  follows_answer (Stays q n) i id h a T F t d k w = by_test (eqb id R) own other
    where
      own : eqb id R ≡ true → Follows T [] (Open (set T i (HeldBy id q)) F, some (CallAnswer id a n (some h) (some q)))
      own e =
          let r : id ≡ R = eqb-true id R e in
          subst (λ m. Follows T [] (Open (set T i (HeldBy m q)) F, some (CallAnswer id a n (some h) (some q)))) (sym r)
          (follows_put T F i h q (some (CallAnswer id a n (some h) (some q))) [] t (subst (λ m. SlotsOk receiver receiver_laws (set T i (HeldBy m q))) r w.0)
          (subst (λ m. slot_at clean_area T i ≡ HeldBy m h) r d) (rw k.0 (k.1 ∙ sym (append-nil (list_of h)))))

      other : eqb id R ≡ false → Follows T [] (Open (set T i (HeldBy id q)) F, some (CallAnswer id a n (some h) (some q)))
      other e =
          let m = eqb-false id R e in
          follows_same T (set T i (HeldBy id q)) F (some (CallAnswer id a n (some h) (some q))) (lookup_set clean_area R T i (HeldBy id q) (other_slot T i id h d m) m) (rw k.0)
  follows_answer (Retires q n) i id h a T F t d k w = absurd k
  follows_answer (Leaves n) i id h a T F t d k w = by_test (eqb id R) own other
    where
      own : eqb id R ≡ true → Follows T [] (Open (set T i (Vacant clean_area)) (reading_without receiver i F), some (CallAnswer id a n (some h) none))
      own e =
          let r : id ≡ R = eqb-true id R e in
          rw (k.0, k.1, e) (freed_list T i h t (subst (λ m. slot_at clean_area T i ≡ HeldBy m h) r d))

      other : eqb id R ≡ false → Follows T [] (Open (set T i (Vacant clean_area)) (reading_without receiver i F), some (CallAnswer id a n (some h) none))
      other e =
          let m = eqb-false id R e in
          follows_same T (set T i (Vacant clean_area)) (reading_without receiver i F) (some (CallAnswer id a n (some h) none)) (lookup_set clean_area R T i (Vacant clean_area) (other_slot T i id h d m) refl) (rw (k.0, k.1, e))
  follows_answer (Closes n) i id h a T F t d k w = follows_closed T [] (some (CallAnswer id a n (some h) none)) (rw (k.0, k.1))

  follows_called : (o : Lookup Held) (id : ℕ) (a : Argument) (T : Slots receiver) (F : Reading receiver) → SlotsOk receiver receiver_laws T → LookupRight clean_area id T o
      → EffectOk receiver receiver_laws (request_called receiver o id a T F)
      → Follows T [] (request_called receiver o id a T F)
  unfolding request_called
  follows_called Absent id a T F t r w = follows_same T T F (some (CallAnswer id a (refused 3 a) none none)) refl (rw (refused_keeps 3 a refl))
  follows_called (FoundAt i h) id a T F t r w = follows_answer (receive_call a h) i id h a T F t r (call_keeps a h) w

  -- ---- every item
  pub follows_item : (s : Connection receiver) (x : (Item Argument)) → WellShaped receiver receiver_laws s → EffectOk receiver receiver_laws (on_item receiver s x)
      → list_in (on_item receiver s x).0 ≡ parameters_then R (on_item receiver s x).1 (content_of R s x) (list_in s)
  unfolding on_item request_in
  follows_item Closed (ByteItem b) h w = refl
  follows_item Closed (CallItem (RequestCall id a)) h w = rw (refused_keeps 1 a refl)
  follows_item Closed (CallItem CountCall) h w = refl
  follows_item (Open T F) (ByteItem b) h w = follows_byte T F b h.0 h.1 w
  follows_item (Open T F) (CallItem (RequestCall id a)) h w = follows_called (lookup id T) id a T F h.0 (lookup_right clean_area id T) w
  follows_item (Open T F) (CallItem CountCall) h w = follows_same T T F (some (CountAnswer (some T))) refl refl

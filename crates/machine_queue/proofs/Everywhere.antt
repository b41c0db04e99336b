-- What is known of every slot of a connection: kept by bytes, and by calls that keep it of their own slot. One walk
-- over
-- the machine for every such property.
use Rattle.std.specs.Prelude.{◌≡◌, List, [], ◌∷◌, ◌++◌, ◌⊎◌, Bool, length, set, eqb, ltb, if◌then◌else◌}
use Rattle.std.proofs.Common.{sym, inl, inr}
use Rattle.std.proofs.Math.Path.{subst}
use Rattle.std.proofs.Math.Option.{Option, none, some}
use Rattle.std.proofs.Math.Bool.{true, false}
use Prim.Native.Nat.{ℕ, zero, suc}
use Rattle.machine.specs.Slots.{SlotState, Vacant, HeldBy, Lookup, Absent, FoundAt, Vacancy, NoVacancy, VacancyAt, lookup, first_vacancy, slot_at, LookupRight, lookup_right}
use Rattle.machine.proofs.ShapeSlots.{written_or_not, VacancyThere, vacancy_there}
use Rattle.machine.proofs.ShapeKept.{fresh_vacant}
use Rattle.machine.specs.Timeline.{RequestCall, ByteItem, CallItem, header_version, header_type, header_id, header_content, header_padding}
use Rattle.machine.specs.Machine.{QueryOutcome, Asks, Breaks, HeaderOutcome, Decided, BeginOutcome, Declined, Accepted, CallOutcome, Stays, Retires, Leaves, Closes, InactiveOutcome, WrongBegin, NewBegin, PassedOver, ManagementOutcome, QueryTooLong, Notices, Gathers, Machine, Target, Skip, ToBegin, ToQuery, ToSlot, Reading, AtHeader, PastHeader, Slots, Connection, Open, Closed, with_left, query_whole, query_header, management_header, inactive_header, target_at, header_decided, header_found, header_routed, header_versioned, header_byte, request_seated, begin_whole, stream_byte, content_byte, record_byte, target_without, reading_without, call_decided, request_called, on_item, fresh}

-- What a slot fulfils after a header, where a request is opened in it, and after a call.
module _ (M : Machine) where
  open M use {Leftover, clean, Request, Stream, Event, Answer, on_header, on_byte, on_begin}

  abbrev pub AfterHeader : (Request → Type 0) → HeaderOutcome Request Stream Event → Type 0
  AfterHeader P (Decided r e k) = P r

  abbrev pub AfterBegin : ((Leftover → Request) → Type 0) → BeginOutcome Leftover Request Event → Type 0
  AfterBegin P (Declined e) = Unit {0}
  AfterBegin P (Accepted f e) = P f

  abbrev pub AfterCall : (SlotState Leftover Request → Type 0) → ℕ → CallOutcome Request Answer → Type 0
  AfterCall P id (Stays r n) = P (HeldBy id r)
  AfterCall P id (Retires r n) = P (HeldBy id r)
  AfterCall P id (Leaves n) = P (Vacant clean)
  AfterCall P id (Closes n) = Unit {0}

  -- A property of ids, and one of slots by their numbers that headers, content and the opening of a request keep.
  pub record Property : Type 1 where
    pub IdOk : ℕ → Type 0
    pub Ok : ℕ → SlotState Leftover Request → Type 0
    pub header_keeps : (t c i id : ℕ) (r : Request) → Ok i (HeldBy id r) → AfterHeader (λ q. Ok i (HeldBy id q)) (on_header t c r)
    pub byte_keeps : (k : Stream) (b i id : ℕ) (r : Request) → Ok i (HeldBy id r) → Ok i (HeldBy id (on_byte k b r).0)
    pub begin_keeps : (id : ℕ) (g : List ℕ) (i : ℕ) (x : Leftover) → IdOk id → Ok i (Vacant x) → AfterBegin (λ f. Ok i (HeldBy id (f x))) (on_begin id g)

module _ (M : Machine) (P : Property M) where
  open M use {Leftover, clean, Request, Stream, Event, Notice, Answer, Argument, on_header, on_byte, on_begin, on_inactive, on_management, on_query, on_call}
  open P use {IdOk, Ok, header_keeps, byte_keeps, begin_keeps}

  -- every slot
  abbrev pub SlotsHold : Slots M → Type 0
  SlotsHold T = (i : ℕ) → Ok i (slot_at clean T i)

  -- the id of a BEGIN body that is gathered
  abbrev pub TargetHolds : Target M → Type 0
  TargetHolds Skip = Unit {0}
  TargetHolds (ToBegin id g) = IdOk id
  TargetHolds (ToQuery g) = Unit {0}
  TargetHolds (ToSlot i k) = Unit {0}

  -- where the connection reads
  abbrev pub ReadingHolds : Reading M → Type 0
  ReadingHolds (AtHeader h) = Unit {0}
  ReadingHolds (PastHeader s c p) = TargetHolds s

  -- the connection
  abbrev pub Holds : Connection M → Type 0
  Holds (Open T F) = SlotsHold T × ReadingHolds F
  Holds Closed = Unit {0}

  -- ---- slots
  -- one slot is written
  put_holds : (T : Slots M) (i : ℕ) (s : SlotState Leftover Request) → Ok i s → SlotsHold T → SlotsHold (set T i s)
  put_holds T i s b h j = go (written_or_not (Vacant clean) T i j s)
    where
      go : ((j ≡ i) × (slot_at clean (set T i s) j ≡ s)) ⊎ (slot_at clean (set T i s) j ≡ slot_at clean T j) → Ok j (slot_at clean (set T i s) j)
      go (inl e) = subst (λ k. Ok k (slot_at clean (set T i s) j)) (sym e.0) (subst (λ x. Ok i x) (sym e.1) b)
      go (inr e) = subst (λ x. Ok j x) (sym e) (h j)

  -- the slot of an id
  abbrev pub LookupHolds : ℕ → Lookup Request → Type 0
  LookupHolds id Absent = Unit {0}
  LookupHolds id (FoundAt i r) = Ok i (HeldBy id r)

  -- the slot that is found
  pub lookup_holds : (id : ℕ) (T : Slots M) → SlotsHold T → LookupHolds id (lookup id T)
  lookup_holds id T h = go (lookup id T) (lookup_right clean id T)
    where
      go : (o : Lookup Request) → LookupRight clean id T o → LookupHolds id o
      go Absent e = tt
      go (FoundAt i r) e = subst (λ x. Ok i x) e (h i)

  left_holds : (s : Target M) (c p : ℕ) → TargetHolds s → ReadingHolds (with_left M s c p)
  unfolding with_left
  left_holds s zero zero h = tt
  left_holds s zero (suc p) h = tt
  left_holds s (suc c) p h = h

  -- ---- bytes
  query_holds : (o : QueryOutcome Notice) (T : Slots M) (F : Reading M) → SlotsHold T → ReadingHolds F → Holds (query_whole M o T F).0
  unfolding query_whole
  query_holds (Breaks place) T F h f = tt
  query_holds (Asks w) T F h f = (h, f)

  query_header_holds : (c p : ℕ) (T : Slots M) → SlotsHold T → Holds (query_header M c T p).0
  unfolding query_header
  query_header_holds zero p T h = query_holds (on_query []) T (with_left M Skip zero p) h (left_holds Skip zero p tt)
  query_header_holds (suc c) p T h = (h, tt)

  management_holds : (o : ManagementOutcome Notice) (T : Slots M) (g : List ℕ) → SlotsHold T → Holds (management_header M o T g).0
  unfolding management_header
  management_holds QueryTooLong T g h = tt
  management_holds (Notices w) T g h = (h, left_holds Skip (header_content g) (header_padding g) tt)
  management_holds Gathers T g h = query_header_holds (header_content g) (header_padding g) T h

  inactive_holds : (o : InactiveOutcome) (T : Slots M) (g : List ℕ) → IdOk (header_id g) → SlotsHold T → Holds (inactive_header M o T g).0
  unfolding inactive_header
  inactive_holds WrongBegin T g b h = tt
  inactive_holds PassedOver T g b h = (h, left_holds Skip (header_content g) (header_padding g) tt)
  inactive_holds NewBegin T g b h = (h, left_holds (ToBegin (header_id g) []) (header_content g) (header_padding g) b)

  target_holds : (i : ℕ) (k : Option Stream) → TargetHolds (target_at M i k)
  unfolding target_at
  target_holds i none = tt
  target_holds i (some k) = tt

  decided_holds : (o : HeaderOutcome Request Stream Event) (i : ℕ) (T : Slots M) (g : List ℕ) → AfterHeader M (λ q. Ok i (HeldBy (header_id g) q)) o → SlotsHold T → Holds (header_decided M o i T g).0
  unfolding header_decided
  decided_holds (Decided r e k) i T g b h = (put_holds T i (HeldBy (header_id g) r) b h, left_holds (target_at M i k) (header_content g) (header_padding g) (target_holds i k))

  found_holds : (o : Lookup Request) (T : Slots M) (g : List ℕ) → IdOk (header_id g) → LookupHolds (header_id g) o → SlotsHold T → Holds (header_found M o T g).0
  unfolding header_found
  found_holds Absent T g b l h = inactive_holds (on_inactive (header_type g) (header_content g)) T g b h
  found_holds (FoundAt i r) T g b l h = decided_holds (on_header (header_type g) (header_content g) r) i T g (header_keeps (header_type g) (header_content g) i (header_id g) r l) h

  routed_holds : (o : Bool) (T : Slots M) (g : List ℕ) → IdOk (header_id g) → SlotsHold T → Holds (header_routed M o T g).0
  unfolding header_routed
  routed_holds true T g b h = management_holds (on_management (header_type g) (header_content g)) T g h
  routed_holds false T g b h = found_holds (lookup (header_id g) T) T g b (lookup_holds (header_id g) T h) h

  versioned_holds : (o : Bool) (T : Slots M) (g : List ℕ) → IdOk (header_id g) → SlotsHold T → Holds (header_versioned M o T g).0
  unfolding header_versioned
  versioned_holds false T g b h = tt
  versioned_holds true T g b h = routed_holds (eqb (header_id g) 0) T g b h

  header_holds : (o : Bool) (T : Slots M) (g : List ℕ) → IdOk (header_id g) → SlotsHold T → Holds (header_byte M o T g).0
  unfolding header_byte
  header_holds true T g b h = (h, tt)
  header_holds false T g b h = versioned_holds (eqb (header_version g) 1) T g b h

  -- the slot that a request is opened in was free
  seated_holds : (o : Vacancy Leftover) (id : ℕ) (f : Leftover → Request) (e : Event) (T : Slots M) (F : Reading M) → VacancyThere M T o
      → ((i : ℕ) (x : Leftover) → Ok i (Vacant x) → Ok i (HeldBy id (f x))) → SlotsHold T → ReadingHolds F
      → Holds (request_seated M o id f e T F).0
  unfolding request_seated
  seated_holds NoVacancy id f e T F v b h g = (h, g)
  seated_holds (VacancyAt i x) id f e T F v b h g = (put_holds T i (HeldBy id (f x)) (b i x (subst (λ s. Ok i s) v (h i))) h, g)

  begin_holds : (o : BeginOutcome Leftover Request Event) (id : ℕ) (T : Slots M) (F : Reading M)
      → ((i : ℕ) (x : Leftover) → Ok i (Vacant x) → AfterBegin M (λ f. Ok i (HeldBy id (f x))) o) → SlotsHold T → ReadingHolds F
      → Holds (begin_whole M o id T F).0
  unfolding begin_whole
  begin_holds (Declined e) id T F b h g = (h, g)
  begin_holds (Accepted f e) id T F b h g = seated_holds (first_vacancy T) id f e T F (vacancy_there M T) b h g

  stream_holds : (s : SlotState Leftover Request) (i : ℕ) (k : Stream) (c p b : ℕ) (T : Slots M) → Ok i s → SlotsHold T → Holds (stream_byte M s i k c p b T).0
  unfolding stream_byte
  stream_holds (Vacant x) i k c p b T s h = (h, left_holds Skip c p tt)
  stream_holds (HeldBy id r) i k c p b T s h = (put_holds T i (HeldBy id (on_byte k b r).0) (byte_keeps k b i id r s) h, left_holds (ToSlot i k) c p tt)

  content_holds : (s : Target M) (c p b : ℕ) (T : Slots M) → TargetHolds s → SlotsHold T → Holds (content_byte M s c p b T).0
  unfolding content_byte
  content_holds Skip c p b T s h = (h, left_holds Skip c p tt)
  content_holds (ToBegin id g) zero p b T s h = begin_holds (on_begin id (g ++ b ∷ [])) id T (with_left M Skip zero p) (λ i x v. begin_keeps id (g ++ b ∷ []) i x s v) h (left_holds Skip zero p tt)
  content_holds (ToBegin id g) (suc c) p b T s h = (h, s)
  content_holds (ToQuery g) zero p b T s h = query_holds (on_query (g ++ b ∷ [])) T (with_left M Skip zero p) h (left_holds Skip zero p tt)
  content_holds (ToQuery g) (suc c) p b T s h = (h, tt)
  content_holds (ToSlot i k) c p b T s h = stream_holds (slot_at clean T i) i k c p b T (h i) h

  -- the id of a header that the byte may complete
  abbrev pub HeaderIdOk : Connection M → ℕ → Type 0
  HeaderIdOk (Open T (AtHeader g)) b = IdOk (header_id (g ++ b ∷ []))
  HeaderIdOk (Open T (PastHeader s c p)) b = Unit {0}
  HeaderIdOk Closed b = Unit {0}

  -- where every id will do
  pub any_header : ((id : ℕ) → IdOk id) → (s : Connection M) (b : ℕ) → HeaderIdOk s b
  any_header f Closed b = tt
  any_header f (Open T (AtHeader g)) b = f (header_id (g ++ b ∷ []))
  any_header f (Open T (PastHeader s c p)) b = tt

  -- and wherever it reads
  pub any_reading : ((id : ℕ) → IdOk id) → (F : Reading M) → ReadingHolds F
  any_reading f (AtHeader g) = tt
  any_reading f (PastHeader Skip c p) = tt
  any_reading f (PastHeader (ToBegin id g) c p) = f id
  any_reading f (PastHeader (ToQuery g) c p) = tt
  any_reading f (PastHeader (ToSlot i k) c p) = tt

  -- A byte.
  pub byte_holds : (s : Connection M) (b : ℕ) → HeaderIdOk s b → Holds s → Holds (on_item M s (ByteItem b)).0
  unfolding on_item record_byte
  byte_holds Closed b l h = tt
  byte_holds (Open T (AtHeader g)) b l h = header_holds (ltb (length (g ++ b ∷ [])) 8) T (g ++ b ∷ []) l h.0
  byte_holds (Open T (PastHeader s (suc c) p)) b l h = content_holds s c p b T h.1 h.0
  byte_holds (Open T (PastHeader s zero (suc p))) b l h = (h.0, left_holds s zero p h.1)
  byte_holds (Open T (PastHeader s zero zero)) b l h = (h.0, tt)

  -- ---- calls
  without_holds : (i : ℕ) (F : Reading M) → ReadingHolds F → ReadingHolds (reading_without M i F)
  unfolding reading_without target_without
  without_holds i (AtHeader h) f = tt
  without_holds i (PastHeader Skip c p) f = tt
  without_holds i (PastHeader (ToBegin id g) c p) f = f
  without_holds i (PastHeader (ToQuery g) c p) f = tt
  without_holds i (PastHeader (ToSlot j k) c p) f = go (eqb i j)
    where
      go : (b : Bool) → TargetHolds (if b then Skip else ToSlot j k)
      go true = tt
      go false = tt

  called_holds : (o : CallOutcome Request Answer) (i : ℕ) (q : Request) (id : ℕ) (a : Argument) (T : Slots M) (F : Reading M) → AfterCall M (Ok i) id o → SlotsHold T → ReadingHolds F
      → Holds (call_decided M o i q id a T F).0
  unfolding call_decided
  called_holds (Stays r n) i q id a T F b h f = (put_holds T i (HeldBy id r) b h, f)
  called_holds (Retires r n) i q id a T F b h f = (put_holds T i (HeldBy id r) b h, without_holds i F f)
  called_holds (Leaves n) i q id a T F b h f = (put_holds T i (Vacant clean) b h, without_holds i F f)
  called_holds (Closes n) i q id a T F b h f = tt

  -- a call keeps it of its own slot, whichever it is
  abbrev pub CallKeeps : ℕ → Argument → Type 0
  CallKeeps id a = (i : ℕ) (r : Request) → Ok i (HeldBy id r) → AfterCall M (Ok i) id (on_call a r)

  found_called_holds : (o : Lookup Request) (id : ℕ) (a : Argument) (T : Slots M) (F : Reading M) → CallKeeps id a → LookupHolds id o → SlotsHold T → ReadingHolds F
      → Holds (request_called M o id a T F).0
  unfolding request_called
  found_called_holds Absent id a T F k l h f = (h, f)
  found_called_holds (FoundAt i r) id a T F k l h f = called_holds (on_call a r) i r id a T F (k i r l) h f

  -- A call.
  pub call_holds : (s : Connection M) (id : ℕ) (a : Argument) → CallKeeps id a → Holds s → Holds (on_item M s (CallItem (RequestCall id a))).0
  unfolding on_item
  call_holds Closed id a k h = tt
  call_holds (Open T F) id a k h = found_called_holds (lookup id T) id a T F k (lookup_holds id T h.0) h.0 h.1

  -- A fresh start.
  pub fresh_holds : (n : ℕ) → ((i : ℕ) → Ok i (Vacant clean)) → Holds (fresh M n)
  unfolding fresh
  fresh_holds n h = ((λ i. subst (λ s. Ok i s) (sym (fresh_vacant M n i)) (h i)), tt)

-- Bytes one after another, and a step of the whole state: on the machine with a queue it is the items of the bytes that
-- it used.
use Rattle.std.specs.Prelude.{◌≡◌, Bool, length, set, eqb, ltb}
use Rattle.std.proofs.Math.Path.{refl, ap}
use Rattle.std.proofs.Common.{◌∙◌}
use mathlib.Core.List.{List, [], ◌∷◌, ◌++◌}
use Rattle.std.proofs.Math.Option.{Option, none, some}
use Rattle.std.proofs.Math.Bool.{true, false}
use Prim.Native.Nat.{ℕ, zero, suc}
use Rattle.machine.specs.Slots.{SlotState, Vacant, HeldBy, Lookup, Absent, FoundAt, Vacancy, NoVacancy, VacancyAt, lookup, first_vacancy, slot_at}
use Rattle.machine.specs.Timeline.{ByteItem, byte_items, header_version, header_type, header_id, header_content, header_padding}
use Rattle.machine.specs.Machine.{QueryOutcome, Asks, Breaks, HeaderOutcome, Decided, BeginOutcome, Declined, Accepted, InactiveOutcome, WrongBegin, NewBegin, PassedOver, ManagementOutcome, QueryTooLong, Notices, Gathers, Target, Skip, ToBegin, ToQuery, ToSlot, Reading, AtHeader, PastHeader, Slots, Connection, Open, Closed, Observation, with_left, query_whole, query_header, management_header, inactive_header, header_decided, header_found, header_routed, header_versioned, header_byte, request_seated, begin_whole, stream_byte, content_byte, record_byte, on_item, state_after, as_list, observations}
use Rattle.connection.specs.declared.request.Due.{Due}
use Rattle.connection.specs.Request.{Held}
use Rattle.connection.specs.Bytewise.{Note}
use Rattle.connection.specs.Runs.Receiver.{receiver, Notice, receive_header, receive_byte, receive_begin, receive_query, receive_management, receive_inactive}
use Rattle.queue_machine.specs.Queued.{queueing_receiver}
use Rattle.queue_machine.proofs.Lift.{Waiting, lift_connection, lift_observation, lift_effect, NothingFree, FreeEnd, FreeVacant, FreeHeld, lift_byte}

-- ---- a free slot stays one, or is taken
pub free_set : {f : Waiting} {T : Slots receiver} (i id : ℕ) (h : Held) → NothingFree f T → NothingFree f (set T i (HeldBy id h))
free_set i id h FreeEnd = FreeEnd
free_set zero id h (FreeVacant e s) = FreeHeld s
free_set (suc i) id h (FreeVacant e s) = FreeVacant e (free_set i id h s)
free_set zero id h (FreeHeld s) = FreeHeld s
free_set (suc i) id h (FreeHeld s) = FreeHeld (free_set i id h s)

-- nothing waits in a free slot
abbrev pub FreeIn : Waiting → Connection receiver → Type 0
FreeIn f (Open T F) = NothingFree f T
FreeIn f Closed = Unit {0}

module _ (f : Waiting) where
  free_query : (o : QueryOutcome Notice) (T : Slots receiver) (F : Reading receiver) → NothingFree f T → FreeIn f (query_whole receiver o T F).0
  unfolding query_whole
  free_query (Breaks place) T F h = tt
  free_query (Asks w) T F h = h

  free_query_header : (c p : ℕ) (T : Slots receiver) → NothingFree f T → FreeIn f (query_header receiver c T p).0
  unfolding query_header
  free_query_header zero p T h = free_query (receive_query []) T (with_left receiver Skip zero p) h
  free_query_header (suc c) p T h = h

  free_management : (o : ManagementOutcome Notice) (T : Slots receiver) (g : List ℕ) → NothingFree f T → FreeIn f (management_header receiver o T g).0
  unfolding management_header
  free_management QueryTooLong T g h = tt
  free_management (Notices w) T g h = h
  free_management Gathers T g h = free_query_header (header_content g) (header_padding g) T h

  free_inactive : (o : InactiveOutcome) (T : Slots receiver) (g : List ℕ) → NothingFree f T → FreeIn f (inactive_header receiver o T g).0
  unfolding inactive_header
  free_inactive WrongBegin T g h = tt
  free_inactive PassedOver T g h = h
  free_inactive NewBegin T g h = h

  free_decided : (o : HeaderOutcome Held Due Note) (i : ℕ) (T : Slots receiver) (g : List ℕ) → NothingFree f T → FreeIn f (header_decided receiver o i T g).0
  unfolding header_decided
  free_decided (Decided r e k) i T g h = free_set i (header_id g) r h

  free_found : (o : Lookup Held) (T : Slots receiver) (g : List ℕ) → NothingFree f T → FreeIn f (header_found receiver o T g).0
  unfolding header_found
  free_found Absent T g h = free_inactive (receive_inactive (header_type g) (header_content g)) T g h
  free_found (FoundAt i r) T g h = free_decided (receive_header (header_type g) (header_content g) r) i T g h

  free_routed : (o : Bool) (T : Slots receiver) (g : List ℕ) → NothingFree f T → FreeIn f (header_routed receiver o T g).0
  unfolding header_routed
  free_routed true T g h = free_management (receive_management (header_type g) (header_content g)) T g h
  free_routed false T g h = free_found (lookup (header_id g) T) T g h

  free_versioned : (o : Bool) (T : Slots receiver) (g : List ℕ) → NothingFree f T → FreeIn f (header_versioned receiver o T g).0
  unfolding header_versioned
  free_versioned false T g h = tt
  free_versioned true T g h = free_routed (eqb (header_id g) 0) T g h

  free_header : (o : Bool) (T : Slots receiver) (g : List ℕ) → NothingFree f T → FreeIn f (header_byte receiver o T g).0
  unfolding header_byte
  free_header true T g h = h
  free_header false T g h = free_versioned (eqb (header_version g) 1) T g h

  free_seated : (o : Vacancy (List ℕ)) (id : ℕ) (r : List ℕ → Held) (e : Note) (T : Slots receiver) (F : Reading receiver) → NothingFree f T → FreeIn f (request_seated receiver o id r e T F).0
  unfolding request_seated
  free_seated NoVacancy id r e T F h = h
  free_seated (VacancyAt i x) id r e T F h = free_set i id (r x) h

  free_begin : (o : BeginOutcome (List ℕ) Held Note) (id : ℕ) (T : Slots receiver) (F : Reading receiver) → NothingFree f T → FreeIn f (begin_whole receiver o id T F).0
  unfolding begin_whole
  free_begin (Declined e) id T F h = h
  free_begin (Accepted r e) id T F h = free_seated (first_vacancy T) id r e T F h

  free_stream : (s : SlotState (List ℕ) Held) (i : ℕ) (k : Due) (c p b : ℕ) (T : Slots receiver) → NothingFree f T → FreeIn f (stream_byte receiver s i k c p b T).0
  unfolding stream_byte
  free_stream (Vacant x) i k c p b T h = h
  free_stream (HeldBy id r) i k c p b T h = free_set i id (receive_byte k b r).0 h

  free_content : (s : Target receiver) (c p b : ℕ) (T : Slots receiver) → NothingFree f T → FreeIn f (content_byte receiver s c p b T).0
  unfolding content_byte
  free_content Skip c p b T h = h
  free_content (ToBegin id g) zero p b T h = free_begin (receive_begin id (g ++ b ∷ [])) id T (with_left receiver Skip zero p) h
  free_content (ToBegin id g) (suc c) p b T h = h
  free_content (ToQuery g) zero p b T h = free_query (receive_query (g ++ b ∷ [])) T (with_left receiver Skip zero p) h
  free_content (ToQuery g) (suc c) p b T h = h
  free_content (ToSlot i k) c p b T h = free_stream (slot_at receiver.clean T i) i k c p b T h

  free_byte : (T : Slots receiver) (F : Reading receiver) (b : ℕ) → NothingFree f T → FreeIn f (record_byte receiver T F b).0
  unfolding record_byte
  free_byte T (AtHeader g) b h = free_header (ltb (length (g ++ b ∷ [])) 8) T (g ++ b ∷ []) h
  free_byte T (PastHeader s (suc c) p) b h = free_content s c p b T h
  free_byte T (PastHeader s zero (suc p)) b h = h
  free_byte T (PastHeader s zero zero) b h = h

  -- ---- bytes one after another
  -- what bytes show
  unfoldable pub lift_seen : List (Observation receiver) → List (Observation queueing_receiver)
  lift_seen [] = []
  lift_seen (o ∷ os) = as_list queueing_receiver (lift_observation (some o)) ++ lift_seen os

  lift_item : (s : Connection receiver) (b : ℕ) → FreeIn f s → on_item queueing_receiver (lift_connection f s) (ByteItem b) ≡ lift_effect f (on_item receiver s (ByteItem b))
  unfolding on_item
  lift_item (Open T F) b h = lift_byte f T F b h
  lift_item Closed b h = refl

  free_item : (s : Connection receiver) (b : ℕ) → FreeIn f s → FreeIn f (on_item receiver s (ByteItem b)).0
  unfolding on_item
  free_item (Open T F) b h = free_byte T F b h
  free_item Closed b h = tt

  lift_one : (o : Option (Observation receiver)) (os : List (Observation receiver)) → as_list queueing_receiver (lift_observation o) ++ lift_seen os ≡ lift_seen (as_list receiver o ++ os)
  unfolding lift_seen as_list
  lift_one none os = refl
  lift_one (some o) os = refl

  -- bytes on both
  pub record Lifted (s : Connection receiver) (x : List ℕ) : Type 0 where
    pub state : state_after queueing_receiver (lift_connection f s) (byte_items x) ≡ lift_connection f (state_after receiver s (byte_items x))
    pub seen : observations queueing_receiver (lift_connection f s) (byte_items x) ≡ lift_seen (observations receiver s (byte_items x))
    pub free : FreeIn f (state_after receiver s (byte_items x))

  -- Bytes do the same on both.
  pub lift_bytes : (x : List ℕ) (s : Connection receiver) → FreeIn f s → Lifted s x
  unfolding state_after observations byte_items lift_seen
  lift_bytes [] s h = record { state = refl; seen = refl; free = h }
  lift_bytes (b ∷ x) s h =
      let e = on_item receiver s (ByteItem b) in
      let i = lift_item s b h in
      let r = lift_bytes x e.0 (free_item s b h) in
      record {
        state = ap (λ w. state_after queueing_receiver w.0 (byte_items x)) i ∙ r.state;
        seen =
            ap (λ w. as_list queueing_receiver w.1 ++ observations queueing_receiver w.0 (byte_items x)) i
            ∙ ap (λ l. as_list queueing_receiver (lift_observation e.1) ++ l) r.seen
            ∙ lift_one e.1 (observations receiver e.0 (byte_items x));
        free = r.free;
      }

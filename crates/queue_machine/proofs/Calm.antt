-- Bytes let nobody leave: where R is not between its finish and its END, it is not after any bytes.
use Rattle.std.specs.Prelude.{◌≡◌, List, ℕ}
use Rattle.std.proofs.Math.Path.{refl, ap, sym, subst}
use Rattle.std.proofs.Common.{◌∙◌}
use Rattle.std.proofs.Math.Bool.{false}
use Rattle.machine.specs.Slots.{SlotState, Vacant, HeldBy, Lookup, Absent, FoundAt, lookup, slot_at, LookupRight, lookup_right}
use Rattle.machine.specs.Timeline.{ByteItem}
use Rattle.machine.specs.Machine.{HeaderOutcome, Decided, BeginOutcome, Declined, Accepted, Connection, Open, Closed, on_item, request_found, request_in}
use Rattle.machine.specs.Shape.{WellShaped}
use Rattle.machine.proofs.ShapeSlots.{lookup_absent}
use Rattle.machine_queue.specs.Waiting.{is_leaving}
use Rattle.machine_queue.proofs.Everywhere.{any_header, any_reading, AfterHeader, AfterBegin, Property, Holds, LookupHolds, lookup_holds, byte_holds}
use Rattle.connection.specs.declared.request.Due.{Due}
use Rattle.connection.specs.Request.{Held}
use Rattle.connection.specs.Bytewise.{Note}
use Rattle.connection.specs.Runs.Receiver.{receive_header, receive_begin}
use Rattle.queue_slot.specs.Atoms.{Atom, end_waits}
use Rattle.queue_machine.specs.Queued.{Queued, lifted_header, queued_header, queued_byte, lifted_begin, queued_begin, queueing_receiver, waiting_queue}
use Rattle.queue_machine.proofs.EndsRight.{ends_laws}

module _ (R : ℕ) where
  -- a request of R is not leaving
  abbrev pub CalmAs : SlotState (List ℕ) Queued → Type 0
  CalmAs (Vacant x) = Unit {0}
  CalmAs (HeldBy id r) = id ≡ R → end_waits r.waiting ≡ false

  -- headers and content let wait what waits; for a new request nothing waits
  lifted_calm : (id : ℕ) (o : HeaderOutcome Held Due Note) (l : List Atom) → (id ≡ R → end_waits l ≡ false) → AfterHeader queueing_receiver (λ q. CalmAs (HeldBy id q)) (lifted_header o l)
  lifted_calm id (Decided h e k) l c = c

  pub header_calm : (t c id : ℕ) (r : Queued) → CalmAs (HeldBy id r) → AfterHeader queueing_receiver (λ q. CalmAs (HeldBy id q)) (queued_header t c r)
  unfolding queued_header
  header_calm t c id r h = lifted_calm id (receive_header t c r.held) r.waiting h

  pub content_calm : (k : Due) (b id : ℕ) (r : Queued) → CalmAs (HeldBy id r) → CalmAs (HeldBy id (queued_byte k b r).0)
  unfolding queued_byte
  content_calm k b id r h = h

  opened_calm : (id : ℕ) (x : List ℕ) (o : BeginOutcome (List ℕ) Held Note) → AfterBegin queueing_receiver (λ f. CalmAs (HeldBy id (f x))) (lifted_begin o)
  unfolding end_waits
  opened_calm id x (Declined e) = tt
  opened_calm id x (Accepted f e) = λ d. refl

  pub begin_calm : (id : ℕ) (g x : List ℕ) → AfterBegin queueing_receiver (λ f. CalmAs (HeldBy id (f x))) (queued_begin id g)
  unfolding queued_begin
  begin_calm id g x = opened_calm id x (receive_begin id g)

  -- the property
  abbrev pub calm : Property queueing_receiver
  calm =
      record {
        IdOk = λ id. Unit {0};
        Ok = λ i s. CalmAs s;
        header_keeps = λ t c i id r h. header_calm t c id r h;
        byte_keeps = λ k b i id r h. content_calm k b id r h;
        begin_keeps = λ id g i x u v. begin_calm id g x;
      }

  -- no request of R is leaving
  abbrev pub CalmIn : Connection queueing_receiver → Type 0
  CalmIn s = Holds queueing_receiver calm s

  -- a byte keeps it
  pub calm_byte : (s : Connection queueing_receiver) (b : ℕ) → CalmIn s → CalmIn (on_item queueing_receiver s (ByteItem b)).0
  calm_byte s b h = byte_holds queueing_receiver calm s b (any_header queueing_receiver calm (λ id. tt) s b) h

  -- ---- R's request
  found_calm : (o : Lookup Queued) → LookupHolds queueing_receiver calm R o → is_leaving queueing_receiver waiting_queue (request_found queueing_receiver o) ≡ false
  unfolding is_leaving request_found
  found_calm Absent h = refl
  found_calm (FoundAt i r) h = h refl

  -- so R is not leaving
  pub calm_request : (s : Connection queueing_receiver) → CalmIn s → is_leaving queueing_receiver waiting_queue (request_in queueing_receiver R s) ≡ false
  unfolding is_leaving request_in
  calm_request Closed h = refl
  calm_request (Open T F) h = found_calm (lookup R T) (lookup_holds queueing_receiver calm R T h.0)

  -- and where R is not leaving, it holds
  pub request_calm : (s : Connection queueing_receiver) → WellShaped queueing_receiver ends_laws s → is_leaving queueing_receiver waiting_queue (request_in queueing_receiver R s) ≡ false → CalmIn s
  unfolding is_leaving request_in request_found
  request_calm Closed w e = tt
  request_calm (Open T F) w e = ((λ j. own j (slot_at queueing_receiver.clean T j) refl), any_reading queueing_receiver calm (λ id. tt) F)
    where
      go : (o : Lookup Queued) → lookup R T ≡ o → is_leaving queueing_receiver waiting_queue (request_found queueing_receiver o) ≡ false → (j : ℕ) (r : Queued) → slot_at queueing_receiver.clean T j ≡ HeldBy R r → end_waits r.waiting ≡ false
      go Absent l e j r d = absurd (lookup_absent queueing_receiver ends_laws R T l j r d)
      go (FoundAt i q) l e j r d =
          let here : slot_at queueing_receiver.clean T i ≡ HeldBy R q = subst (λ o. LookupRight queueing_receiver.clean R T o) l (lookup_right queueing_receiver.clean R T) in
          let k : i ≡ j = w.0.once i j R q r here d in
          let s : HeldBy R q ≡ HeldBy R r = sym here ∙ ap (slot_at queueing_receiver.clean T) k ∙ d in
          let t : q ≡ r = cc in
          subst (λ (x : Queued). end_waits x.waiting ≡ false) t e

      own : (j : ℕ) (s : SlotState (List ℕ) Queued) → slot_at queueing_receiver.clean T j ≡ s → CalmAs s
      own j (Vacant x) d = tt
      own j (HeldBy id r) d = λ q. go (lookup R T) refl e j r (d ∙ ap (λ k. HeldBy k r) q)

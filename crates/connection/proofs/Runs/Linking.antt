-- What a step leaves is what the machine comes to: frames, closes, and a whole header.
use Rattle.connection.specs.Slots.{Slot}
use Rattle.std.specs.Prelude.{◌≡◌, Bool, take, eqb, ltb, if◌then◌else◌, Some, None}
use Rattle.std.proofs.Math.Path.{refl, ap, ap₂, subst}
use Rattle.std.proofs.Common.{sym, ◌∙◌, arith, ne_eqb}
use mathlib.Core.List.{List, [], ◌∷◌, map}
use Rattle.std.proofs.Math.Option.{Option, none, some}
use Rattle.std.proofs.Math.Bool.{true, false}
use Prim.Native.Nat.{ℕ, zero, suc, ◌+◌, ◌≤◌, ◌<◌}
use Rattle.std.proofs.Math.ListN.{length, set}
use Rattle.wire.specs.Test.{◌=?◌}
use Rattle.wire.specs.Buffer.{byte_at}
use Rattle.wire.specs.Number.{number2}
use Rattle.record.specs.Names.{VERSION, BEGIN_REQUEST, GET_VALUES}
use Rattle.record.specs.Header.{header_of}
use Rattle.record.specs.declared.header.Header.{Header}
use Rattle.record_reader.specs.Position.{no_header}
use Rattle.record_reader.specs.declared.Position.{Position}
use Rattle.pair_list.specs.List.{well_formed, broken_at}
use Rattle.machine.specs.Slots.{HeldBy}
use Rattle.machine.specs.Timeline.{header_version, header_type, header_id, header_content, header_padding}
use Rattle.machine.specs.Machine.{Asks, Breaks, WrongBegin, NewBegin, PassedOver, QueryTooLong, Notices, Gathers, Skip, Reading, Open, Closed, Observation, NoticeEvent, CloseEvent, Effect, with_left, query_whole, query_header, management_header, inactive_header, target_at, header_decided, header_found, header_routed, header_versioned, as_list}
use Rattle.connection.specs.declared.request.Due.{Due}
use Rattle.connection.specs.declared.state.Table.{Table}
use Rattle.connection.specs.declared.state.Target.{Target as Aim}
use Rattle.connection.specs.declared.state.Frame.{Frame}
use Rattle.connection.specs.Sizes.{AREA, STORE, QUERY}
use Rattle.connection.specs.Event.{Event}
use Rattle.connection.specs.Request.{on_header}
use Rattle.connection.specs.Slots.{request_at, held_at, find, on_slot}
use Rattle.connection.specs.Step.{State, Left, no_body, open_with, target_if, frame_after, reads, closes, query_of, queried, on_management, on_inactive, due_to, on_active, judged}
use Rattle.connection.specs.Bytewise.{notes}
use Rattle.connection.proofs.Laws.SlotsLaws.{Sized, Holds, area_length, find_at}
use Rattle.connection.proofs.Laws.ShapeLaws.{Tidy}
use Rattle.connection.specs.Fits.{InUse}
use Rattle.connection.proofs.Laws.RequestShape.{keeps_header}
use Rattle.connection.proofs.Laws.CuttingContent.{state_of}
use Rattle.connection.specs.Runs.Receiver.{QueryWith, UnknownType, receiver, due_stream, receive_header, receive_query, receive_management, receive_inactive}
use Rattle.connection.proofs.Runs.ReceiverLaws.{area_header, same_length}
use Rattle.connection.proofs.Runs.Loading.{loaded_slots, loaded_target, reading_at, loaded_reading, loaded_when, loaded}
use Rattle.connection.proofs.Runs.LoadingLaws.{loaded_put, found_as, lookup_loaded}
use Rattle.connection.specs.Run.{Heard}
use Rattle.connection.proofs.Runs.Telling.{Names, names_header, told_all, header_told}
use Rattle.machine.specs.Cause.{Cause, Plain, At}

-- ---- what is linked
-- while content or padding is left, no header bytes are held
abbrev pub HeaderUsed : Position → Type 0
HeaderUsed p = 0 < p.content + p.padding → p.held ≡ 0

-- What a step over the byte b leaves is what an item leads to, and it tells the same.
pub record Links (l : Left) (b : ℕ) (E : Effect receiver) : Type 0 where
  pub state : loaded (state_of l) l.store ≡ E.0
  pub tells : map Heard (notes l.event (b ∷ [])) ≡ told_all (as_list receiver E.1)
  pub header : HeaderUsed l.conn.frame.position

-- ---- frames
-- with so much left, the target forgotten where no content is
pub reading_left_lem : (c p : ℕ) (target : Aim) (n : ℕ) (body gathered header : List ℕ) (held : ℕ) → held ≡ 0
    → reading_at c p (take held header) (loaded_target (target_if c target) n body gathered) ≡ with_left receiver (loaded_target target n body gathered) c p
unfolding with_left
reading_left_lem zero zero target n body gathered header held e = rw e
reading_left_lem zero (suc p) target n body gathered header held e = refl
reading_left_lem (suc c) p target n body gathered header held e = rw (ne_eqb (suc c) 0 (λ z. omega arith))

-- where the content of a request's record goes
due_target : (due : Due) (i : ℕ) (gathered : List ℕ) → loaded_target (due_to due i) 0 no_body gathered ≡ target_at receiver i (due_stream due)
unfolding target_at
due_target Due.Skip i gathered = refl
due_target Due.Params i gathered = refl
due_target Due.Stdin i gathered = refl
due_target Due.Data i gathered = refl

-- a query tells what it asks
query_told : (list : List ℕ) (b : ℕ) → map Heard (notes (query_of list) (b ∷ [])) ≡ told_all (as_list receiver (some (NoticeEvent (QueryWith list))))
unfolding query_of told_all as_list
query_told list b = refl

-- ---- a state that is open
module _ (t : Table) (f : Frame) (gathered store : List ℕ) (b : ℕ) where
  -- the state
  abbrev pub open_at : State
  open_at = record { conn = open_with t f; gathered = gathered }

  -- only the frame changes
  pub links_reads : (f' : Frame) (e : Event) (F : Reading receiver) (o : Option (Observation receiver)) → loaded_reading f' gathered ≡ F
      → map Heard (notes e (b ∷ [])) ≡ told_all (as_list receiver o) → HeaderUsed f'.position
      → Links (reads open_at store f' e) b (Open (loaded_slots t store) F, o)
  unfolding loaded_when
  links_reads f' e F o a h u = record { state = ap (λ w. Open (loaded_slots t store) w) a; tells = h; header = u }

  -- a close
  pub links_closes : (cause : Cause) → Links (closes open_at store cause) b (Closed, some (CloseEvent cause))
  unfolding closes loaded_when told_all as_list
  links_closes n = record { state = refl; tells = refl; header = λ h. refl }

  -- a query that is whole
  pub links_queried : (list : List ℕ) (f' : Frame) (F : Reading receiver) → loaded_reading f' gathered ≡ F → HeaderUsed f'.position
      → Links (queried open_at store list f') b (query_whole receiver (receive_query list) (loaded_slots t store) F)
  unfolding queried receive_query query_whole
  links_queried list f' F a u = go (well_formed list)
    where
      asked : map Heard (notes (query_of list) (b ∷ [])) ≡ told_all (as_list receiver (some (NoticeEvent (QueryWith list))))
      asked = query_told list b

      go : (w : Bool)
          → Links (if w then reads open_at store f' (query_of list) else closes open_at store (At 14 (broken_at list))) b
          (query_whole receiver (if w then Asks (QueryWith list) else Breaks (broken_at list)) (loaded_slots t store) F)
      go true = links_reads f' (query_of list) F (some (NoticeEvent (QueryWith list))) a asked u
      go false = links_closes (At 14 (broken_at list))

  -- ---- a whole header
  -- a header of these fields
  abbrev header_as : ℕ → ℕ → ℕ → ℕ → ℕ → Header
  header_as v k id n p = record { version = v; kind = k; id = id; content = n; padding = p }

  behind_reading : (v k id n p : ℕ) (target : Aim) → loaded_reading (frame_after (header_as v k id n p) target) gathered ≡ with_left receiver (loaded_target target 0 no_body gathered) n p
  behind_reading v k id n p target = reading_left_lem n p target 0 no_body gathered no_header 0 refl

  -- what is read in silence, or told of nobody
  links_behind : (v k id n p : ℕ) (target : Aim) (e : Event) (o : Option (Observation receiver)) → map Heard (notes e (b ∷ [])) ≡ told_all (as_list receiver o)
      → Links (reads open_at store (frame_after (header_as v k id n p) target) e) b (Open (loaded_slots t store) (with_left receiver (loaded_target target 0 no_body gathered) n p), o)
  links_behind v k id n p target e o h = links_reads (frame_after (header_as v k id n p) target) e _ o (behind_reading v k id n p target) h (λ w. refl)

  links_gathering : (v k id n p : ℕ)
      → Links (if n =? 0 then queried open_at store [] (frame_after (header_as v k id n p) Aim.Skip) else reads open_at store (frame_after (header_as v k id n p) Aim.Query) Event.None) b
      (query_header receiver n (loaded_slots t store) p)
  unfolding query_header with_left told_all as_list
  links_gathering v k id zero p = links_queried [] (frame_after (header_as v k id 0 p) Aim.Skip) (with_left receiver Skip 0 p) (behind_reading v k id 0 p Aim.Skip) (λ w. refl)
  links_gathering v k id (suc n) p =
      subst
      (λ (w : Bool).
      Links (if w then queried open_at store [] (frame_after (header_as v k id (suc n) p) Aim.Skip) else reads open_at store (frame_after (header_as v k id (suc n) p) Aim.Query) Event.None) b
      (query_header receiver (suc n) (loaded_slots t store) p))
      (sym (ne_eqb (suc n) 0 (λ z. omega arith))) (links_behind v k id (suc n) p Aim.Query Event.None none refl)

  module _ (h : List ℕ) where
    -- its version
    abbrev v : ℕ
    v = byte_at h 0

    -- its type
    abbrev kind : ℕ
    kind = byte_at h 1

    -- its request id
    abbrev id : ℕ
    id = number2 (byte_at h 2) (byte_at h 3)

    -- its content length
    abbrev n : ℕ
    n = number2 (byte_at h 4) (byte_at h 5)

    -- its padding length
    abbrev p : ℕ
    p = byte_at h 6

    links_management : Links (on_management open_at store (header_of h)) b (management_header receiver (receive_management (header_type h) (header_content h)) (loaded_slots t store) h)
    unfolding header_of on_management receive_management header_type header_content header_padding management_header told_all as_list
    links_management = go (eqb kind GET_VALUES) (ltb QUERY n)
      where
        go : (a c : Bool)
            → Links
            (if a then
            (if c then closes open_at store (Plain 13)
            else if n =? 0 then queried open_at store [] (frame_after (header_as v kind id n p) Aim.Skip)
            else reads open_at store (frame_after (header_as v kind id n p) Aim.Query) Event.None)
            else reads open_at store (frame_after (header_as v kind id n p) Aim.Skip) (Event.Unknown kind)) b
            (management_header receiver (if a then (if c then QueryTooLong else Gathers) else Notices (UnknownType kind)) (loaded_slots t store) h)
        go true true = links_closes (Plain 13)
        go true false = links_gathering v kind id n p
        go false c = links_behind v kind id n p Aim.Skip (Event.Unknown kind) (some (NoticeEvent (UnknownType kind))) refl

    links_inactive : Links (on_inactive open_at store (header_of h)) b (inactive_header receiver (receive_inactive (header_type h) (header_content h)) (loaded_slots t store) h)
    unfolding header_of on_inactive receive_inactive header_type header_content header_padding header_id inactive_header told_all as_list
    links_inactive = go (eqb kind BEGIN_REQUEST) (eqb n 8)
      where
        go : (a c : Bool)
            → Links
            (if a then (if c then reads open_at store (frame_after (header_as v kind id n p) (Aim.Begin id)) Event.None else closes open_at store (Plain 12))
            else reads open_at store (frame_after (header_as v kind id n p) Aim.Skip) Event.None) b
            (inactive_header receiver (if a then (if c then NewBegin else WrongBegin) else PassedOver) (loaded_slots t store) h)
        go true true = links_behind v kind id n p (Aim.Begin id) Event.None none refl
        go true false = links_closes (Plain 12)
        go false c = links_behind v kind id n p Aim.Skip Event.None none refl

    module _ (sized : Sized t) (full : length store ≡ STORE) (tidy : Tidy t) where
      -- the request in slot i decides
      links_active : (i : ℕ) → Holds t id i
          → Links (on_active open_at store (header_of h) i) b (header_decided receiver (receive_header (header_type h) (header_content h) (held_at t store i)) i (loaded_slots t store) h)
      unfolding header_of on_active receive_header header_type header_content header_padding header_id header_decided request_at loaded_when
      links_active i s =
          let q = held_at t store i in
          let r = on_header kind n q in
          let u : InUse t i = record { low = s.low; slot_taken = s.slot_taken } in
          let short : q.request.length ≤ AREA = tidy.lengths i s.low in
          let same : r.held.request.id ≡ id = (keeps_header n q short kind).id ∙ s.has_id in
          let size : length r.held.area ≡ AREA = same_length q r.held (area_header n q kind) ∙ area_length store i full s.low in
          record {
            state =
                ap₂ (λ T F. Open T F)
                (loaded_put t store i r.held sized full u size ∙ ap (λ k. set (loaded_slots t store) i (HeldBy k r.held)) same)
                (behind_reading v kind id n p (due_to r.due i) ∙ ap (λ w. with_left receiver w n p) (due_target r.due i gathered));
            tells = header_told id r.event (b ∷ []) (subst (λ k. Names k r.event) s.has_id (names_header n q kind));
            header = λ w. refl;
          }

      links_found : (s : Slot) → find t id ≡ s
          → Links (on_slot s (on_active open_at store (header_of h)) (on_inactive open_at store (header_of h))) b (header_found receiver (found_as t store s) (loaded_slots t store) h)
      unfolding header_found
      links_found (Some i) e = links_active i (find_at t id i e)
      links_found None e = links_inactive

      -- Rules 1 to 10.
      pub links_judged : Links (judged open_at store (header_of h)) b (header_versioned receiver (header_version h =? 1) (loaded_slots t store) h)
      unfolding header_of judged header_version header_id header_versioned header_routed
      links_judged = go (eqb v VERSION)
        where
          routed : (a : Bool)
              → Links (if a then on_management open_at store (header_of h) else on_slot (find t id) (on_active open_at store (header_of h)) (on_inactive open_at store (header_of h))) b
              (header_routed receiver a (loaded_slots t store) h)
          routed true = links_management
          routed false =
              subst
              (λ w.
              Links (on_slot (find t id) (on_active open_at store (header_of h)) (on_inactive open_at store (header_of h))) b
              (header_found receiver w (loaded_slots t store) h))
              (sym (lookup_loaded t store id)) (links_found (find t id) refl)

          go : (a : Bool)
              → Links
              (if a then
              (if id =? 0 then on_management open_at store (header_of h)
              else on_slot (find t id) (on_active open_at store (header_of h)) (on_inactive open_at store (header_of h)))
              else closes open_at store (Plain 11)) b
              (header_versioned receiver a (loaded_slots t store) h)
          go true = routed (eqb id 0)
          go false = links_closes (Plain 11)

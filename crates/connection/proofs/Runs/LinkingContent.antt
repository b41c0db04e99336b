-- What a step over one content byte leaves is what the machine comes to.
use Rattle.std.specs.Prelude.{◌≡◌, List, [], ◌∷◌, ◌++◌, Bool, take, drop, eqb, leb, if◌then◌else◌}
use Rattle.std.proofs.Math.Path.{refl, ap, ap₂, subst}
use Rattle.std.proofs.Common.{sym, ◌∙◌, arith, length-append, take_all, take_at, length-take-le, ne_eqb, ltb-true}
use Rattle.std.proofs.Math.Option.{none, some}
use Rattle.std.proofs.Math.Bool.{true, false}
use Prim.Native.Nat.{ℕ, zero, suc, ◌+◌, ◌≤◌}
use Rattle.std.proofs.Math.ListN.{length, set}
use Rattle.std.proofs.Math.Dec.{ltb}
use Rattle.wire.specs.Test.{by_test}
use Rattle.wire.specs.Buffer.{copied}
use Rattle.wire.proofs.BufferLaws.{copied_room}
use Rattle.record.specs.Names.{RESPONDER, AUTHORIZER, FILTER, OVERLOADED, UNKNOWN_ROLE}
use Rattle.record.specs.Body.{begin_body_of}
use Rattle.record.specs.declared.body.BeginBody.{BeginBody}
use Rattle.record_reader.specs.declared.Position.{Position}
use Rattle.machine.specs.Slots.{HeldBy, VacancyAt, NoVacancy}
use Rattle.machine.specs.Machine.{Declined, Skip, ToBegin, ToQuery, ToSlot, Reading, PastHeader, Slots, Open, RequestEvent, with_left, request_seated, begin_whole, query_whole, stream_byte, content_byte, as_list}
use Rattle.machine.proofs.RunLaws.{padding_skipped}
use Rattle.connection.specs.declared.request.Due.{Due}
use Rattle.connection.specs.declared.request.Role.{Role}
use Rattle.connection.specs.declared.state.Table.{Table}
use Rattle.connection.specs.declared.state.Target.{Target as Aim}
use Rattle.connection.specs.declared.state.Frame.{Frame}
use Rattle.connection.specs.Sizes.{SLOTS, AREA, STORE, QUERY}
use Rattle.connection.specs.Event.{Event}
use Rattle.connection.specs.Codes.{role_number}
use Rattle.connection.specs.Request.{Held, grown, on_content, opened}
use Rattle.connection.specs.Slots.{request_at, area_at, held_at, take_slot, free_slot_of}
use Rattle.connection.specs.Step.{State, no_body, open_with, frame_within, reads, queried, opens, begun, of_begin, of_query, of_request, on_target}
use Rattle.connection.specs.Bytewise.{Note}
use Rattle.connection.proofs.Laws.SlotsLaws.{Sized, area_length}
use Rattle.connection.specs.Fits.{InUse, Aimed}
use Rattle.connection.proofs.Laws.StepSizes.{copied_length, content_area}
use Rattle.connection.specs.Runs.Receiver.{receiver, begin_as, receive_begin, receive_byte, receive_query}
use Rattle.connection.proofs.Runs.Loading.{loaded_slots, loaded_target, loaded_reading, loaded_when}
use Rattle.connection.proofs.Runs.LoadingLaws.{taken_loaded, loaded_put, loaded_take, vacancy_loaded}
use Rattle.connection.proofs.Runs.Telling.{told_all, byte_told}
use Rattle.connection.proofs.Runs.Linking.{HeaderUsed, Links, open_at, reading_left_lem, links_reads, links_queried}

-- bytes put after those gathered
pub gathers_more : (g : List ℕ) (n : ℕ) (x : List ℕ) → n + length x ≤ length g → take (n + length x) (copied g n x) ≡ take n g ++ x
gathers_more g n x room =
    let l : length (take n g ++ x) ≡ n + length x = omega (arith, length-append (take n g) x, length-take-le n g (omega arith)) in
    ap (take (n + length x)) (copied_room g n x room) ∙ take_at (take n g ++ x) (drop (n + length x) g) (n + length x) l

-- where they are all, the buffer is these
gathers_all : (g : List ℕ) (n : ℕ) (x : List ℕ) → n + length x ≡ length g → copied g n x ≡ take n g ++ x
gathers_all g n x all =
    sym (take_all (n + length x) (copied g n x) (omega (arith, copied_length g n x))) ∙ gathers_more g n x (omega arith)

-- content keeps its request's id
content_id : (due : Due) (x : List ℕ) (h : Held) → (on_content due x h).held.request.id ≡ h.request.id
unfolding grown
content_id Due.Skip x h = refl
content_id Due.Params x h =
    by_test (leb (h.request.length + length x) AREA) (λ e. simp e) (λ e. simp e)
content_id Due.Stdin x h = refl
content_id Due.Data x h = refl

module _ (t : Table) (p : Position) (n : ℕ) (body gathered store : List ℕ) (b : ℕ) (sized : Sized t) (full : length store ≡ STORE) where
  -- the frame, for a target
  abbrev frame_for : Aim → Frame
  frame_for target = record { position = p; target = target; gathered = n; body = body }

  -- the slots
  abbrev slots : Slots receiver
  slots = loaded_slots t store

  -- ---- a BEGIN body that is whole
  module _ (target : Aim) (id : ℕ) (f' : Frame) (F : Reading receiver) (same : loaded_reading f' gathered ≡ F) (used : HeaderUsed f'.position) where
    -- the state before
    abbrev st : State
    st = open_at t (frame_for target) gathered store b

    links_opens : (bb : BeginBody) (role : Role) → Links (opens st store id bb role f') b (begin_whole receiver (begin_as id bb role) id slots F)
    unfolding opens opened begin_whole request_seated told_all as_list loaded_when
    links_opens bb role =
        subst
        (λ w. Links (opens st store id bb role f') b
        (request_seated receiver w id (λ area. record { request = opened id role bb.keep; area = area }) (Note.Told (Event.Open id (role_number role) bb.keep)) slots F))
        (sym (vacancy_loaded t store)) (go (ltb (free_slot_of t) SLOTS) refl)
      where
        go : (w : Bool) → ltb (free_slot_of t) SLOTS ≡ w
            → Links
            (if w then record {
              conn = open_with (take_slot t (free_slot_of t) (opened id role bb.keep)) f';
              gathered = gathered;
              store = store;
              event = Event.Open id (role_number role) bb.keep;
            }
            else reads st store f' (Event.Refuse id OVERLOADED)) b
            (request_seated receiver (if w then VacancyAt (free_slot_of t) (area_at store (free_slot_of t)) else NoVacancy) id (λ area. record { request = opened id role bb.keep; area = area })
            (Note.Told (Event.Open id (role_number role) bb.keep)) slots F)
        go true e =
            record {
              state = ap₂ (λ T G. Open T G) (loaded_take t store (free_slot_of t) (opened id role bb.keep) sized (ltb-true (free_slot_of t) SLOTS e)) same;
              tells = refl;
              header = used;
            }
        go false e =
            links_reads t (frame_for target) gathered store b f' (Event.Refuse id OVERLOADED) F (some (RequestEvent id (Note.Told (Event.Refuse 0 OVERLOADED)))) same refl used

    links_declined : Links (reads st store f' (Event.Refuse id UNKNOWN_ROLE)) b (begin_whole receiver (Declined (Note.Told (Event.Refuse id UNKNOWN_ROLE))) id slots F)
    unfolding begin_whole told_all as_list
    links_declined =
        links_reads t (frame_for target) gathered store b f' (Event.Refuse id UNKNOWN_ROLE) F (some (RequestEvent id (Note.Told (Event.Refuse id UNKNOWN_ROLE)))) same refl used

    links_begun : (whole : List ℕ) → Links (begun st store id (begin_body_of whole) f') b (begin_whole receiver (receive_begin id whole) id slots F)
    unfolding begun receive_begin
    links_begun whole = go (eqb role RESPONDER) (eqb role AUTHORIZER) (eqb role FILTER)
      where
        role : ℕ
        role = (begin_body_of whole).role

        bb : BeginBody
        bb = begin_body_of whole

        go : (x y z : Bool)
            → Links
            (if x then opens st store id bb Role.Responder f'
            else if y then opens st store id bb Role.Authorizer f'
            else if z then opens st store id bb Role.Filter f'
            else reads st store f' (Event.Refuse id UNKNOWN_ROLE)) b
            (begin_whole receiver
            (if x then begin_as id bb Role.Responder
            else if y then begin_as id bb Role.Authorizer
            else if z then begin_as id bb Role.Filter
            else Declined (Note.Told (Event.Refuse id UNKNOWN_ROLE))) id slots F)
        go true y z = links_opens bb Role.Responder
        go false true z = links_opens bb Role.Authorizer
        go false false true = links_opens bb Role.Filter
        go false false false = links_declined

  -- ---- one byte; what is left is c content bytes and so much padding
  module _ (pad held : ℕ) (header : List ℕ) (none_held : held ≡ 0) where
    -- the position after the byte
    abbrev behind_byte : ℕ → Position
    behind_byte c = record { content = c; padding = pad; held = held; header = header }

    -- a frame there
    within_reading : (c : ℕ) (target : Aim) (m : ℕ) (body' gathered' : List ℕ)
        → loaded_reading (frame_within (frame_for target) (behind_byte c) m body') gathered' ≡ with_left receiver (loaded_target target m body' gathered') c pad
    within_reading c target m body' gathered' = reading_left_lem c pad target m body' gathered' header held none_held

    links_skip : (c : ℕ) → Links (on_target Aim.Skip (open_at t (frame_for Aim.Skip) gathered store b) store (b ∷ []) (behind_byte c)) b (content_byte receiver Skip c pad b slots)
    unfolding content_byte told_all as_list
    links_skip c =
        links_reads t (frame_for Aim.Skip) gathered store b (frame_within (frame_for Aim.Skip) (behind_byte c) n body) Event.None (with_left receiver Skip c pad) none
        (within_reading c Aim.Skip n body gathered) refl (λ w. none_held)

    links_begin : (c id : ℕ) → length body ≡ 8 → n + suc c ≡ 8
        → Links (of_begin (open_at t (frame_for (Aim.Begin id)) gathered store b) store id (b ∷ []) (behind_byte c)) b (content_byte receiver (ToBegin id (take n body)) c pad b slots)
    unfolding of_begin content_byte with_left told_all as_list
    links_begin zero id eight all =
        subst
        (λ whole. Links (begun (open_at t (frame_for (Aim.Begin id)) gathered store b) store id (begin_body_of (copied body n (b ∷ []))) (frame_within (frame_for (Aim.Begin id)) (behind_byte 0) 0 no_body)) b
        (begin_whole receiver (receive_begin id whole) id slots (with_left receiver Skip zero pad)))
        (gathers_all body n (b ∷ []) (omega arith))
        (links_begun (Aim.Begin id) id (frame_within (frame_for (Aim.Begin id)) (behind_byte 0) 0 no_body) (with_left receiver Skip zero pad)
        (within_reading 0 (Aim.Begin id) 0 no_body gathered ∙ padding_skipped receiver (ToBegin id []) pad) (λ w. none_held) (copied body n (b ∷ [])))
    links_begin (suc c) id eight all =
        let before = open_at t (frame_for (Aim.Begin id)) gathered store b in
        let more = copied body n (b ∷ []) in
        subst
        (λ (w : Bool).
        Links (if w then begun before store id (begin_body_of more) (frame_within (frame_for (Aim.Begin id)) (behind_byte (suc c)) 0 no_body)
        else reads before store (frame_within (frame_for (Aim.Begin id)) (behind_byte (suc c)) (n + length (b ∷ [])) more) Event.None) b
        (Open slots (PastHeader (ToBegin id (take n body ++ b ∷ [])) (suc c) pad), none))
        (sym (ne_eqb (suc c) 0 (λ z. omega arith)))
        (links_reads t (frame_for (Aim.Begin id)) gathered store b (frame_within (frame_for (Aim.Begin id)) (behind_byte (suc c)) (n + length (b ∷ [])) more) Event.None
        (PastHeader (ToBegin id (take n body ++ b ∷ [])) (suc c) pad) none
        (within_reading (suc c) (Aim.Begin id) (n + length (b ∷ [])) more gathered
        ∙ ap (λ g. PastHeader (ToBegin id g) (suc c) pad) (gathers_more body n (b ∷ []) (omega arith)))
        refl (λ w. none_held))

    links_query : (c : ℕ) → length gathered ≡ QUERY → n + suc c ≤ QUERY
        → Links (of_query (open_at t (frame_for Aim.Query) gathered store b) store (b ∷ []) (behind_byte c)) b (content_byte receiver (ToQuery (take n gathered)) c pad b slots)
    unfolding of_query content_byte with_left told_all as_list
    links_query zero size room =
        let more = copied gathered n (b ∷ []) in
        subst
        (λ list. Links (queried (open_at t (frame_for Aim.Query) more store b) store (take (n + length (b ∷ [])) more) (frame_within (frame_for Aim.Query) (behind_byte 0) 0 body)) b
        (query_whole receiver (receive_query list) slots (with_left receiver Skip zero pad)))
        (gathers_more gathered n (b ∷ []) (omega arith))
        (links_queried t (frame_for Aim.Query) more store b (take (n + length (b ∷ [])) more) (frame_within (frame_for Aim.Query) (behind_byte 0) 0 body) (with_left receiver Skip zero pad)
        (within_reading 0 Aim.Query 0 body more ∙ padding_skipped receiver (ToQuery []) pad) (λ w. none_held))
    links_query (suc c) size room =
        let more = copied gathered n (b ∷ []) in
        let after = open_at t (frame_for Aim.Query) more store b in
        subst
        (λ (w : Bool).
        Links (if w then queried after store (take (n + length (b ∷ [])) more) (frame_within (frame_for Aim.Query) (behind_byte (suc c)) 0 body)
        else reads after store (frame_within (frame_for Aim.Query) (behind_byte (suc c)) (n + length (b ∷ [])) body) Event.None) b
        (Open slots (PastHeader (ToQuery (take n gathered ++ b ∷ [])) (suc c) pad), none))
        (sym (ne_eqb (suc c) 0 (λ z. omega arith)))
        (links_reads t (frame_for Aim.Query) more store b (frame_within (frame_for Aim.Query) (behind_byte (suc c)) (n + length (b ∷ [])) body) Event.None
        (PastHeader (ToQuery (take n gathered ++ b ∷ [])) (suc c) pad) none
        (within_reading (suc c) Aim.Query (n + length (b ∷ [])) body more
        ∙ ap (λ g. PastHeader (ToQuery g) (suc c) pad) (gathers_more gathered n (b ∷ []) (omega arith)))
        refl (λ w. none_held))

    -- content that is due to the request in slot i
    links_request : (c : ℕ) (target : Aim) (due : Due) (i : ℕ) → loaded_target target n body gathered ≡ ToSlot i due → InUse t i
        → Links (of_request (open_at t (frame_for target) gathered store b) store due i (b ∷ []) (behind_byte c)) b (content_byte receiver (ToSlot i due) c pad b slots)
    unfolding of_request content_byte stream_byte receive_byte loaded_when request_at
    links_request c target due i goes u =
        let h = held_at t store i in
        let fed = on_content due (b ∷ []) h in
        subst
        (λ w. Links (of_request (open_at t (frame_for target) gathered store b) store due i (b ∷ []) (behind_byte c)) b (stream_byte receiver w i due c pad b slots))
        (sym (taken_loaded t store i u))
        (record {
          state =
              ap₂ (λ T F. Open T F)
              (loaded_put t store i fed.held sized full u (content_area due (b ∷ []) h ∙ area_length store i full u.low)
              ∙ ap (λ k. set slots i (HeldBy k fed.held)) (content_id due (b ∷ []) h))
              (within_reading c target n body gathered ∙ ap (λ s. with_left receiver s c pad) goes);
          tells = byte_told due b h;
          header = λ w. none_held;
        })

    -- Content for every target.
    pub links_content : (c : ℕ) (target : Aim) → length body ≡ 8 → length gathered ≡ QUERY → Aimed target t n (suc c)
        → Links (on_target target (open_at t (frame_for target) gathered store b) store (b ∷ []) (behind_byte c)) b (content_byte receiver (loaded_target target n body gathered) c pad b slots)
    links_content c Aim.Skip eight size a = links_skip c
    links_content c (Aim.Begin id) eight size a = links_begin c id eight a.eight
    links_content c Aim.Query eight size a = links_query c size a
    links_content c (Aim.Params i) eight size a = links_request c (Aim.Params i) Due.Params i refl a.slot
    links_content c (Aim.Stdin i) eight size a = links_request c (Aim.Stdin i) Due.Stdin i refl a
    links_content c (Aim.Data i) eight size a = links_request c (Aim.Data i) Due.Data i refl a

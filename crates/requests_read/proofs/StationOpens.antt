-- A BEGIN_REQUEST record that the server's end writes opens the request at the station, in the lowest-numbered free slot.
use Rattle.std.specs.Prelude.{ℕ, zero, suc, ◌+◌, ◌<◌, Bool, true, false, List, [], ◌∷◌, ◌++◌, length, drop, if◌then◌else◌, None}
use Rattle.std.proofs.Math.Path.{◌≡◌, refl, ap, subst}
use Rattle.std.proofs.Common.{sym, ◌∙◌, append-nil, arith, lt-ltb, ne_eqb, eq-eqb}
use Rattle.wire.specs.Number.{bytes2}
use Rattle.wire.specs.Buffer.{zeros, copied}
use Rattle.wire.proofs.BufferLaws.{copied_room}
use Rattle.wire.proofs.Bytes.{AllBytes, zeros_bytes, append_bytes}
use Rattle.slot_word.specs.Word.{taken, lowest_free}
use Rattle.record.specs.Names.{BEGIN_REQUEST}
use Rattle.record.specs.Body.{begin_body_bytes}
use Rattle.record.proofs.BodyLaws.{begin_length, begin_read_back}
use Rattle.pair_list.proofs.ReadBackList.{written}
use Rattle.connection.specs.declared.request.Role.{Role}
use Rattle.connection.specs.declared.state.Frame.{Frame}
use Rattle.connection.specs.Sizes.{SLOTS, STORE}
use Rattle.connection.specs.Event.{Event}
use Rattle.connection.specs.Codes.{role_number}
use Rattle.connection.specs.Request.{opened}
use Rattle.connection.specs.Slots.{take_slot, free_slot_of, no_requests, holds_id, find_from, find}
use Rattle.connection.specs.Step.{State, state_of, no_frame, open_with, no_body, on_inactive, judged, opens, begun as begunBy, of_begin, started}
use Rattle.connection.specs.Bytewise.{Note, Run, by_byte}
use Rattle.connection.proofs.Laws.SlotsLaws.{request_of_take, other_of_take}
use Rattle.connection.proofs.Laws.ShapeLaws.{shaped}
use Rattle.meaning.specs.Meaning.{content_means, header_means}
use Rattle.meaning.proofs.Steps.{Between}
use Rattle.meaning.proofs.OneRecord.{Sound, stays_sound}
use Rattle.server.specs.Calls.{begin_bytes}
use Rattle.server.proofs.WrittenBytes.{record_is_bytes}
use Rattle.requests_read.specs.Parts.{begun}
use Rattle.requests_read.specs.StationHas.{StationHas}
use Rattle.requests_read.proofs.RecordRead.{header_for, Sent, one_record}
use Rattle.requests_read.proofs.StationLeads.{Leads}
use Rattle.requests_read.proofs.SlotTaken.{not_free, own_at, still_at}

-- the eight bytes of its body are bytes
body_bytes : (n : ℕ) (keep : Bool) → AllBytes (begin_body_bytes n keep)
unfolding begin_body_bytes
body_bytes n keep = append_bytes (bytes2 n) ((if keep then 1 else 0) ∷ zeros 5) two (rest keep)
  where
    two : AllBytes (bytes2 n)
    two zero = omega arith
    two (suc zero) = omega arith
    two (suc (suc k)) = omega arith

    rest : (keep : Bool) → AllBytes ((if keep then 1 else 0) ∷ zeros 5)
    rest true zero = omega arith
    rest false zero = omega arith
    rest true (suc k) = zeros_bytes 5 k
    rest false (suc k) = zeros_bytes 5 k

role_small : (role : Role) → role_number role < 65536
role_small Role.Responder = omega arith
role_small Role.Authorizer = omega arith
role_small Role.Filter = omega arith

-- a known role takes the free slot
known_role : (role : Role) (st : State) (store : List ℕ) (id : ℕ) (keep : Bool) (f : Frame) → free_slot_of st.conn.table < SLOTS
    → begunBy st store id (record { role = role_number role; keep = keep }) f
    ≡ record {
      conn = open_with (take_slot st.conn.table (free_slot_of st.conn.table) (opened id role keep)) f;
      gathered = st.gathered;
      store = store;
      event = Event.Open id (role_number role) keep;
    }
unfolding begunBy opens
known_role Role.Responder st store id keep f room = simp (lt-ltb (free_slot_of st.conn.table) SLOTS room)
known_role Role.Authorizer st store id keep f room = simp (lt-ltb (free_slot_of st.conn.table) SLOTS room)
known_role Role.Filter st store id keep f room = simp (lt-ltb (free_slot_of st.conn.table) SLOTS room)

module _ (st : State) (store : List ℕ) (id : ℕ) (role : Role) (keep : Bool) (between : Between st store) (none : find st.conn.table id ≡ None) (some_id : id ≡ 0 → ⊥)
    (room : free_slot_of st.conn.table < SLOTS) (small : id < 65536) where
  -- where it leads
  abbrev opened_run : Run
  opened_run =
      record {
        state = state_of (open_with (take_slot st.conn.table (free_slot_of st.conn.table) (opened id role keep)) no_frame) st.gathered;
        store = store;
        notes = Note.Told (Event.Open id (role_number role) keep) ∷ [];
      }

  abbrev body : List ℕ
  body = begin_body_bytes (role_number role) keep

  -- eight bytes that are gathered at once
  whole_body : copied no_body 0 body ≡ body
  whole_body =
      let n = begin_length (role_number role) keep in
      copied_room no_body 0 body (omega arith) ∙ ap (λ (k : ℕ). body ++ drop (0 + k) no_body) n ∙ append-nil body

  begin_means : header_means st store (header_for BEGIN_REQUEST id body) body 0 0 ≡ opened_run
  unfolding header_means content_means judged on_inactive of_begin
  begin_means =
      simp (ne_eqb id 0 some_id, none, begin_length (role_number role) keep, whole_body, begin_read_back (role_number role) keep (role_small role), known_role role)

  sent : Sent BEGIN_REQUEST id body
  sent = record { kind_small = omega arith; id_small = small; short = omega (arith, begin_length (role_number role) keep); bytes = body_bytes (role_number role) keep }

  pub begin_read : by_byte st store (begin_bytes id (role_number role) keep) ≡ opened_run
  begin_read = one_record st store BEGIN_REQUEST id body between sent ∙ begin_means

  -- The request is open, with nothing of it yet.
  pub opens_request : Leads st store (begin_bytes id (role_number role) keep) id (free_slot_of st.conn.table) (begun role keep) (Note.Told (Event.Open id (role_number role) keep) ∷ [])
  unfolding opened written
  opens_request =
      let t = st.conn.table in
      let q = opened id role keep in
      let r = opened_run in
      let e = begin_read in
      let sized = between.sizes.table in
      let tidy = (shaped st.conn between.shape).table in
      let k : Sound r = subst Sound e (stays_sound st store (begin_bytes id (role_number role) keep) between (record_is_bytes BEGIN_REQUEST id body sent.kind_small sent.bytes)) in
      let b : Between r.state r.store = record { frame = refl; is_open = refl; shape = k.shape; sizes = k.sizes } in
      let mine : StationHas r.state r.store id (free_slot_of t) (begun role keep) =
      record { between = b; slot = own_at t q sized tidy room some_id (omega arith) none; request = request_of_take t (free_slot_of t) q sized room; list = refl } in
      record {
        has = rw e mine;
        told = ap (λ (w : Run). w.notes) e;
        others = λ a j u ne o.
            let his : StationHas r.state r.store a j u = record {
              between = b;
              slot = still_at t q sized tidy room some_id (omega arith) none a j o.slot;
              request = other_of_take t (free_slot_of t) j q (not_free t a j room o.slot) ∙ o.request;
              list = o.list;
            } in
            rw e his;
        ids = λ z. let w : ◌≡◌ {A = ℕ} 0 1 = cc (sym none ∙ z) in absurd (omega arith);
        slots = λ z. let w : ◌≡◌ {A = ℕ} 0 1 = cc (sym none ∙ z) in absurd (omega arith);
      }

-- ---- a fresh station: no id is active, and a slot is free
pub fresh_none : (id : ℕ) → find no_requests id ≡ None
unfolding find_from holds_id taken
fresh_none id = refl

pub fresh_room : free_slot_of no_requests < SLOTS
unfolding lowest_free
fresh_room = omega arith

pub fresh_table : (gathered store : List ℕ) → length store ≡ STORE → (started gathered store).state.conn.table ≡ no_requests
unfolding started
fresh_table gathered store e = simp (eq-eqb (length store) STORE e)

-- Where the records of one request lead a station: the request stands as it was written, this is told, and every other
-- request is as it was, whatever slots they have.
use Rattle.std.specs.Prelude.{ℕ, ◌≤◌, ◌<◌, ◌≡◌, length, take, get_or, Some}
use Rattle.std.proofs.Math.Path.{refl}
use Rattle.std.proofs.Common.{sym, ap, ap₂, ◌∙◌, subst, arith}
use mathlib.Core.List.{List, [], ◌++◌, append-nil}
use borrow.Author.Tests.{ne_eqb}
use Rattle.wire.proofs.Bytes.{AllBytes}
use Rattle.record.specs.Names.{VERSION}
use Rattle.record.specs.declared.header.Header.{Header}
use Rattle.record_reader.specs.Position.{after_header}
use Rattle.record_writer.specs.Written.{record_bytes}
use Rattle.connection.specs.declared.request.Due.{Due}
use Rattle.connection.specs.declared.request.Request.{Request}
use Rattle.connection.specs.Sizes.{SLOTS, AREA}
use Rattle.connection.specs.Event.{Event}
use Rattle.connection.specs.Request.{Held, Ruled, ruled, on_header, Fed, on_content}
use Rattle.connection.specs.Slots.{request_at, area_at, held_at, put_request, put_area, find}
use Rattle.connection.specs.Step.{State, state_of, no_frame, open_with, no_body, on_active, judged, of_request, rules, due_to, on_target}
use Rattle.connection.specs.Bytewise.{Note, notes, Run, by_byte}
use Rattle.connection.proofs.Laws.SlotsLaws.{Holds, area_length, area_of_other, area_of_put, area_put_same, find_at, find_put, put_ids, put_occupied, put_same, request_of_other, request_of_put}
use Rattle.connection.proofs.Laws.ShapeLaws.{shaped}
use Rattle.connection.proofs.Laws.TableShape.{length_of}
use Rattle.connection.proofs.Laws.Cutting.{by_byte_append}
use Rattle.meaning.specs.Meaning.{ran, to_come, content_means, header_means}
use Rattle.meaning.proofs.Steps.{Between}
use Rattle.meaning.proofs.OneRecord.{Sound, stays_sound}
use Rattle.server.proofs.WrittenBytes.{record_is_bytes}
use Rattle.requests_read.specs.Parts.{SoFar, list_so_far}
use Rattle.requests_read.specs.StationHas.{StationHas, state_so_far}
use Rattle.requests_read.proofs.SlotTaken.{one_id}
use Rattle.requests_read.proofs.RecordRead.{header_for, Sent, one_record}

-- the request as the station has it
abbrev pub request_so_far : ℕ → SoFar → Request
request_so_far id s = record { id = id; length = length (list_so_far s); state = state_so_far s }

-- Where bytes lead. (Of a request that was active, no slot is taken or freed by them, and none changes its id.)
pub record Leads (st : State) (store bytes : List ℕ) (id i : ℕ) (s : SoFar) (l : List Note) : Type 0 where
  pub has : StationHas (by_byte st store bytes).state (by_byte st store bytes).store id i s
  pub told : (by_byte st store bytes).notes ≡ l
  pub others : (a j : ℕ) (u : SoFar) → (a ≡ id → ⊥) → StationHas st store a j u
      → StationHas (by_byte st store bytes).state (by_byte st store bytes).store a j u
  pub ids : find st.conn.table id ≡ Some i → (by_byte st store bytes).state.conn.table.ids ≡ st.conn.table.ids
  pub slots : find st.conn.table id ≡ Some i → (by_byte st store bytes).state.conn.table.occupied ≡ st.conn.table.occupied

-- no bytes
pub nothing_leads : (st : State) (store : List ℕ) (id i : ℕ) (s : SoFar) → StationHas st store id i s → Leads st store [] id i s []
unfolding by_byte
nothing_leads st store id i s has = record { has = has; told = refl; others = λ a j u ne o. o; ids = λ z. refl; slots = λ z. refl }

-- bytes and more bytes
pub then_leads : (st : State) (store a b : List ℕ) (id i : ℕ) (s u : SoFar) (l m : List Note) → Leads st store a id i s l
    → Leads (by_byte st store a).state (by_byte st store a).store b id i u m → Leads st store (a ++ b) id i u (l ++ m)
then_leads st store a b id i s u l m first second =
    let e = by_byte_append a st store b in
    record {
      has = rw e second.has;
      told = ap (λ (r : Run). r.notes) e ∙ ap₂ (λ (x y : List Note). x ++ y) first.told second.told;
      others = λ c j v ne o. rw e (second.others c j v ne (first.others c j v ne o));
      ids = λ z. ap (λ (r : Run). r.state.conn.table.ids) e ∙ second.ids first.has.slot ∙ first.ids z;
      slots = λ z. ap (λ (r : Run). r.state.conn.table.occupied) e ∙ second.slots first.has.slot ∙ first.slots z;
    }

-- ---- a record of a request that is active
-- its request and its area put back, between two records
abbrev pub back : State → List ℕ → ℕ → Held → List Note → Run
back st store i h l =
    record {
      state = state_of (open_with (put_request st.conn.table i h.request) no_frame) st.gathered;
      store = put_area store i h.area;
      notes = l;
    }

module _ (st : State) (store : List ℕ) (id i kind : ℕ) (slot : find st.conn.table id ≡ Some i) (some_id : id ≡ 0 → ⊥) where
  abbrev held : Held
  held = held_at st.conn.table store i

  -- its header with so much content, its padding read
  abbrev header_with : ℕ → Header
  header_with n = record { version = VERSION; kind = kind; id = id; content = n; padding = 0 }

  judged_active : (n : ℕ) → judged st store (header_with n) ≡ rules st store (header_with n) i (on_header kind n held)
  unfolding judged on_active
  judged_active n = simp (ne_eqb id 0 some_id, slot)

  -- without content
  empty_record_lem : header_means st store (header_for kind id []) [] 0 0
      ≡ back st store i (on_header kind 0 held).held (notes (on_header kind 0 held).event [])
  unfolding header_means content_means
  empty_record_lem =
      rw (judged_active 0)
      (ap (λ (l : List Note). back st store i (on_header kind 0 held).held l) (append-nil (notes (on_header kind 0 held).event [])))

  -- with content that is due to the request
  abbrev after_it : ℕ → Due → State
  after_it n due =
      state_of (open_with st.conn.table (record { position = after_header (header_with n); target = due_to due i; gathered = 0; body = no_body })) st.gathered

  due_content : (due : Due) (x : List ℕ) → (due ≡ Due.Skip → ⊥)
      → ran (on_target (due_to due i) (after_it (length x) due) store x (to_come 0 0)) x
      ≡ back st store i (on_content due x held).held (notes (on_content due x held).event x)
  unfolding of_request
  due_content Due.Skip x ne = absurd (ne refl)
  due_content Due.Params x ne = refl
  due_content Due.Stdin x ne = refl
  due_content Due.Data x ne = refl

  content_record : (due : Due) (x : List ℕ) → 0 < length x → (due ≡ Due.Skip → ⊥) → on_header kind (length x) held ≡ ruled held due Event.None
      → header_means st store (header_for kind id x) x 0 0 ≡ back st store i (on_content due x held).held (notes (on_content due x held).event x)
  unfolding header_means content_means
  content_record due x some ne e =
      rw (judged_active (length x), e, put_same st.conn.table i, area_put_same store i, ne_eqb (length x) 0 (λ z. omega arith)) (due_content due x ne)

-- ---- what a station that has the request makes of its record
module _ (st : State) (store : List ℕ) (id i : ℕ) (s : SoFar) (has : StationHas st store id i s) where
  low : i < SLOTS
  low = (find_at st.conn.table id i has.slot).low

  some_id : id ≡ 0 → ⊥
  some_id z = (shaped st.conn has.between.shape).table.ids i (subst (λ (n : ℕ). Holds st.conn.table n i) z (find_at st.conn.table id i has.slot))

  pub area_full : length (area_at store i) ≡ AREA
  area_full = area_length store i has.between.sizes.full low

  -- its list fits its area
  pub list_fits : length (list_so_far s) ≤ AREA
  list_fits =
      let n : get_or st.conn.table.lengths i 0 ≡ length (list_so_far s) = sym (length_of st.conn.table i) ∙ ap (λ (r : Request). r.length) has.request in
      omega (arith, (shaped st.conn has.between.shape).table.lengths i low)

  -- put back as it is then
  leads : (b : List ℕ) (h : Held) (l : List Note) (u : SoFar) → AllBytes b → by_byte st store b ≡ back st store i h l → h.request ≡ request_so_far id u
      → take (length (list_so_far u)) h.area ≡ list_so_far u → length h.area ≡ AREA → Leads st store b id i u l
  leads b h l u all e request area full =
      let t = st.conn.table in
      let same : h.request.id ≡ (request_at t i).id = ap (λ (r : Request). r.id) request ∙ sym (ap (λ (r : Request). r.id) has.request) in
      let k : Sound (back st store i h l) = subst Sound e (stays_sound st store b has.between all) in
      let b1 : Between (back st store i h l).state (back st store i h l).store = record { frame = refl; is_open = refl; shape = k.shape; sizes = k.sizes } in
      let mine : StationHas (back st store i h l).state (back st store i h l).store id i u = record {
        between = b1;
        slot = find_put t i h.request id same ∙ has.slot;
        request = request_of_put t i h.request has.between.sizes.table low ∙ request;
        list = ap (take (length (list_so_far u))) (area_of_put store i h.area has.between.sizes.full low full) ∙ area;
      } in
      record {
        has = rw e mine;
        told = ap (λ (r : Run). r.notes) e;
        others = λ a j v ne o.
            let nj : j ≡ i → ⊥ = λ z. ne (one_id t a id j i o.slot has.slot z) in
            let his : StationHas (back st store i h l).state (back st store i h l).store a j v = record {
              between = b1;
              slot = find_put t i h.request a same ∙ o.slot;
              request = request_of_other t i j h.request nj ∙ o.request;
              list = ap (take (length (list_so_far v))) (area_of_other store i h.area has.between.sizes.full low full j nj) ∙ o.list;
            } in
            rw e his;
        ids = λ z. ap (λ (r : Run). r.state.conn.table.ids) e ∙ put_ids t i h.request same;
        slots = λ z. ap (λ (r : Run). r.state.conn.table.occupied) e ∙ put_occupied t i h.request;
      }

  -- by a record without content, and by one with content
  pub by_empty : (kind : ℕ) (R : Ruled) (u : SoFar) → Sent kind id [] → on_header kind 0 (held_at st.conn.table store i) ≡ R → R.held.request ≡ request_so_far id u
      → R.held.area ≡ area_at store i → list_so_far u ≡ list_so_far s → Leads st store (record_bytes kind id []) id i u (notes R.event [])
  by_empty kind R u sent e request area same =
      leads (record_bytes kind id []) R.held (notes R.event []) u (record_is_bytes kind id [] sent.kind_small sent.bytes)
      (one_record st store kind id [] has.between sent ∙ empty_record_lem st store id i kind has.slot some_id ∙ ap (λ (r : Ruled). back st store i r.held (notes r.event [])) e)
      request (ap₂ (λ (y a : List ℕ). take (length y) a) same area ∙ has.list ∙ sym same) (ap length area ∙ area_full)

  pub by_content : (kind : ℕ) (due : Due) (x : List ℕ) (h : Held) (e : Event) (u : SoFar) → Sent kind id x → 0 < length x → (due ≡ Due.Skip → ⊥)
      → on_header kind (length x) (held_at st.conn.table store i) ≡ ruled (held_at st.conn.table store i) due Event.None
      → on_content due x (held_at st.conn.table store i) ≡ record { held = h; event = e } → h.request ≡ request_so_far id u
      → take (length (list_so_far u)) h.area ≡ list_so_far u → length h.area ≡ AREA → Leads st store (record_bytes kind id x) id i u (notes e x)
  by_content kind due x h e u sent some ne rule content request area full =
      leads (record_bytes kind id x) h (notes e x) u (record_is_bytes kind id x sent.kind_small sent.bytes)
      (one_record st store kind id x has.between sent ∙ content_record st store id i kind has.slot some_id due x some ne rule
      ∙ ap (λ (f : Fed). back st store i f.held (notes f.event x)) content)
      request area full

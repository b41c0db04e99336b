-- Both ends in step: each request that is open at the server's end is at the station as it was written, in the same slot;
-- and a call that is let through leaves them so, once the station has read what it wrote.
use Rattle.std.specs.Prelude.{ℕ, ◌≤◌, ◌<◌, ◌≡◌, refl, Bool, true, false, List, [], ◌∷◌, length, set, eqb, Some}
use Rattle.std.proofs.Common.{sym, ap, ap₂, ◌∙◌, subst, arith, eqb-true}
use Rattle.std.proofs.lemmas.Bool.{eqb-false}
use Rattle.wire.specs.Test.{by_test}
use Rattle.wire.specs.Buffer.{put_at}
use Rattle.slot_word.specs.Word.{lowest_free, with_slot}
use Rattle.connection.specs.declared.request.Life.{Life}
use Rattle.connection.specs.declared.request.Request.{Request}
use Rattle.connection.specs.declared.state.Table.{Table}
use Rattle.connection.specs.Sizes.{SLOTS}
use Rattle.connection.specs.Event.{Event}
use Rattle.connection.specs.Codes.{role_number}
use Rattle.connection.specs.Request.{is_spent, opened}
use Rattle.connection.specs.Slots.{request_at, put_request, take_slot, free_slot_of, find_from, find}
use Rattle.connection.specs.Step.{State}
use Rattle.connection.specs.Bytewise.{Note, Run, by_byte}
use Rattle.connection.proofs.Laws.SlotsLaws.{find_put, put_ids, put_occupied, request_of_other, other_of_take}
use Rattle.meaning.proofs.Steps.{Between}
use Rattle.server.specs.declared.state.Server.{Server}
use Rattle.server.specs.Step.{State as ServerState, state_of}
use Rattle.server.specs.Calls.{Written, Part, begin_bytes, role_of, in_turn, part_bytes, open_refusal, open_request, slot_of, write_part}
use Rattle.server.proofs.Stepping.{Good}
use Rattle.server.proofs.Writing.{with_table, open_written, open_holding}
use Rattle.server.proofs.LetThrough.{let_write, let_open, let_give}
use Rattle.requests_read.specs.Parts.{SoFar, begun, so_far, part_told, Proper, ListFits}
use Rattle.requests_read.specs.StationHas.{StationHas}
use Rattle.requests_read.specs.WrittenRequest.{bytes_in}
use Rattle.requests_read.specs.ManyRequests.{Known, with_known}
use Rattle.requests_read.proofs.PartsLaws.{Possible, possible_begun, possible_part}
use Rattle.requests_read.proofs.StationReads.{part_read}
use Rattle.requests_read.proofs.SlotTaken.{one_id, not_free, was_at}
use Rattle.requests_read.proofs.StationOpens.{begin_read, opens_request}
use Rattle.requests_read.proofs.ServerHas.{written_so_far, ServerHas, front_put, part_writes, part_kept}
use Rattle.requests_read.proofs.RequestTheorem.{role_number_back}

-- ---- in step
-- one request, in slot j of both ends
pub record Both (sb : ServerState) (st : State) (store : List ℕ) (s : SoFar) (id j : ℕ) : Type 0 where
  pub request : request_at sb.server.table j ≡ written_so_far id s
  pub has : StationHas st store id j s
  pub possible : Possible s
  pub small : id < 65536

-- all of them
pub record InStep (sb : ServerState) (st : State) (store : List ℕ) (f : Known) : Type 0 where
  pub good : Good sb
  pub is_open : sb.server.«open» ≡ true
  pub between : Between st store
  pub ids : st.conn.table.ids ≡ sb.server.table.ids
  pub slots : st.conn.table.occupied ≡ sb.server.table.occupied
  pub each : (id j : ℕ) → find sb.server.table id ≡ Some j → Both sb st store (f id) id j

-- an id is in the same slot at both ends, or at neither
pub same_find : (s t : Table) (id : ℕ) → s.ids ≡ t.ids → s.occupied ≡ t.occupied → find s id ≡ find t id
same_find s t id e f = ap₂ (λ (ids : List ℕ) (w : ℕ). find_from SLOTS ids w id 0) e f

-- One request changes at both ends, and all others stay.
each_with : (sb sb' : ServerState) (st st' : State) (store store' : List ℕ) (f : Known) (id j : ℕ) (s : SoFar) → InStep sb st store f
    → find sb'.server.table id ≡ Some j → Both sb' st' store' s id j
    → ((a k : ℕ) → (a ≡ id → ⊥) → find sb'.server.table a ≡ Some k → (find sb.server.table a ≡ Some k) × (request_at sb'.server.table k ≡ request_at sb.server.table k))
    → ((a k : ℕ) (u : SoFar) → (a ≡ id → ⊥) → StationHas st store a k u → StationHas st' store' a k u)
    → (a k : ℕ) → find sb'.server.table a ≡ Some k → Both sb' st' store' (with_known f id s a) a k
each_with sb sb' st st' store store' f id j s i slot mine was others a k e =
    by_test (eqb a id)
    (λ x.
    let is : a ≡ id = eqb-true a id x in
    let kj : k ≡ j = let z : Some k ≡ Some j = sym e ∙ ap (find sb'.server.table) is ∙ slot in cc in
    rw x (subst (λ (b : ℕ). Both sb' st' store' s b k) (sym is) (subst (λ (n : ℕ). Both sb' st' store' s id n) (sym kj) mine)))
    (λ x.
    let ne = eqb-false a id x in
    let before = was a k ne e in
    let o = i.each a k before.0 in
    rw x (record { request = before.1 ∙ o.request; has = others a k (f a) ne o.has; possible = o.possible; small = o.small }))

-- What a call that wrote comes to, once the station has read it.
pub record Came (sb : ServerState) (st : State) (store : List ℕ) (w : Written) (l : List Note) (f : Known) : Type 0 where
  pub told : (by_byte st store (bytes_in w)).notes ≡ l
  pub in_step : InStep (state_of w.server sb.values) (by_byte st store (bytes_in w)).state (by_byte st store (bytes_in w)).store f

-- by the bytes that it wrote and the state that it left
came_by_lem : (sb sb' : ServerState) (st : State) (store x buffer : List ℕ) (l : List Note) (f : Known) → sb'.values ≡ sb.values → (by_byte st store x).notes ≡ l
    → InStep sb' (by_byte st store x).state (by_byte st store x).store f
    → Came sb st store (record { refusal = 0; written = length x; server = sb'.server; buffer = put_at buffer 0 x }) l f
came_by_lem sb sb' st store x buffer l f e told i =
    record { told = rw (front_put x buffer) told; in_step = rw (← e, front_put x buffer) i }

-- ---- a part
live_of : (l : Life) → is_spent l ≡ false → l ≡ Life.Live
live_of Life.Live e = refl
live_of Life.Faulted e = let z : ◌≡◌ {A = ℕ} 0 1 = cc in absurd (omega arith)
live_of Life.Aborted e = let z : ◌≡◌ {A = ℕ} 0 1 = cc in absurd (omega arith)

pub part_in_step : (sb : ServerState) (st : State) (store : List ℕ) (f : Known) (id : ℕ) (p : Part) (buffer : List ℕ) → InStep sb st store f → Proper p → ListFits (so_far (f id) p)
    → (write_part sb.server id p buffer).refusal ≡ 0
    → Came sb st store (write_part sb.server id p buffer) (part_told id (f id) p) (with_known f id (so_far (f id) p))
part_in_step sb st store f id p buffer i proper fits e =
    let c = sb.server in
    let t = c.table in
    let j = slot_of c id in
    let lg = let_give c id p buffer e in
    let o = i.each id j lg.found in
    let s = f id in
    let r = o.request in
    let live : s.life ≡ Life.Live = live_of s.life (ap (λ (q : Request). is_spent q.state.life) (sym r) ∙ lg.live) in
    let turn : in_turn s.turn p ≡ true = ap (λ (q : Request). in_turn q.state.turn p) (sym r) ∙ lg.in_its_turn in
    let server : ServerHas sb id j s = record { good = i.good; is_open = i.is_open; slot = lg.found; request = r } in
    let w = part_writes sb id j s p buffer server live turn proper (rw r at lg.fits) in
    let next = part_kept sb id j s p buffer server live turn proper in
    let q = written_so_far id (so_far s p) in
    let same : id ≡ (request_at t j).id = sym (ap (λ (q : Request). q.id) r) in
    let sb' = with_table sb (put_request t j q) in
    let x = part_bytes id p in
    let lead = part_read id j o.small p st store s o.has live turn proper fits o.possible in
    let b = by_byte st store x in
    let mine : Both sb' b.state b.store (so_far s p) id j = record { request = next.request; has = lead.has; possible = possible_part p s proper o.possible; small = o.small } in
    rw w
    (came_by_lem sb sb' st store x buffer (part_told id s p) (with_known f id (so_far s p)) refl lead.told
    (record {
      good = next.good;
      is_open = next.is_open;
      between = lead.has.between;
      ids = lead.ids o.has.slot ∙ i.ids ∙ sym (put_ids t j q same);
      slots = lead.slots o.has.slot ∙ i.slots ∙ sym (put_occupied t j q);
      each = each_with sb sb' st b.state store b.store f id j (so_far s p) i next.slot mine
          (λ a k ne e.
          let before : find t a ≡ Some k = sym (find_put t j q a same) ∙ e in
          (before, request_of_other t j k q (λ z. ne (one_id t a id k j before lg.found z))))
          (λ a k u ne h. lead.others a k u ne h);
    }))

-- ---- an opening
take_parts : (t : Table) (i : ℕ) (r : Request) → ((take_slot t i r).ids ≡ set t.ids i r.id) × ((take_slot t i r).occupied ≡ with_slot i t.occupied)
unfolding take_slot put_request
take_parts t i r = (refl, refl)

-- two tables with the same ids and slots, of which the same slot is taken for the same id
taken_alike : (s t : Table) (i : ℕ) (r : Request) → s.ids ≡ t.ids → s.occupied ≡ t.occupied
    → ((take_slot s i r).ids ≡ (take_slot t i r).ids) × ((take_slot s i r).occupied ≡ (take_slot t i r).occupied)
taken_alike s t i r e f =
    let a = take_parts s i r in
    let b = take_parts t i r in
    (a.0 ∙ ap (λ (ids : List ℕ). set ids i r.id) e ∙ sym b.0, a.1 ∙ ap (with_slot i) f ∙ sym b.1)

did_open : (c : Server) (id role : ℕ) (keep : Bool) (buffer : List ℕ) → (open_request c id role keep buffer).refusal ≡ 0
    → open_refusal c id role (length buffer) (length (begin_bytes id role keep)) ≡ 0
unfolding open_request
did_open c id role keep buffer e = let_write (open_refusal c id role (length buffer) (length (begin_bytes id role keep))) c _ (begin_bytes id role keep) buffer e

pub open_in_step : (sb : ServerState) (st : State) (store : List ℕ) (f : Known) (id role : ℕ) (keep : Bool) (buffer : List ℕ) → InStep sb st store f → id < 65536
    → (open_request sb.server id role keep buffer).refusal ≡ 0
    → Came sb st store (open_request sb.server id role keep buffer) (Note.Told (Event.Open id role keep) ∷ []) (with_known f id (begun (role_of role) keep))
unfolding opened
open_in_step sb st store f id role keep buffer i small e =
    let c = sb.server in
    let t = c.table in
    let ts = st.conn.table in
    let lo = let_open c id role (length buffer) (length (begin_bytes id role keep)) (did_open c id role keep buffer e) in
    let known = role_of role in
    let s = begun known keep in
    let number = role_number_back role lo.known_role in
    let x = begin_bytes id (role_number known) keep in
    let room = subst (λ (n : ℕ). length (begin_bytes id n keep) ≤ length buffer) number lo.fits in
    let w = open_written sb id known keep i.good i.is_open lo.some_id lo.none lo.slot buffer room in
    let next = open_holding sb id known keep i.good i.is_open lo.some_id lo.none lo.slot buffer in
    let j = free_slot_of t in
    let q = opened id known keep in
    let sb' = with_table sb (take_slot t j q) in
    let same : free_slot_of ts ≡ j = ap (lowest_free SLOTS) i.slots in
    let snone = same_find ts t id i.ids i.slots ∙ lo.none in
    let sroom : free_slot_of ts < SLOTS = rw same lo.slot in
    let lead = opens_request st store id known keep i.between snone lo.some_id sroom small in
    let b = by_byte st store x in
    let table : b.state.conn.table ≡ take_slot ts j q =
    ap (λ (r : Run). r.state.conn.table) (begin_read st store id known keep i.between snone lo.some_id sroom small) ∙ ap (λ (n : ℕ). take_slot ts n q) same in
    let alike = taken_alike ts t j q i.ids i.slots in
    let mine : Both sb' b.state b.store s id j =
    record { request = next.request; has = rw same at lead.has; possible = possible_begun known keep; small = small } in
    let ready = i.good.fit.ready in
    subst (λ (n : ℕ). Came sb st store (open_request c id n keep buffer) (Note.Told (Event.Open id n keep) ∷ []) (with_known f id s)) (sym number)
    (rw w
    (came_by_lem sb sb' st store x buffer (Note.Told (Event.Open id (role_number known) keep) ∷ []) (with_known f id s) refl lead.told
    (record {
      good = next.good;
      is_open = next.is_open;
      between = lead.has.between;
      ids = ap (λ (u : Table). u.ids) table ∙ alike.0;
      slots = ap (λ (u : Table). u.occupied) table ∙ alike.1;
      each = each_with sb sb' st b.state store b.store f id j s i next.slot mine
          (λ a k ne e.
          let before = was_at t q ready.sized ready.tidy lo.slot lo.some_id (omega arith) lo.none a k e ne in
          (before, other_of_take t j k q (not_free t a k lo.slot before)))
          (λ a k u ne h. lead.others a k u ne h);
    })))

-- A fault or an abort touches its own request alone, and no step touches a slot that it is not about.
use Rattle.std.specs.Prelude.{◌≡◌, refl, ℕ, ◌<◌, true, false, List, length, eqb, Some}
use Rattle.std.proofs.Common.{sym, ap, ◌∙◌, arith}
use Rattle.std.proofs.lemmas.List.{length-replicate}
use Rattle.wire.specs.Test.{by_test}
use Rattle.wire.specs.Buffer.{zeros}
use Rattle.slot_word.specs.Word.{taken}
use Rattle.record.specs.declared.header.Header.{Header}
use Rattle.pair_list.specs.List.{well_formed, broken_at}
use Rattle.connection.specs.declared.request.Turn.{Turn}
use Rattle.connection.specs.declared.request.Life.{Life}
use Rattle.connection.specs.declared.request.RequestState.{RequestState}
use Rattle.connection.specs.declared.request.Due.{Due}
use Rattle.connection.specs.declared.request.Request.{Request}
use Rattle.connection.specs.declared.state.Table.{Table}
use Rattle.connection.specs.declared.state.Target.{Target}
use Rattle.connection.specs.declared.state.Frame.{Frame}
use Rattle.connection.specs.Sizes.{SLOTS, AREA, STORE}
use Rattle.connection.specs.Event.{Event}
use Rattle.connection.specs.Request.{Held, list_of, Ruled, with_life, with_shown, unshown, faulted, aborted, turned, on_header, on_content}
use Rattle.connection.specs.Slots.{request_at, area_at, held_at, find}
use Rattle.connection.proofs.Laws.SlotsLaws.{Sized, request_of_put, request_of_other, put_occupied, other_of_take, taken_of_take_other, area_length, area_of_put, area_of_other, find_at}
use Rattle.connection.specs.Step.{State, Left, puts_back, closes, on_active, of_request, Stepped, leaves, stepped}
use Rattle.connection.proofs.Laws.Progress.{Fits}
use Rattle.connection.proofs.Laws.StepSizes.{header_area, content_area}
use Rattle.connection.proofs.Laws.Ways.{nameless_not_final, is_final, Way, concerned, by_way}
use Rattle.connection.proofs.Laws.Closing.{is_closing}
use Rattle.connection.proofs.Laws.Rules.{OnTurn, Rule, header_rule, is_fault, by_rule}
use Rattle.machine.specs.Cause.{Cause, At}

-- ---- slots that a step is not about
-- Slot j is as it was: its request, its area, and whether it is taken.
pub record Untouched (st : State) (store : List ℕ) (j : ℕ) (s : Stepped) : Type 0 where
  pub request : request_at s.state.conn.table j ≡ request_at st.conn.table j
  pub area : area_at s.store j ≡ area_at store j
  pub slot_taken : taken j s.state.conn.table.occupied ≡ taken j st.conn.table.occupied

-- a request put back
module _ (st : State) (store : List ℕ) (i : ℕ) (full : length store ≡ STORE) (low : i < SLOTS) (h : Held) (fits : length h.area ≡ AREA) where
  untouched_put : (f : Frame) (e : Event) (used j : ℕ) → (j ≡ i → ⊥) → Untouched st store j (leaves used (puts_back st store i h f e))
  untouched_put f e used j ne =
      record {
        request = request_of_other st.conn.table i j h.request ne;
        area = area_of_other store i h.area full low fits j ne;
        slot_taken = ap (taken j) (put_occupied st.conn.table i h.request);
      }

-- A step that leaves the connection open leaves every slot alone but the one that it is about.
pub step_other_slots : (st : State) (store piece : List ℕ) (j : ℕ) → (concerned st piece ≡ Some j → ⊥) → (stepped st store piece).state.conn.«open» ≡ true
    → Untouched st store j (stepped st store piece)
unfolding closes on_active of_request
step_other_slots st store piece j apart =
    by_way (λ (s : Stepped). s.state.conn.«open» ≡ true → Untouched st store j s) st store piece (λ n o. record { request = refl; area = refl; slot_taken = refl }) go
  where
    other : (i : ℕ) → concerned st piece ≡ Some i → j ≡ i → ⊥
    other i k q = apart (k ∙ ap (λ (n : ℕ). Some n) (sym q))

    go : Fits st.conn store → (used : ℕ) (l : Left) → Way st store (concerned st piece) l → l.conn.«open» ≡ true → Untouched st store j (leaves used l)
    go fits used _ (Way.Reads g f e q) o = record { request = refl; area = refl; slot_taken = refl }
    go fits used _ (Way.Closes g n c) o = let z : ◌≡◌ {A = ℕ} 0 1 = cc in absurd (omega arith)
    go fits used _ (Way.Rules h i k e) o =
        let low = (find_at st.conn.table h.id i e).low in
        let held = held_at st.conn.table store i in
        untouched_put st store i fits.size low (on_header h.kind h.content held).held (header_area h.kind h.content held ∙ area_length store i fits.size low) _ _ used j (other i k)
    go fits used _ (Way.Feeds due i bytes p k low aim some) o =
        let held = held_at st.conn.table store i in
        untouched_put st store i fits.size low (on_content due bytes held).held (content_area due bytes held ∙ area_length store i fits.size low) _ _ used j (other i k)
    go fits used _ (Way.Takes id role keep f k low idle) o =
        record { request = other_of_take st.conn.table _ j _ (other _ k); area = refl; slot_taken = taken_of_take_other st.conn.table _ j _ (other _ k) }

-- ---- a request that a step spends
-- Of all slots only slot i changed: it holds request r and this area. No slot was taken or freed, and the rest of the
-- record is skipped.
pub record Only (st : State) (store : List ℕ) (i : ℕ) (r : Request) (a : List ℕ) (s : Stepped) : Type 0 where
  pub request : request_at s.state.conn.table i ≡ r
  pub area : area_at s.store i ≡ a
  pub occupied : s.state.conn.table.occupied ≡ st.conn.table.occupied
  pub others : (j : ℕ) → (j ≡ i → ⊥) → Untouched st store j s
  pub rest : s.state.conn.frame.target ≡ Target.Skip

content_spends_none : (due : Due) (bytes : List ℕ) (h : Held) → is_final (on_content due bytes h).event ≡ false
content_spends_none Due.Skip bytes h = refl
content_spends_none Due.Params bytes h = refl
content_spends_none Due.Stdin bytes h = refl
content_spends_none Due.Data bytes h = refl

-- only a header spends a request
by_header : (P : Stepped → Type 0) (st : State) (store piece : List ℕ)
    → ((used : ℕ) (h : Header) (i : ℕ) → length store ≡ STORE → find st.conn.table h.id ≡ Some i → P (leaves used (on_active st store h i)))
    → is_final (stepped st store piece).event ≡ true → is_closing (stepped st store piece).event ≡ false → P (stepped st store piece)
unfolding closes of_request
by_header P st store piece spent =
    by_way (λ (s : Stepped). is_final s.event ≡ true → is_closing s.event ≡ false → P s) st store piece (λ n f c. let z : ◌≡◌ {A = ℕ} 0 1 = cc in absurd (omega arith)) go
  where
    go : Fits st.conn store → (used : ℕ) (l : Left) → Way st store (concerned st piece) l → is_final l.event ≡ true → is_closing l.event ≡ false → P (leaves used l)
    go fits used _ (Way.Reads g frame e q) f c = let z : ◌≡◌ {A = ℕ} 0 1 = cc (nameless_not_final st.conn.table e q) in absurd (omega arith)
    go fits used _ (Way.Closes g n k) f c = let z : ◌≡◌ {A = ℕ} 0 1 = cc in absurd (omega arith)
    go fits used _ (Way.Rules h i k e) f c = spent used h i fits.size e
    go fits used _ (Way.Feeds due i bytes p k low aim some) f c =
        let z : ◌≡◌ {A = ℕ} 0 1 = cc (content_spends_none due bytes (held_at st.conn.table store i)) in absurd (omega arith)
    go fits used _ (Way.Takes id role keep frame k low idle) f c = let z : ◌≡◌ {A = ℕ} 0 1 = cc in absurd (omega arith)

-- the slot found has the id of its request
id_found : (t : Table) (id i : ℕ) → find t id ≡ Some i → (request_at t i).id ≡ id
unfolding request_at
id_found t id i e = (find_at t id i e).has_id

-- what a header leaves where the rules skip the rest of its record
only_rules : (st : State) (store : List ℕ) (h : Header) (i used : ℕ) → Sized st.conn.table → length store ≡ STORE → find st.conn.table h.id ≡ Some i
    → (r : Ruled) → on_header h.kind h.content (held_at st.conn.table store i) ≡ r → r.due ≡ Due.Skip → length r.held.area ≡ AREA
    → (q : Request) (a : List ℕ) → r.held.request ≡ q → r.held.area ≡ a → Only st store i q a (leaves used (on_active st store h i))
unfolding on_active
only_rules st store h i used sized full found r is skip fits q a same_request same_area =
    let low = (find_at st.conn.table h.id i found).low in
    rw is
    (record {
      request = request_of_put st.conn.table i r.held.request sized low ∙ same_request;
      area = area_of_put store i r.held.area full low fits ∙ same_area;
      occupied = put_occupied st.conn.table i r.held.request;
      others = untouched_put st store i full low r.held fits _ _ used;
      rest = rw skip (by_test (eqb h.content 0) (λ t. simp t) (λ t. simp t));
    })

fault_rule : (kind m : ℕ) (h : Held) (id : ℕ) (cause : Cause) → (on_header kind m h).event ≡ Event.Fault id cause
    → (is_fault cause ≡ true) × (h.request.id ≡ id) × (on_header kind m h ≡ faulted h cause)
unfolding faulted aborted turned
fault_rule kind m h id cause =
    by_rule (λ (r : Ruled). r.event ≡ Event.Fault id cause → (is_fault cause ≡ true) × (h.request.id ≡ id) × (r ≡ faulted h cause)) h
    (λ d e. let z : ◌≡◌ {A = ℕ} 0 1 = cc in absurd (omega arith))
    (λ k fault e. let q : k ≡ cause = cc in (rw q at fault, cc, ap (faulted h) q))
    (λ e. let z : ◌≡◌ {A = ℕ} 0 1 = cc in absurd (omega arith))
    (λ t e. let z : ◌≡◌ {A = ℕ} 0 1 = cc in absurd (omega arith))
    (λ t s m e. let z : ◌≡◌ {A = ℕ} 0 1 = cc in absurd (omega arith))
    kind m

-- A fault that tells a place: PARAMS ended with a malformed list, and the place is where it is malformed.
pub record BrokenList (kind m : ℕ) (h : Held) (n place : ℕ) : Type 0 where
  pub number : n ≡ 25
  pub turn : OnTurn kind h Turn.Params
  pub ended : m ≡ 0
  pub malformed : well_formed (list_of h) ≡ false
  pub at : place ≡ broken_at (list_of h)

pub fault_place : (kind m : ℕ) (h : Held) (id n place : ℕ) → (on_header kind m h).event ≡ Event.Fault id (At n place) → BrokenList kind m h n place
unfolding faulted aborted turned
fault_place kind m h id n place = of (on_header kind m h) (header_rule kind m h)
  where
    of : (r : Ruled) → Rule kind m h r → r.event ≡ Event.Fault id (At n place) → BrokenList kind m h n place
    of r (Rule.Skips s) e = let z : ◌≡◌ {A = ℕ} 0 1 = cc in absurd (omega arith)
    of r (Rule.Faults k f) e = let z : ◌≡◌ {A = ℕ} 0 1 = cc in absurd (omega arith)
    of r (Rule.Breaks t z w) e = record { number = cc; turn = t; ended = z; malformed = w; at = cc }
    of r (Rule.Aborts l) e = let z : ◌≡◌ {A = ℕ} 0 1 = cc in absurd (omega arith)
    of r (Rule.Params t room) e = let z : ◌≡◌ {A = ℕ} 0 1 = cc in absurd (omega arith)
    of r (Rule.Readies t n f) e = let z : ◌≡◌ {A = ℕ} 0 1 = cc in absurd (omega arith)
    of r (Rule.Stdin t) e = let z : ◌≡◌ {A = ℕ} 0 1 = cc in absurd (omega arith)
    of r (Rule.StdinEnds t n) e = let z : ◌≡◌ {A = ℕ} 0 1 = cc in absurd (omega arith)
    of r (Rule.Data t) e = let z : ◌≡◌ {A = ℕ} 0 1 = cc in absurd (omega arith)
    of r (Rule.DataEnds t n) e = let z : ◌≡◌ {A = ℕ} 0 1 = cc in absurd (omega arith)

abort_rule : (kind m : ℕ) (h : Held) (id : ℕ) → (on_header kind m h).event ≡ Event.Abort id → (h.request.id ≡ id) × (on_header kind m h ≡ aborted h)
unfolding faulted aborted turned
abort_rule kind m h id =
    by_rule (λ (r : Ruled). r.event ≡ Event.Abort id → (h.request.id ≡ id) × (r ≡ aborted h)) h
    (λ d e. let z : ◌≡◌ {A = ℕ} 0 1 = cc in absurd (omega arith))
    (λ k fault e. let z : ◌≡◌ {A = ℕ} 0 1 = cc in absurd (omega arith))
    (λ e. (cc, refl))
    (λ t e. let z : ◌≡◌ {A = ℕ} 0 1 = cc in absurd (omega arith))
    (λ t s m e. let z : ◌≡◌ {A = ℕ} 0 1 = cc in absurd (omega arith))
    kind m

-- Of a request's state its life changes alone: role, turn, flag, outputs and counts stay.
pub life_alone : (m : RequestState) (l : Life)
    → ((with_life m l).life ≡ l) × ((with_life m l).role ≡ m.role) × ((with_life m l).turn ≡ m.turn) × ((with_life m l).keep ≡ m.keep)
    × ((with_life m l).out_ended ≡ m.out_ended) × ((with_life m l).err_used ≡ m.err_used) × ((with_life m l).err_ended ≡ m.err_ended) × ((with_life m l).shown ≡ m.shown)
unfolding with_life
life_alone m l = (refl, refl, refl, refl, refl, refl, refl, refl)

-- A fault of its own request alone: the cause is that of a fault, the request keeps its id and all marks but its
-- life, its length and its counts are 0 and its area zeros.
abbrev pub FaultAlone : State → List ℕ → ℕ → Cause → Stepped → Type 0
FaultAlone st store id cause s =
    (i : ℕ) × (find st.conn.table id ≡ Some i) × (is_fault cause ≡ true)
    × Only st store i (record { id = id; length = 0; state = with_shown (with_life (request_at st.conn.table i).state Life.Faulted) unshown }) (zeros AREA) s

-- Where a step tells a fault, it is one of its own request alone.
pub fault_own_request : (st : State) (store piece : List ℕ) (id : ℕ) (cause : Cause) → Sized st.conn.table → (stepped st store piece).event ≡ Event.Fault id cause
    → FaultAlone st store id cause (stepped st store piece)
unfolding on_active faulted
fault_own_request st store piece id cause sized e =
    by_header (λ (s : Stepped). s.event ≡ Event.Fault id cause → FaultAlone st store id cause s) st store piece
    (λ used h i full found told.
    let t = st.conn.table in
    let held = held_at t store i in
    let r = fault_rule h.kind h.content held id cause told in
    let same : h.id ≡ id = sym (id_found t h.id i found) ∙ r.1 in
    let size = area_length store i full (find_at t h.id i found).low in (
      i,
      rw same at found,
      r.0,
      only_rules st store h i used sized full found (faulted held cause) r.2 refl (length-replicate (length held.area) 0 ∙ size) _ _
          (ap (λ (k : ℕ). record { id = k; length = 0; state = with_shown (with_life (request_at t i).state Life.Faulted) unshown }) r.1) (ap zeros size),
    ))
    (rw e refl) (rw e refl) e

-- An abort of its own request alone: the request keeps its id, its length and all of its state but its life, and its area
-- stays.
abbrev pub AbortAlone : State → List ℕ → ℕ → Stepped → Type 0
AbortAlone st store id s =
    (i : ℕ) × (find st.conn.table id ≡ Some i)
    × Only st store i (record { id = id; length = (request_at st.conn.table i).length; state = with_life (request_at st.conn.table i).state Life.Aborted })
    (area_at store i) s

-- Where a step tells an abort, it is one of its own request alone.
pub abort_own_request : (st : State) (store piece : List ℕ) (id : ℕ) → Sized st.conn.table → (stepped st store piece).event ≡ Event.Abort id
    → AbortAlone st store id (stepped st store piece)
unfolding on_active aborted
abort_own_request st store piece id sized e =
    by_header (λ (s : Stepped). s.event ≡ Event.Abort id → AbortAlone st store id s) st store piece
    (λ used h i full found told.
    let t = st.conn.table in
    let held = held_at t store i in
    let r = abort_rule h.kind h.content held id told in
    let same : h.id ≡ id = sym (id_found t h.id i found) ∙ r.0 in (
      i,
      rw same at found,
      only_rules st store h i used sized full found (aborted held) r.1 refl (area_length store i full (find_at t h.id i found).low) _ _
          (ap (λ (k : ℕ). record { id = k; length = (request_at t i).length; state = with_life (request_at t i).state Life.Aborted }) r.0) refl,
    ))
    (rw e refl) (rw e refl) e

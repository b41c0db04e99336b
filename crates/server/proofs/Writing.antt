-- What the calls of the server's end that write come to, for a request that is open: in its turn a part is refused by 6 or written.
use Rattle.std.specs.Prelude.{ℕ, ◌≤◌, ◌<◌, ◌≡◌, refl, Bool, true, false, List, length, get_or, eqb, Some, None}
use Rattle.std.proofs.Common.{sym, ◌∙◌, subst, arith}
use Rattle.std.proofs.Math.Path.{ap}
use borrow.Author.Tests.{lt-ltb, le-ltb, ne_eqb, eqb-true, eqb-false}
use Rattle.wire.specs.Test.{by_test}
use Rattle.wire.specs.Buffer.{put_at}
use Rattle.slot_word.specs.Word.{taken}
use Rattle.connection.specs.declared.request.Role.{Role}
use Rattle.connection.specs.declared.request.Turn.{Turn}
use Rattle.connection.specs.declared.request.Life.{Life}
use Rattle.connection.specs.declared.request.RequestState.{RequestState}
use Rattle.connection.specs.declared.request.Request.{Request}
use Rattle.connection.specs.declared.state.Table.{Table}
use Rattle.connection.specs.Sizes.{SLOTS, AREA}
use Rattle.connection.specs.Codes.{role_number}
use Rattle.connection.specs.Request.{unshown, with_turn, with_life, opened}
use Rattle.connection.specs.Slots.{request_at, put_request, take_slot, free_slot_of, find}
use Rattle.connection.proofs.Laws.SlotsLaws.{Sized, Holds, find_at, find_put, request_of_put, put_sized, request_of_take, taken_of_take, taken_of_take_other, take_sized, only_slot}
use Rattle.connection.proofs.Laws.ShapeLaws.{Tidy}
use Rattle.connection.specs.Fits.{InUse}
use Rattle.connection.proofs.Laws.TableShape.{tidy_put, tidy_take, use_put}
use Rattle.server.specs.declared.state.Target.{Target}
use Rattle.server.specs.Step.{State}
use Rattle.server.proofs.Laws.{Waits}
use Rattle.server.proofs.Stepping.{Good, good_in_shape}
use Rattle.server.specs.Calls.{begin_bytes, is_role, role_of, open_refusal, open_request, Part, APair, Content, EndOf, Abort, in_turn, part_bytes, turn_after, state_after, too_long, call_refusal, writes_part, write_part}

-- ---- a good state stays good when its table changes in a slot
abbrev pub with_table : State → Table → State
with_table st t = record { server = record { table = t; frame = st.server.frame; «open» = st.server.«open» }; values = st.values }

good_table : (st : State) (t : Table) → Good st → Sized t → Tidy t → ((i : ℕ) → InUse st.server.table i → InUse t i) → Good (with_table st t)
good_table st t good sized tidy keep =
    let r = good.fit.ready in
    record {
      fit = record {
        proper = good.fit.proper;
        ready = record { sized = sized; tidy = tidy; body = r.body; values = r.values; target = waits st.server.frame.gathered st.server.frame.position.content st.server.frame.target r.target; shut = r.shut };
      };
      bounded = good.bounded;
    }
  where
    waits : (g n : ℕ) (k : Target) → Waits k st.server.table g n → Waits k t g n
    waits g n Target.Skip w = w
    waits g n (Target.Stdout i) w = keep i w
    waits g n (Target.Stderr i) w = keep i w
    waits g n (Target.End i) w = (keep i w.0, w.1)
    waits g n Target.Values w = w
    waits g n Target.Unknown w = w

pub good_put : (st : State) (i : ℕ) (r : Request) → Good st → r.id ≡ (request_at st.server.table i).id → r.length ≤ AREA → Good (with_table st (put_request st.server.table i r))
good_put st i r good same fits =
    let t = st.server.table in
    let k = good.fit.ready in
    good_table st (put_request t i r) good (put_sized t i r k.sized) (tidy_put t i r same k.sized k.tidy fits) (λ j u. use_put t i j r u)

pub good_take : (st : State) (i : ℕ) (r : Request) → Good st → i < SLOTS → r.length ≤ AREA → (r.id ≡ 0 → ⊥) → find st.server.table r.id ≡ None
    → Good (with_table st (take_slot st.server.table i r))
good_take st i r good low fits some none =
    let t = st.server.table in
    let k = good.fit.ready in
    good_table st (take_slot t i r) good (take_sized t i r k.sized) (tidy_take t i r k.sized k.tidy fits some none)
    (λ j u. record { low = u.low; slot_taken = by_test (eqb j i) (λ e. subst (λ (n : ℕ). taken n (take_slot t i r).occupied ≡ true) (sym (eqb-true j i e)) (taken_of_take t i r low)) (λ e. taken_of_take_other t i j r (eqb-false j i e) ∙ u.slot_taken) })

-- ---- a request that is open
abbrev pub writing_state : Role → Bool → Turn → Life → RequestState
writing_state role keep turn life = record { role = role; turn = turn; life = life; keep = keep; out_ended = false; err_used = false; err_ended = false; shown = unshown }

pub record Holding (st : State) (id i : ℕ) (role : Role) (keep : Bool) (turn : Turn) (life : Life) : Type 0 where
  pub good : Good st
  pub is_open : st.server.«open» ≡ true
  pub slot : find st.server.table id ≡ Some i
  pub request : request_at st.server.table i ≡ record { id = id; length = 0; state = writing_state role keep turn life }

-- where a part leads
abbrev pub turn_by : Role → Turn → Part → Turn
turn_by role t (APair name value) = t
turn_by role t (Content stream x) = t
turn_by role t (EndOf u) = turn_after role u
turn_by role t Abort = t

abbrev pub life_by : Part → Life
life_by (APair name value) = Life.Live
life_by (Content stream x) = Life.Live
life_by (EndOf u) = Life.Live
life_by Abort = Life.Aborted

state_by : (role : Role) (keep : Bool) (t : Turn) (p : Part) → state_after (writing_state role keep t Life.Live) p ≡ writing_state role keep (turn_by role t p) (life_by p)
unfolding with_turn with_life
state_by role keep t (APair name value) = refl
state_by role keep t (Content stream x) = refl
state_by role keep t (EndOf u) = refl
state_by role keep t Abort = refl

module _ (st : State) (id i : ℕ) (role : Role) (keep : Bool) (turn : Turn) (h : Holding st id i role keep turn Life.Live) (p : Part) (in_its_turn : in_turn turn p ≡ true) (short : too_long p ≡ false) (buffer : List ℕ) where
  abbrev after : State
  after = with_table st (put_request st.server.table i (record { id = id; length = 0; state = writing_state role keep (turn_by role turn p) (life_by p) }))

  admitted : call_refusal st.server id ≡ 0
  unfolding call_refusal
  admitted = simp (good_in_shape st h.good, h.is_open, h.slot)

  -- Too short a buffer: refused by 6, and nothing changes.
  pub part_refused : length buffer < length (part_bytes id p) → write_part st.server id p buffer ≡ record { refusal = 6; written = 0; server = st.server; buffer = buffer }
  unfolding write_part writes_part
  part_refused l = simp (admitted, h.slot, h.request, in_its_turn, short, lt-ltb (length buffer) (length (part_bytes id p)) l)

  -- Else all of it is written, and the request stands where the part leads.
  pub part_written : length (part_bytes id p) ≤ length buffer
      → write_part st.server id p buffer ≡ record { refusal = 0; written = length (part_bytes id p); server = after.server; buffer = put_at buffer 0 (part_bytes id p) }
  unfolding write_part writes_part
  part_written l = simp (admitted, h.slot, h.request, in_its_turn, short, le-ltb (length buffer) (length (part_bytes id p)) l, state_by role keep turn p)

  pub part_holding : Holding after id i role keep (turn_by role turn p) (life_by p)
  part_holding =
      let t = st.server.table in
      let r : Request = record { id = id; length = 0; state = writing_state role keep (turn_by role turn p) (life_by p) } in
      let same : id ≡ (request_at t i).id = sym (ap (λ (q : Request). q.id) h.request) in
      record {
        good = good_put st i r h.good same (omega arith);
        is_open = h.is_open;
        slot = find_put t i r id same ∙ h.slot;
        request = request_of_put t i r h.good.fit.ready.sized (find_at t id i h.slot).low;
      }

-- ---- opening
pub id_at : (t : Table) (i : ℕ) → get_or t.ids i 0 ≡ (request_at t i).id
unfolding request_at
id_at t i = refl

-- a role's number is that role
role_known : (role : Role) → (is_role (role_number role) ≡ true) × (role_of (role_number role) ≡ role)
role_known Role.Responder = (refl, refl)
role_known Role.Authorizer = (refl, refl)
role_known Role.Filter = (refl, refl)

module _ (st : State) (id : ℕ) (role : Role) (keep : Bool) (good : Good st) (o : st.server.«open» ≡ true) (some : id ≡ 0 → ⊥) (none : find st.server.table id ≡ None)
    (room : free_slot_of st.server.table < SLOTS) (buffer : List ℕ) where
  abbrev opening : State
  opening = with_table st (take_slot st.server.table (free_slot_of st.server.table) (opened id role keep))

  abbrev begin : List ℕ
  begin = begin_bytes id (role_number role) keep

  pub open_refused : length buffer < length begin → open_request st.server id (role_number role) keep buffer ≡ record { refusal = 6; written = 0; server = st.server; buffer = buffer }
  unfolding open_request open_refusal
  open_refused l =
      simp (good_in_shape st good, o, ne_eqb id 0 some, none, lt-ltb (free_slot_of st.server.table) SLOTS room, (role_known role).0, lt-ltb (length buffer) (length begin) l)

  pub open_written : length begin ≤ length buffer
      → open_request st.server id (role_number role) keep buffer ≡ record { refusal = 0; written = length begin; server = opening.server; buffer = put_at buffer 0 begin }
  unfolding open_request open_refusal
  open_written l =
      simp (good_in_shape st good, o, ne_eqb id 0 some, none, lt-ltb (free_slot_of st.server.table) SLOTS room, (role_known role).0, (role_known role).1, le-ltb (length buffer) (length begin) l)

  pub open_holding : Holding opening id (free_slot_of st.server.table) role keep Turn.Params Life.Live
  unfolding opened
  open_holding =
      let t = st.server.table in
      let i = free_slot_of t in
      let q = opened id role keep in
      let own = request_of_take t i q good.fit.ready.sized room in
      let g = good_take st i q good room (omega arith) some none in
      let holds : Holds (take_slot t i q) id i = record { low = room; slot_taken = taken_of_take t i q room; has_id = id_at (take_slot t i q) i ∙ ap (λ (r : Request). r.id) own } in
      record { good = g; is_open = o; slot = only_slot (take_slot t i q) g.fit.ready.tidy.distinct id i holds; request = own }

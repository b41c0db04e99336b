-- The slots: the request and the area of each, the slot of an id, the slots that are taken.
use Rattle.std.specs.Prelude.{ℕ, zero, suc, ◌+◌, ◌*◌, Bool, true, false, List, ◌++◌, take, drop, get_or, set, replicate, if◌then◌else◌, Option, Some, None}
use Rattle.wire.specs.Test.{◌=?◌}
use Rattle.slot_word.specs.Word.{taken, lowest_free, with_slot, without_slot, marked}
use Rattle.connection.specs.declared.request.Role.{Role}
use Rattle.connection.specs.declared.request.Turn.{Turn}
use Rattle.connection.specs.declared.request.Life.{Life}
use Rattle.connection.specs.declared.request.Standing.{Standing}
use Rattle.connection.specs.declared.request.Shown.{Shown}
use Rattle.connection.specs.declared.request.RequestState.{RequestState}
use Rattle.connection.specs.declared.request.Request.{Request}
use Rattle.connection.specs.declared.state.Table.{Table}
use Rattle.connection.specs.Sizes.{SLOTS, AREA}
use Rattle.connection.specs.Request.{Held, unshown}

-- a slot that was looked for, or none
abbrev pub Slot : Type 0
Slot = Option ℕ

-- what a free slot holds
abbrev pub no_standing : Standing
no_standing = record { role = Role.Responder; turn = Turn.Params; life = Life.Live }

abbrev pub no_state : RequestState
no_state =
    record { role = Role.Responder; turn = Turn.Params; life = Life.Live; keep = false; out_ended = false; err_used = false; err_ended = false; shown = unshown }

abbrev pub no_request : Request
no_request = record { id = 0; length = 0; state = no_state }

-- ---- the request of slot i, with its own AREA bytes of the store
abbrev pub standing_of : RequestState → Standing
standing_of m = record { role = m.role; turn = m.turn; life = m.life }

abbrev pub shown_at : Table → ℕ → Shown
shown_at t i = record { stdin = get_or t.stdin_shown i 0; «data» = get_or t.data_shown i 0 }

abbrev pub state_at : Table → ℕ → RequestState
state_at t i =
    record {
      role = (get_or t.standings i no_standing).role;
      turn = (get_or t.standings i no_standing).turn;
      life = (get_or t.standings i no_standing).life;
      keep = taken i t.keep;
      out_ended = taken i t.out_ended;
      err_used = taken i t.err_used;
      err_ended = taken i t.err_ended;
      shown = shown_at t i;
    }

unfoldable pub request_at : Table → ℕ → Request
request_at t i = record { id = get_or t.ids i 0; length = get_or t.lengths i 0; state = state_at t i }

unfoldable pub area_at : List ℕ → ℕ → List ℕ
area_at store i = take AREA (drop (i * AREA) store)

abbrev pub held_at : Table → List ℕ → ℕ → Held
held_at t store i = record { request = request_at t i; area = area_at store i }

-- put back into slot i
unfoldable pub put_request : Table → ℕ → Request → Table
put_request t i r =
    record {
      ids = set t.ids i r.id;
      lengths = set t.lengths i r.length;
      standings = set t.standings i (standing_of r.state);
      keep = marked i r.state.keep t.keep;
      out_ended = marked i r.state.out_ended t.out_ended;
      err_used = marked i r.state.err_used t.err_used;
      err_ended = marked i r.state.err_ended t.err_ended;
      stdin_shown = set t.stdin_shown i r.state.shown.stdin;
      data_shown = set t.data_shown i r.state.shown.«data»;
      occupied = t.occupied;
    }

unfoldable pub put_area : List ℕ → ℕ → List ℕ → List ℕ
put_area store i area = take (i * AREA) store ++ (area ++ drop (i * AREA + AREA) store)

-- ---- slots taken and freed
abbrev pub with_occupied : Table → ℕ → Table
with_occupied t w =
    record {
      ids = t.ids;
      lengths = t.lengths;
      standings = t.standings;
      keep = t.keep;
      out_ended = t.out_ended;
      err_used = t.err_used;
      err_ended = t.err_ended;
      stdin_shown = t.stdin_shown;
      data_shown = t.data_shown;
      occupied = w;
    }

unfoldable pub take_slot : Table → ℕ → Request → Table
take_slot t i r = with_occupied (put_request t i r) (with_slot i t.occupied)

unfoldable pub free_slot : Table → ℕ → Table
free_slot t i = with_occupied (put_request t i no_request) (without_slot i t.occupied)

-- A new request takes the lowest-numbered free slot; SLOTS where none is free.
abbrev pub free_slot_of : Table → ℕ
free_slot_of t = lowest_free SLOTS t.occupied

abbrev pub no_requests : Table
no_requests =
    record {
      ids = replicate SLOTS 0;
      lengths = replicate SLOTS 0;
      standings = replicate SLOTS no_standing;
      keep = 0;
      out_ended = 0;
      err_used = 0;
      err_ended = 0;
      stdin_shown = replicate SLOTS 0;
      data_shown = replicate SLOTS 0;
      occupied = 0;
    }

-- ---- the slot of an id: the first that is taken and has it
unfoldable pub holds_id : List ℕ → ℕ → ℕ → ℕ → Bool
holds_id ids occupied id i = if taken i occupied then get_or ids i 0 =? id else false

-- among n slots from i on
unfoldable pub find_from : ℕ → List ℕ → ℕ → ℕ → ℕ → Slot
find_from zero ids occupied id i = None
find_from (suc n) ids occupied id i = if holds_id ids occupied id i then Some i else find_from n ids occupied id (i + 1)

abbrev pub find : Table → ℕ → Slot
find t id = find_from SLOTS t.ids t.occupied id 0

abbrev pub on_slot {ℓ} : {A : Type ℓ} → Slot → (ℕ → A) → A → A
on_slot (Some i) f other = f i
on_slot None f other = other

abbrev pub is_found : Slot → Bool
is_found (Some i) = true
is_found None = false

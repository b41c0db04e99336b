-- What say and the end of a stream leave of the state: everything but the state of the request's output.
use Rattle.std.specs.Prelude.{ℕ, ◌≡◌, refl}
use Rattle.std.proofs.Math.Path.{ap, ap₂}
use mathlib.Core.List.{List}
use Rattle.std.proofs.Math.ListN.{get_or}
use Rattle.std.proofs.Math.Seq.{set-get_or}
use Rattle.slot_word.specs.Word.{taken}
use Rattle.slot_word.proofs.WordLaws.{mark_same}
use Rattle.connection.specs.declared.request.Standing.{Standing}
use Rattle.connection.specs.declared.request.Request.{Request}
use Rattle.connection.specs.declared.state.Table.{Table}
use Rattle.connection.specs.declared.state.Target.{Target}
use Rattle.connection.specs.declared.state.Conn.{Conn}
use Rattle.connection.specs.declared.answer.Output.{Output}
use Rattle.connection.specs.Slots.{no_standing, request_at, put_request}
use Rattle.connection.proofs.Laws.SlotsLaws.{Sized, put_ids, put_occupied, put_sized, request_of_put, request_of_other}
use Rattle.connection.proofs.Laws.StateShape.{Arrays}
use Rattle.connection.specs.Shape.{target_fits, in_shape}
use Rattle.connection.specs.RequestCalls.{say_bytes, end_bytes, said_on, ended_on}
use Rattle.connection.specs.Calls.{slot_of, unwritten, puts_request, say, end_stream}
use Rattle.call_output.proofs.Outcome.{request_of, output_call, say_is, end_is, did, did_not, by_outcome}

-- ---- a request, but for the state of its output
pub record SameRequest (r r' : Request) : Type 0 where
  pub id : r'.id ≡ r.id
  pub length : r'.length ≡ r.length
  pub role : r'.state.role ≡ r.state.role
  pub turn : r'.state.turn ≡ r.state.turn
  pub life : r'.state.life ≡ r.state.life
  pub keep : r'.state.keep ≡ r.state.keep
  pub shown : r'.state.shown ≡ r.state.shown

same : (r : Request) → SameRequest r r
same r = record { id = refl; length = refl; role = refl; turn = refl; life = refl; keep = refl; shown = refl }

same_said : (output : Output) (bytes : List ℕ) (r : Request) → SameRequest r (said_on r output bytes)
unfolding said_on
same_said output bytes r = record { id = refl; length = refl; role = refl; turn = refl; life = refl; keep = refl; shown = refl }

same_ended : (output : Output) (r : Request) → SameRequest r (ended_on r output)
unfolding ended_on
same_ended output r = record { id = refl; length = refl; role = refl; turn = refl; life = refl; keep = refl; shown = refl }

-- ---- such a request put back
module _ (t : Table) (i : ℕ) (r : Request) (stays : SameRequest (request_at t i) r) where
  ids_stay : (put_request t i r).ids ≡ t.ids
  ids_stay = put_ids t i r stays.id

  lengths_stay : (put_request t i r).lengths ≡ t.lengths
  unfolding put_request request_at
  lengths_stay = rw (stays.length, set-get_or t.lengths i 0)

  target_stays : (target : Target) (gathered left : ℕ) → target_fits target (put_request t i r) gathered left ≡ target_fits target t gathered left
  target_stays Target.Skip gathered left = refl
  target_stays (Target.Begin id) gathered left = rw (ids_stay, put_occupied t i r)
  target_stays Target.Query gathered left = refl
  target_stays (Target.Params j) gathered left = rw (lengths_stay, put_occupied t i r)
  target_stays (Target.Stdin j) gathered left = rw (put_occupied t i r)
  target_stays (Target.Data j) gathered left = rw (put_occupied t i r)

  standings_stay : (put_request t i r).standings ≡ t.standings
  unfolding put_request request_at
  standings_stay = rw (stays.role, stays.turn, stays.life, set-get_or t.standings i no_standing)

  keep_stays : (put_request t i r).keep ≡ t.keep
  unfolding put_request request_at
  keep_stays = rw (stays.keep, mark_same i t.keep)

  stdin_stays : (put_request t i r).stdin_shown ≡ t.stdin_shown
  unfolding put_request request_at
  stdin_stays = rw (stays.shown, set-get_or t.stdin_shown i 0)

  data_stays : (put_request t i r).data_shown ≡ t.data_shown
  unfolding put_request request_at
  data_stays = rw (stays.shown, set-get_or t.data_shown i 0)

  own_slot : SameRequest (request_at t i) (request_at (put_request t i r) i)
  unfolding request_at
  own_slot =
      record {
        id = ap (λ (l : List ℕ). get_or l i 0) ids_stay;
        length = ap (λ (l : List ℕ). get_or l i 0) lengths_stay;
        role = ap (λ (l : List Standing). (get_or l i no_standing).role) standings_stay;
        turn = ap (λ (l : List Standing). (get_or l i no_standing).turn) standings_stay;
        life = ap (λ (l : List Standing). (get_or l i no_standing).life) standings_stay;
        keep = ap (taken i) keep_stays;
        shown = ap₂ (λ (a b : List ℕ). record { stdin = get_or a i 0; «data» = get_or b i 0 }) stdin_stays data_stays;
      }

puts_shape : (c : Conn) (i : ℕ) (r : Request) → SameRequest (request_at c.table i) r → in_shape (puts_request c i r) ≡ in_shape c
unfolding in_shape
puts_shape c i r stays =
    rw (target_stays c.table i r stays c.frame.target c.frame.gathered c.frame.position.content, ids_stay c.table i r stays, lengths_stay c.table i r stays, put_occupied c.table i r)

-- ---- what a call leaves
-- Frame, opening and occupancy stay; a slot that is not the request's has its request, and the request's slot has it
-- but for the state of its output; arrays keep their lengths.
pub record Left (c : Conn) (i : ℕ) (c' : Conn) : Type 0 where
  pub shape : in_shape c' ≡ in_shape c
  pub frame : c'.frame ≡ c.frame
  pub is_open : c'.«open» ≡ c.«open»
  pub occupied : c'.table.occupied ≡ c.table.occupied
  pub others : (j : ℕ) → (j ≡ i → ⊥) → request_at c'.table j ≡ request_at c.table j
  pub own : SameRequest (request_at c.table i) (request_at c'.table i)
  pub arrays : Arrays c → Arrays c'

left_same : (c : Conn) (i : ℕ) → Left c i c
left_same c i =
    record { shape = refl; frame = refl; is_open = refl; occupied = refl; others = λ j h. refl; own = same (request_at c.table i); arrays = λ a. a }

left_put : (c : Conn) (i : ℕ) (r : Request) → SameRequest (request_at c.table i) r → Left c i (puts_request c i r)
left_put c i r stays =
    record {
      shape = puts_shape c i r stays;
      frame = refl;
      is_open = refl;
      occupied = put_occupied c.table i r;
      others = λ j h. request_of_other c.table i j r h;
      own = own_slot c.table i r stays;
      arrays = λ a. record { table = put_sized c.table i r a.table; header = a.header; bytes = a.bytes; body = a.body };
    }

module _ (c : Conn) (id : ℕ) (output : Output) (bytes : Request → List ℕ) (after : Request → Request) (buffer : List ℕ) where
  left : ((r : Request) → SameRequest r (after r)) → Left c (slot_of c id) (output_call c id output bytes after buffer).conn
  left stays =
      by_outcome c id output bytes after buffer
      (λ d. rw d.is (left_put c (slot_of c id) (after (request_of c id)) (stays (request_of c id))))
      (λ e. rw e (left_same c (slot_of c id)))

  changed : Sized c.table → (output_call c id output bytes after buffer).refusal ≡ 0
      → request_at (output_call c id output bytes after buffer).conn.table (slot_of c id) ≡ after (request_of c id)
  changed sized e =
      let d = did c id output bytes after buffer e in
      rw d.is (request_of_put c.table (slot_of c id) (after (request_of c id)) sized d.called.holds.low)

-- Say and the end of a stream keep a state's shape, and all of it but the state of the request's output
--.
pub say_left : (c : Conn) (id : ℕ) (output : Output) (bytes buffer : List ℕ) → Left c (slot_of c id) (say c id output bytes buffer).conn
say_left c id output bytes buffer =
    rw (say_is c id output bytes buffer) (left c id output (λ r. say_bytes r output bytes) (λ r. said_on r output bytes) buffer (same_said output bytes))

pub end_left_lem : (c : Conn) (id : ℕ) (output : Output) (buffer : List ℕ) → Left c (slot_of c id) (end_stream c id output buffer).conn
end_left_lem c id output buffer =
    rw (end_is c id output buffer) (left c id output (λ r. end_bytes r output) (λ r. ended_on r output) buffer (same_ended output))

-- Not refused, its outputs are the ones that the definition says: STDERR used by data said on it, or that
-- stream ended.
pub say_own : (c : Conn) (id : ℕ) (output : Output) (bytes buffer : List ℕ) → Sized c.table → (say c id output bytes buffer).refusal ≡ 0
    → request_at (say c id output bytes buffer).conn.table (slot_of c id) ≡ said_on (request_of c id) output bytes
say_own c id output bytes buffer sized e =
    let e' = rw (say_is c id output bytes buffer) at e in
    rw (say_is c id output bytes buffer) (changed c id output (λ r. say_bytes r output bytes) (λ r. said_on r output bytes) buffer sized e')

pub end_own : (c : Conn) (id : ℕ) (output : Output) (buffer : List ℕ) → Sized c.table → (end_stream c id output buffer).refusal ≡ 0
    → request_at (end_stream c id output buffer).conn.table (slot_of c id) ≡ ended_on (request_of c id) output
end_own c id output buffer sized e =
    let e' = rw (end_is c id output buffer) at e in
    rw (end_is c id output buffer) (changed c id output (λ r. end_bytes r output) (λ r. ended_on r output) buffer sized e')

-- Refused, nothing changes and nothing is written.
pub say_refused_stays : (c : Conn) (id : ℕ) (output : Output) (bytes buffer : List ℕ) → ((say c id output bytes buffer).refusal ≡ 0 → ⊥)
    → say c id output bytes buffer ≡ unwritten (say c id output bytes buffer).refusal c buffer
say_refused_stays c id output bytes buffer e =
    let e' = rw (say_is c id output bytes buffer) at e in
    rw (say_is c id output bytes buffer) (did_not c id output (λ r. say_bytes r output bytes) (λ r. said_on r output bytes) buffer e')

pub end_refused_stays : (c : Conn) (id : ℕ) (output : Output) (buffer : List ℕ) → ((end_stream c id output buffer).refusal ≡ 0 → ⊥)
    → end_stream c id output buffer ≡ unwritten (end_stream c id output buffer).refusal c buffer
end_refused_stays c id output buffer e =
    let e' = rw (end_is c id output buffer) at e in
    rw (end_is c id output buffer) (did_not c id output (λ r. end_bytes r output) (λ r. ended_on r output) buffer e')

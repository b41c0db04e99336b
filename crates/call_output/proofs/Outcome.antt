-- What say and the end of a stream come to, said once for both: refused they leave everything as it was, else the
-- bytes are written and the request is put back.
use Rattle.connection.specs.Slots.{Slot}
use Rattle.std.specs.Prelude.{ℕ, ◌+◌, ◌≤◌, ◌<◌, refl, Bool, true, false, not, List, [], take, drop, eqb, if◌then◌else◌}
use Rattle.std.proofs.Math.Path.{◌≡◌, ap}
use Rattle.std.proofs.Common.{sym, ◌∙◌, arith, zero-add, take_at, drop_at}
use Rattle.std.proofs.Math.ListN.{length}
use borrow.Author.Tests.{ltb-true, ltb-false, eqb-true, eqb-false}
use Rattle.wire.specs.Test.{◌=?◌, by_test}
use Rattle.wire.specs.Buffer.{put_at}
use Rattle.wire.proofs.BufferLaws.{put_length, put_none}
use Rattle.connection.specs.declared.request.Request.{Request}
use Rattle.connection.specs.declared.state.Conn.{Conn}
use Rattle.connection.specs.declared.answer.Output.{Output}
use Rattle.connection.specs.Sizes.{SLOTS}
use Rattle.connection.specs.Slots.{request_at, find, on_slot, is_found}
use Rattle.connection.proofs.Laws.SlotsLaws.{Holds, put_same, find_at, found_true}
use Rattle.connection.specs.Shape.{in_shape}
use Rattle.connection.specs.RequestCalls.{no_output, is_ended, output_refusal, say_bytes, end_bytes, said_on, ended_on, writes, say_in, end_in}
use Rattle.connection.specs.Calls.{Written, call_refusal, slot_of, unwritten, puts_request, written_by, say, end_stream}
use Rattle.request_output.proofs.Laws.{Free, free}

-- the request that a call names
abbrev pub request_of : Conn → ℕ → Request
request_of c id = request_at c.table (slot_of c id)

-- a call that writes bytes of its request and leaves the request changed
unfoldable pub output_call : Conn → ℕ → Output → (Request → List ℕ) → (Request → Request) → List ℕ → Written
output_call c id output bytes after buffer =
    if call_refusal c id =? 0 then
    written_by c (slot_of c id) (writes (output_refusal (request_of c id) output (bytes (request_of c id)) buffer) (bytes (request_of c id)) (after (request_of c id)) (request_of c id) buffer)
    else unwritten (call_refusal c id) c buffer

pub say_is : (c : Conn) (id : ℕ) (output : Output) (bytes buffer : List ℕ)
    → say c id output bytes buffer ≡ output_call c id output (λ r. say_bytes r output bytes) (λ r. said_on r output bytes) buffer
unfolding output_call say say_in
say_is c id output bytes buffer = refl

pub end_is : (c : Conn) (id : ℕ) (output : Output) (buffer : List ℕ)
    → end_stream c id output buffer ≡ output_call c id output (λ r. end_bytes r output) (λ r. ended_on r output) buffer
unfolding output_call end_stream end_in
end_is c id output buffer = refl

-- ---- the rows before the request's own
abbrev three : Bool → Bool → Bool → ℕ
three a b f = if not a then 9 else if not b then 1 else if not f then 3 else 0

rows : (a b f : Bool) → three a b f ≡ 0 → (a ≡ true) × (b ≡ true) × (f ≡ true)
rows false b f e = absurd (omega arith)
rows true false f e = absurd (omega arith)
rows true true false e = absurd (omega arith)
rows true true true e = (refl, refl, refl)

never_6 : (a b f : Bool) → three a b f ≡ 6 → ⊥
never_6 false b f e = omega arith
never_6 true false f e = omega arith
never_6 true true false e = omega arith
never_6 true true true e = omega arith

-- only the row for room is 6
only_room : (a b f : Bool) → ◌≡◌ {A = ℕ} (if a then 4 else if b then 5 else if f then 6 else 0) 6 → f ≡ true
only_room true b f e = absurd (omega arith)
only_room false true f e = absurd (omega arith)
only_room false false true e = refl
only_room false false false e = absurd (omega arith)

-- A call that they let through: the state is in shape, the connection open, and the slot holds the id.
pub record Named (c : Conn) (id : ℕ) : Type 0 where
  pub shape : in_shape c ≡ true
  pub is_open : c.«open» ≡ true
  pub holds : Holds c.table id (slot_of c id)

pub named : (c : Conn) (id : ℕ) → call_refusal c id ≡ 0 → Named c id
unfolding call_refusal
named c id e =
    let f = rows (in_shape c) c.«open» (is_found (find c.table id)) e in
    let s = found_true (find c.table id) f.2 in
    let at : slot_of c id ≡ s.0 = ap (λ (x : Slot). on_slot x (λ i. i) SLOTS) s.1 in
    record { shape = f.0; is_open = f.1; holds = rw at (find_at c.table id s.0 s.1) }

-- Its request has that id.
pub named_id : (c : Conn) (id : ℕ) → Named c id → (request_of c id).id ≡ id
unfolding request_at
named_id c id n = n.holds.has_id

-- They do not ask for room.
pub call_never_6 : (c : Conn) (id : ℕ) → call_refusal c id ≡ 6 → ⊥
unfolding call_refusal
call_never_6 c id e = never_6 (in_shape c) c.«open» (is_found (find c.table id)) e

-- ---- the outcome
module _ (c : Conn) (id : ℕ) (output : Output) (bytes : Request → List ℕ) (after : Request → Request) (buffer : List ℕ) where
  abbrev outcome : Written
  outcome = output_call c id output bytes after buffer

  abbrev own : ℕ
  own = output_refusal (request_of c id) output (bytes (request_of c id)) buffer

  -- Let through: no row holds, the bytes stand at the buffer's start, and the request is put back changed.
  pub record Did : Type 0 where
    pub called : Named c id
    pub written : Free (request_of c id) output (bytes (request_of c id)) buffer
    pub is : outcome ≡ record { refusal = 0; written = length (bytes (request_of c id)); conn = puts_request c (slot_of c id) (after (request_of c id)); buffer = put_at buffer 0 (bytes (request_of c id)) }

  -- A call that is not refused is let through.
  pub did : outcome.refusal ≡ 0 → Did
  unfolding output_call writes
  did e =
      by_test (eqb (call_refusal c id) 0)
      (λ t. by_test (eqb own 0)
      (λ u. record { called = named c id (eqb-true (call_refusal c id) 0 t); written = free (request_of c id) output (bytes (request_of c id)) buffer (sym (eqb-true own 0 u)); is = simp (t, u) })
      (λ u. absurd (eqb-false own 0 u (simp (t, u) at e))))
      (λ t. absurd (eqb-false (call_refusal c id) 0 t (simp t at e)))

  -- One that is refused changes nothing and writes nothing.
  pub did_not : (outcome.refusal ≡ 0 → ⊥) → outcome ≡ unwritten outcome.refusal c buffer
  unfolding output_call writes
  did_not e =
      by_test (eqb (call_refusal c id) 0)
      (λ t. by_test (eqb own 0)
      (λ u. absurd (e (simp (t, u))))
      (λ u. simp (t, u, put_same c.table (slot_of c id))))
      (λ t. simp t)

  -- By the two outcomes.
  pub by_outcome : {P : Type 0} → (Did → P) → (outcome ≡ unwritten outcome.refusal c buffer → P) → P
  by_outcome yes' no' =
      by_test (eqb outcome.refusal 0) (λ t. yes' (did (eqb-true outcome.refusal 0 t))) (λ t. no' (did_not (eqb-false outcome.refusal 0 t)))

  -- The bytes that are written are the front of the buffer.
  pub front : outcome.refusal ≡ 0 → take outcome.written outcome.buffer ≡ bytes (request_of c id)
  front e =
      let x = bytes (request_of c id) in
      rw (did e).is (take_at x (drop (0 + length x) buffer) (length x) refl)

  -- What lies after them stays, and so does the buffer's length.
  pub behind : drop outcome.written outcome.buffer ≡ drop outcome.written buffer
  behind =
      let x = bytes (request_of c id) in
      by_outcome
      (λ d. rw d.is (drop_at x (drop (0 + length x) buffer) (length x) refl ∙ ap (λ (n : ℕ). drop n buffer) (zero-add (length x))))
      (λ e. rw e)

  pub same_length : length outcome.buffer ≡ length buffer
  same_length =
      let x = bytes (request_of c id) in
      by_outcome
      (λ d. let room : length x ≤ length buffer = ltb-false (length buffer) (length x) d.written.room in rw d.is (put_length buffer 0 x (omega arith)))
      (λ e. rw e)

  -- No bytes and a request left as it is: nothing is written, nothing changes.
  pub nothing : ((r : Request) → bytes r ≡ []) → ((r : Request) → after r ≡ r) → outcome ≡ unwritten outcome.refusal c buffer
  nothing none same =
      let r = request_of c id in
      by_outcome
      (λ d. let n : outcome.refusal ≡ 0 = ap (λ (w : Written). w.refusal) d.is in d.is ∙ simp (n, none r, same r, put_same c.table (slot_of c id)) (ap (λ (l : List ℕ). record { refusal = 0; written = 0; conn = c; buffer = l }) (put_none buffer 0)))
      (λ e. e)

  -- And it is never refused by 6.
  pub nothing_never_6 : ((r : Request) → bytes r ≡ []) → outcome.refusal ≡ 6 → ⊥
  unfolding output_call writes
  nothing_never_6 none e =
      by_test (eqb (call_refusal c id) 0)
      (λ t. by_test (eqb own 0)
      (λ u. let z : ◌≡◌ {A = ℕ} 0 6 = simp (t, u) at e in omega arith)
      (λ u.
      let long : length buffer < length (bytes (request_of c id)) = ltb-true (length buffer) (length (bytes (request_of c id))) (only_room (no_output (request_of c id)) (is_ended output (request_of c id).state) _ (simp (t, u) at e)) in
      let zero' : length (bytes (request_of c id)) ≡ 0 = ap length (none (request_of c id)) in
      omega arith))
      (λ t. call_never_6 c id (simp t at e))

-- A record or a stream at the start of a lent buffer: whether it fits, and what stands there once it is written.
use Rattle.std.specs.Prelude.{ℕ, ◌+◌, ◌≤◌, ◌≡◌, Bool, true, false, not, List, length, ltb, leb, Ok}
use Rattle.std.proofs.Common.{sym, ap, ◌∙◌, arith, zero-add, ltb-true, ltb-false, le-leb}
use Rattle.std.proofs.lemmas.Bool.{lt-leb, not-true, not-false}
use Rattle.wire.specs.Test.{by_test}
use Rattle.wire.specs.Buffer.{put_at}
use Rattle.record_writer.specs.Written.{Placed, placed, record_length, record_bytes, stream_length, stream_bytes, record_fits, stream_fits, record_placed, stream_placed}
use Rattle.record_writer.proofs.WrittenLaws.{record_length_lem}
use Rattle.record_writer.proofs.StreamLaws.{stream_length_lem}
use Rattle.connection.specs.Sizes.{CHUNK}
use Rattle.server.specs.declared.state.Server.{Server}
use Rattle.server.specs.Calls.{writes}
use Rattle.server.specs.Answer.{written_by, call_wrote}

-- n bytes fit from the start of a buffer exactly if they are not longer than it
room_is : (n room : ℕ) → leb (0 + n) room ≡ not (ltb room n)
room_is n room =
    by_test (ltb room n)
    (λ t. let short = ltb-true room n t in simp (t, lt-leb (0 + n) room (omega arith)))
    (λ t. let fits = ltb-false room n t in simp (t, le-leb (0 + n) room (omega arith)))

pub record_room : (kind id : ℕ) (x : List ℕ) (room : ℕ) → length x ≤ 65535 → record_fits (length x) 0 room ≡ not (ltb room (length (record_bytes kind id x)))
unfolding record_fits
record_room kind id x room h =
    simp (le-leb (length x) 65535 h)
    (room_is (record_length (length x)) room ∙ ap (λ (n : ℕ). not (ltb room n)) (sym (record_length_lem kind id x)))

pub stream_room : (kind id : ℕ) (x : List ℕ) (room : ℕ) → stream_fits CHUNK (length x) 0 room ≡ not (ltb room (length (stream_bytes CHUNK kind id x)))
unfolding stream_fits
stream_room kind id x room =
    room_is (stream_length CHUNK (length x)) room ∙ ap (λ (n : ℕ). not (ltb room n)) (sym (stream_length_lem CHUNK kind id (omega arith) x))

-- so of one that does not fit the buffer is short, and of one that fits it is not
pub record_short : (kind id : ℕ) (x : List ℕ) (room : ℕ) → length x ≤ 65535 → record_fits (length x) 0 room ≡ false → ltb room (length (record_bytes kind id x)) ≡ true
record_short kind id x room h e = not-false (ltb room (length (record_bytes kind id x))) (sym (record_room kind id x room h) ∙ e)

pub record_enough : (kind id : ℕ) (x : List ℕ) (room : ℕ) → length x ≤ 65535 → record_fits (length x) 0 room ≡ true → ltb room (length (record_bytes kind id x)) ≡ false
record_enough kind id x room h e = not-true (ltb room (length (record_bytes kind id x))) (sym (record_room kind id x room h) ∙ e)

pub stream_short : (kind id : ℕ) (x : List ℕ) (room : ℕ) → stream_fits CHUNK (length x) 0 room ≡ false → ltb room (length (stream_bytes CHUNK kind id x)) ≡ true
stream_short kind id x room e = not-false (ltb room (length (stream_bytes CHUNK kind id x))) (sym (stream_room kind id x room) ∙ e)

pub stream_enough : (kind id : ℕ) (x : List ℕ) (room : ℕ) → stream_fits CHUNK (length x) 0 room ≡ true → ltb room (length (stream_bytes CHUNK kind id x)) ≡ false
stream_enough kind id x room e = not-true (ltb room (length (stream_bytes CHUNK kind id x))) (sym (stream_room kind id x room) ∙ e)

-- bytes that were placed at the start, and how many
pub record Filled (l bytes : List ℕ) (n : ℕ) (l' : List ℕ) : Type 0 where
  pub count : n ≡ length bytes
  pub put : l' ≡ put_at l 0 bytes

filled : (l bytes : List ℕ) (fits : Bool) {n : ℕ} {l' : List ℕ} → fits ≡ true → ◌≡◌ {A = Placed} (record { next = n; buffer = l' }) (placed fits l 0 bytes) → Filled l bytes n l'
filled l bytes fits t w =
    let v = simp t at w in
    record { count = ap (λ (p : Placed). p.next) v ∙ zero-add (length bytes); put = ap (λ (p : Placed). p.buffer) v }

pub record_filled : (l : List ℕ) (kind id : ℕ) (x : List ℕ) {n : ℕ} {l' : List ℕ} → length x ≤ 65535 → ltb (length l) (length (record_bytes kind id x)) ≡ false
    → ◌≡◌ {A = Placed} (record { next = n; buffer = l' }) (record_placed l 0 kind id x) → Filled l (record_bytes kind id x) n l'
unfolding record_placed
record_filled l kind id x h t w =
    filled l (record_bytes kind id x) (record_fits (length x) 0 (length l)) (record_room kind id x (length l) h ∙ ap not t) w

pub stream_filled : (l : List ℕ) (kind id : ℕ) (x : List ℕ) {n : ℕ} {l' : List ℕ} → ltb (length l) (length (stream_bytes CHUNK kind id x)) ≡ false
    → ◌≡◌ {A = Placed} (record { next = n; buffer = l' }) (stream_placed l 0 kind id x CHUNK) → Filled l (stream_bytes CHUNK kind id x) n l'
unfolding stream_placed
stream_filled l kind id x t w =
    filled l (stream_bytes CHUNK kind id x) (stream_fits CHUNK (length x) 0 (length l)) (stream_room kind id x (length l) ∙ ap not t) w

-- A call that is let through and has filled the buffer's start.
pub call_filled : (n : ℕ) (c after : Server) (bytes buffer : List ℕ) {count : ℕ} {l' : List ℕ} → 0 ≡ n → Filled buffer bytes count l'
    → written_by (record { wrote = Ok count; server = after }) l' ≡ writes n c after bytes buffer
call_filled n c after bytes buffer e f = rw (f.count, f.put) (call_wrote n c after bytes buffer (sym e))

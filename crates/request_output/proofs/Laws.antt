-- What holds of a request's output as it is written.
use Rattle.std.specs.Prelude.{ℕ, ◌+◌, ◌<◌, ◌≡◌, refl, Bool, false, List, [], ◌∷◌, length, ltb, leb, if◌then◌else◌, Ok, Err}
use Rattle.std.proofs.Common.{sym, ◌∙◌, arith, zero-add, ltb-true, ltb-false, le-leb}
use Rattle.std.proofs.Math.Path.{ap}
use Rattle.std.proofs.Math.Bool.{true, not}
use Rattle.std.proofs.lemmas.Bool.{lt-leb}
use Rattle.wire.specs.Test.{by_test}
use Rattle.wire.specs.Buffer.{put_at}
use Rattle.record_writer.specs.Written.{Placed, record_length, record_bytes, stream_length, stream_bytes, record_fits, stream_fits, record_placed, stream_placed}
use Rattle.record_writer.proofs.WrittenLaws.{record_length_lem}
use Rattle.record_writer.proofs.StreamLaws.{stream_length_lem}
use Rattle.connection.specs.declared.request.Request.{Request}
use Rattle.connection.specs.declared.answer.Output.{Output}
use Rattle.connection.specs.declared.answer.Refusal.{Refusal}
use Rattle.connection.specs.Sizes.{CHUNK}
use Rattle.connection.specs.Codes.{output_type, refusal_number}
use Rattle.connection.specs.RequestCalls.{no_output, is_ended, uses_err, output_refusal, say_bytes, end_bytes, said_on, ended_on, writes, say_in, end_in}
use Rattle.codes.proofs.Laws.{refusal_some}
use Rattle.request_output.specs.Answer.{said_by}

-- ---- room
-- n bytes fit from the start of a buffer exactly if they are not longer than it
room_is : (n room : ℕ) → leb (0 + n) room ≡ not (ltb room n)
room_is n room =
    by_test (ltb room n)
    (λ t. let short = ltb-true room n t in simp (t, lt-leb (0 + n) room (omega arith)))
    (λ t. let fits = ltb-false room n t in simp (t, le-leb (0 + n) room (omega arith)))

-- a stream's records
pub stream_room : (kind id : ℕ) (bytes l : List ℕ) → stream_fits CHUNK (length bytes) 0 (length l) ≡ not (ltb (length l) (length (stream_bytes CHUNK kind id bytes)))
unfolding stream_fits
stream_room kind id bytes l =
    let some : 0 < CHUNK = omega arith in
    room_is (stream_length CHUNK (length bytes)) (length l) ∙ ap (λ (n : ℕ). not (ltb (length l) n)) (sym (stream_length_lem CHUNK kind id some bytes))

-- an empty record
pub end_room : (kind id : ℕ) (l : List ℕ) → record_fits 0 0 (length l) ≡ not (ltb (length l) (length (record_bytes kind id [])))
unfolding record_fits
end_room kind id l = room_is (record_length 0) (length l) ∙ ap (λ (n : ℕ). not (ltb (length l) n)) (sym (record_length_lem kind id []))

-- ---- STDERR used
pub uses_none : (output : Output) (bytes : List ℕ) (used : Bool) → length bytes ≡ 0 → used ≡ uses_err output bytes used
uses_none Output.Stdout bytes used e = refl
uses_none Output.Stderr [] used e = refl
uses_none Output.Stderr (b ∷ bytes) used e = absurd (omega arith)

pub uses_some : (bytes : List ℕ) (used : Bool) → (length bytes ≡ 0 → ⊥) → true ≡ uses_err Output.Stderr bytes used
uses_some [] used e = absurd (e refl)
uses_some (b ∷ bytes) used e = refl

-- ---- one request's answer
-- a refused output writes nothing
pub writes_refused : (why : Refusal) (n : ℕ) (bytes : List ℕ) (after r : Request) (l : List ℕ) → refusal_number why ≡ n
    → said_by (record { wrote = Err why; request = r }) l ≡ writes n bytes after r l
unfolding writes
writes_refused why n bytes after r l e = rw (← e) (simp (refusal_some why))

-- one that is let through fills the buffer's start
pub writes_passed : (n : ℕ) (bytes : List ℕ) (after r : Request) (l : List ℕ) → 0 ≡ n
    → said_by (record { wrote = Ok (length bytes); request = after }) (put_at l 0 bytes) ≡ writes n bytes after r l
unfolding writes
writes_passed n bytes after r l e = rw (← e)

-- where no row refuses, none of the three holds
pub record Free (r : Request) (output : Output) (bytes l : List ℕ) : Type 0 where
  pub ready : no_output r ≡ false
  pub running : is_ended output r.state ≡ false
  pub room : ltb (length l) (length bytes) ≡ false

pub free : (r : Request) (output : Output) (bytes l : List ℕ) → 0 ≡ output_refusal r output bytes l → Free r output bytes l
free r output bytes l e = let f = rows (no_output r) (is_ended output r.state) (ltb (length l) (length bytes)) e in record { ready = f.0; running = f.1; room = f.2 }
  where
    rows : (a b f : Bool) → ◌≡◌ {A = ℕ} 0 (if a then 4 else if b then 5 else if f then 6 else 0) → (a ≡ false) × (b ≡ false) × (f ≡ false)
    rows true b f e = absurd (omega arith)
    rows false true f e = absurd (omega arith)
    rows false false true e = absurd (omega arith)
    rows false false false e = (refl, refl, refl)

-- bytes that were placed at the start are what the call comes to
module _ (r : Request) (output : Output) (l : List ℕ) {n : ℕ} {l' : List ℕ} {after : Request} where
  written : (bytes : List ℕ) (n' : ℕ) (after' : Request) → after ≡ after' → 0 ≡ n'
      → ◌≡◌ {A = Placed} (record { next = n; buffer = l' }) (record { next = 0 + length bytes; buffer = put_at l 0 bytes })
      → said_by (record { wrote = Ok n; request = after }) l' ≡ writes n' bytes after' r l
  written bytes n' after' ea e w =
      let en : n ≡ length bytes = ap (λ (p : Placed). p.next) w ∙ zero-add (length bytes) in
      let el : l' ≡ put_at l 0 bytes = ap (λ (p : Placed). p.buffer) w in
      rw (en, el, ea) (writes_passed n' bytes after' r l e)

  pub say_passed : (bytes : List ℕ) → 0 ≡ output_refusal r output (say_bytes r output bytes) l
      → ◌≡◌ {A = Placed} (record { next = n; buffer = l' }) (stream_placed l 0 (output_type output) r.id bytes CHUNK)
      → after ≡ said_on r output bytes
      → said_by (record { wrote = Ok n; request = after }) l' ≡ say_in r output bytes l
  unfolding say_in stream_placed
  say_passed bytes e w ea =
      let fits : stream_fits CHUNK (length bytes) 0 (length l) ≡ true = stream_room (output_type output) r.id bytes l ∙ ap not (free r output (say_bytes r output bytes) l e).room in
      written (say_bytes r output bytes) (output_refusal r output (say_bytes r output bytes) l) (said_on r output bytes) ea e (simp fits at w)

  pub end_passed : 0 ≡ output_refusal r output (end_bytes r output) l
      → ◌≡◌ {A = Placed} (record { next = n; buffer = l' }) (record_placed l 0 (output_type output) r.id [])
      → after ≡ ended_on r output
      → said_by (record { wrote = Ok n; request = after }) l' ≡ end_in r output l
  unfolding end_in record_placed
  end_passed e w ea =
      let fits : record_fits 0 0 (length l) ≡ true = end_room (output_type output) r.id l ∙ ap not (free r output (end_bytes r output) l e).room in
      written (end_bytes r output) (output_refusal r output (end_bytes r output) l) (ended_on r output) ea e (simp fits at w)

-- What say and the end of a stream write reads back as what was meant.
use Rattle.std.specs.Prelude.{ℕ, ◌≤◌, ◌<◌, ◌≡◌, refl, length, take, drop}
use Rattle.std.proofs.Common.{sym, ap, ◌∙◌, arith}
use mathlib.Core.List.{List, [], ◌∷◌, map, flatten, append-nil}
use Rattle.record.specs.Split.{Record, Split, ◌then-split◌, all_rest, split_in, split}
use Rattle.record_writer.specs.Written.{record_bytes, chunks, stream_bytes}
use Rattle.record_writer.proofs.StreamLaws.{Each, stream_none, chunks_joined, chunk_sizes}
use Rattle.record_writer.proofs.ReadBack.{record_of, record_read_back, stream_read_back}
use Rattle.connection.specs.declared.request.Request.{Request}
use Rattle.connection.specs.declared.state.Conn.{Conn}
use Rattle.connection.specs.declared.answer.Output.{Output}
use Rattle.connection.specs.Sizes.{CHUNK}
use Rattle.connection.specs.Codes.{output_type}
use Rattle.connection.specs.RequestCalls.{say_bytes, end_bytes, said_on, ended_on}
use Rattle.connection.specs.Calls.{unwritten, say, end_stream}
use Rattle.call_output.proofs.Outcome.{request_of, output_call, say_is, end_is, did, named_id, front, behind, same_length, nothing, nothing_never_6}

-- ---- records of a stream
-- A record of that type and id, with content, not over CHUNK bytes of it.
pub record OfStream (type request : ℕ) (r : Record) : Type 0 where
  pub version : r.version ≡ 1
  pub has_type : r.kind ≡ type
  pub has_id : r.id ≡ request
  pub some : 0 < length r.content
  pub short : length r.content ≤ CHUNK

abbrev pub All : (Record → Type 0) → List Record → Type 0
All P [] = Unit {0}
All P (r ∷ rs) = P r × All P rs

-- A split into such records and no rest, whose contents joined are the data.
pub record Spoken (type request : ℕ) (content : List ℕ) (s : Split) : Type 0 where
  pub whole : s.rest ≡ []
  pub each : All (OfStream type request) s.records
  pub joined : flatten (map (λ r. r.content) s.records) ≡ content

-- a chunk in a record is a record of the stream
chunks_of : (kind id : ℕ) (xs : List (List ℕ)) → Each (λ x. (0 < length x) × (length x ≤ CHUNK)) xs → All (OfStream kind id) (map (record_of kind id) xs)
chunks_of kind id [] e = tt
chunks_of kind id (x ∷ xs) e =
    (record { version = refl; has_type = refl; has_id = refl; some = e.0.0; short = e.0.1 }, chunks_of kind id xs e.1)

contents_of : (kind id : ℕ) (xs : List (List ℕ)) → map (λ r. r.content) (map (record_of kind id) xs) ≡ xs
contents_of kind id [] = refl
contents_of kind id (x ∷ xs) = ap (λ (l : List (List ℕ)). x ∷ l) (contents_of kind id xs)

no_rest : split [] ≡ all_rest []
unfolding split split_in
no_rest = refl

spoken : (kind id : ℕ) (bytes : List ℕ) → id < 65536 → Spoken kind id bytes (split (stream_bytes CHUNK kind id bytes))
spoken kind id bytes h =
    let some : 0 < CHUNK = omega arith in
    let records = map (record_of kind id) (chunks CHUNK bytes) in
    let s : split (stream_bytes CHUNK kind id bytes) ≡ record { records = records; rest = [] } =
    ap split (sym (append-nil (stream_bytes CHUNK kind id bytes)))
    ∙ stream_read_back CHUNK kind id [] some (omega arith) h bytes
    ∙ ap (λ (t : Split). records then-split t) no_rest
    ∙ ap (λ (l : List Record). record { records = l; rest = [] }) (append-nil records) in
    rw s
    (record {
      whole = refl;
      each = chunks_of kind id (chunks CHUNK bytes) (chunk_sizes CHUNK some bytes);
      joined = ap flatten (contents_of kind id (chunks CHUNK bytes)) ∙ chunks_joined CHUNK some bytes;
    })

-- ---- the calls
-- Say reads back: the bytes written split into records of that type and id, none empty, whose contents joined
-- are the data.
pub say_read_back : (c : Conn) (id : ℕ) (output : Output) (bytes buffer : List ℕ) → (say c id output bytes buffer).refusal ≡ 0 → id < 65536
    → Spoken (output_type output) id bytes (split (take (say c id output bytes buffer).written (say c id output bytes buffer).buffer))
say_read_back c id output bytes buffer e h =
    let f : Request → List ℕ = λ r. say_bytes r output bytes in
    let g : Request → Request = λ r. said_on r output bytes in
    let e' : (output_call c id output f g buffer).refusal ≡ 0 = rw (say_is c id output bytes buffer) at e in
    let own : (request_of c id).id ≡ id = named_id c id (did c id output f g buffer e').called in
    rw (say_is c id output bytes buffer, front c id output f g buffer e', own) (spoken (output_type output) id bytes h)

-- The end of a stream reads back: one empty record of that type and id.
pub end_read_back : (c : Conn) (id : ℕ) (output : Output) (buffer : List ℕ) → (end_stream c id output buffer).refusal ≡ 0 → id < 65536
    → split (take (end_stream c id output buffer).written (end_stream c id output buffer).buffer) ≡ record { records = record_of (output_type output) id [] ∷ []; rest = [] }
end_read_back c id output buffer e h =
    let f : Request → List ℕ = λ r. end_bytes r output in
    let g : Request → Request = λ r. ended_on r output in
    let e' : (output_call c id output f g buffer).refusal ≡ 0 = rw (end_is c id output buffer) at e in
    let own : (request_of c id).id ≡ id = named_id c id (did c id output f g buffer e').called in
    let kind = output_type output in
    rw (end_is c id output buffer, front c id output f g buffer e', own)
    (ap split (sym (append-nil (record_bytes kind id [])))
    ∙ record_read_back kind id [] [] h (omega arith)
    ∙ ap (λ (t : Split). (record_of kind id [] ∷ []) then-split t) no_rest)

-- Bytes after those written stay, and the buffer keeps its length.
pub say_behind : (c : Conn) (id : ℕ) (output : Output) (bytes buffer : List ℕ)
    → (drop (say c id output bytes buffer).written (say c id output bytes buffer).buffer ≡ drop (say c id output bytes buffer).written buffer)
    × (length (say c id output bytes buffer).buffer ≡ length buffer)
say_behind c id output bytes buffer =
    let f : Request → List ℕ = λ r. say_bytes r output bytes in
    let g : Request → Request = λ r. said_on r output bytes in
    rw (say_is c id output bytes buffer) (behind c id output f g buffer, same_length c id output f g buffer)

pub end_behind_lem : (c : Conn) (id : ℕ) (output : Output) (buffer : List ℕ)
    → (drop (end_stream c id output buffer).written (end_stream c id output buffer).buffer ≡ drop (end_stream c id output buffer).written buffer)
    × (length (end_stream c id output buffer).buffer ≡ length buffer)
end_behind_lem c id output buffer =
    let f : Request → List ℕ = λ r. end_bytes r output in
    let g : Request → Request = λ r. ended_on r output in
    rw (end_is c id output buffer) (behind c id output f g buffer, same_length c id output f g buffer)

-- said on with no data, a request stays as it is
unsaid : (output : Output) (r : Request) → said_on r output [] ≡ r
unfolding said_on
unsaid Output.Stdout r = refl
unsaid Output.Stderr r = refl

-- Empty data: nothing is written, nothing changes (STDERR is not used by it), and no buffer is too short for it.
pub say_nothing : (c : Conn) (id : ℕ) (output : Output) (buffer : List ℕ)
    → (say c id output [] buffer ≡ unwritten (say c id output [] buffer).refusal c buffer) × ((say c id output [] buffer).refusal ≡ 6 → ⊥)
say_nothing c id output buffer =
    let f : Request → List ℕ = λ r. say_bytes r output [] in
    let g : Request → Request = λ r. said_on r output [] in
    let none : (r : Request) → f r ≡ [] = λ r. stream_none CHUNK (output_type output) r.id in
    rw (say_is c id output [] buffer) (nothing c id output f g buffer none (unsaid output), nothing_never_6 c id output f g buffer none)

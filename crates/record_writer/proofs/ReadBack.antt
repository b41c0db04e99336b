-- What is written reads back: the split of written bytes is the records that were meant.
use Rattle.std.specs.Prelude.{ℕ, ◌<◌, ◌≡◌, List, [], ◌∷◌, ◌++◌, map, length, take, drop}
use Rattle.std.proofs.Common.{sym, ap, ◌∙◌, append_assoc, arith, length-take}
use Rattle.std.proofs.lemmas.List.{length-replicate}
use Rattle.wire.specs.Number.{number2_bytes}
use Rattle.wire.specs.Buffer.{zeros}
use Rattle.record.specs.Names.{END_REQUEST, UNKNOWN_TYPE}
use Rattle.record.specs.declared.header.Header.{Header}
use Rattle.record.specs.Header.{header_of, header_bytes}
use Rattle.record.specs.Body.{end_body_of, end_body_bytes, unknown_type_of, unknown_type_bytes}
use Rattle.record.proofs.BodyLaws.{end_read_back, unknown_read_back, end_length, unknown_length}
use Rattle.record_writer.specs.Written.{padding_of, record_bytes, chunks, stream_bytes}
use Rattle.record_writer.proofs.WrittenLaws.{header_length}
use Rattle.record_writer.proofs.StreamLaws.{by_chunks, chunks_none, chunks_more, stream_none, stream_more}
use Rattle.record.specs.Split.{Record, Split, ◌then-split◌, split}
use Rattle.record.proofs.SplitLaws.{record_with, split_record}

-- the record that is meant: version 1, padded to a multiple of eight
abbrev pub record_of : ℕ → ℕ → List ℕ → Record
record_of kind id content = record { version = 1; kind = kind; id = id; content = content; padding = padding_of (length content) }

pub header_read_back : (kind id content padding : ℕ) → id < 65536 → content < 65536
    → header_of (header_bytes kind id content padding) ≡ record { version = 1; kind = kind; id = id; content = content; padding = padding }
unfolding header_of header_bytes
header_read_back kind id content padding hi hc = rw (number2_bytes id hi, number2_bytes content hc)

-- One record.
pub record_read_back : (kind id : ℕ) (x rest : List ℕ) → id < 65536 → length x < 65536
    → split (record_bytes kind id x ++ rest) ≡ (record_of kind id x ∷ []) then-split split rest
unfolding record_bytes
record_read_back kind id x rest hi hx =
    let p = padding_of (length x) in
    let h = header_bytes kind id (length x) p in
    let e : header_of h ≡ record { version = 1; kind = kind; id = id; content = length x; padding = p } = header_read_back kind id (length x) p hi hx in
    let a : h ++ x ++ zeros p ++ rest ≡ h ++ (x ++ (zeros p ++ rest)) = append_assoc (h ++ x) (zeros p) rest ∙ append_assoc h x (zeros p ++ rest) in
    ap split a
    ∙ split_record h x (zeros p) rest (header_length kind id (length x) p) (sym (ap (λ (k : Header). k.content) e)) (length-replicate p 0 ∙ sym (ap (λ (k : Header). k.padding) e))
    ∙ ap (λ (k : Header). (record_with k x ∷ []) then-split split rest) e

-- A stream: a record for each chunk, in order.
pub stream_read_back : (size kind id : ℕ) (rest : List ℕ) → 0 < size → size < 65536 → id < 65536
    → (x : List ℕ) → split (stream_bytes size kind id x ++ rest) ≡ map (record_of kind id) (chunks size x) then-split split rest
stream_read_back size kind id rest hs hm hi =
    by_chunks (λ x. split (stream_bytes size kind id x ++ rest) ≡ map (record_of kind id) (chunks size x) then-split split rest) size hs
    (rw (stream_none size kind id, chunks_none size))
    (λ x h ih.
    let c = take size x in
    let s = stream_bytes size kind id (drop size x) in
    let l : length c < 65536 = omega (arith, length-take size x) in
    rw (stream_more size kind id x hs h, chunks_more size x hs h, append_assoc (record_bytes kind id c) s rest)
    (record_read_back kind id c (s ++ rest) hi l ∙ ap (λ (t : Split). (record_of kind id c ∷ []) then-split t) ih))

-- An END_REQUEST record, its body read as section 5.5 says; an UNKNOWN_TYPE record, its body read as section 4.2 says.
pub end_record_read_back : (id appStatus protocolStatus : ℕ) (rest : List ℕ) → id < 65536 → appStatus < 4294967296
    → (split (record_bytes END_REQUEST id (end_body_bytes appStatus protocolStatus) ++ rest) ≡ (record_of END_REQUEST id (end_body_bytes appStatus protocolStatus) ∷ []) then-split split rest)
    × (end_body_of (end_body_bytes appStatus protocolStatus) ≡ record { app_status = appStatus; protocol_status = protocolStatus })
end_record_read_back id appStatus protocolStatus rest hi ha =
    let l = end_length appStatus protocolStatus in
    (record_read_back END_REQUEST id (end_body_bytes appStatus protocolStatus) rest hi (omega (arith, l)), end_read_back appStatus protocolStatus ha)

pub unknown_record_read_back : (kind : ℕ) (rest : List ℕ)
    → (split (record_bytes UNKNOWN_TYPE 0 (unknown_type_bytes kind) ++ rest) ≡ (record_of UNKNOWN_TYPE 0 (unknown_type_bytes kind) ∷ []) then-split split rest)
    × (unknown_type_of (unknown_type_bytes kind) ≡ kind)
unknown_record_read_back kind rest =
    let l = unknown_length kind in
    (record_read_back UNKNOWN_TYPE 0 (unknown_type_bytes kind) rest (omega arith) (omega (arith, l)), unknown_read_back kind)

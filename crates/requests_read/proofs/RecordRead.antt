-- A record as it is written, read byte by byte by a station between two records: it comes to what its header and its
-- content mean.
use Rattle.std.specs.Prelude.{ℕ, ◌-◌, ◌<◌, ◌≡◌, List, [], ◌++◌, length, take}
use Rattle.std.proofs.Common.{sym, ap, ap₂, ◌∙◌, subst, append_assoc, arith, take_at}
use Rattle.std.proofs.lemmas.List.{length-replicate}
use Rattle.wire.specs.Buffer.{zeros}
use Rattle.wire.proofs.Bytes.{AllBytes, take_bytes}
use Rattle.record.specs.Names.{VERSION}
use Rattle.record.specs.Header.{header_of, header_bytes}
use Rattle.record.specs.declared.header.Header.{Header}
use Rattle.record_writer.specs.Written.{padding_of, record_bytes}
use Rattle.record_writer.proofs.WrittenLaws.{header_length}
use Rattle.record_writer.proofs.ReadBack.{header_read_back}
use Rattle.connection.specs.Step.{State}
use Rattle.connection.specs.Bytewise.{by_byte}
use Rattle.meaning.specs.Meaning.{header_means}
use Rattle.meaning.proofs.Steps.{Between}
use Rattle.meaning.proofs.OneRecord.{record_bytes_lem}
use Rattle.server.proofs.WrittenBytes.{no_bytes, record_is_bytes}

-- the header of a record as it is written
abbrev pub header_for : ℕ → ℕ → List ℕ → Header
header_for kind id x = record { version = VERSION; kind = kind; id = id; content = length x; padding = padding_of (length x) }

-- What may be written as a record.
pub record Sent (kind id : ℕ) (x : List ℕ) : Type 0 where
  pub kind_small : kind < 256
  pub id_small : id < 65536
  pub short : length x < 65536
  pub bytes : AllBytes x

pub sent_empty : (kind id : ℕ) → kind < 256 → id < 65536 → Sent kind id []
sent_empty kind id k i = record { kind_small = k; id_small = i; short = omega arith; bytes = no_bytes }

-- The whole record, byte by byte, from a state between two records.
pub one_record : (st : State) (store : List ℕ) (kind id : ℕ) (x : List ℕ) → Between st store → Sent kind id x
    → by_byte st store (record_bytes kind id x) ≡ header_means st store (header_for kind id x) x 0 0
unfolding record_bytes
one_record st store kind id x b s =
    let p = padding_of (length x) in
    let h = header_bytes kind id (length x) p in
    let e8 = header_length kind id (length x) p in
    let ok : AllBytes h = subst AllBytes (ap (take 8) (append_assoc h x (zeros p)) ∙ take_at h (x ++ zeros p) 8 e8) (take_bytes 8 (record_bytes kind id x) (record_is_bytes kind id x s.kind_small s.bytes)) in
    let e : header_of h ≡ header_for kind id x = header_read_back kind id (length x) p s.id_small s.short in
    let hp : (header_of h).padding ≡ p = ap (λ (k : Header). k.padding) e in
    let zl : length (zeros p) ≡ p = length-replicate p 0 in
    let none : (header_of h).padding - length (zeros p) ≡ 0 = omega arith in
    ap (by_byte st store) (append_assoc h x (zeros p))
    ∙ record_bytes_lem st store h x (zeros p) b ok s.bytes e8 (sym (ap (λ (k : Header). k.content) e)) (omega arith)
    ∙ ap₂ (λ (k : Header) (n : ℕ). header_means st store k x 0 n) e none

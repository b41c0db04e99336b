-- What is written reads back as the atoms that were meant.
use Rattle.std.specs.Prelude.{◌≡◌, refl, true, false, ℕ, zero, suc, ◌<◌, length, take, drop}
use Rattle.std.proofs.Common.{ap, sym, ◌∙◌, arith, length-take, take-append-drop}
use mathlib.Core.List.{List, [], ◌∷◌, ◌++◌, map, flatten, append_assoc, append-nil}
use Rattle.std.proofs.lemmas.List.{length-replicate}
use Rattle.wire.specs.Number.{number2_bytes}
use Rattle.wire.specs.Buffer.{zeros}
use Rattle.record.specs.Header.{header_of, header_bytes}
use Rattle.record.specs.Split.{◌then-split◌, split_in, split}
use Rattle.record.proofs.SplitLaws.{record_with, split_record}
use Rattle.record_writer.specs.Written.{padding_of, record_bytes, stream_bytes}
use Rattle.record_writer.proofs.WrittenLaws.{header_length}
use Rattle.record_writer.proofs.StreamLaws.{by_chunks, stream_none, stream_more}
use Rattle.connection.specs.declared.answer.Output.{Output}
use Rattle.connection.specs.Codes.{output_type}
use Rattle.queue_slot.specs.Atoms.{Atom, is_same, end_waits, ByteOn, EndOf, EndRequest, stream_atoms, record_atoms, atoms_of_record, atoms_of}

header_content_lem : (kind id n p : ℕ) → n < 65536 → (header_of (header_bytes kind id n p)).content ≡ n
unfolding header_of header_bytes
header_content_lem kind id n p h = number2_bytes n h

header_padding_lem : (kind id n p : ℕ) → (header_of (header_bytes kind id n p)).padding ≡ p
unfolding header_of header_bytes
header_padding_lem kind id n p = refl

header_kind : (kind id n p : ℕ) → (header_of (header_bytes kind id n p)).kind ≡ kind
unfolding header_of header_bytes
header_kind kind id n p = refl

-- the header of a record that is written
abbrev written_header : ℕ → ℕ → List ℕ → List ℕ
written_header kind id x = header_bytes kind id (length x) (padding_of (length x))

-- one record of any id, and more behind it
split_written : (kind id : ℕ) (x rest : List ℕ) → length x < 65536
    → split (record_bytes kind id x ++ rest) ≡ (record_with (header_of (written_header kind id x)) x ∷ []) then-split split rest
unfolding record_bytes
split_written kind id x rest hx =
    let p = padding_of (length x) in
    let h = header_bytes kind id (length x) p in
    let a : h ++ x ++ zeros p ++ rest ≡ h ++ (x ++ (zeros p ++ rest)) = append_assoc (h ++ x) (zeros p) rest ∙ append_assoc h x (zeros p ++ rest) in
    ap split a
    ∙ split_record h x (zeros p) rest (header_length kind id (length x) p) (sym (header_content_lem kind id (length x) p hx)) (length-replicate p 0 ∙ sym (header_padding_lem kind id (length x) p))

-- its atoms, and those of what is behind it
pub atoms_record : (kind id : ℕ) (x rest : List ℕ) → length x < 65536 → atoms_of (record_bytes kind id x ++ rest) ≡ record_atoms kind x ++ atoms_of rest
unfolding atoms_of flatten
atoms_record kind id x rest hx =
    rw (split_written kind id x rest hx)
    (ap (λ k. record_atoms k x ++ flatten (map atoms_of_record (split rest).records)) (header_kind kind id (length x) (padding_of (length x))))

-- no bytes, no atoms
pub atoms_none : atoms_of [] ≡ []
unfolding atoms_of split split_in flatten
atoms_none = refl

-- one record alone
pub atoms_one : (kind id : ℕ) (x : List ℕ) → length x < 65536 → atoms_of (record_bytes kind id x) ≡ record_atoms kind x
atoms_one kind id x h = ap atoms_of (sym (append-nil (record_bytes kind id x))) ∙ atoms_record kind id x [] h ∙ ap (λ l. record_atoms kind x ++ l) atoms_none ∙ append-nil (record_atoms kind x)

-- a record of an output stream
pub output_atoms : (o : Output) (x : List ℕ) → record_atoms (output_type o) x ≡ stream_atoms o x
unfolding record_atoms
output_atoms Output.Stdout x = refl
output_atoms Output.Stderr x = refl

-- content that is not empty is its bytes
pub some_atoms : (o : Output) (x : List ℕ) → 0 < length x → stream_atoms o x ≡ map (ByteOn o) x
some_atoms o [] h = absurd (omega arith)
some_atoms o (b ∷ x) h = refl

map_append : (f : ℕ → Atom) (x y : List ℕ) → map f (x ++ y) ≡ map f x ++ map f y
map_append f [] y = refl
map_append f (b ∷ x) y = ap (λ l. f b ∷ l) (map_append f x y)

some_taken : (size : ℕ) (x : List ℕ) → 0 < size → 0 < length x → 0 < length (take size x)
some_taken zero x h g = absurd (omega arith)
some_taken (suc size) [] h g = absurd (omega arith)
some_taken (suc size) (b ∷ x) h g = omega arith

-- data cut into records
pub atoms_stream : (size id : ℕ) (o : Output) → 0 < size → size < 65536 → (x : List ℕ) → atoms_of (stream_bytes size (output_type o) id x) ≡ map (ByteOn o) x
atoms_stream size id o hs hm =
    by_chunks (λ x. atoms_of (stream_bytes size (output_type o) id x) ≡ map (ByteOn o) x) size hs
    (ap atoms_of (stream_none size (output_type o) id) ∙ atoms_none)
    (λ x h ih.
    let c = take size x in
    let l : length c < 65536 = omega (arith, length-take size x) in
    ap atoms_of (stream_more size (output_type o) id x hs h)
    ∙ atoms_record (output_type o) id c (stream_bytes size (output_type o) id (drop size x)) l
    ∙ ap (λ k. record_atoms (output_type o) c ++ k) ih
    ∙ ap (λ k. k ++ map (ByteOn o) (drop size x)) (output_atoms o c ∙ some_atoms o c (some_taken size x hs h))
    ∙ sym (map_append (ByteOn o) c (drop size x))
    ∙ ap (map (ByteOn o)) (take-append-drop size x))

-- ---- lists of atoms
pub is_same_lem : (o : Output) → is_same o o ≡ true
is_same_lem Output.Stdout = refl
is_same_lem Output.Stderr = refl

-- END waits in two lists where it waits in the second, if not in the first
pub waits_append : (l k : List Atom) → end_waits l ≡ false → end_waits (l ++ k) ≡ end_waits k
unfolding end_waits
waits_append [] k e = refl
waits_append (ByteOn o b ∷ l) k e = waits_append l k e
waits_append (EndOf o ∷ l) k e = waits_append l k e
waits_append (EndRequest c ∷ l) k e = let z : ◌≡◌ {A = ℕ} 0 1 = cc in absurd (omega arith)

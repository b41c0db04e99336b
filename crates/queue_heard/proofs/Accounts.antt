-- What is heard of one request, as atoms; and that it is what the records of its id say in the bytes that were written.
use Rattle.std.specs.Prelude.{ℕ, ◌≤◌, ◌<◌, ◌≡◌, refl, Bool, true, false, List, [], ◌∷◌, ◌++◌, map, length, take, drop, eqb, if◌then◌else◌}
use Rattle.std.proofs.Common.{sym, ap, ap₂, ◌∙◌, subst, append_assoc, append-nil, arith, length-take, take-append-drop}
use Rattle.wire.specs.Test.{◌=?◌, by_test}
use Rattle.record.specs.Names.{STDOUT, STDERR, END_REQUEST, REQUEST_COMPLETE}
use Rattle.record.specs.Body.{end_body_bytes}
use Rattle.record.proofs.BodyLaws.{end_length}
use Rattle.record_writer.specs.Written.{record_bytes, stream_bytes}
use Rattle.record_writer.proofs.StreamLaws.{by_chunks, stream_none, stream_more}
use Rattle.connection.specs.declared.answer.Output.{Output}
use Rattle.connection.specs.Sizes.{CHUNK}
use Rattle.connection.specs.Codes.{output_type}
use Rattle.call_finish.specs.Answer.{end_if}
use Rattle.server.specs.Event.{Event, Note, showing}
use Rattle.queue_slot.specs.Atoms.{Atom, ByteOn, EndOf, EndRequest, record_atoms}
use Rattle.queue_slot.proofs.AtomLaws.{output_atoms, some_atoms}
use Rattle.queue_link.proofs.LinkedWritten.{read_of, if_own, records_record}
use Rattle.replies_heard.proofs.CallHeard.{Writing, WritesNothing, WritesData, WritesEnd, WritesLast}
use Rattle.replies_heard.specs.Moves.{end_note}

-- ---- what is heard of R
-- an atom of an output stream, by the type of its records
abbrev pub on_stream : ℕ → (Output → Atom) → List Atom
on_stream stream f = if stream =? STDOUT then f Output.Stdout ∷ [] else if stream =? STDERR then f Output.Stderr ∷ [] else []

abbrev pub note_atoms : Note → ℕ → List Atom
note_atoms (Note.Shown id stream b) R = if_own R id (on_stream stream (λ o. ByteOn o b))
note_atoms (Note.Listed l) R = []
note_atoms (Note.Told Event.None) R = []
note_atoms (Note.Told (Event.Output id stream n)) R = []
note_atoms (Note.Told (Event.Ended id stream)) R = if_own R id (on_stream stream EndOf)
note_atoms (Note.Told (Event.Finished id a p)) R = if_own R id (EndRequest (end_body_bytes a p) ∷ [])
note_atoms (Note.Told (Event.Values n)) R = []
note_atoms (Note.Told (Event.Unknown kind)) R = []
note_atoms (Note.Told (Event.Closed n)) R = []

-- in order
unfoldable pub heard_of : ℕ → List Note → List Atom
heard_of R [] = []
heard_of R (n ∷ l) = note_atoms n R ++ heard_of R l

pub heard_append : (R : ℕ) (l k : List Note) → heard_of R (l ++ k) ≡ heard_of R l ++ heard_of R k
unfolding heard_of
heard_append R [] k = refl
heard_append R (n ∷ l) k = ap (λ (x : List Atom). note_atoms n R ++ x) (heard_append R l k) ∙ sym (append_assoc (note_atoms n R) (heard_of R l) (heard_of R k))

-- ---- these bytes tell of R what is heard of it in these notes
abbrev pub Tells : List ℕ → List Note → Type 0
Tells bytes l = (R : ℕ) (rest : List ℕ) → read_of R (bytes ++ rest) ≡ heard_of R l ++ read_of R rest

pub tells_none : Tells [] []
unfolding heard_of
tells_none R rest = refl

pub tells_append : (x y : List ℕ) (l k : List Note) → Tells x l → Tells y k → Tells (x ++ y) (l ++ k)
tells_append x y l k f g R rest =
    ap (read_of R) (append_assoc x y rest)
    ∙ f R (y ++ rest)
    ∙ ap (λ (z : List Atom). heard_of R l ++ z) (g R rest)
    ∙ sym (append_assoc (heard_of R l) (heard_of R k) (read_of R rest))
    ∙ ap (λ (z : List Atom). z ++ read_of R rest) (sym (heard_append R l k))

-- one record
tells_record : (kind id : ℕ) (x : List ℕ) (l : List Note) → id < 65536 → length x < 65536 → ((R : ℕ) → heard_of R l ≡ if_own R id (record_atoms kind x)) → Tells (record_bytes kind id x) l
tells_record kind id x l hi hx e R rest = records_record R kind id x rest hi hx ∙ ap (λ (z : List Atom). z ++ read_of R rest) (sym (e R))

-- the end of a stream
on_stream_lem : (o : Output) (f : Output → Atom) → on_stream (output_type o) f ≡ f o ∷ []
on_stream_lem Output.Stdout f = refl
on_stream_lem Output.Stderr f = refl

pub tells_end : (o : Output) (id : ℕ) → id < 65536 → Tells (record_bytes (output_type o) id []) (Note.Told (Event.Ended id (output_type o)) ∷ [])
unfolding heard_of
tells_end o id hi =
    tells_record (output_type o) id [] (Note.Told (Event.Ended id (output_type o)) ∷ []) hi (omega arith)
    (λ R. append-nil (if_own R id (on_stream (output_type o) EndOf)) ∙ ap (if_own R id) (on_stream_lem o EndOf ∙ sym (output_atoms o [])))

-- END
pub tells_over : (id status : ℕ) → id < 65536 → Tells (record_bytes END_REQUEST id (end_body_bytes status REQUEST_COMPLETE)) (Note.Told (Event.Finished id status REQUEST_COMPLETE) ∷ [])
unfolding heard_of record_atoms
tells_over id status hi =
    let c = end_body_bytes status REQUEST_COMPLETE in
    tells_record END_REQUEST id c (Note.Told (Event.Finished id status REQUEST_COMPLETE) ∷ []) hi (omega (arith, end_length status REQUEST_COMPLETE)) (λ R. append-nil (if_own R id (EndRequest c ∷ [])))

-- data in one record
heard_shown : (R id : ℕ) (o : Output) (x : List ℕ) → heard_of R (showing id (output_type o) x) ≡ if_own R id (map (ByteOn o) x)
unfolding heard_of showing
heard_shown R id o [] = by_test (eqb id R) (λ e. simp e) (λ e. simp e)
heard_shown R id o (b ∷ x) =
    ap₂ (λ (y z : List Atom). y ++ z) (ap (if_own R id) (on_stream_lem o (λ p. ByteOn p b))) (heard_shown R id o x) ∙ by_test (eqb id R) (λ e. simp e) (λ e. simp e)

pub tells_data : (o : Output) (id : ℕ) (x : List ℕ) → id < 65536 → 0 < length x → length x < 65536 → Tells (record_bytes (output_type o) id x) (showing id (output_type o) x)
tells_data o id x hi more hx =
    tells_record (output_type o) id x (showing id (output_type o) x) hi hx
    (λ R. heard_shown R id o x ∙ ap (if_own R id) (sym (output_atoms o x ∙ some_atoms o x more)))

showing_append : (id stream : ℕ) (x y : List ℕ) → showing id stream (x ++ y) ≡ showing id stream x ++ showing id stream y
unfolding showing
showing_append id stream [] y = refl
showing_append id stream (b ∷ x) y = ap (λ (l : List Note). Note.Shown id stream b ∷ l) (showing_append id stream x y)

-- data cut into records
tells_stream : (o : Output) (id : ℕ) → id < 65536 → (x : List ℕ) → Tells (stream_bytes CHUNK (output_type o) id x) (showing id (output_type o) x)
unfolding showing
tells_stream o id hi =
    let k = output_type o in
    by_chunks (λ x. Tells (stream_bytes CHUNK k id x) (showing id k x)) CHUNK (omega arith)
    (rw (stream_none CHUNK k id) tells_none)
    (λ x more ih.
    let c = take CHUNK x in
    let long : length c ≤ CHUNK = omega (arith, length-take CHUNK x) in
    let e : showing id k c ++ showing id k (drop CHUNK x) ≡ showing id k x = sym (showing_append id k c (drop CHUNK x)) ∙ ap (showing id k) (take-append-drop CHUNK x) in
    let first : Tells (record_bytes k id c) (showing id k c) = tells_data o id c hi (omega (arith, length-take CHUNK x)) (omega arith) in
    let both = tells_append (record_bytes k id c) (stream_bytes CHUNK k id (drop CHUNK x)) (showing id k c) (showing id k (drop CHUNK x)) first ih in
    rw (stream_more CHUNK k id x (omega arith) more) (subst (λ (l : List Note). Tells (record_bytes k id c ++ stream_bytes CHUNK k id (drop CHUNK x)) l) e both))

-- an end that is owed or not
tells_owed : (owed : Bool) (o : Output) (id : ℕ) → id < 65536 → Tells (end_if owed (output_type o) id) (end_note owed id (output_type o))
tells_owed true o id hi = tells_end o id hi
tells_owed false o id hi = tells_none

-- Whatever a straight call writes.
pub tells_writing : (id : ℕ) → id < 65536 → {bytes : List ℕ} {l : List Note} → Writing id bytes l → Tells bytes l
tells_writing id hi WritesNothing = tells_none
tells_writing id hi (WritesData o x) = tells_stream o id hi x
tells_writing id hi (WritesEnd o) = tells_end o id hi
tells_writing id hi (WritesLast out err status) =
    let end = record_bytes END_REQUEST id (end_body_bytes status REQUEST_COMPLETE) in
    let over = Note.Told (Event.Finished id status REQUEST_COMPLETE) ∷ [] in
    tells_append (end_if out STDOUT id) (end_if err STDERR id ++ end) (end_note out id STDOUT) (end_note err id STDERR ++ over) (tells_owed out Output.Stdout id hi)
    (tells_append (end_if err STDERR id) end (end_note err id STDERR) over (tells_owed err Output.Stderr id hi) (tells_over id status hi))

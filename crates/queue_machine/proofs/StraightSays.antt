-- A straight call writes what it is asked to say: its bytes, read record by record, are the data of a say, the end
-- of a stream, or the ends that are owed and END.
use Rattle.std.specs.Prelude.{◌≡◌, refl, List, [], ◌∷◌, ◌++◌, map, Bool, true, false, ℕ, ◌+◌, length, take, drop, eqb, if◌then◌else◌}
use Rattle.std.proofs.Common.{ap, sym, ◌∙◌, arith, take_at}
use Rattle.std.proofs.Math.Option.{Option, none, some}
use Rattle.wire.specs.Test.{◌=?◌, by_test}
use Rattle.record.specs.Names.{END_REQUEST, REQUEST_COMPLETE}
use Rattle.record.specs.Body.{end_body_bytes}
use Rattle.record.proofs.BodyLaws.{end_length}
use Rattle.record_writer.specs.Written.{record_bytes}
use Rattle.machine.specs.Machine.{Stays, Leaves, Closes}
use Rattle.connection.specs.declared.request.Request.{Request}
use Rattle.connection.specs.declared.answer.Output.{Output}
use Rattle.connection.specs.Sizes.{CHUNK}
use Rattle.connection.specs.Codes.{output_type}
use Rattle.connection.specs.Request.{Held}
use Rattle.connection.specs.RequestCalls as Of
use Rattle.connection.specs.Arguments.{Argument, ForRead, ForSay, ForEnd, ForFinish, FinishedWith}
use Rattle.connection.specs.Runs.Receiver.{receive_call, finished_as}
use Rattle.queue_slot.specs.Atoms.{Atom, ByteOn, EndOf, finish_of, record_atoms, atoms_of}
use Rattle.queue_slot.proofs.AtomLaws.{atoms_none, atoms_record, atoms_one, output_atoms, atoms_stream}
use Rattle.queue_slot.specs.Finishing.{owed_end, last_words}
use Rattle.queue_machine.specs.Queued.{refusal_in, wrote_in, answer_of}
use Rattle.queue_machine.proofs.QueuedServes.{end_written}

-- the ends that a request owes, and END
abbrev pub last_of : Option Held → ℕ → List Atom
last_of none status = []
last_of (some h) status = last_words h.request.state status

-- what a straight call is asked to say, with the request before it
abbrev pub straight_asks : Argument → Option Held → List Atom
straight_asks (ForRead q) v = []
straight_asks (ForSay o content buffer) v = map (ByteOn o) content
straight_asks (ForEnd o buffer) v = EndOf o ∷ []
straight_asks (ForFinish status buffer) v = last_of v status

-- what is said by a call with this refusal
abbrev pub unless_refused : ℕ → List Atom → List Atom
unless_refused n l = if n =? 0 then l else []

-- ---- what was asked is what was written
-- bytes that fill a buffer from its start
writes_says : (n : ℕ) (bytes : List ℕ) (after r : Request) (buffer : List ℕ) (l : List Atom) → atoms_of bytes ≡ l
    → unless_refused (Of.writes n bytes after r buffer).refusal l ≡ atoms_of (take (Of.writes n bytes after r buffer).written (Of.writes n bytes after r buffer).buffer)
unfolding Of.writes
writes_says n bytes after r buffer l e = by_test (eqb n 0) (λ z. rw z (sym e ∙ ap atoms_of (sym (take_at bytes (drop (0 + length bytes) buffer) (length bytes) refl)))) (λ z. rw z (rw z (sym atoms_none)))

-- the end of a stream that may be owed
owed_says : (b : Bool) (o : Output) (id : ℕ) (rest : List ℕ) → atoms_of ((if b then record_bytes (output_type o) id [] else []) ++ rest) ≡ owed_end b o ++ atoms_of rest
owed_says true o id rest = atoms_record (output_type o) id [] rest (omega arith) ∙ ap (λ l. l ++ atoms_of rest) (output_atoms o [])
owed_says false o id rest = refl

-- the ends that are owed, and END
finish_says : (r : Request) (status : ℕ) → atoms_of (Of.finish_bytes r status) ≡ last_words r.state status
unfolding Of.finish_bytes last_words record_atoms
finish_says r status =
    let body = end_body_bytes status REQUEST_COMPLETE in
    let last : atoms_of (record_bytes END_REQUEST r.id body) ≡ finish_of status ∷ [] = atoms_one END_REQUEST r.id body (omega (arith, end_length status REQUEST_COMPLETE)) in
    owed_says (Of.owes_out r.state) Output.Stdout r.id _
    ∙ ap (λ l. owed_end (Of.owes_out r.state) Output.Stdout ++ l) (owed_says (Of.owes_err r.state) Output.Stderr r.id _ ∙ ap (λ l. owed_end (Of.owes_err r.state) Output.Stderr ++ l) last)

finished_says : (keep : Bool) (h : Held) (w : Of.Writing) (l : List Atom) → unless_refused w.refusal l ≡ atoms_of (take w.written w.buffer)
    → unless_refused (refusal_in (answer_of (finished_as keep h w))) l ≡ wrote_in (answer_of (finished_as keep h w))
unfolding finished_as wrote_in
finished_says keep h w l e = go (eqb w.refusal 0) refl keep
  where
    go : (a : Bool) → eqb w.refusal 0 ≡ a → (k : Bool)
        → unless_refused (refusal_in (answer_of (if a then (if k then Leaves (FinishedWith 0 w.written false w.buffer) else Closes (FinishedWith 0 w.written true w.buffer)) else Stays h (FinishedWith w.refusal 0 false w.buffer)))) l
        ≡ wrote_in (answer_of (if a then (if k then Leaves (FinishedWith 0 w.written false w.buffer) else Closes (FinishedWith 0 w.written true w.buffer)) else Stays h (FinishedWith w.refusal 0 false w.buffer)))
    go true d true = rw d at e
    go true d false = rw d at e
    go false d k = rw d (sym atoms_none)

-- Of every straight call: the bytes that it writes, read record by record, are what it was asked to say.
pub call_says : (a : Argument) (h : Held) → unless_refused (refusal_in (answer_of (receive_call a h))) (straight_asks a (some h)) ≡ wrote_in (answer_of (receive_call a h))
unfolding receive_call wrote_in Of.say_in Of.end_in Of.finish_in
call_says (ForRead q) h = refl
call_says (ForSay o content buffer) h =
    writes_says (Of.output_refusal h.request o (Of.say_bytes h.request o content) buffer) (Of.say_bytes h.request o content) (Of.said_on h.request o content) h.request buffer (map (ByteOn o) content)
    (atoms_stream CHUNK h.request.id o (omega arith) (omega arith) content)
call_says (ForEnd o buffer) h =
    writes_says (Of.output_refusal h.request o (Of.end_bytes h.request o) buffer) (Of.end_bytes h.request o) (Of.ended_on h.request o) h.request buffer (EndOf o ∷ [])
    (end_written o h.request.id)
call_says (ForFinish status buffer) h =
    finished_says h.request.state.keep h (Of.finish_in h.request status buffer) (last_words h.request.state status)
    (writes_says _ (Of.finish_bytes h.request status) h.request h.request buffer (last_words h.request.state status) (finish_says h.request status))

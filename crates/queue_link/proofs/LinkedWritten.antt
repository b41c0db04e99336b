-- What was written of R's output in a run, read from the bytes of calls and turns, is what the machine's run wrote.
use Rattle.std.specs.Prelude.{◌≡◌, refl, Bool, ℕ, ◌+◌, ◌≤◌, ◌<◌, take, drop, eqb, ltb, if◌then◌else◌}
use Rattle.std.proofs.Common.{ap, sym, ◌∙◌, subst, arith, length-take}
use mathlib.Core.List.{List, [], ◌++◌, append-nil}
use Rattle.std.proofs.Math.Bool.{true, false}
use Rattle.std.proofs.Math.ListN.{length}
use borrow.Author.Tests.{eqb-true, ltb-false}
use Rattle.wire.specs.Test.{by_test}
use Rattle.record.specs.Names.{STDOUT, STDERR, END_REQUEST, REQUEST_COMPLETE}
use Rattle.record.specs.Body.{end_body_bytes}
use Rattle.record.proofs.BodyLaws.{end_length}
use Rattle.record.specs.Split.{Split, split_in, split}
use Rattle.record_writer.specs.Written.{record_bytes, stream_bytes}
use Rattle.record_writer.proofs.ReadBack.{record_read_back}
use Rattle.record_writer.proofs.StreamLaws.{by_chunks, stream_none, stream_more}
use Rattle.machine.specs.Machine.{CallOutcome, Stays, Retires, Leaves, Closes}
use Rattle.connection.specs.declared.request.Request.{Request}
use Rattle.connection.specs.declared.answer.Output.{Output}
use Rattle.connection.specs.Sizes.{CHUNK}
use Rattle.connection.specs.Codes.{output_type}
use Rattle.connection.specs.Request.{Held}
use Rattle.connection.specs.RequestCalls as Of
use Rattle.connection.specs.Arguments.{Argument, ForRead, ForSay, ForEnd, ForFinish, Answer, RepliedWith, Wrote, FinishedWith, refused}
use Rattle.connection.specs.Runs.Receiver.{receive_call, finished_as}
use Rattle.queue_slot.specs.Atoms.{Atom, record_atoms, atoms_of, end_waits, data_in}
use Rattle.queue_slot.proofs.AtomLaws.{atoms_record, atoms_none}
use Rattle.queue_slot.proofs.ServeLaws.{put_front_lem}
use Rattle.queue_machine.specs.Queued as Q
use Rattle.queue_machine.specs.Queued.{outcome_answer, Queued, Asked, QueueAnswer, is_writer, answer_of, lifted, held_up, straight_writer, straight_call, queue_refusal, queued_call, wrote_in, wrote_by}
use Rattle.queue_slot.specs.Wait.{ROOM}
use Rattle.queue_link.proofs.LinkedStraight.{asked, told_of}
use Rattle.queue.specs.Run as D
use Rattle.queue.specs.Run.{Asking, Answering, records_of, written_bytes}

-- R's atoms in written bytes
abbrev pub read_of : ℕ → List ℕ → List Atom
read_of R bytes = records_of R (split bytes).records

-- if it is of R
abbrev pub if_own : ℕ → ℕ → List Atom → List Atom
if_own R id l = if eqb id R then l else []

-- no bytes
pub records_none : (R : ℕ) → read_of R [] ≡ []
unfolding records_of split split_in
records_none R = refl

-- one record, and more behind it
pub records_record : (R kind id : ℕ) (x rest : List ℕ) → id < 65536 → length x < 65536 → read_of R (record_bytes kind id x ++ rest) ≡ if_own R id (record_atoms kind x) ++ read_of R rest
unfolding records_of
records_record R kind id x rest hi hx = ap (λ (k : Split). records_of R k.records) (record_read_back kind id x rest hi hx)

module _ (R : ℕ) where
  -- all records in these bytes are of that id
  abbrev pub Own : ℕ → List ℕ → Type 0
  Own id bytes = read_of R bytes ≡ if_own R id (atoms_of bytes)

  -- no bytes
  pub own_none : (id : ℕ) → Own id []
  own_none id = by_test (eqb id R) (λ e. rw e (records_none R ∙ sym atoms_none)) (λ e. rw e (records_none R))

  -- one record more
  pub own_more : (kind id : ℕ) (x rest : List ℕ) → id < 65536 → length x < 65536 → Own id rest → Own id (record_bytes kind id x ++ rest)
  own_more kind id x rest hi hx h =
      records_record R kind id x rest hi hx ∙ ap (λ l. if_own R id (record_atoms kind x) ++ l) h
      ∙ go (eqb id R) (record_atoms kind x) (atoms_of rest) ∙ ap (if_own R id) (sym (atoms_record kind id x rest hx))
    where
      go : (b : Bool) (l k : List Atom) → (if b then l else []) ++ (if b then k else []) ≡ (if b then l ++ k else [])
      go true l k = refl
      go false l k = refl

  -- one record
  pub own_one : (kind id : ℕ) (x : List ℕ) → id < 65536 → length x < 65536 → Own id (record_bytes kind id x)
  own_one kind id x hi hx = subst (λ l. Own id l) (append-nil (record_bytes kind id x)) (own_more kind id x [] hi hx (own_none id))

  own_stream : (size kind id : ℕ) → 0 < size → size < 65536 → id < 65536 → (x : List ℕ) → Own id (stream_bytes size kind id x)
  own_stream size kind id hs hm hi =
      by_chunks (λ x. Own id (stream_bytes size kind id x)) size hs
      (subst (λ l. Own id l) (sym (stream_none size kind id)) (own_none id))
      (λ x h ih.
      let l : length (take size x) < 65536 = omega (arith, length-take size x) in
      subst (λ l. Own id l) (sym (stream_more size kind id x hs h)) (own_more kind id (take size x) (stream_bytes size kind id (drop size x)) hi l ih))

  own_finish : (r : Request) (status : ℕ) → r.id < 65536 → Own r.id (Of.finish_bytes r status)
  unfolding Of.finish_bytes
  own_finish r status hi = go (Of.owes_out r.state) (Of.owes_err r.state)
    where
      body : length (end_body_bytes status REQUEST_COMPLETE) < 65536
      body = omega (arith, end_length status REQUEST_COMPLETE)

      last : Own r.id (record_bytes END_REQUEST r.id (end_body_bytes status REQUEST_COMPLETE))
      last = own_one END_REQUEST r.id (end_body_bytes status REQUEST_COMPLETE) hi body

      go : (a b : Bool) → Own r.id ((if a then record_bytes STDOUT r.id [] else []) ++ ((if b then record_bytes STDERR r.id [] else []) ++ record_bytes END_REQUEST r.id (end_body_bytes status REQUEST_COMPLETE)))
      go true true = own_more STDOUT r.id [] _ hi (omega arith) (own_more STDERR r.id [] _ hi (omega arith) last)
      go true false = own_more STDOUT r.id [] _ hi (omega arith) last
      go false true = own_more STDERR r.id [] _ hi (omega arith) last
      go false false = last

  -- ---- what a call wrote
  own_writes : (n : ℕ) (bytes : List ℕ) (after r : Request) (buffer : List ℕ) (id : ℕ) → (n ≡ 0 → length bytes ≤ length buffer) → Own id bytes
      → Own id (take (Of.writes n bytes after r buffer).written (Of.writes n bytes after r buffer).buffer)
  unfolding Of.writes
  own_writes n bytes after r buffer id f h =
      by_test (eqb n 0) (λ e. rw e (subst (λ l. Own id l) (sym (put_front_lem buffer bytes (f (eqb-true n 0 e)))) h)) (λ e. rw e (own_none id))

  fits_output : (a b c : Bool) → ◌≡◌ {A = ℕ} (if a then 4 else if b then 5 else if c then 6 else 0) 0 → c ≡ false
  fits_output true b c e = absurd (omega arith)
  fits_output false true c e = absurd (omega arith)
  fits_output false false true e = absurd (omega arith)
  fits_output false false false e = refl

  own_say : (r : Request) (o : Output) (content buffer : List ℕ) → r.id < 65536 → Own r.id (take (Of.say_in r o content buffer).written (Of.say_in r o content buffer).buffer)
  unfolding Of.say_in
  own_say r o content buffer hi =
      own_writes (Of.output_refusal r o (Of.say_bytes r o content) buffer) (Of.say_bytes r o content) (Of.said_on r o content) r buffer r.id
      (λ e. ltb-false (length buffer) (length (Of.say_bytes r o content)) (fits_output (Of.no_output r) (Of.is_ended o r.state) (ltb (length buffer) (length (Of.say_bytes r o content))) e))
      (own_stream CHUNK (output_type o) r.id (omega arith) (omega arith) hi content)

  own_end : (r : Request) (o : Output) (buffer : List ℕ) → r.id < 65536 → Own r.id (take (Of.end_in r o buffer).written (Of.end_in r o buffer).buffer)
  unfolding Of.end_in
  own_end r o buffer hi =
      own_writes (Of.output_refusal r o (Of.end_bytes r o) buffer) (Of.end_bytes r o) (Of.ended_on r o) r buffer r.id
      (λ e. ltb-false (length buffer) (length (Of.end_bytes r o)) (fits_output (Of.no_output r) (Of.is_ended o r.state) (ltb (length buffer) (length (Of.end_bytes r o))) e))
      (own_one (output_type o) r.id [] hi (omega arith))

  fits_finish : (c : Bool) → ◌≡◌ {A = ℕ} (if c then 6 else 0) 0 → c ≡ false
  fits_finish true e = absurd (omega arith)
  fits_finish false e = refl

  own_finishes : (r : Request) (status : ℕ) (buffer : List ℕ) → r.id < 65536 → Own r.id (take (Of.finish_in r status buffer).written (Of.finish_in r status buffer).buffer)
  unfolding Of.finish_in
  own_finishes r status buffer hi =
      own_writes _ (Of.finish_bytes r status) r r buffer r.id (λ e. ltb-false (length buffer) (length (Of.finish_bytes r status)) (fits_finish (ltb (length buffer) (length (Of.finish_bytes r status))) e)) (own_finish r status hi)

  abbrev AnswerOwn : ℕ → Answer → Type 0
  AnswerOwn id n = Own id (written_bytes (D.Straightly n))

  own_finished : (keep : Bool) (h : Held) (w : Of.Writing) (id : ℕ) → Own id (take w.written w.buffer) → AnswerOwn id (answer_of (finished_as keep h w))
  unfolding finished_as
  own_finished keep h w id own = go (eqb w.refusal 0) keep
    where
      go : (a k : Bool) → AnswerOwn id (answer_of (if a then (if k then Leaves (FinishedWith 0 w.written false w.buffer) else Closes (FinishedWith 0 w.written true w.buffer)) else Stays h (FinishedWith w.refusal 0 false w.buffer)))
      go true true = own
      go true false = own
      go false k = own_none id

  own_call : (a : Argument) (h : Held) → h.request.id < 65536 → AnswerOwn h.request.id (answer_of (receive_call a h))
  unfolding receive_call
  own_call (ForRead q) h hi = own_none h.request.id
  own_call (ForSay o content buffer) h hi = own_say h.request o content buffer hi
  own_call (ForEnd o buffer) h hi = own_end h.request o buffer hi
  own_call (ForFinish status buffer) h hi = own_finished h.request.state.keep h (Of.finish_in h.request status buffer) h.request.id (own_finishes h.request status buffer hi)

  own_refused : (n id : ℕ) (a : Argument) → AnswerOwn id (refused n a)
  unfolding refused
  own_refused n id (ForRead q) = own_none id
  own_refused n id (ForSay o content buffer) = own_none id
  own_refused n id (ForEnd o buffer) = own_none id
  own_refused n id (ForFinish status buffer) = own_none id

  -- the bytes of what is told
  abbrev pub told_bytes : QueueAnswer → List ℕ
  told_bytes (Q.Straightly n) = written_bytes (D.Straightly n)
  told_bytes (Q.Queueing n) = []
  told_bytes (Q.Record bytes) = bytes

  lifted_answer : (x : CallOutcome Held Answer) (l : List Atom) → outcome_answer (lifted x l) ≡ Q.Straightly (answer_of x)
  lifted_answer (Stays h n) l = refl
  lifted_answer (Retires h n) l = refl
  lifted_answer (Leaves n) l = refl
  lifted_answer (Closes n) l = refl

  own_writer : (a : Argument) (x : CallOutcome Held Answer) (r : Queued) (id : ℕ) → AnswerOwn id (answer_of x) → Own id (told_bytes (outcome_answer (straight_writer a x r)))
  unfolding straight_writer
  own_writer a x r id h =
      by_test (end_waits r.waiting) (λ e. rw e (own_refused 5 id a))
      (λ e. by_test (held_up x r.waiting) (λ d. rw (e, d) (own_refused 10 id a)) (λ d. rw (e, d) (subst (λ n. Own id (told_bytes n)) (sym (lifted_answer x r.waiting)) h)))

  own_straight : (a : Argument) (r : Queued) → r.held.request.id < 65536 → Own r.held.request.id (told_bytes (outcome_answer (straight_call a r)))
  unfolding straight_call
  own_straight a r hi =
      let id = r.held.request.id in
      let h = own_call a r.held hi in
      by_test (is_writer a) (λ w. rw w (own_writer a (receive_call a r.held) r id h)) (λ w. rw w (subst (λ n. Own id (told_bytes n)) (sym (lifted_answer (receive_call a r.held) r.waiting)) h))

  own_queue_say : (r : Queued) (o : Output) (content : List ℕ) (id : ℕ) → Own id (told_bytes (outcome_answer (Q.queue_say r o content)))
  unfolding Q.queue_say
  own_queue_say r o content id =
      by_test (eqb (queue_refusal r o) 0) (λ e. by_test (ltb ROOM (data_in r.waiting + length content)) (λ d. rw (e, d) (own_none id)) (λ d. rw (e, d) (own_none id))) (λ e. rw e (own_none id))

  own_queue_end : (r : Queued) (o : Output) (id : ℕ) → Own id (told_bytes (outcome_answer (Q.queue_end r o)))
  unfolding Q.queue_end
  own_queue_end r o id = by_test (eqb (queue_refusal r o) 0) (λ e. rw e (own_none id)) (λ e. rw e (own_none id))

  own_queue_finish : (r : Queued) (status id : ℕ) → Own id (told_bytes (outcome_answer (Q.queue_finish r status)))
  unfolding Q.queue_finish
  own_queue_finish r status id = by_test (end_waits r.waiting) (λ e. rw e (own_none id)) (λ e. rw e (own_none id))

  -- A call writes records of its request alone.
  pub own_asked : (a : Asking) (r : Queued) → r.held.request.id < 65536 → Own r.held.request.id (told_bytes (outcome_answer (queued_call (asked a) r)))
  unfolding queued_call
  own_asked (D.Straight a) r hi = own_straight a r hi
  own_asked (D.ToSay o content) r hi = own_queue_say r o content r.held.request.id
  own_asked (D.ToEnd o) r hi = own_queue_end r o r.held.request.id
  own_asked (D.ToFinish status) r hi = own_queue_finish r status r.held.request.id

  -- a refusal writes nothing
  pub own_refusal_lem : (n id : ℕ) (a : Asking) → Own id (told_bytes (Q.refused_by n (asked a)))
  unfolding Q.refused_by
  own_refusal_lem n id (D.Straight a) = own_refused n id a
  own_refusal_lem n id (D.ToSay o content) = own_none id
  own_refusal_lem n id (D.ToEnd o) = own_none id
  own_refusal_lem n id (D.ToFinish status) = own_none id

-- what the machine says was written
pub wrote_bytes_lem : (a : Asked) (n : Answering) → wrote_by a (told_of n) ≡ atoms_of (written_bytes n)
unfolding wrote_by wrote_in
wrote_bytes_lem a (D.Straightly (RepliedWith r)) = sym atoms_none
wrote_bytes_lem a (D.Straightly (Wrote n written buffer)) = refl
wrote_bytes_lem a (D.Straightly (FinishedWith n written closed buffer)) = refl
wrote_bytes_lem a (D.Queued n) = sym atoms_none

-- In a run the end of a stream waits only where the stream is marked as ended: a second instance of the laws of shape.
use Rattle.std.specs.Prelude.{◌≡◌, refl, List, [], ◌∷◌, ◌++◌, map, Bool, true, false, ℕ, suc, ◌+◌, ◌≤◌, ◌<◌, length, eqb, ltb, if◌then◌else◌}
use Rattle.std.proofs.Common.{ap, sym, ◌∙◌, subst, arith}
use Rattle.std.proofs.Math.Option.{Option, none, some}
use Rattle.wire.specs.Test.{by_test}
use Rattle.record_writer.specs.Written.{record_bytes}
use Rattle.record.specs.Names.{END_REQUEST}
use Rattle.machine.specs.Machine.{HeaderOutcome, Decided, BeginOutcome, Declined, Accepted, CallOutcome, Stays, Retires, Leaves, Closes}
use Rattle.machine.specs.Laws.{Laws, HeaderOutcomeOk, BeginOutcomeOk, CallOutcomeOk}
use Rattle.connection.specs.declared.request.Turn.{Turn}
use Rattle.connection.specs.declared.request.Due.{Due}
use Rattle.connection.specs.declared.request.Life.{Life}
use Rattle.connection.specs.declared.request.Shown.{Shown}
use Rattle.connection.proofs.Laws.Rules.{by_rule}
use Rattle.connection.proofs.Runs.WellFormedLists.{grown_state}
use Rattle.connection.specs.declared.request.RequestState.{RequestState}
use Rattle.connection.specs.declared.request.Request.{Request}
use Rattle.connection.specs.declared.answer.Output.{Output}
use Rattle.connection.specs.Sizes.{SLOTS, QUERY}
use Rattle.connection.specs.Request.{Held, with_turn, with_life, with_shown, unshown, faulted, aborted, turned, on_header}
use Rattle.connection.specs.RequestCalls as Of
use Rattle.connection.specs.Bytewise.{Note}
use Rattle.connection.specs.Arguments.{Argument, ForRead, ForSay, ForEnd, ForFinish, Answer, FinishedWith}
use Rattle.connection.specs.Runs.Receiver.{note_of, due_stream, receive_header, receive_byte, receive_begin, receive_call, finished_as}
use Rattle.connection.proofs.Runs.ReceiverLaws.{inactive_ok, management_ok}
use Rattle.queue_slot.specs.Finishing.{last_words}
use Rattle.queue_slot.specs.Wait.{ROOM}
use Rattle.queue_slot.specs.Atoms.{RUN, Atom, ByteOn, EndOf, EndRequest, data_in, end_waits, run_from, next}
use Rattle.queue_slot.proofs.WaitLaws.{Unended, unended_right, unended_append, unended_bytes}
use Rattle.queue_slot.proofs.WaitKept.{said_ended, ended_before}
use Rattle.queue_machine.specs.Queued.{Queued, queued, Asked, Straight, QueueSay, QueueEnd, QueueFinish, Serve, QueueAnswer, Record, lifted_header, queued_header, queued_byte, lifted_begin, queued_begin, is_writer, lifted, held_up, straight_writer, straight_call, queue_refusal, queue_say, queue_end, queue_finish, served, queued_call, queueing_receiver}
use Rattle.queue_machine.proofs.QueuedLaws.{run_is, not_both}
use Rattle.queue_machine.proofs.QueuedCalls.{last_waits}

-- While END does not wait: the end of a stream that is not marked as ended does not wait.
abbrev pub EndsRight : Queued → Type 0
EndsRight r = (o : Output) → end_waits r.waiting ≡ false → Of.is_ended o r.held.request.state ≡ false → Unended o r.waiting

-- what is not ended behind it was not ended before
abbrev Grows : RequestState → RequestState → Type 0
Grows m m' = (o : Output) → Of.is_ended o m' ≡ false → Of.is_ended o m ≡ false

same_grows : {m m' : RequestState} → m' ≡ m → Grows m m'
same_grows e o d = ap (Of.is_ended o) (sym e) ∙ d

grows_right : (h h' : Held) (l : List Atom) → Grows h.request.state h'.request.state → EndsRight (queued h l) → EndsRight (queued h' l)
grows_right h h' l g r o w d = r o w (g o d)

-- ---- a header
life_grows : (m : RequestState) (l : Life) → Grows m (with_life m l)
unfolding with_life
life_grows m l Output.Stdout d = d
life_grows m l Output.Stderr d = d

turn_grows : (m : RequestState) (t : Turn) → Grows m (with_turn m t)
unfolding with_turn
turn_grows m t Output.Stdout d = d
turn_grows m t Output.Stderr d = d

shown_grows : (m : RequestState) (c : Shown) → Grows m (with_shown m c)
shown_grows m c Output.Stdout d = d
shown_grows m c Output.Stderr d = d

-- whatever a header does to its request
header_grows : (kind n : ℕ) (h : Held) → Grows h.request.state (on_header kind n h).held.request.state
unfolding faulted aborted turned
header_grows kind n h =
    by_rule (λ r. Grows h.request.state r.held.request.state) h (λ due o d. d)
    (λ cause f o d. life_grows h.request.state Life.Faulted o (shown_grows (with_life h.request.state Life.Faulted) unshown o d))
    (life_grows h.request.state Life.Aborted) (λ t. turn_grows h.request.state t) (λ t s m. turn_grows h.request.state t) kind n

-- nothing is asked of content
abbrev pub AnyContent : Due → ℕ → Queued → Type 0
AnyContent k c r = Unit {0}

header_decided_lem : (n : ℕ) (x : HeaderOutcome Held Due Note) (h q : Held) (l : List Atom) (e : Option Note) (k : Option Due) → x ≡ Decided q e k → Grows h.request.state q.request.state → EndsRight (queued h l)
    → HeaderOutcomeOk EndsRight AnyContent n (lifted_header x l)
header_decided_lem n x h q l e none z g r = rw z (grows_right h q l g r)
header_decided_lem n x h q l e (some k) z g r = rw z (grows_right h q l g r, tt)

-- a header keeps it
pub header_ends : (kind n : ℕ) (r : Queued) → n ≤ 65535 → EndsRight r → HeaderOutcomeOk EndsRight AnyContent n (queued_header kind n r)
unfolding queued_header receive_header
header_ends kind n r b ok =
    let x = on_header kind n r.held in
    header_decided_lem n (receive_header kind n r.held) r.held x.held r.waiting (note_of x.event 0) (due_stream x.due) refl (header_grows kind n r.held) ok

byte_grows : (due : Due) (b : ℕ) (h : Held) → Grows h.request.state (receive_byte due b h).0.request.state
unfolding receive_byte
byte_grows Due.Skip b h = λ o d. d
byte_grows Due.Params b h = same_grows (grown_state h (b ∷ []))
byte_grows Due.Stdin b h = shown_grows h.request.state _
byte_grows Due.Data b h = shown_grows h.request.state _

-- so does content
pub byte_ends : (due : Due) (b n : ℕ) (r : Queued) → b < 256 → EndsRight r → AnyContent due (suc n) r → EndsRight (queued_byte due b r).0 × AnyContent due n (queued_byte due b r).0
unfolding queued_byte
byte_ends due b n r w ok u = (grows_right r.held (receive_byte due b r.held).0 r.waiting (byte_grows due b r.held) ok, tt)

begin_lifted : (x : BeginOutcome (List ℕ) Held Note) → BeginOutcomeOk {Leftover = List ℕ} EndsRight (λ x. Unit {0}) (lifted_begin x)
begin_lifted (Declined e) = tt
begin_lifted (Accepted f e) = λ x u o w d. tt

-- a new request has it
pub begin_ends : (id : ℕ) (body : List ℕ) → BeginOutcomeOk {Leftover = List ℕ} EndsRight (λ x. Unit {0}) (queued_begin id body)
unfolding queued_begin
begin_ends id body = begin_lifted (receive_begin id body)

-- ---- straight calls
writes_grows : (n : ℕ) (bytes : List ℕ) (after r : Request) (buffer : List ℕ) → Grows r.state after.state → Grows r.state (Of.writes n bytes after r buffer).request.state
unfolding Of.writes
writes_grows n bytes after r buffer g = by_test (eqb n 0) (λ e. simp e g) (λ e. simp e (λ o d. d))

say_grows : (r : Request) (output : Output) (bytes buffer : List ℕ) → Grows r.state (Of.say_in r output bytes buffer).request.state
unfolding Of.say_in
say_grows r output bytes buffer = writes_grows _ _ _ r buffer (λ o d. sym (said_ended r output o bytes) ∙ d)

end_grows : (r : Request) (output : Output) (buffer : List ℕ) → Grows r.state (Of.end_in r output buffer).request.state
unfolding Of.end_in
end_grows r output buffer = writes_grows _ _ _ r buffer (λ o d. (ended_before r output o d).0)

abbrev OutcomeGrows : Held → CallOutcome Held Answer → Type 0
OutcomeGrows h (Stays q n) = Grows h.request.state q.request.state
OutcomeGrows h (Retires q n) = Grows h.request.state q.request.state
OutcomeGrows h (Leaves n) = Unit {0}
OutcomeGrows h (Closes n) = Unit {0}

finish_grows : (keep : Bool) (h : Held) (w : Of.Writing) → OutcomeGrows h (finished_as keep h w)
unfolding finished_as
finish_grows keep h w = go (eqb w.refusal 0) keep
  where
    go : (a k : Bool) → OutcomeGrows h (if a then (if k then Leaves (FinishedWith 0 w.written false w.buffer) else Closes (FinishedWith 0 w.written true w.buffer)) else Stays h (FinishedWith w.refusal 0 false w.buffer))
    go true true = tt
    go true false = tt
    go false k = λ o d. d

call_grows : (a : Argument) (h : Held) → OutcomeGrows h (receive_call a h)
unfolding receive_call
call_grows (ForRead q) h = λ o d. d
call_grows (ForSay output bytes buffer) h = say_grows h.request output bytes buffer
call_grows (ForEnd output buffer) h = end_grows h.request output buffer
call_grows (ForFinish status buffer) h = finish_grows h.request.state.keep h (Of.finish_in h.request status buffer)

abbrev Ok : Queued → CallOutcome Queued QueueAnswer → Type 0
Ok r o = CallOutcomeOk EndsRight AnyContent r o

lifted_ok : (h : Held) (l : List Atom) (x : CallOutcome Held Answer) → OutcomeGrows h x → EndsRight (queued h l) → Ok (queued h l) (lifted x l)
lifted_ok h l (Stays q n) g r = (grows_right h q l g r, λ k c u. tt)
lifted_ok h l (Retires q n) g r = grows_right h q l g r
lifted_ok h l (Leaves n) g r = tt
lifted_ok h l (Closes n) g r = tt

writer_ok : (a : Argument) (x : CallOutcome Held Answer) (r : Queued) → OutcomeGrows r.held x → EndsRight r → Ok r (straight_writer a x r)
unfolding straight_writer
writer_ok a x r g ok =
    by_test (end_waits r.waiting) (λ e. rw e (ok, λ k c u. tt))
    (λ e. by_test (held_up x r.waiting) (λ d. rw (e, d) (ok, λ k c u. tt)) (λ d. rw (e, d) (lifted_ok r.held r.waiting x g ok)))

straight_ok : (a : Argument) (r : Queued) → EndsRight r → Ok r (straight_call a r)
unfolding straight_call
straight_ok a r ok =
    let g = call_grows a r.held in
    by_test (is_writer a) (λ w. rw w (writer_ok a (receive_call a r.held) r g ok)) (λ w. rw w (lifted_ok r.held r.waiting (receive_call a r.held) g ok))

-- ---- queued calls
waits_left : (l k : List Atom) → end_waits (l ++ k) ≡ false → end_waits l ≡ false
unfolding end_waits
waits_left [] k e = refl
waits_left (ByteOn o b ∷ l) k e = waits_left l k e
waits_left (EndOf o ∷ l) k e = waits_left l k e
waits_left (EndRequest c ∷ l) k e = e

waits_right : (l k : List Atom) → end_waits (l ++ k) ≡ false → end_waits k ≡ false
unfolding end_waits
waits_right [] k e = e
waits_right (ByteOn o b ∷ l) k e = waits_right l k e
waits_right (EndOf o ∷ l) k e = waits_right l k e
waits_right (EndRequest c ∷ l) k e = let z : ◌≡◌ {A = ℕ} 0 1 = cc in absurd (omega arith)

say_ok : (r : Queued) (o : Output) (content : List ℕ) → EndsRight r → Ok r (queue_say r o content)
unfolding queue_say
say_ok r o content ok =
    by_test (eqb (queue_refusal r o) 0)
    (λ e. by_test (ltb ROOM (data_in r.waiting + length content)) (λ d. rw (e, d) (ok, λ k c u. tt))
    (λ d. rw (e, d) ((λ p w f. unended_append p r.waiting (map (ByteOn o) content) (ok p (waits_left r.waiting (map (ByteOn o) content) w) (sym (said_ended r.held.request o p content) ∙ f)) (unended_bytes p o content)), λ k c u. tt)))
    (λ e. rw e (ok, λ k c u. tt))

end_ok : (r : Queued) (o : Output) → EndsRight r → Ok r (queue_end r o)
unfolding queue_end
end_ok r o ok =
    by_test (eqb (queue_refusal r o) 0)
    (λ e. rw e ((λ p w f. let g = ended_before r.held.request o p f in unended_append p r.waiting (EndOf o ∷ []) (ok p (waits_left r.waiting (EndOf o ∷ []) w) g.0) (g.1, tt)), λ k c u. tt))
    (λ e. rw e (ok, λ k c u. tt))

finish_ok : (r : Queued) (status : ℕ) → EndsRight r → Ok r (queue_finish r status)
unfolding queue_finish
finish_ok r status ok =
    let m = r.held.request.state in
    by_test (end_waits r.waiting) (λ e. rw e (ok, λ k c u. tt))
    (λ e. rw e (λ p w f. absurd (not_both (last_waits m status).0 (waits_right r.waiting (last_words m status) w))))

-- ---- a serve
serve_ok : (h : Held) (l : List Atom) → EndsRight (queued h l) → Ok (queued h l) (served (queued h l) (next l))
unfolding served next end_waits
serve_ok h [] ok = (ok, λ k c u. tt)
serve_ok h (EndOf o ∷ l) ok = ((λ p w f. (ok p w f).1), λ k c u. tt)
serve_ok h (ByteOn o b ∷ l) ok =
    let i = run_is RUN o (ByteOn o b ∷ l) in
    let behind = (run_from RUN o (ByteOn o b ∷ l)).behind in
    let content = (run_from RUN o (ByteOn o b ∷ l)).content in
    ((λ p w f. unended_right p (map (ByteOn o) content) behind (subst (λ k. Unended p k) i.same (ok p (sym i.waits ∙ w) f))), λ k c u. tt)
serve_ok h (EndRequest c ∷ l) ok = go h.request.state.keep
  where
    go : (k : Bool) → Ok (queued h (EndRequest c ∷ l)) (if k then Leaves (Record (record_bytes END_REQUEST h.request.id c)) else Closes (Record (record_bytes END_REQUEST h.request.id c)))
    go true = tt
    go false = tt

-- so does every call
pub call_ends : (a : Asked) (r : Queued) → EndsRight r → Ok r (queued_call a r)
unfolding queued_call
call_ends (Straight a) r ok = straight_ok a r ok
call_ends (QueueSay o content) r ok = say_ok r o content ok
call_ends (QueueEnd o) r ok = end_ok r o ok
call_ends (QueueFinish status) r ok = finish_ok r status ok
call_ends Serve r ok = serve_ok r.held r.waiting ok

-- The laws of shape, with the ends right for shape.
abbrev pub ends_laws : Laws queueing_receiver
ends_laws =
    record {
      slot_count = SLOTS;
      query_limit = QUERY;
      RequestOk = EndsRight;
      LeftoverOk = λ x. Unit {0};
      StreamOk = AnyContent;
      clean_ok = tt;
      header_ok = header_ends;
      byte_ok = byte_ends;
      begin_ok = begin_ends;
      call_ok = call_ends;
      inactive_ok = inactive_ok;
      management_ok = management_ok;
    }

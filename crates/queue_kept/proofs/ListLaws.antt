-- The laws of shape once more, for the receiver with a queue, with two facts for shape.
--
-- Once the PARAMS of a request have ended, and while it is not faulted, its list is well formed and repeats no name.
-- And while END of a request waits, that request is spent. Headers, content and straight calls do to a request what
-- they do without a queue; a queued say or end changes nothing of it but its output; a queued finish spends it; and a
-- serve changes nothing of it, or takes it away.
use Rattle.std.specs.Prelude.{◌≡◌, refl, List, [], ◌∷◌, ◌++◌, map, Bool, true, false, ℕ, suc, ◌+◌, ◌≤◌, ◌<◌, length, eqb, ltb, if◌then◌else◌}
use Rattle.std.proofs.Common.{ap, sym, ◌∙◌, arith}
use Rattle.std.proofs.Math.Option.{Option, none, some}
use Rattle.wire.specs.Test.{by_test}
use Rattle.record.specs.Names.{END_REQUEST}
use Rattle.record_writer.specs.Written.{record_bytes}
use Rattle.machine.specs.Machine.{Decided, BeginOutcome, Declined, Accepted, CallOutcome, Stays, Retires, Leaves, Closes}
use Rattle.machine.specs.Laws.{Laws, HeaderOutcomeOk, BeginOutcomeOk, CallOutcomeOk}
use Rattle.connection.specs.declared.request.Due.{Due}
use Rattle.connection.specs.declared.request.Life.{Life}
use Rattle.connection.specs.declared.request.RequestState.{RequestState}
use Rattle.connection.specs.declared.answer.Output.{Output}
use Rattle.connection.specs.Sizes.{SLOTS, QUERY}
use Rattle.connection.specs.Request.{Held, is_spent, with_life, on_header}
use Rattle.connection.specs.RequestCalls as Of
use Rattle.connection.specs.RequestCalls.{in_params, is_faulted}
use Rattle.connection.specs.Bytewise.{Note}
use Rattle.connection.specs.Arguments.{Argument, ForRead, ForSay, ForEnd, ForFinish, Answer}
use Rattle.connection.specs.Runs.Receiver.{note_of, due_stream, receive_header, receive_byte, receive_begin, receive_call}
use Rattle.connection.proofs.Runs.ReceiverLaws.{inactive_ok, management_ok}
use Rattle.connection.proofs.Runs.WellFormedLists.{ListOk, InTurn, header_list, grown_state, byte_list, begin_list, call_list}
use Rattle.queue_slot.specs.Finishing.{spent_life, spent_by, last_words}
use Rattle.queue_slot.specs.Wait.{ROOM}
use Rattle.queue_slot.specs.Atoms.{RUN, Atom, ByteOn, EndOf, EndRequest, data_in, end_waits, next}
use Rattle.queue_slot.proofs.AtomLaws.{waits_append}
use Rattle.queue_machine.specs.Queued.{Queued, queued, Asked, Straight, QueueSay, QueueEnd, QueueFinish, Serve, QueueAnswer, Record, queued_header, queued_byte, lifted_begin, queued_begin, lifted, held_up, straight_writer, straight_call, with_request, queue_refusal, queue_say, queue_end, queue_finish, served, queued_call, queueing_receiver}
use Rattle.queue_machine.proofs.QueuedLaws.{run_is, bytes_wait}
use Rattle.queue_runs.proofs.Closing.{both_ways}

-- What is asked of a request with what waits: its list is as it should be; and it is spent while END waits.
pub record Kept (r : Queued) : Type 0 where
  pub list : ListOk r.held
  pub leaving : end_waits r.waiting ≡ true → is_spent r.held.request.state.life ≡ true

-- content comes to it as without a queue
abbrev pub TakesIn : Due → ℕ → Queued → Type 0
TakesIn due n r = InTurn due n r.held

-- ---- records
-- a header leaves a spent request spent
spent_header : (kind n : ℕ) (h : Held) → is_spent h.request.state.life ≡ true → is_spent (on_header kind n h).held.request.state.life ≡ true
unfolding on_header
spent_header kind n h e = simp e

-- so does content
spent_byte : (due : Due) (b : ℕ) (h : Held) → is_spent h.request.state.life ≡ true → is_spent (receive_byte due b h).0.request.state.life ≡ true
unfolding receive_byte
spent_byte Due.Skip b h e = e
spent_byte Due.Params b h e = ap (λ (s : RequestState). is_spent s.life) (grown_state h (b ∷ [])) ∙ e
spent_byte Due.Stdin b h e = e
spent_byte Due.Data b h e = e

-- what a header decides, with what waits
decided_kept : (n : ℕ) (q : Held) (l : List Atom) (e : Option Note) (k : Option Due) → HeaderOutcomeOk ListOk InTurn n (Decided q e k)
    → (end_waits l ≡ true → is_spent q.request.state.life ≡ true) → HeaderOutcomeOk Kept TakesIn n (Decided (queued q l) e k)
decided_kept n q l e none a s = record { list = a; leaving = s }
decided_kept n q l e (some k) a s = (record { list = a.0; leaving = s }, a.1)

-- A header keeps it.
pub header_kept : (kind n : ℕ) (r : Queued) → n ≤ 65535 → Kept r → HeaderOutcomeOk Kept TakesIn n (queued_header kind n r)
unfolding queued_header receive_header
header_kept kind n r b ok =
    let x = on_header kind n r.held in
    decided_kept n x.held r.waiting (note_of x.event 0) (due_stream x.due) (header_list kind n r.held b ok.list) (λ w. spent_header kind n r.held (ok.leaving w))

-- So does a content byte.
pub byte_kept : (due : Due) (b n : ℕ) (r : Queued) → b < 256 → Kept r → TakesIn due (suc n) r → Kept (queued_byte due b r).0 × TakesIn due n (queued_byte due b r).0
unfolding queued_byte
byte_kept due b n r w ok u =
    let k = byte_list due b n r.held w ok.list u in
    (record { list = k.0; leaving = λ e. spent_byte due b r.held (ok.leaving e) }, k.1)

-- what a BEGIN body comes to, with nothing waiting
begin_lifted : (x : BeginOutcome (List ℕ) Held Note) → BeginOutcomeOk {Leftover = List ℕ} ListOk (λ x. Unit {0}) x → BeginOutcomeOk {Leftover = List ℕ} Kept (λ x. Unit {0}) (lifted_begin x)
unfolding end_waits
begin_lifted (Declined e) k = tt
begin_lifted (Accepted f e) k = λ x u. record { list = k x u; leaving = λ w. both_ways false w refl }

-- A request begins with it.
pub begin_kept : (id : ℕ) (body : List ℕ) → BeginOutcomeOk {Leftover = List ℕ} Kept (λ x. Unit {0}) (queued_begin id body)
unfolding queued_begin
begin_kept id body = begin_lifted (receive_begin id body) (begin_list id body)

-- ---- straight calls
-- what a call comes to keeps it
abbrev Ok : Queued → CallOutcome Queued QueueAnswer → Type 0
Ok r o = CallOutcomeOk Kept TakesIn r o

-- what a request comes to without a queue, while END does not wait
lifted_kept : (h : Held) (l : List Atom) (x : CallOutcome Held Answer) → CallOutcomeOk ListOk InTurn h x → end_waits l ≡ false → Ok (queued h l) (lifted x l)
lifted_kept h l (Stays q n) a e = (record { list = a.0; leaving = λ w. both_ways (end_waits l) w e }, a.1)
lifted_kept h l (Retires q n) a e = record { list = a; leaving = λ w. both_ways (end_waits l) w e }
lifted_kept h l (Leaves n) a e = tt
lifted_kept h l (Closes n) a e = tt

-- a call that writes: refused, or as without a queue
writer_kept : (a : Argument) (r : Queued) → Kept r → Ok r (straight_writer a (receive_call a r.held) r)
unfolding straight_writer
writer_kept a r ok =
    let x = receive_call a r.held in
    by_test (end_waits r.waiting) (λ e. rw e (ok, λ due c u. u))
    (λ e. by_test (held_up x r.waiting) (λ d. rw (e, d) (ok, λ due c u. u)) (λ d. rw (e, d) (lifted_kept r.held r.waiting x (call_list a r.held ok.list) e)))

-- every straight call
straight_kept : (a : Argument) (r : Queued) → Kept r → Ok r (straight_call a r)
unfolding straight_call receive_call
straight_kept (ForRead q) r ok = (ok, λ due c u. u)
straight_kept (ForSay output bytes buffer) r ok = writer_kept (ForSay output bytes buffer) r ok
straight_kept (ForEnd output buffer) r ok = writer_kept (ForEnd output buffer) r ok
straight_kept (ForFinish status buffer) r ok = writer_kept (ForFinish status buffer) r ok

-- ---- queued calls
-- a queued call that is let through is of a request whose END does not wait
not_leaving : (r : Queued) (o : Output) → eqb (queue_refusal r o) 0 ≡ true → end_waits r.waiting ≡ false
unfolding queue_refusal
not_leaving r o e = by_test (end_waits r.waiting) (λ w. let z : ◌≡◌ {A = ℕ} 0 1 = cc (simp w at e) in absurd (omega arith)) (λ w. w)

-- content goes on coming to a request with the turn and the life of another
takes_same : (h q : Held) → q.request.state.turn ≡ h.request.state.turn → q.request.state.life ≡ h.request.state.life
    → (due : Due) (n : ℕ) → InTurn due n h → InTurn due n q
takes_same h q t l Due.Skip n r = tt
takes_same h q t l Due.Params n r = (ap in_params t ∙ r.0, ap is_spent l ∙ r.1)
takes_same h q t l Due.Stdin n r = ap is_spent l ∙ r
takes_same h q t l Due.Data n r = ap is_spent l ∙ r

-- queued say: only the output marks of the request change
say_kept : (r : Queued) (o : Output) (content : List ℕ) → Kept r → Ok r (queue_say r o content)
unfolding queue_say Of.said_on
say_kept r o content ok =
    by_test (eqb (queue_refusal r o) 0)
    (λ e. by_test (ltb ROOM (data_in r.waiting + length content)) (λ d. rw (e, d) (ok, λ due c u. u))
    (λ d.
    let x = map (ByteOn o) content in
    let none : end_waits (r.waiting ++ x) ≡ false = waits_append r.waiting x (not_leaving r o e) ∙ (bytes_wait o content).0 in
    let q = with_request r.held (Of.said_on r.held.request o content) in
    rw (e, d) (record { list = ok.list; leaving = λ w. both_ways (end_waits (r.waiting ++ x)) w none }, λ due c u. takes_same r.held q refl refl due c u)))
    (λ e. rw e (ok, λ due c u. u))

-- queued end: likewise
end_kept : (r : Queued) (o : Output) → Kept r → Ok r (queue_end r o)
unfolding queue_end Of.ended_on end_waits
end_kept r o ok =
    by_test (eqb (queue_refusal r o) 0)
    (λ e.
    let none : end_waits (r.waiting ++ EndOf o ∷ []) ≡ false = waits_append r.waiting (EndOf o ∷ []) (not_leaving r o e) in
    let q = with_request r.held (Of.ended_on r.held.request o) in
    rw e (record { list = ok.list; leaving = λ w. both_ways (end_waits (r.waiting ++ EndOf o ∷ [])) w none }, λ due c u. takes_same r.held q refl refl due c u))
    (λ e. rw e (ok, λ due c u. u))

-- A life that is spent: it is spent, and faulted where it was.
pub spent_life_lem : (l : Life) → (is_spent (spent_life l) ≡ true) × (is_faulted (spent_life l) ≡ is_faulted l)
spent_life_lem Life.Live = (refl, refl)
spent_life_lem Life.Faulted = (refl, refl)
spent_life_lem Life.Aborted = (refl, refl)

-- the request is spent, and its list stays
spent_kept : (h : Held) (l : List Atom) → ListOk h → Kept (queued (with_request h (spent_by h.request)) l)
unfolding spent_by with_life
spent_kept h l ok =
    let s = spent_life_lem h.request.state.life in
    record { list = λ t f. ok t (sym s.1 ∙ f); leaving = λ w. s.0 }

-- queued finish
finish_kept : (r : Queued) (status : ℕ) → Kept r → Ok r (queue_finish r status)
unfolding queue_finish
finish_kept r status ok =
    by_test (end_waits r.waiting) (λ e. rw e (ok, λ due c u. u))
    (λ e. rw e (spent_kept r.held (r.waiting ++ last_words r.held.request.state status) ok.list))

-- ---- a serve
-- END is written, and the request is taken away
last_kept : (r : Queued) (keep : Bool) (n : QueueAnswer) → Ok r (if keep then Leaves n else Closes n)
last_kept r true n = tt
last_kept r false n = tt

-- what waits is written: the request stays as it is, or is taken away
serve_kept : (h : Held) (l : List Atom) → Kept (queued h l) → Ok (queued h l) (served (queued h l) (next l))
unfolding served next end_waits
serve_kept h [] ok = (ok, λ due c u. u)
serve_kept h (EndOf o ∷ l) ok = (record { list = ok.list; leaving = ok.leaving }, λ due c u. u)
serve_kept h (ByteOn o b ∷ l) ok =
    (record { list = ok.list; leaving = λ w. ok.leaving (sym (run_is RUN o (ByteOn o b ∷ l)).waits ∙ w) }, λ due c u. u)
serve_kept h (EndRequest c ∷ l) ok = last_kept (queued h (EndRequest c ∷ l)) h.request.state.keep (Record (record_bytes END_REQUEST h.request.id c))

-- Every call keeps it.
pub call_kept : (a : Asked) (r : Queued) → Kept r → Ok r (queued_call a r)
unfolding queued_call
call_kept (Straight a) r ok = straight_kept a r ok
call_kept (QueueSay o content) r ok = say_kept r o content ok
call_kept (QueueEnd o) r ok = end_kept r o ok
call_kept (QueueFinish status) r ok = finish_kept r status ok
call_kept Serve r ok = serve_kept r.held r.waiting ok

-- The laws of shape, with these two facts for shape.
abbrev pub kept_laws : Laws queueing_receiver
kept_laws =
    record {
      slot_count = SLOTS;
      query_limit = QUERY;
      RequestOk = Kept;
      LeftoverOk = λ x. Unit {0};
      StreamOk = TakesIn;
      clean_ok = tt;
      header_ok = header_kept;
      byte_ok = byte_kept;
      begin_ok = begin_kept;
      call_ok = call_kept;
      inactive_ok = inactive_ok;
      management_ok = management_ok;
    }

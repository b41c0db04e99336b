-- What the receiver with a queue says is what it writes, and then what waits.
use Rattle.std.specs.Prelude.{◌≡◌, refl, Bool, true, false, List, [], ◌∷◌, ◌++◌, map, ℕ, ◌+◌, length, eqb, ltb, if◌then◌else◌}
use Rattle.std.proofs.Common.{sym, ◌∙◌, append-nil, inl, inr, arith, eqb-true, ne_eqb}
use Rattle.wire.specs.Test.{by_test}
use Rattle.machine.specs.Machine.{CallOutcome, Stays, Retires, Leaves, Closes}
use Rattle.machine_queue.proofs.Accounts.{CallAccounts, Accounting}
use Rattle.connection.specs.declared.answer.Output.{Output}
use Rattle.connection.specs.Request.{Held}
use Rattle.connection.specs.RequestCalls as Of
use Rattle.connection.specs.Arguments.{Argument, Answer, refused}
use Rattle.connection.specs.Runs.Receiver.{receive_call}
use Rattle.queue_slot.specs.Finishing.{last_words}
use Rattle.queue_slot.specs.Wait.{ROOM}
use Rattle.queue_slot.specs.Atoms.{ByteOn, EndOf, end_waits, data_in}
use Rattle.queue_machine.specs.Queued.{Queued, queued, Asked, Straight, QueueSay, QueueEnd, QueueFinish, Serve, Straightly, Queueing, is_writer, refusal_in, refusal_of, lifted, held_up, straight_writer, straight_call, with_request, queue_refusal, queue_say, queue_end, queue_finish, queued_call, wrote_in, wrote_by, said_in, is_serve_call, EndsWithEnd, queueing_receiver, waiting_queue}
use Rattle.queue_machine.proofs.QueuedLaws.{Silent, NeverRetires, Clear, refused_silent, reader_silent, never_retires, writer_clear, swap, bytes_wait, ends_append, not_both, straight_ten}
use Rattle.queue_machine.proofs.QueuedCalls.{own_refusal_lem, refused_on, own_refusal, own_zero, own_some, said_none, ended_none, last_waits}
use Rattle.queue_machine.proofs.QueuedServes.{refused_writes}

-- ---- straight calls
-- an answer that is ten is a refusal
abbrev TenIsSilent : CallOutcome Held Answer → Type 0
TenIsSilent o = (refusal_of o ≡ 0 → ⊥) → Silent o

lifted_accounts : (a : Argument) (r : Queued) (o : CallOutcome Held Answer) → receive_call a r.held ≡ o → NeverRetires o → TenIsSilent o → Clear o r.waiting → EndsWithEnd r.waiting
    → CallAccounts queueing_receiver waiting_queue (Straight a) r (lifted o r.waiting)
unfolding said_in wrote_by
lifted_accounts a r (Stays h n) e v t c s =
    by_test (eqb (refusal_in n) 10)
    (λ d. let w = t (λ z. let y : 10 ≡ 0 = sym (eqb-true (refusal_in n) 10 d) ∙ z in omega arith) in (rw (d, w) (append-nil r.waiting), s))
    (λ d. (rw (d, e) (swap r.waiting (wrote_in n) c), s))
lifted_accounts a r (Retires h n) e v t c s = absurd v
lifted_accounts a r (Leaves n) e v t c s =
    by_test (eqb (refusal_in n) 10) (λ d. absurd (t (λ z. let y : 10 ≡ 0 = sym (eqb-true (refusal_in n) 10 d) ∙ z in omega arith)))
    (λ d. rw (d, e, empty c))
  where
    empty : Clear (Leaves n) r.waiting → r.waiting ≡ []
    empty (inl x) = x
    empty (inr x) = absurd x
lifted_accounts a r (Closes n) e v t c s = tt

writer_accounts : (a : Argument) (r : Queued) (k : Bool) → held_up (receive_call a r.held) r.waiting ≡ k → is_writer a ≡ true → EndsWithEnd r.waiting
    → CallAccounts queueing_receiver waiting_queue (Straight a) r (if k then Stays r (Straightly (refused 10 a)) else lifted (receive_call a r.held) r.waiting)
unfolding wrote_by
writer_accounts a r true e w s = (rw (straight_ten a w, refused_writes 10 a) (append-nil r.waiting), s)
writer_accounts a r false e w s =
    lifted_accounts a r (receive_call a r.held) refl (never_retires a r.held) (refused_silent a r.held w) (writer_clear a r.held r.waiting w e) s

straight_accounts : (a : Argument) (r : Queued) (w : Bool) → is_writer a ≡ w → EndsWithEnd r.waiting → end_waits r.waiting ≡ false
    → CallAccounts queueing_receiver waiting_queue (Straight a) r (if w then straight_writer a (receive_call a r.held) r else lifted (receive_call a r.held) r.waiting)
unfolding straight_writer
straight_accounts a r true w s l = rw l (writer_accounts a r (held_up (receive_call a r.held) r.waiting) refl w s)
straight_accounts a r false w s l =
    let c = reader_silent a r.held w in lifted_accounts a r (receive_call a r.held) refl (never_retires a r.held) (λ d. c) (inr c) s

-- ---- queued calls
say_decided : (r : Queued) (o : Output) (content : List ℕ) (x : Bool) → refused_on r.held o ≡ false → EndsWithEnd r.waiting → end_waits r.waiting ≡ false
    → CallAccounts queueing_receiver waiting_queue (QueueSay o content) r
    (if x then Stays r (Queueing 10) else Stays (queued (with_request r.held (Of.said_on r.held.request o content)) (r.waiting ++ map (ByteOn o) content)) (Queueing 0))
unfolding said_in wrote_by
say_decided r o content true f s l = (append-nil r.waiting, s)
say_decided r o content false f s l = (rw f, ends_append r.waiting (map (ByteOn o) content) l (bytes_wait o content).1)

queue_refused : (a : Asked) (r : Queued) (n : ℕ) → said_in a r.held ≡ [] → EndsWithEnd r.waiting → CallAccounts queueing_receiver waiting_queue a r (Stays r (Queueing n))
unfolding wrote_by
queue_refused a r n x s = (by_test (eqb n 10) (λ d. rw d (append-nil r.waiting)) (λ d. rw (d, x) (append-nil r.waiting)), s)

say_accounts : (r : Queued) (o : Output) (content : List ℕ) → EndsWithEnd r.waiting → end_waits r.waiting ≡ false → CallAccounts queueing_receiver waiting_queue (QueueSay o content) r (queue_say r o content)
unfolding queue_say
say_accounts r o content s l =
    by_test (refused_on r.held o)
    (λ f. let d = own_some r.held o f in
    rw (own_refusal_lem r o l, ne_eqb (own_refusal r.held o) 0 d.0) (queue_refused (QueueSay o content) r (own_refusal r.held o) (said_none r.held o content f) s))
    (λ f. let z : queue_refusal r o ≡ 0 = own_refusal_lem r o l ∙ own_zero r.held o f in rw z (say_decided r o content (ltb ROOM (data_in r.waiting + length content)) f s l))

end_accounts : (r : Queued) (o : Output) → EndsWithEnd r.waiting → end_waits r.waiting ≡ false → CallAccounts queueing_receiver waiting_queue (QueueEnd o) r (queue_end r o)
unfolding queue_end said_in wrote_by
end_accounts r o s l =
    by_test (refused_on r.held o)
    (λ f. let d = own_some r.held o f in
    rw (own_refusal_lem r o l, ne_eqb (own_refusal r.held o) 0 d.0) (queue_refused (QueueEnd o) r (own_refusal r.held o) (ended_none r.held o f) s))
    (λ f. let z : queue_refusal r o ≡ 0 = own_refusal_lem r o l ∙ own_zero r.held o f in rw z (rw f, ends_append r.waiting (EndOf o ∷ []) l tt))

finish_accounts : (r : Queued) (status : ℕ) → EndsWithEnd r.waiting → end_waits r.waiting ≡ false → CallAccounts queueing_receiver waiting_queue (QueueFinish status) r (queue_finish r status)
unfolding queue_finish said_in wrote_by
finish_accounts r status s l = rw l (refl, ends_append r.waiting (last_words r.held.request.state status) l (last_waits r.held.request.state status).1)

call_accounts : (a : Asked) (r : Queued) → is_serve_call a ≡ false → EndsWithEnd r.waiting → end_waits r.waiting ≡ false → CallAccounts queueing_receiver waiting_queue a r (queued_call a r)
unfolding queued_call straight_call
call_accounts (Straight a) r e s l = straight_accounts a r (is_writer a) refl s l
call_accounts (QueueSay o content) r e s l = say_accounts r o content s l
call_accounts (QueueEnd o) r e s l = end_accounts r o s l
call_accounts (QueueFinish status) r e s l = finish_accounts r status s l
call_accounts Serve r e s l = absurd (not_both refl e)

-- The receiver with a queue keeps the law of accounts.
pub accounting : Accounting queueing_receiver waiting_queue
accounting = call_accounts

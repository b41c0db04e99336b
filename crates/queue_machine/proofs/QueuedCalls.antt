-- The laws of what waits, for the receiver: queued calls of two requests that are alike but for what waits.
use Rattle.std.specs.Prelude.{◌≡◌, refl, Bool, true, false, List, [], ◌∷◌, ◌++◌, map, ℕ, ◌+◌, length, eqb, ltb, if◌then◌else◌}
use Rattle.std.proofs.Common.{ap, sym, ◌∙◌, append-nil, arith, ne_eqb}
use Rattle.wire.specs.Test.{by_test}
use Rattle.record.specs.Names.{REQUEST_COMPLETE}
use Rattle.record.proofs.BodyLaws.{end_length}
use Rattle.machine.specs.Machine.{Stays}
use Rattle.machine_queue.specs.Waiting.{NotHeldUp, CallAlike}
use Rattle.connection.specs.declared.request.RequestState.{RequestState}
use Rattle.connection.specs.declared.answer.Output.{Output}
use Rattle.connection.specs.Request.{Held}
use Rattle.connection.specs.RequestCalls as Of
use Rattle.connection.specs.RequestCalls.{no_output, is_ended, owes_out, owes_err}
use Rattle.queue_slot.proofs.AtomLaws.{waits_append}
use Rattle.queue_slot.specs.Finishing.{spent_by, owed_end, last_words}
use Rattle.queue_slot.specs.Wait.{ROOM}
use Rattle.queue_slot.specs.Atoms.{Atom, ByteOn, EndOf, finish_of, data_in, end_waits}
use Rattle.queue_machine.specs.Queued.{Queued, queued, Asked, Straight, QueueSay, QueueEnd, QueueFinish, Serve, Queueing, is_writer, straight_call, with_request, queue_refusal, queue_say, queue_end, queue_finish, queued_call, queueing_receiver, wrote_by, said_in, is_serve_call, EndsWithEnd, waiting_queue}
use Rattle.queue_machine.proofs.QueuedLaws.{ends_append, bytes_wait, not_both, straight_alike}

-- ---- queued calls
-- what is refused by the request's own marks
abbrev pub own_refusal : Held → Output → ℕ
own_refusal h o = if no_output h.request then 4 else if is_ended o h.request.state then 5 else 0

-- where END does not wait
pub own_refusal_lem : (r : Queued) (o : Output) → end_waits r.waiting ≡ false → queue_refusal r o ≡ own_refusal r.held o
unfolding queue_refusal
own_refusal_lem r o l = rw l

-- is it refused?
abbrev pub refused_on : Held → Output → Bool
refused_on h o = if no_output h.request then true else is_ended o h.request.state

-- not refused
pub own_zero : (h : Held) (o : Output) → refused_on h o ≡ false → own_refusal h o ≡ 0
own_zero h o e = by_test (no_output h.request) (λ n. absurd (not_both (tr n) e)) (λ n. rw (n, rw n at e))
  where
    tr : no_output h.request ≡ true → refused_on h o ≡ true
    tr n = rw n

-- refused
pub own_some : (h : Held) (o : Output) → refused_on h o ≡ true → (own_refusal h o ≡ 0 → ⊥) × (eqb (own_refusal h o) 10 ≡ false)
own_some h o e = by_test (no_output h.request) (λ n. rw n ((λ z. omega arith), refl)) (λ n. let d : is_ended o h.request.state ≡ true = rw n at e in rw (n, d) ((λ z. omega arith), refl))

-- said nothing, written nothing
quiet_accounts : (l s : List Atom) → s ≡ [] → l ++ s ≡ [] ++ l
quiet_accounts l s e = rw e (append-nil l)

-- a queued call that is refused
queue_refused : (a : Asked) (r q : Queued) (n : ℕ) → said_in a r.held ≡ [] → said_in a q.held ≡ [] → EndsWithEnd r.waiting → EndsWithEnd q.waiting → r.held ≡ q.held
    → end_waits r.waiting ≡ false → end_waits q.waiting ≡ false → CallAlike queueing_receiver waiting_queue a r q (Stays r (Queueing n)) (Stays q (Queueing n))
unfolding wrote_by
queue_refused a r q n x y sr sq e lr lq = (e, refl, lr, lq, quiet_accounts r.waiting _ x, quiet_accounts q.waiting _ y, sr, sq)

-- data: with room in both
say_decided : (r q : Queued) (o : Output) (content : List ℕ) (x y : Bool) → refused_on r.held o ≡ false → EndsWithEnd r.waiting → EndsWithEnd q.waiting → r.held ≡ q.held
    → end_waits r.waiting ≡ false → end_waits q.waiting ≡ false
    → NotHeldUp queueing_receiver waiting_queue (if x then Stays r (Queueing 10) else Stays (queued (with_request r.held (Of.said_on r.held.request o content)) (r.waiting ++ map (ByteOn o) content)) (Queueing 0))
    → NotHeldUp queueing_receiver waiting_queue (if y then Stays q (Queueing 10) else Stays (queued (with_request q.held (Of.said_on q.held.request o content)) (q.waiting ++ map (ByteOn o) content)) (Queueing 0))
    → CallAlike queueing_receiver waiting_queue (QueueSay o content) r q
    (if x then Stays r (Queueing 10) else Stays (queued (with_request r.held (Of.said_on r.held.request o content)) (r.waiting ++ map (ByteOn o) content)) (Queueing 0))
    (if y then Stays q (Queueing 10) else Stays (queued (with_request q.held (Of.said_on q.held.request o content)) (q.waiting ++ map (ByteOn o) content)) (Queueing 0))
unfolding said_in wrote_by
say_decided r q o content true y f sr sq e lr lq hr hq = absurd (not_both refl hr)
say_decided r q o content false true f sr sq e lr lq hr hq = absurd (not_both refl hq)
say_decided r q o content false false f sr sq e lr lq hr hq =
    let b = bytes_wait o content in
    let g : refused_on q.held o ≡ false = rw (← e) f in (
      ap (λ h. with_request h (Of.said_on h.request o content)) e,
      refl,
      waits_append r.waiting (map (ByteOn o) content) lr ∙ b.0,
      waits_append q.waiting (map (ByteOn o) content) lq ∙ b.0,
      rw f,
      rw g,
      ends_append r.waiting (map (ByteOn o) content) lr b.1,
      ends_append q.waiting (map (ByteOn o) content) lq b.1,
    )

-- then nothing is said
pub said_none : (h : Held) (o : Output) (content : List ℕ) → refused_on h o ≡ true → said_in (QueueSay o content) h ≡ []
unfolding said_in
said_none h o content e = rw e

-- nor ended
pub ended_none : (h : Held) (o : Output) → refused_on h o ≡ true → said_in (QueueEnd o) h ≡ []
unfolding said_in
ended_none h o e = rw e

say_alike : (r q : Queued) (o : Output) (content : List ℕ) → EndsWithEnd r.waiting → EndsWithEnd q.waiting → r.held ≡ q.held
    → end_waits r.waiting ≡ false → end_waits q.waiting ≡ false
    → NotHeldUp queueing_receiver waiting_queue (queue_say r o content) → NotHeldUp queueing_receiver waiting_queue (queue_say q o content)
    → CallAlike queueing_receiver waiting_queue (QueueSay o content) r q (queue_say r o content) (queue_say q o content)
unfolding queue_say
say_alike r q o content sr sq e lr lq hr hq = by_test (refused_on r.held o) no yes
  where
    eh : own_refusal r.held o ≡ own_refusal q.held o
    eh = ap (λ h. own_refusal h o) e

    er : queue_refusal r o ≡ own_refusal r.held o
    er = own_refusal_lem r o lr

    eq : queue_refusal q o ≡ own_refusal r.held o
    eq = own_refusal_lem q o lq ∙ sym eh

    no : refused_on r.held o ≡ true → CallAlike queueing_receiver waiting_queue (QueueSay o content) r q (queue_say r o content) (queue_say q o content)
    no f =
        let d = own_some r.held o f in
        let g : refused_on q.held o ≡ true = rw (← e) f in
        rw (er, eq, ne_eqb (own_refusal r.held o) 0 d.0) (queue_refused (QueueSay o content) r q (own_refusal r.held o) (said_none r.held o content f) (said_none q.held o content g) sr sq e lr lq)

    yes : refused_on r.held o ≡ false → CallAlike queueing_receiver waiting_queue (QueueSay o content) r q (queue_say r o content) (queue_say q o content)
    yes f =
        let z = own_zero r.held o f in
        let zr : queue_refusal r o ≡ 0 = er ∙ z in
        let zq : queue_refusal q o ≡ 0 = eq ∙ z in
        rw (zr, zq) (say_decided r q o content (ltb ROOM (data_in r.waiting + length content)) (ltb ROOM (data_in q.waiting + length content)) f sr sq e lr lq (rw zr at hr) (rw zq at hq))

end_alike : (r q : Queued) (o : Output) → EndsWithEnd r.waiting → EndsWithEnd q.waiting → r.held ≡ q.held → end_waits r.waiting ≡ false → end_waits q.waiting ≡ false
    → CallAlike queueing_receiver waiting_queue (QueueEnd o) r q (queue_end r o) (queue_end q o)
unfolding queue_end said_in wrote_by end_waits
end_alike r q o sr sq e lr lq = by_test (refused_on r.held o) no yes
  where
    eh : own_refusal r.held o ≡ own_refusal q.held o
    eh = ap (λ h. own_refusal h o) e

    er : queue_refusal r o ≡ own_refusal r.held o
    er = own_refusal_lem r o lr

    eq : queue_refusal q o ≡ own_refusal r.held o
    eq = own_refusal_lem q o lq ∙ sym eh

    no : refused_on r.held o ≡ true → CallAlike queueing_receiver waiting_queue (QueueEnd o) r q (queue_end r o) (queue_end q o)
    no f =
        let d = own_some r.held o f in
        let g : refused_on q.held o ≡ true = rw (← e) f in
        rw (er, eq, ne_eqb (own_refusal r.held o) 0 d.0) (queue_refused (QueueEnd o) r q (own_refusal r.held o) (ended_none r.held o f) (ended_none q.held o g) sr sq e lr lq)

    yes : refused_on r.held o ≡ false → CallAlike queueing_receiver waiting_queue (QueueEnd o) r q (queue_end r o) (queue_end q o)
    yes f =
        let z = own_zero r.held o f in
        let g : refused_on q.held o ≡ false = rw (← e) f in
        let zr : queue_refusal r o ≡ 0 = er ∙ z in
        let zq : queue_refusal q o ≡ 0 = eq ∙ z in
        rw (zr, zq) (
          ap (λ h. with_request h (Of.ended_on h.request o)) e,
          refl,
          waits_append r.waiting (EndOf o ∷ []) lr,
          waits_append q.waiting (EndOf o ∷ []) lq,
          rw f,
          rw g,
          ends_append r.waiting (EndOf o ∷ []) lr tt,
          ends_append q.waiting (EndOf o ∷ []) lq tt,
        )

-- the last words end with END
pub last_waits : (m : RequestState) (status : ℕ) → (end_waits (last_words m status) ≡ true) × EndsWithEnd (last_words m status)
unfolding last_words end_waits
last_waits m status = go (owes_out m) (owes_err m)
  where
    go : (a b : Bool) → (end_waits (owed_end a Output.Stdout ++ (owed_end b Output.Stderr ++ finish_of status ∷ [])) ≡ true) × EndsWithEnd (owed_end a Output.Stdout ++ (owed_end b Output.Stderr ++ finish_of status ∷ []))
    go true true = (refl, (refl, omega (arith, end_length status REQUEST_COMPLETE)))
    go true false = (refl, (refl, omega (arith, end_length status REQUEST_COMPLETE)))
    go false true = (refl, (refl, omega (arith, end_length status REQUEST_COMPLETE)))
    go false false = (refl, (refl, omega (arith, end_length status REQUEST_COMPLETE)))

finish_alike : (r q : Queued) (status : ℕ) → EndsWithEnd r.waiting → EndsWithEnd q.waiting → r.held ≡ q.held → end_waits r.waiting ≡ false → end_waits q.waiting ≡ false
    → CallAlike queueing_receiver waiting_queue (QueueFinish status) r q (queue_finish r status) (queue_finish q status)
unfolding queue_finish said_in wrote_by
finish_alike r q status sr sq e lr lq =
    let br = last_waits r.held.request.state status in
    let bq = last_waits q.held.request.state status in
    rw (lr, lq) (
      ap (λ h. with_request h (spent_by h.request)) e,
      refl,
      waits_append r.waiting (last_words r.held.request.state status) lr ∙ br.0,
      waits_append q.waiting (last_words q.held.request.state status) lq ∙ bq.0,
      refl,
      refl,
      ends_append r.waiting (last_words r.held.request.state status) lr br.1,
      ends_append q.waiting (last_words q.held.request.state status) lq bq.1,
    )

-- Every call that is no serve.
pub call_alike : (a : Asked) (r q : Queued) → is_serve_call a ≡ false → EndsWithEnd r.waiting → EndsWithEnd q.waiting → r.held ≡ q.held → end_waits r.waiting ≡ false → end_waits q.waiting ≡ false
    → NotHeldUp queueing_receiver waiting_queue (queued_call a r) → NotHeldUp queueing_receiver waiting_queue (queued_call a q)
    → CallAlike queueing_receiver waiting_queue a r q (queued_call a r) (queued_call a q)
unfolding queued_call straight_call
call_alike (Straight a) r q s sr sq e lr lq hr hq = straight_alike a r q (is_writer a) refl sr sq e lr lq hr hq
call_alike (QueueSay o content) r q s sr sq e lr lq hr hq = say_alike r q o content sr sq e lr lq hr hq
call_alike (QueueEnd o) r q s sr sq e lr lq hr hq = end_alike r q o sr sq e lr lq
call_alike (QueueFinish status) r q s sr sq e lr lq hr hq = finish_alike r q status sr sq e lr lq
call_alike Serve r q s sr sq e lr lq hr hq = absurd (not_both refl s)

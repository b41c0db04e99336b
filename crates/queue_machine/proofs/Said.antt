-- What a call says, told from its answer: as what the accounts say of it.
use Rattle.std.specs.Prelude.{◌≡◌, refl, List, [], ◌∷◌, map, Bool, true, false, ℕ, ◌+◌, length, eqb, ltb, if◌then◌else◌}
use Rattle.std.proofs.Common.{sym, ◌∙◌, arith, eqb-true, ne_eqb}
use Rattle.std.proofs.Math.Option.{Option, some}
use Rattle.wire.specs.Test.{by_test}
use Rattle.machine.specs.Machine.{CallOutcome, Stays, Retires, Leaves, Closes}
use Rattle.connection.specs.declared.answer.Output.{Output}
use Rattle.connection.specs.Request.{Held}
use Rattle.connection.specs.Arguments.{Argument, ForRead, ForSay, ForEnd, ForFinish, Answer, refused}
use Rattle.connection.specs.Runs.Receiver.{receive_call}
use Rattle.queue_slot.specs.Atoms.{Atom, ByteOn, EndOf, data_in, end_waits}
use Rattle.queue_slot.specs.Wait.{ROOM}
use Rattle.queue_machine.specs.Queued.{Queued, Asked, Straight, QueueSay, QueueEnd, QueueFinish, Serve, QueueAnswer, Straightly, Queueing, Record, is_writer, refusal_in, refusal_of, lifted, held_up, straight_writer, straight_call, queue_refusal, queue_say, queue_end, queue_finish, queued_call, wrote_in, answer_of, outcome_answer, said_in, is_ten, is_serve_call, refused_by}
use Rattle.queue_machine.proofs.QueuedLaws.{Silent, refused_silent, reader_silent, straight_ten}
use Rattle.queue_machine.proofs.QueuedCalls.{own_refusal_lem, refused_on, own_zero, own_some}
use Rattle.queue_machine.proofs.QueuedServes.{refused_writes}
use Rattle.queue_machine.proofs.StraightSays.{last_of, straight_asks, unless_refused, call_says}

-- what a call is asked to say
abbrev pub asks_to_say : Asked → Option Held → List Atom
asks_to_say (Straight a) v = straight_asks a v
asks_to_say (QueueSay o content) v = map (ByteOn o) content
asks_to_say (QueueEnd o) v = EndOf o ∷ []
asks_to_say (QueueFinish status) v = last_of v status
asks_to_say Serve v = []

-- the refusal in an answer, 0 for none
abbrev pub refusal_as : QueueAnswer → ℕ
refusal_as (Straightly n) = refusal_in n
refusal_as (Queueing n) = n
refusal_as (Record bytes) = 0

-- what a call says, by its answer: what it is asked to say, unless it is refused
abbrev pub told_by : Asked → QueueAnswer → Option Held → List Atom
told_by a n v = unless_refused (refusal_as n) (asks_to_say a v)

-- what a straight call wrote
abbrev wrote_as : QueueAnswer → List Atom
wrote_as (Straightly n) = wrote_in n
wrote_as (Queueing n) = []
wrote_as (Record bytes) = []

-- refused before the request is asked: nothing
pub told_refused : (k : ℕ) (a : Asked) (v : Option Held) → eqb k 0 ≡ false → told_by a (refused_by k a) v ≡ []
unfolding refused_by refused
told_refused k (Straight (ForRead q)) v e = refl
told_refused k (Straight (ForSay o content buffer)) v e = rw e
told_refused k (Straight (ForEnd o buffer)) v e = rw e
told_refused k (Straight (ForFinish status buffer)) v e = rw e
told_refused k (QueueSay o content) v e = rw e
told_refused k (QueueEnd o) v e = rw e
told_refused k (QueueFinish status) v e = rw e
told_refused k Serve v e = refl

lifted_answer : (o : CallOutcome Held Answer) (l : List Atom) → outcome_answer (lifted o l) ≡ Straightly (answer_of o)
lifted_answer (Stays h n) l = refl
lifted_answer (Retires h n) l = refl
lifted_answer (Leaves n) l = refl
lifted_answer (Closes n) l = refl

silent_answer : (o : CallOutcome Held Answer) → Silent o → wrote_in (answer_of o) ≡ []
silent_answer (Stays h n) s = s
silent_answer (Retires h n) s = absurd s
silent_answer (Leaves n) s = absurd s
silent_answer (Closes n) s = absurd s

answer_refusal : (o : CallOutcome Held Answer) → refusal_in (answer_of o) ≡ refusal_of o
answer_refusal (Stays h n) = refl
answer_refusal (Retires h n) = refl
answer_refusal (Leaves n) = refl
answer_refusal (Closes n) = refl

-- ---- a straight call: what it wrote
straight_refused : (k : ℕ) (a : Argument) (v : Option Held) → eqb k 0 ≡ false → told_by (Straight a) (Straightly (refused k a)) v ≡ wrote_in (refused k a)
unfolding refused_by
straight_refused k a v e = told_refused k (Straight a) v e ∙ sym (refused_writes k a)

straight_told : (a : Argument) (r : Queued) → told_by (Straight a) (outcome_answer (straight_call a r)) (some r.held) ≡ wrote_as (outcome_answer (straight_call a r))
unfolding straight_call straight_writer
straight_told a r =
    let o = receive_call a r.held in
    by_test (is_writer a)
    (λ w. by_test (end_waits r.waiting) (λ l. rw (w, l) (straight_refused 5 a (some r.held) refl))
    (λ l. by_test (held_up o r.waiting) (λ u. rw (w, l, u) (straight_refused 10 a (some r.held) refl)) (λ u. rw (w, l, u, lifted_answer o r.waiting) (call_says a r.held))))
    (λ w. rw (w, lifted_answer o r.waiting) (call_says a r.held))

-- ---- between finish and END: nothing
straight_leaving : (a : Argument) (r : Queued) → end_waits r.waiting ≡ true → wrote_as (outcome_answer (straight_call a r)) ≡ []
unfolding straight_call straight_writer
straight_leaving a r l =
    by_test (is_writer a) (λ w. rw (w, l) (refused_writes 5 a))
    (λ w. rw (w, lifted_answer (receive_call a r.held) r.waiting) (silent_answer (receive_call a r.held) (reader_silent a r.held w)))

if_none : (b : Bool) (l : List Atom) → l ≡ [] → [] ≡ (if b then [] else l)
if_none true l e = refl
if_none false l e = sym e

refusal_leaving : (r : Queued) (o : Output) → end_waits r.waiting ≡ true → queue_refusal r o ≡ 5
unfolding queue_refusal
refusal_leaving r o l = rw l

pub told_leaving : (a : Asked) (r : Queued) → end_waits r.waiting ≡ true → told_by a (outcome_answer (queued_call a r)) (some r.held) ≡ []
unfolding queued_call queue_say queue_end queue_finish
told_leaving (Straight a) r l = straight_told a r ∙ straight_leaving a r l
told_leaving (QueueSay o content) r l = rw (refusal_leaving r o l)
told_leaving (QueueEnd o) r l = rw (refusal_leaving r o l)
told_leaving (QueueFinish status) r l = rw l
told_leaving Serve r l = sym (if_none (eqb (refusal_as (outcome_answer (queued_call Serve r))) 0) [] refl)

-- ---- else: as the accounts say
ten_or_not : (b : Bool) (l : List Atom) → (b ≡ true → l ≡ []) → l ≡ (if b then [] else l)
ten_or_not true l f = f refl
ten_or_not false l f = refl

ten_refused : (n : ℕ) → eqb n 10 ≡ true → n ≡ 0 → ⊥
ten_refused n e z = let t = eqb-true n 10 e in omega arith

straight_live : (a : Argument) (r : Queued) → end_waits r.waiting ≡ false
    → wrote_as (outcome_answer (straight_call a r)) ≡ (if is_ten (outcome_answer (straight_call a r)) then [] else wrote_in (answer_of (receive_call a r.held)))
unfolding straight_call straight_writer
straight_live a r l =
    let o = receive_call a r.held in
    by_test (is_writer a)
    (λ w. by_test (held_up o r.waiting) (λ u. rw (w, l, u, straight_ten a w) (refused_writes 10 a))
    (λ u. rw (w, l, u, lifted_answer o r.waiting)
    (ten_or_not (eqb (refusal_in (answer_of o)) 10) (wrote_in (answer_of o)) (λ t. silent_answer o (refused_silent a r.held w (λ z. ten_refused (refusal_in (answer_of o)) t (answer_refusal o ∙ z)))))))
    (λ w. rw (w, lifted_answer o r.waiting) (ten_or_not (eqb (refusal_in (answer_of o)) 10) (wrote_in (answer_of o)) (λ t. silent_answer o (reader_silent a r.held w))))

say_live : (r : Queued) (o : Output) (content : List ℕ) → end_waits r.waiting ≡ false
    → told_by (QueueSay o content) (outcome_answer (queue_say r o content)) (some r.held) ≡ (if is_ten (outcome_answer (queue_say r o content)) then [] else said_in (QueueSay o content) r.held)
unfolding queue_say said_in
say_live r o content l =
    by_test (refused_on r.held o)
    (λ f.
    let k = own_some r.held o f in
    let q = own_refusal_lem r o l in
    let n : eqb (queue_refusal r o) 0 ≡ false = ne_eqb (queue_refusal r o) 0 (λ z. k.0 (sym q ∙ z)) in
    rw (n, f) (rw n (if_none (eqb (queue_refusal r o) 10) [] refl)))
    (λ f.
    let n : queue_refusal r o ≡ 0 = own_refusal_lem r o l ∙ own_zero r.held o f in
    by_test (ltb ROOM (data_in r.waiting + length content)) (λ t. rw (n, t)) (λ t. rw (n, t, f)))

end_live : (r : Queued) (o : Output) → end_waits r.waiting ≡ false
    → told_by (QueueEnd o) (outcome_answer (queue_end r o)) (some r.held) ≡ (if is_ten (outcome_answer (queue_end r o)) then [] else said_in (QueueEnd o) r.held)
unfolding queue_end said_in
end_live r o l =
    by_test (refused_on r.held o)
    (λ f.
    let k = own_some r.held o f in
    let q = own_refusal_lem r o l in
    let n : eqb (queue_refusal r o) 0 ≡ false = ne_eqb (queue_refusal r o) 0 (λ z. k.0 (sym q ∙ z)) in
    rw (n, f) (rw n (if_none (eqb (queue_refusal r o) 10) [] refl)))
    (λ f. let n : queue_refusal r o ≡ 0 = own_refusal_lem r o l ∙ own_zero r.held o f in rw (n, f))

pub told_live : (a : Asked) (r : Queued) → is_serve_call a ≡ false → end_waits r.waiting ≡ false
    → told_by a (outcome_answer (queued_call a r)) (some r.held) ≡ (if is_ten (outcome_answer (queued_call a r)) then [] else said_in a r.held)
unfolding queued_call queue_finish said_in
told_live (Straight a) r s l = straight_told a r ∙ straight_live a r l
told_live (QueueSay o content) r s l = say_live r o content l
told_live (QueueEnd o) r s l = end_live r o l
told_live (QueueFinish status) r s l = rw l
told_live Serve r s l = let z : ◌≡◌ {A = ℕ} 0 1 = cc in absurd (omega arith)

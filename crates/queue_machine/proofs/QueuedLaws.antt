-- The laws of what waits, for the receiver.
use Rattle.std.specs.Prelude.{◌≡◌, refl, Bool, true, false, List, [], ◌∷◌, ◌++◌, map, ◌⊎◌, ℕ, zero, suc, ◌≤◌, length, take, eqb, if◌then◌else◌}
use Rattle.std.proofs.Common.{ap, sym, ◌∙◌, subst, append-nil, inl, inr, arith, ne_eqb}
use Rattle.std.proofs.lemmas.Bool.{eqb-false}
use Rattle.wire.specs.Test.{by_test}
use Rattle.machine.specs.Machine.{HeaderOutcome, Decided, BeginOutcome, Declined, Accepted, CallOutcome, Stays, Retires, Leaves, Closes}
use Rattle.machine_queue.specs.Waiting.{HeaderAlike, ByteAlike, BeginWaits, NotHeldUp, CallAlike}
use Rattle.connection.specs.declared.request.Due.{Due}
use Rattle.connection.specs.declared.request.Request.{Request}
use Rattle.connection.specs.declared.answer.Output.{Output}
use Rattle.connection.specs.Request.{Held}
use Rattle.connection.specs.RequestCalls as Of
use Rattle.connection.specs.Bytewise.{Note}
use Rattle.connection.specs.Arguments.{Argument, ForRead, ForSay, ForEnd, ForFinish, Answer, FinishedWith, refused}
use Rattle.connection.proofs.Laws.RefusalRows.{writes_number}
use Rattle.connection.specs.Runs.Receiver.{receive_header, receive_byte, receive_begin, receive_call, finished_as}
use Rattle.queue_slot.specs.Atoms.{Atom, ByteOn, EndOf, EndRequest, is_some, end_waits, is_same, run_from, atoms_of}
use Rattle.queue_slot.proofs.AtomLaws.{atoms_none}
use Rattle.queue_machine.specs.Queued.{Queued, Straight, Straightly, lifted_header, queued_header, queued_byte, lifted_begin, queued_begin, is_writer, refusal_of, lifted, held_up, straight_writer, queueing_receiver, wrote_in, wrote_by, said_in, is_ten, EndsWithEnd, waiting_queue}

-- ---- lists of atoms
pub none_some : (l : List Atom) → is_some l ≡ false → l ≡ []
unfolding is_some
none_some [] e = refl
none_some (x ∷ l) e = let z : ◌≡◌ {A = ℕ} 0 1 = cc in absurd (omega arith)

-- END last, in two lists
pub ends_append : (l k : List Atom) → end_waits l ≡ false → EndsWithEnd k → EndsWithEnd (l ++ k)
unfolding end_waits
ends_append [] k e h = h
ends_append (ByteOn o b ∷ l) k e h = ends_append l k e h
ends_append (EndOf o ∷ l) k e h = ends_append l k e h
ends_append (EndRequest c ∷ l) k e h = let z : ◌≡◌ {A = ℕ} 0 1 = cc in absurd (omega arith)

-- data is no END
pub bytes_wait : (o : Output) (x : List ℕ) → (end_waits (map (ByteOn o) x) ≡ false) × EndsWithEnd (map (ByteOn o) x)
unfolding end_waits
bytes_wait o [] = (refl, tt)
bytes_wait o (b ∷ x) = bytes_wait o x

-- ---- what a run is
pub record RunIs (k : ℕ) (o : Output) (l : List Atom) : Type 0 where
  pub same : l ≡ map (ByteOn o) (run_from k o l).content ++ (run_from k o l).behind
  pub short : length (run_from k o l).content ≤ k
  pub waits : end_waits (run_from k o l).behind ≡ end_waits l
  pub ends : EndsWithEnd l → EndsWithEnd (run_from k o l).behind

same_output : (o p : Output) → is_same o p ≡ true → o ≡ p
same_output Output.Stdout Output.Stdout e = refl
same_output Output.Stdout Output.Stderr e = let z : ◌≡◌ {A = ℕ} 0 1 = cc in absurd (omega arith)
same_output Output.Stderr Output.Stdout e = let z : ◌≡◌ {A = ℕ} 0 1 = cc in absurd (omega arith)
same_output Output.Stderr Output.Stderr e = refl

-- it is the front of the list
pub run_is : (k : ℕ) (o : Output) (l : List Atom) → RunIs k o l
unfolding run_from end_waits
run_is zero o l = record { same = refl; short = omega arith; waits = refl; ends = λ h. h }
run_is (suc k) o [] = record { same = refl; short = omega arith; waits = refl; ends = λ h. h }
run_is (suc k) o (ByteOn p b ∷ l) = go (is_same o p) refl (run_is k o l)
  where
    go : (s : Bool) → is_same o p ≡ s → RunIs k o l → RunIs (suc k) o (ByteOn p b ∷ l)
    go true s r = rw' s r
      where
        rw' : is_same o p ≡ true → RunIs k o l → RunIs (suc k) o (ByteOn p b ∷ l)
        rw' s r = record { same = rw (s, same_output o p s) (ap (λ k. ByteOn p b ∷ k) (rw (← (same_output o p s)) r.same)); short = rw s (omega (arith, r.short)); waits = rw s r.waits; ends = λ h. rw s (r.ends h) }
    go false s r = record { same = rw s; short = rw s (omega arith); waits = rw s; ends = λ h. rw s h }
run_is (suc k) o (EndOf p ∷ l) = record { same = refl; short = omega arith; waits = refl; ends = λ h. h }
run_is (suc k) o (EndRequest c ∷ l) = record { same = refl; short = omega arith; waits = refl; ends = λ h. h }

-- ---- records and content
lifted_header_lem : (x : HeaderOutcome Held Due Note) (r q : Queued) → EndsWithEnd r.waiting → EndsWithEnd q.waiting → end_waits r.waiting ≡ false → end_waits q.waiting ≡ false
    → HeaderAlike queueing_receiver waiting_queue r q (lifted_header x r.waiting) (lifted_header x q.waiting)
lifted_header_lem (Decided h e k) r q sr sq lr lq = (refl, refl, refl, lr, lq, refl, refl, sr, sq)

-- a header
pub header_alike : (t c : ℕ) (r q : Queued) → EndsWithEnd r.waiting → EndsWithEnd q.waiting → r.held ≡ q.held → end_waits r.waiting ≡ false → end_waits q.waiting ≡ false
    → HeaderAlike queueing_receiver waiting_queue r q (queued_header t c r) (queued_header t c q)
unfolding queued_header receive_header
header_alike t c r q sr sq e lr lq = rw e (lifted_header_lem (receive_header t c q.held) r q sr sq lr lq)

-- a content byte
pub byte_alike : (k : Due) (b : ℕ) (r q : Queued) → EndsWithEnd r.waiting → EndsWithEnd q.waiting → r.held ≡ q.held → end_waits r.waiting ≡ false → end_waits q.waiting ≡ false
    → ByteAlike queueing_receiver waiting_queue r q (queued_byte k b r) (queued_byte k b q)
unfolding queued_byte
byte_alike k b r q sr sq e lr lq = (ap (λ h. (receive_byte k b h).0) e, ap (λ h. (receive_byte k b h).1) e, lr, lq, refl, refl, sr, sq)

lifted_begin_lem : (x : BeginOutcome (List ℕ) Held Note) → BeginWaits queueing_receiver waiting_queue (lifted_begin x)
unfolding end_waits
lifted_begin_lem (Declined e) = tt
lifted_begin_lem (Accepted f e) = (refl, refl, tt)

-- a new request
pub begin_waits : (id : ℕ) (g : List ℕ) → BeginWaits queueing_receiver waiting_queue (queued_begin id g)
unfolding queued_begin
begin_waits id g = lifted_begin_lem (receive_begin id g)

-- ---- straight calls
-- nothing is written, and the request stays
abbrev pub Silent : CallOutcome Held Answer → Type 0
Silent (Stays h n) = wrote_in n ≡ []
Silent (Retires h n) = ⊥
Silent (Leaves n) = ⊥
Silent (Closes n) = ⊥

-- no straight call retires its request
abbrev pub NeverRetires : CallOutcome Held Answer → Type 0
NeverRetires (Stays h n) = Unit {0}
NeverRetires (Retires h n) = ⊥
NeverRetires (Leaves n) = Unit {0}
NeverRetires (Closes n) = Unit {0}

no_bytes : (n : ℕ) (buffer : List ℕ) → n ≡ 0 → atoms_of (take n buffer) ≡ []
no_bytes n buffer e = ap (λ (k : ℕ). atoms_of (take k buffer)) e ∙ atoms_none

-- a call that is refused writes nothing
pub writes_none : (n : ℕ) (bytes : List ℕ) (after r : Request) (buffer : List ℕ) → (n ≡ 0 → ⊥) → (Of.writes n bytes after r buffer).written ≡ 0
unfolding Of.writes
writes_none n bytes after r buffer d = rw (ne_eqb n 0 d)

finish_silent : (keep : Bool) (h : Held) (w : Of.Writing) → (refusal_of (finished_as keep h w) ≡ 0 → ⊥) → Silent (finished_as keep h w)
unfolding finished_as wrote_in
finish_silent keep h w d = go (eqb w.refusal 0) refl keep d
  where
    go : (a : Bool) → eqb w.refusal 0 ≡ a → (k : Bool)
        → (refusal_of (if a then (if k then Leaves (FinishedWith 0 w.written false w.buffer) else Closes (FinishedWith 0 w.written true w.buffer)) else Stays h (FinishedWith w.refusal 0 false w.buffer)) ≡ 0 → ⊥)
        → Silent (if a then (if k then Leaves (FinishedWith 0 w.written false w.buffer) else Closes (FinishedWith 0 w.written true w.buffer)) else Stays h (FinishedWith w.refusal 0 false w.buffer))
    go true e true d = absurd (d refl)
    go true e false d = absurd (d refl)
    go false e k d = atoms_none

-- so it is where a writer is refused
pub refused_silent : (a : Argument) (h : Held) → is_writer a ≡ true → (refusal_of (receive_call a h) ≡ 0 → ⊥) → Silent (receive_call a h)
unfolding receive_call wrote_in Of.say_in Of.end_in
refused_silent (ForRead q) h w d = refl
refused_silent (ForSay o bytes buffer) h w d =
    let n = Of.output_refusal h.request o (Of.say_bytes h.request o bytes) buffer in
    no_bytes _ _ (writes_none n (Of.say_bytes h.request o bytes) (Of.said_on h.request o bytes) h.request buffer (λ e. d (writes_number n (Of.say_bytes h.request o bytes) (Of.said_on h.request o bytes) h.request buffer ∙ e)))
refused_silent (ForEnd o buffer) h w d =
    let n = Of.output_refusal h.request o (Of.end_bytes h.request o) buffer in
    no_bytes _ _ (writes_none n (Of.end_bytes h.request o) (Of.ended_on h.request o) h.request buffer (λ e. d (writes_number n (Of.end_bytes h.request o) (Of.ended_on h.request o) h.request buffer ∙ e)))
refused_silent (ForFinish status buffer) h w d = finish_silent h.request.state.keep h (Of.finish_in h.request status buffer) d

-- and where a call only reads
pub reader_silent : (a : Argument) (h : Held) → is_writer a ≡ false → Silent (receive_call a h)
unfolding receive_call wrote_in
reader_silent (ForRead q) h e = refl
reader_silent (ForSay o bytes buffer) h e = let z : ◌≡◌ {A = ℕ} 0 1 = cc in absurd (omega arith)
reader_silent (ForEnd o buffer) h e = let z : ◌≡◌ {A = ℕ} 0 1 = cc in absurd (omega arith)
reader_silent (ForFinish status buffer) h e = let z : ◌≡◌ {A = ℕ} 0 1 = cc in absurd (omega arith)

finish_not_retires : (keep : Bool) (h : Held) (w : Of.Writing) → NeverRetires (finished_as keep h w)
unfolding finished_as
finish_not_retires keep h w = go (eqb w.refusal 0) keep
  where
    go : (a k : Bool) → NeverRetires (if a then (if k then Leaves (FinishedWith 0 w.written false w.buffer) else Closes (FinishedWith 0 w.written true w.buffer)) else Stays h (FinishedWith w.refusal 0 false w.buffer))
    go true true = tt
    go true false = tt
    go false k = tt

-- it never does
pub never_retires : (a : Argument) (h : Held) → NeverRetires (receive_call a h)
unfolding receive_call
never_retires (ForRead q) h = tt
never_retires (ForSay o bytes buffer) h = tt
never_retires (ForEnd o buffer) h = tt
never_retires (ForFinish status buffer) h = finish_not_retires h.request.state.keep h (Of.finish_in h.request status buffer)

-- Where nothing waits, or nothing is written, it makes no difference what waits.
pub swap : (l w : List Atom) → (l ≡ []) ⊎ (w ≡ []) → l ++ w ≡ w ++ l
swap l w (inl e) = rw e (sym (append-nil w))
swap l w (inr e) = rw e (append-nil l)

-- either nothing waits in it, or the outcome is silent
abbrev pub Clear : CallOutcome Held Answer → List Atom → Type 0
Clear o l = (l ≡ []) ⊎ Silent o

clear_stays : (h : Held) (n : Answer) (l : List Atom) → Clear (Stays h n) l → (l ≡ []) ⊎ (wrote_in n ≡ [])
clear_stays h n l c = c

-- who leaves has nothing waiting
pub clear_leaves : (n : Answer) (l : List Atom) → Clear (Leaves n) l → l ≡ []
clear_leaves n l (inl e) = e
clear_leaves n l (inr e) = absurd e

lifted_alike : (a : Argument) (r q : Queued) (o : CallOutcome Held Answer) → receive_call a r.held ≡ o → receive_call a q.held ≡ o → NeverRetires o → Clear o r.waiting → Clear o q.waiting
    → EndsWithEnd r.waiting → EndsWithEnd q.waiting → end_waits r.waiting ≡ false → end_waits q.waiting ≡ false
    → CallAlike queueing_receiver waiting_queue (Straight a) r q (lifted o r.waiting) (lifted o q.waiting)
unfolding said_in wrote_by
lifted_alike a r q (Stays h n) er eq v cr cq sr sq lr lq =
    (refl, refl, lr, lq, rw er (swap r.waiting (wrote_in n) (clear_stays h n r.waiting cr)), rw eq (swap q.waiting (wrote_in n) (clear_stays h n q.waiting cq)), sr, sq)
lifted_alike a r q (Retires h n) er eq v cr cq sr sq lr lq = absurd v
lifted_alike a r q (Leaves n) er eq v cr cq sr sq lr lq =
    (refl, rw (er, clear_leaves n r.waiting cr) (sym (append-nil (wrote_in n))), rw (eq, clear_leaves n q.waiting cq) (sym (append-nil (wrote_in n))))
lifted_alike a r q (Closes n) er eq v cr cq sr sq lr lq = tt

-- ten is told
pub straight_ten : (a : Argument) → is_writer a ≡ true → is_ten (Straightly (refused 10 a)) ≡ true
unfolding refused
straight_ten (ForRead q) e = let z : ◌≡◌ {A = ℕ} 0 1 = cc in absurd (omega arith)
straight_ten (ForSay o bytes buffer) e = refl
straight_ten (ForEnd o buffer) e = refl
straight_ten (ForFinish status buffer) e = refl

-- no bool is both
pub not_both : {b : Bool} → b ≡ true → b ≡ false → ⊥
not_both e d = let z : ◌≡◌ {A = ℕ} 0 1 = cc in omega arith

-- a writer that is not held up
pub writer_clear : (a : Argument) (h : Held) (l : List Atom) → is_writer a ≡ true → held_up (receive_call a h) l ≡ false → Clear (receive_call a h) l
unfolding held_up
writer_clear a h l w e = by_test (eqb (refusal_of (receive_call a h)) 0) (λ z. inl (none_some l (rw z at e))) (λ z. inr (refused_silent a h w (eqb-false _ _ z)))

-- not held up, as the answer is not ten
writer_open : (a : Argument) (o : CallOutcome Held Answer) (r : Queued) → is_writer a ≡ true → end_waits r.waiting ≡ false → NotHeldUp queueing_receiver waiting_queue (straight_writer a o r) → held_up o r.waiting ≡ false
unfolding straight_writer
writer_open a o r w l h = go (held_up o r.waiting) refl (rw l at h)
  where
    go : (k : Bool) → held_up o r.waiting ≡ k → NotHeldUp queueing_receiver waiting_queue (if k then Stays r (Straightly (refused 10 a)) else lifted o r.waiting) → k ≡ false
    go true e h = absurd (not_both (straight_ten a w) h)
    go false e h = refl

-- it is as without a queue
pub writer_lifted : (a : Argument) (o : CallOutcome Held Answer) (r : Queued) → end_waits r.waiting ≡ false → held_up o r.waiting ≡ false → straight_writer a o r ≡ lifted o r.waiting
unfolding straight_writer
writer_lifted a o r l e = rw (l, e)

-- straight calls
pub straight_alike : (a : Argument) (r q : Queued) (w : Bool) → is_writer a ≡ w → EndsWithEnd r.waiting → EndsWithEnd q.waiting → r.held ≡ q.held → end_waits r.waiting ≡ false → end_waits q.waiting ≡ false
    → NotHeldUp queueing_receiver waiting_queue (if w then straight_writer a (receive_call a r.held) r else lifted (receive_call a r.held) r.waiting)
    → NotHeldUp queueing_receiver waiting_queue (if w then straight_writer a (receive_call a q.held) q else lifted (receive_call a q.held) q.waiting)
    → CallAlike queueing_receiver waiting_queue (Straight a) r q (if w then straight_writer a (receive_call a r.held) r else lifted (receive_call a r.held) r.waiting)
    (if w then straight_writer a (receive_call a q.held) q else lifted (receive_call a q.held) q.waiting)
straight_alike a r q true w sr sq e lr lq hr hq =
    let o = receive_call a r.held in
    let p = receive_call a q.held in
    let d : o ≡ p = ap (receive_call a) e in
    let ur = writer_open a o r w lr hr in
    let uq = writer_open a p q w lq hq in
    let cq : Clear o q.waiting = rw d (writer_clear a q.held q.waiting w uq) in
    let er = writer_lifted a o r lr ur in
    let eq : straight_writer a p q ≡ lifted o q.waiting = writer_lifted a p q lq uq ∙ ap (λ x. lifted x q.waiting) (sym d) in
    subst (λ x. CallAlike queueing_receiver waiting_queue (Straight a) r q x (straight_writer a p q)) (sym er)
    (subst (λ y. CallAlike queueing_receiver waiting_queue (Straight a) r q (lifted o r.waiting) y) (sym eq)
    (lifted_alike a r q o refl (sym d) (never_retires a r.held) (writer_clear a r.held r.waiting w ur) cq sr sq lr lq))
straight_alike a r q false w sr sq e lr lq hr hq =
    let o = receive_call a r.held in
    let p = receive_call a q.held in
    let d : o ≡ p = ap (receive_call a) e in
    let c = reader_silent a r.held w in
    let eq : lifted p q.waiting ≡ lifted o q.waiting = ap (λ x. lifted x q.waiting) (sym d) in
    subst (λ y. CallAlike queueing_receiver waiting_queue (Straight a) r q (lifted o r.waiting) y) (sym eq)
    (lifted_alike a r q o refl (sym d) (never_retires a r.held) (inr c) (inr c) sr sq lr lq)

-- The premises of the statement give those on the machine: never overloaded, no call of R refused by 10.
use Rattle.std.specs.Prelude.{◌≡◌, refl, ◌⊎◌, true, false, ℕ, eqb}
use Rattle.std.proofs.Common.{ap, sym, ◌∙◌, subst, inl, inr, arith, eqb-true}
use mathlib.Core.List.Memᴰ
use mathlib.Core.List.{List, [], ◌∷◌, ◌++◌, map, Memᴰ}
use Rattle.std.proofs.Math.Option.{Option}
use Rattle.wire.specs.Test.{by_test}
use Rattle.record.specs.Names.{OVERLOADED}
use Rattle.machine.specs.Timeline.{RequestCall, CountCall, CallItem, byte_items}
use Rattle.machine.specs.Machine.{Connection, Open, Closed, Observation, RequestEvent, NoticeEvent, CloseEvent, CountAnswer, CallAnswer, on_item, observations, as_list, concerns, observed}
use Rattle.machine.proofs.RunLaws.{observations_append, observed_append}
use Rattle.machine_queue.specs.Waiting.{NoneHeldUp}
use Rattle.connection.specs.Event.{Event}
use Rattle.connection.specs.Bytewise.{Note, notes}
use Rattle.connection.specs.Run as Run
use Rattle.connection.specs.Arguments.{RepliedWith, Wrote, FinishedWith}
use Rattle.connection.specs.Runs.Receiver.{receiver}
use Rattle.connection.proofs.Runs.Telling.{note_with_id, told_all}
use Rattle.connection.proofs.Runs.LinkingStep.{loaded_of}
use Rattle.queue_machine.specs.Queued as Q
use Rattle.queue_machine.specs.Queued.{Queued, Asked, Serve, QueueAnswer, queueing_receiver, waiting_queue}
use Rattle.queue_machine.proofs.Lift.{Waiting}
use Rattle.queue_machine.proofs.LiftRuns.{lift_seen}
use Rattle.queue_link.proofs.Loaded.{waiting_of, loaded_queue}
use Rattle.queue_link.proofs.LoadedTurn.{serves_of}
use Rattle.queue_link.proofs.LinkedStraight.{asked, told_of}
use Rattle.queue_link.proofs.Observing.{served_seen, answers_serve, served_record}
use Rattle.queue_link.proofs.LinkedRuns.{served_by, machine_items, machine_timeline, Fine, PieceOk, op_is, op_fine, piece_ok}
use Rattle.queue_link.proofs.LinkedShown.{step_observed, step_notes, call_observed}
use Rattle.queue.specs.Calls.{QueueMemory, queue_step}
use Rattle.queue.specs.Run as D
use Rattle.queue.specs.Run.{Answering, QueueOperation, CallFor, CountActive, TurnWith, queue_called, queue_after, used_of, notes_all, PiecesAreBytes}
use Rattle.queue.specs.Isolation.{NeverTenFrom, is_ten}

mem_split : {A : Type 0} {x : A} (l k : List A) → Memᴰ x (l ++ k) → Memᴰ x l ⊎ Memᴰ x k
mem_split [] k h = inr h
mem_split (a ∷ l) k (Memᴰ.head e) = inl (Memᴰ.head e)
mem_split {x = x} (a ∷ l) k (Memᴰ.tail h) = go (mem_split l k h)
  where
    go : Memᴰ x l ⊎ Memᴰ x k → Memᴰ x (a ∷ l) ⊎ Memᴰ x k
    go (inl h) = inl (Memᴰ.tail h)
    go (inr h) = inr h

-- ---- never overloaded
abbrev full : ℕ → Observation queueing_receiver
full R = RequestEvent R (Note.Told (Event.Refuse 0 OVERLOADED))

abbrev full_note : ℕ → Note
full_note R = Note.Told (Event.Refuse R OVERLOADED)

heard_note : (n : Note) (ns : List Note) → Memᴰ (Run.Heard n) (map Run.Heard ns) → Memᴰ n ns
heard_note n (x ∷ ns) (Memᴰ.head e) = let d : n ≡ x = cc in Memᴰ.head d
heard_note n (x ∷ ns) (Memᴰ.tail h) = Memᴰ.tail (heard_note n ns h)
heard_note n [] x' = elim x' [ ]

lifted_told : (R : ℕ) (f : Waiting) (os : List (Observation receiver)) → Memᴰ (full R) (lift_seen f os) → Memᴰ (Run.Heard (full_note R)) (told_all os)
unfolding lift_seen told_all as_list
lifted_told R f (RequestEvent id e ∷ os) (Memᴰ.head d) =
    let a : R ≡ id = cc in
    let b : e ≡ Note.Told (Event.Refuse 0 OVERLOADED) = cc in
    let c : Run.Heard (full_note R) ≡ Run.Heard (note_with_id id e) = rw (b, ← a) in
    Memᴰ.head c
lifted_told R f (RequestEvent id e ∷ os) (Memᴰ.tail h) = Memᴰ.tail (lifted_told R f os h)
lifted_told R f (NoticeEvent w ∷ os) (Memᴰ.head d) = let z : ◌≡◌ {A = ℕ} 0 1 = cc in absurd (omega arith)
lifted_told R f (NoticeEvent w ∷ os) (Memᴰ.tail h) = Memᴰ.tail (lifted_told R f os h)
lifted_told R f (CloseEvent n ∷ os) (Memᴰ.head d) = let z : ◌≡◌ {A = ℕ} 0 1 = cc in absurd (omega arith)
lifted_told R f (CloseEvent n ∷ os) (Memᴰ.tail h) = Memᴰ.tail (lifted_told R f os h)
lifted_told R f (CountAnswer T ∷ os) h = lifted_told R f os h
lifted_told R f (CallAnswer id a n v w ∷ os) h = Memᴰ.tail (lifted_told R f os h)
lifted_told R f [] h = elim h [ ]

not_call : (R id : ℕ) (a : Asked) (n : QueueAnswer) (v w : Option Queued) → Memᴰ (full R) (CallAnswer id a n v w ∷ []) → ⊥
not_call R id a n v w (Memᴰ.head d) = let z : ◌≡◌ {A = ℕ} 0 1 = cc in omega arith
not_call R id a n v w (Memᴰ.tail x4) = elim x4 [ ]

not_serves : (R : ℕ) (ids : List ℕ) (s : Connection queueing_receiver) → Memᴰ (full R) (observations queueing_receiver s (serves_of ids)) → ⊥
unfolding observations serves_of as_list
not_serves R (id ∷ ids) s h =
    let k = served_seen s id in
    let e = on_item queueing_receiver s (CallItem (RequestCall id Serve)) in
    go (mem_split (as_list queueing_receiver e.1) (observations queueing_receiver e.0 (serves_of ids)) h) (λ x. not_call R id Serve k.0 k.1 k.2 (subst (λ o. Memᴰ (full R) (as_list queueing_receiver o)) k.3 x)) (not_serves R ids e.0)
  where
    go : {A B : Type 0} → A ⊎ B → (A → ⊥) → (B → ⊥) → ⊥
    go (inl x) f g = f x
    go (inr x) f g = g x
not_serves R [] s h = elim h [ ]

not_count : (R : ℕ) (s : Connection queueing_receiver) → Memᴰ (full R) (observations queueing_receiver s (CallItem CountCall ∷ [])) → ⊥
unfolding observations on_item as_list
not_count R (Open T F) (Memᴰ.head d) = let z : ◌≡◌ {A = ℕ} 0 1 = cc in omega arith
not_count R Closed (Memᴰ.head d) = let z : ◌≡◌ {A = ℕ} 0 1 = cc in omega arith
not_count R (Open T F) (Memᴰ.tail x5) = elim x5 [ ]
not_count R Closed (Memᴰ.tail x6) = elim x6 [ ]

-- the notes of one operation
abbrev notes_op : QueueMemory → QueueOperation → List Note
notes_op m (D.StepOver piece) = notes (queue_step m piece).event (used_of m piece)
notes_op m (CallFor id a) = []
notes_op m CountActive = []
notes_op m (TurnWith allowance buffer) = []

notes_more : (m : QueueMemory) (o : QueueOperation) (os : List QueueOperation) → notes_all m (o ∷ os) ≡ notes_op m o ++ notes_all (queue_after m o) os
unfolding notes_all queue_after
notes_more m (D.StepOver piece) os = refl
notes_more m (CallFor id a) os = refl
notes_more m CountActive os = refl
notes_more m (TurnWith allowance buffer) os = refl

op_full : (R : ℕ) (m : QueueMemory) (o : QueueOperation) → Fine m → PieceOk o → Memᴰ (full R) (observations queueing_receiver (loaded_queue m) (machine_items m o)) → Memᴰ (full_note R) (notes_op m o)
unfolding machine_items
op_full R m (D.StepOver piece) k p h =
    let z = k.good.steady in
    let os = observations receiver (loaded_of m.memory) (byte_items (used_of m piece)) in
    heard_note (full_note R) (notes (queue_step m piece).event (used_of m piece))
    (subst (λ l. Memᴰ (Run.Heard (full_note R)) l) (sym (step_notes m piece z p)) (lifted_told R (waiting_of m) os (subst (λ l. Memᴰ (full R) l) (step_observed m piece z) h)))
op_full R m (CallFor id a) k p h = absurd (not_call R id (asked a) _ _ _ (subst (λ l. Memᴰ (full R) l) (call_observed m id a k) h))
op_full R m CountActive k p h = absurd (not_count R (loaded_queue m) h)
op_full R m (TurnWith allowance buffer) k p h = absurd (not_serves R (served_by m allowance buffer) (loaded_queue m) h)

-- never overloaded
pub run_full : (R : ℕ) (os : List QueueOperation) (m : QueueMemory) → Fine m → PiecesAreBytes os → Memᴰ (full R) (observations queueing_receiver (loaded_queue m) (machine_timeline m os)) → Memᴰ (full_note R) (notes_all m os)
unfolding machine_timeline observations
run_full R (o ∷ os) m k p h =
    let q = piece_ok o os p in
    let i = op_is m o k q.0 in
    let x = observations queueing_receiver (loaded_queue m) (machine_items m o) in
    let y = observations queueing_receiver (loaded_queue (queue_after m o)) (machine_timeline (queue_after m o) os) in
    let e : observations queueing_receiver (loaded_queue m) (machine_items m o ++ machine_timeline (queue_after m o) os) ≡ x ++ y =
    observations_append queueing_receiver (loaded_queue m) (machine_items m o) (machine_timeline (queue_after m o) os) ∙ ap (λ s. x ++ observations queueing_receiver s (machine_timeline (queue_after m o) os)) (sym i.state) in
    subst (λ l. Memᴰ (full_note R) l) (sym (notes_more m o os))
    (go (mem_split x y (subst (λ l. Memᴰ (full R) l) e h)) (λ a. op_full R m o k q.0 a) (λ a. run_full R os (queue_after m o) (op_fine m o k q.0) q.1 a))
  where
    go : {A B : Type 0} {n : Note} {l r : List Note} → A ⊎ B → (A → Memᴰ n l) → (B → Memᴰ n r) → Memᴰ n (l ++ r)
    go {r = r} (inl a) f g = Memᴰ.append_left r (f a)
    go {l = l} (inr b) f g = Memᴰ.append_right l (g b)
run_full R [] m k p h = elim h [ ]

-- ---- no call of R refused by 10
unheld_append : (x y : List (Observation queueing_receiver)) → NoneHeldUp queueing_receiver waiting_queue x → NoneHeldUp queueing_receiver waiting_queue y → NoneHeldUp queueing_receiver waiting_queue (x ++ y)
unheld_append [] y a b = b
unheld_append (RequestEvent id e ∷ x) y a b = unheld_append x y a b
unheld_append (CallAnswer id c n v w ∷ x) y a b = (a.0, unheld_append x y a.1 b)
unheld_append (NoticeEvent w ∷ x) y a b = unheld_append x y a b
unheld_append (CloseEvent n ∷ x) y a b = unheld_append x y a b
unheld_append (CountAnswer n ∷ x) y a b = unheld_append x y a b

abbrev Unheld : ℕ → List (Observation queueing_receiver) → Type 0
Unheld R os = NoneHeldUp queueing_receiver waiting_queue (observed queueing_receiver R os)

unheld_both : (R : ℕ) (x y : List (Observation queueing_receiver)) → Unheld R x → Unheld R y → Unheld R (x ++ y)
unheld_both R x y a b = subst (λ l. NoneHeldUp queueing_receiver waiting_queue l) (sym (observed_append queueing_receiver R x y)) (unheld_append (observed queueing_receiver R x) (observed queueing_receiver R y) a b)

unheld_one : (R id : ℕ) (a : Asked) (n : QueueAnswer) (v w : Option Queued) → (id ≡ R → Q.is_ten n ≡ false) → Unheld R (CallAnswer id a n v w ∷ [])
unfolding observed concerns
unheld_one R id a n v w h = by_test (eqb id R) (λ e. rw e (h (eqb-true id R e), tt)) (λ e. rw e tt)

unheld_bytes : (R : ℕ) (f : Waiting) (os : List (Observation receiver)) → Unheld R (lift_seen f os)
unfolding lift_seen observed concerns as_list
unheld_bytes R f [] = tt
unheld_bytes R f (RequestEvent id e ∷ os) = by_test (eqb id R) (λ d. rw d (unheld_bytes R f os)) (λ d. rw d (unheld_bytes R f os))
unheld_bytes R f (NoticeEvent w ∷ os) = unheld_bytes R f os
unheld_bytes R f (CloseEvent n ∷ os) = unheld_bytes R f os
unheld_bytes R f (CountAnswer n ∷ os) = unheld_bytes R f os
unheld_bytes R f (CallAnswer id a n v w ∷ os) = unheld_bytes R f os

same_ten : (n : Answering) → Q.is_ten (told_of n) ≡ is_ten n
same_ten (D.Straightly (Wrote n written buffer)) = refl
same_ten (D.Straightly (FinishedWith n written closed buffer)) = refl
same_ten (D.Straightly (RepliedWith r)) = refl
same_ten (D.Queued n) = refl

abbrev TenOp : ℕ → QueueMemory → QueueOperation → Type 0
TenOp R m (D.StepOver piece) = Unit {0}
TenOp R m (CallFor id a) = id ≡ R → is_ten (queue_called m id a).answer ≡ false
TenOp R m CountActive = Unit {0}
TenOp R m (TurnWith allowance buffer) = Unit {0}

ten_here : (R : ℕ) (m : QueueMemory) (o : QueueOperation) (os : List QueueOperation) → NeverTenFrom R m (o ∷ os) → TenOp R m o × NeverTenFrom R (queue_after m o) os
unfolding queue_after
ten_here R m (D.StepOver piece) os h = (tt, h)
ten_here R m (CallFor id a) os h = h
ten_here R m CountActive os h = (tt, h)
ten_here R m (TurnWith allowance buffer) os h = (tt, h)

unheld_serves : (R : ℕ) (ids : List ℕ) (s : Connection queueing_receiver) → ((n : QueueAnswer) (v w : Option Queued) (id : ℕ) → answers_serve n ≡ true → Unheld R (CallAnswer id Serve n v w ∷ [])) → Unheld R (observations queueing_receiver s (serves_of ids))
unfolding observations serves_of observed as_list
unheld_serves R [] s f = tt
unheld_serves R (id ∷ ids) s f =
    let e = on_item queueing_receiver s (CallItem (RequestCall id Serve)) in
    let k = served_record s id in
    unheld_both R (as_list queueing_receiver e.1) (observations queueing_receiver e.0 (serves_of ids))
    (subst (λ o. Unheld R (as_list queueing_receiver o)) (sym k.3) (f k.0 k.1 k.2 id k.4)) (unheld_serves R ids e.0 f)

serve_unheld : (R : ℕ) (n : QueueAnswer) (v w : Option Queued) (id : ℕ) → answers_serve n ≡ true → Unheld R (CallAnswer id Serve n v w ∷ [])
serve_unheld R (Q.Record bytes) v w id e = unheld_one R id Serve (Q.Record bytes) v w (λ d. refl)
serve_unheld R (Q.Straightly n) v w id e = let z : ◌≡◌ {A = ℕ} 0 1 = cc in absurd (omega arith)
serve_unheld R (Q.Queueing n) v w id e = let z : ◌≡◌ {A = ℕ} 0 1 = cc in absurd (omega arith)

unheld_count : (R : ℕ) (s : Connection queueing_receiver) → Unheld R (observations queueing_receiver s (CallItem CountCall ∷ []))
unfolding observations on_item as_list observed concerns
unheld_count R (Open T F) = tt
unheld_count R Closed = tt

op_unheld : (R : ℕ) (m : QueueMemory) (o : QueueOperation) → Fine m → TenOp R m o → Unheld R (observations queueing_receiver (loaded_queue m) (machine_items m o))
unfolding machine_items
op_unheld R m (D.StepOver piece) k h = subst (λ l. Unheld R l) (sym (step_observed m piece k.good.steady)) (unheld_bytes R (waiting_of m) _)
op_unheld R m (CallFor id a) k h = subst (λ l. Unheld R l) (sym (call_observed m id a k)) (unheld_one R id (asked a) (told_of (queue_called m id a).answer) _ _ (λ e. same_ten (queue_called m id a).answer ∙ h e))
op_unheld R m CountActive k h = unheld_count R (loaded_queue m)
op_unheld R m (TurnWith allowance buffer) k h = unheld_serves R (served_by m allowance buffer) (loaded_queue m) (serve_unheld R)

-- no call of R refused by 10
pub run_unheld : (R : ℕ) (os : List QueueOperation) (m : QueueMemory) → Fine m → PiecesAreBytes os → NeverTenFrom R m os → Unheld R (observations queueing_receiver (loaded_queue m) (machine_timeline m os))
unfolding machine_timeline observations observed
run_unheld R [] m k p h = tt
run_unheld R (o ∷ os) m k p h =
    let q = piece_ok o os p in
    let i = op_is m o k q.0 in
    let t = ten_here R m o os h in
    let x = observations queueing_receiver (loaded_queue m) (machine_items m o) in
    let y = observations queueing_receiver (loaded_queue (queue_after m o)) (machine_timeline (queue_after m o) os) in
    let e : observations queueing_receiver (loaded_queue m) (machine_items m o ++ machine_timeline (queue_after m o) os) ≡ x ++ y =
    observations_append queueing_receiver (loaded_queue m) (machine_items m o) (machine_timeline (queue_after m o) os) ∙ ap (λ s. x ++ observations queueing_receiver s (machine_timeline (queue_after m o) os)) (sym i.state) in
    subst (λ l. Unheld R l) (sym e) (unheld_both R x y (op_unheld R m o k t.0) (run_unheld R os (queue_after m o) (op_fine m o k q.0) q.1 t.1))

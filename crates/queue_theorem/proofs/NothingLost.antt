-- Nothing that R says is lost and nothing comes twice, on whole runs: what R's calls were asked to say that were not
-- refused, in its order, is what was written of R and then what still waits.
use Rattle.connection.specs.Slots.{Slot}
use Rattle.std.specs.Prelude.{◌≡◌, refl, List, [], ◌∷◌, ◌++◌, Bool, true, false, ℕ, eqb, if◌then◌else◌, Some, None}
use Rattle.std.proofs.Common.{ap, ap₂, sym, ◌∙◌, subst, arith, eqb-true}
use Rattle.std.proofs.Math.Option.{Option, none, some}
use Rattle.machine.specs.Slots.{Absent, lookup, contains_absent, contains_none}
use Rattle.machine.specs.Machine.{request_called, Connection, Open, Closed, CallAnswer, on_item, state_after, observations, as_list, observed, request_found, request_in, fresh}
use Rattle.connection.specs.Slots.{held_at, find, on_slot}
use Rattle.connection.specs.Run.{request_of}
use Rattle.connection.proofs.Runs.Loading.{loaded_slots, loaded_reading}
use Rattle.connection.proofs.Runs.LoadingLaws.{lookup_loaded}
use Rattle.connection.proofs.Runs.LinkingStep.{closed_loaded, open_loaded}
use Rattle.queue_machine.specs.Queued.{queued_call, Queued, Asked, Serve, QueueAnswer, EndsWithEnd, queueing_receiver, waiting_queue}
use Rattle.queue_machine.proofs.StraightSays.{last_of, unless_refused}
use Rattle.queue_machine.proofs.Said.{asks_to_say, refusal_as, told_by, told_refused, told_leaving, told_live}
use Rattle.queue_machine.proofs.Lift.{lift_slots, lift_reading, lift_lookup_lem, lift_connection}
use Rattle.queue_link.proofs.LoadedCalls as L
use Rattle.queue_link.proofs.LinkedStraight.{answer_in, asked, told_of}
use Rattle.queue_link.proofs.LinkedQueued.{decided_answer}
use Rattle.queue_link.proofs.LinkedFinish.{call_is}
use Rattle.queue.specs.Numbers.{last_at}
use Rattle.queue.specs.Run.{Answering, leaving_of, Asking, QueueOperation, CallFor, CountActive, TurnWith, queue_called, queue_after, PiecesAreBytes, QueueRun, beginning, ending}
use Rattle.queue.specs.NothingLost as N
use Rattle.wire.specs.Test.{by_test}
use Rattle.machine.specs.Timeline.{RequestCall, CallItem}
use Rattle.machine.proofs.RunLaws.{observations_append}
use Rattle.machine_queue.specs.Waiting.{is_leaving, core_of, waits_in}
use Rattle.connection.specs.Sizes.{SLOTS}
use Rattle.machine_queue.proofs.Accounts.{said_as, said_in, said_all}
use Rattle.connection.specs.Request.{Held}
use Rattle.connection.specs.Arguments.{ForRead, ForSay, ForEnd, ForFinish, RepliedWith, Wrote, FinishedWith}
use Rattle.queue_slot.specs.Atoms.{Atom, end_waits}
use Rattle.queue_machine.specs.Queued as Q
use Rattle.queue_link.proofs.Loaded.{waiting_of, loaded_queue}
use Rattle.queue_link.proofs.LoadedTurn.{serves_of}
use Rattle.queue_link.proofs.Observing.{served_seen}
use Rattle.queue_link.proofs.LinkedRuns.{served_by, machine_items, machine_timeline, Fine, op_is, op_fine, piece_ok, run_is, leaving_is, core_is, waits_are}
use Rattle.queue_link.proofs.LinkedWrites.{run_writes}
use Rattle.queue_link.proofs.LinkedShown.{step_observed, call_observed, no_serve}
use Rattle.queue_theorem.proofs.Theorem.{items, start_is, start_fine}
use Rattle.queue_theorem.proofs.RunAccounts.{said_of, said_append, said_one, step_says, count_says, waits_at, run_accounted}
use Rattle.queue.specs.Calls.{QueueMemory, conn_of}
use Rattle.queue.specs.Run as D

-- ---- what R said, as the accounts of the machine have it
-- A call of a request that is active and not leaving, if it is not refused by 10: what the rules for one request say of
-- it.
abbrev said_by : Option Held → Asked → QueueAnswer → List Atom
said_by none a n = []
said_by (some h) a n = if Q.is_ten n then [] else Q.said_in a h

-- R's request; none where it is leaving
unfoldable live_request : ℕ → QueueMemory → Option Held
live_request R m = if leaving_of R m then none else request_of R m.memory

-- what an operation says of R
unfoldable said_op : ℕ → QueueMemory → QueueOperation → List Atom
said_op R m (D.StepOver piece) = []
said_op R m (CallFor id a) = if eqb id R then said_by (live_request R m) (asked a) (told_of (queue_called m id a).answer) else []
said_op R m CountActive = []
said_op R m (TurnWith allowance buffer) = []

-- what operations say of R, in order
unfoldable said_from : ℕ → QueueMemory → List QueueOperation → List Atom
said_from R m [] = []
said_from R m (o ∷ os) = said_op R m o ++ said_from R (queue_after m o) os

-- ---- on the machine
-- the core of a request that is not leaving
abbrev live_core : Option Queued → Option Held
live_core v = if is_leaving queueing_receiver waiting_queue v then none else core_of queueing_receiver waiting_queue v

live_is : (R : ℕ) (m : QueueMemory) → live_core (request_in queueing_receiver R (loaded_queue m)) ≡ live_request R m
unfolding live_request
live_is R m = ap₂ (λ (b : Bool) (x : Option Held). if b then none else x) (leaving_is R m) (core_is R m)

said_call : (id : ℕ) (a : Asked) (n : QueueAnswer) (v w : Option Queued) → Q.is_serve_call a ≡ false → said_in queueing_receiver waiting_queue (CallAnswer id a n v w) ≡ said_by (live_core v) a n
unfolding said_in said_as is_leaving core_of
said_call id a n none w s = refl
said_call id a n (some r) w s = by_test (end_waits r.waiting) (λ e. rw (s, e)) (λ e. rw (s, e))

serve_says : (id : ℕ) (n : QueueAnswer) (v w : Option Queued) → said_in queueing_receiver waiting_queue (CallAnswer id Serve n v w) ≡ []
unfolding said_in said_as
serve_says id n none w = refl
serve_says id n (some r) w = refl

if_none : (b : Bool) (l : List Atom) → l ≡ [] → (if b then l else []) ≡ []
if_none true l e = e
if_none false l e = refl

serves_say : (R : ℕ) (ids : List ℕ) (s : Connection queueing_receiver) → said_of R (observations queueing_receiver s (serves_of ids)) ≡ []
unfolding observations serves_of observed said_all as_list
serves_say R [] s = refl
serves_say R (id ∷ ids) s =
    let e = on_item queueing_receiver s (CallItem (RequestCall id Serve)) in
    let k = served_seen s id in
    said_append R (as_list queueing_receiver e.1) (observations queueing_receiver e.0 (serves_of ids))
    ∙ ap₂ (λ x y. x ++ y) (ap (λ o. said_of R (as_list queueing_receiver o)) k.3 ∙ said_one R id Serve k.0 k.1 k.2 ∙ if_none (eqb id R) _ (serve_says id k.0 k.1 k.2)) (serves_say R ids e.0)

call_says : (R : ℕ) (m : QueueMemory) (id : ℕ) (a : Asking) → Fine m → said_op R m (CallFor id a) ≡ said_of R (observations queueing_receiver (loaded_queue m) (machine_items m (CallFor id a)))
unfolding said_op machine_items
call_says R m id a k =
    let n = told_of (queue_called m id a).answer in
    let v = request_in queueing_receiver id (loaded_queue m) in
    let w = request_in queueing_receiver id (loaded_queue (queue_called m id a).left) in
    let r : said_of R (observations queueing_receiver (loaded_queue m) (CallItem (RequestCall id (asked a)) ∷ [])) ≡ (if eqb id R then said_by (live_core v) (asked a) n else []) =
    ap (said_of R) (call_observed m id a k) ∙ said_one R id (asked a) n v w ∙ ap (λ l. if eqb id R then l else []) (said_call id (asked a) n v w (no_serve a)) in
    by_test (eqb id R)
    (λ e. let c : live_core v ≡ live_request R m = ap (λ j. live_core (request_in queueing_receiver j (loaded_queue m))) (eqb-true id R e) ∙ live_is R m in
    ap (λ x. if eqb id R then said_by x (asked a) n else []) (sym c) ∙ sym r)
    (λ e. rw e (sym (r ∙ rw e)))

op_says : (R : ℕ) (m : QueueMemory) (o : QueueOperation) → Fine m → said_op R m o ≡ said_of R (observations queueing_receiver (loaded_queue m) (machine_items m o))
unfolding said_op machine_items
op_says R m (D.StepOver piece) k = sym (ap (said_of R) (step_observed m piece k.good.steady) ∙ step_says R (waiting_of m) _)
op_says R m (CallFor id a) k = call_says R m id a k
op_says R m CountActive k = sym (count_says R (loaded_queue m))
op_says R m (TurnWith allowance buffer) k = sym (serves_say R (served_by m allowance buffer) (loaded_queue m))

run_says : (R : ℕ) (os : List QueueOperation) (m : QueueMemory) → Fine m → PiecesAreBytes os → said_from R m os ≡ said_of R (observations queueing_receiver (loaded_queue m) (machine_timeline m os))
unfolding said_from machine_timeline observations observed said_all
run_says R [] m k p = refl
run_says R (o ∷ os) m k p =
    let q = piece_ok o os p in
    let i = op_is m o k q.0 in
    let r = run_says R os (queue_after m o) (op_fine m o k q.0) q.1 in
    ap₂ (λ x y. x ++ y) (op_says R m o k) (r ∙ ap (λ s. said_of R (observations queueing_receiver s (machine_timeline (queue_after m o) os))) i.state)
    ∙ sym (said_append R (observations queueing_receiver (loaded_queue m) (machine_items m o)) (observations queueing_receiver (state_after queueing_receiver (loaded_queue m) (machine_items m o)) (machine_timeline (queue_after m o) os)))
    ∙ ap (said_of R) (sym (observations_append queueing_receiver (loaded_queue m) (machine_items m o) (machine_timeline (queue_after m o) os)))

-- ---- what R said, by the answers
-- the refusal and what is asked are the machine's
refusal_told : (n : Answering) → N.refusal_in n ≡ refusal_as (told_of n)
refusal_told (D.Straightly (RepliedWith r)) = refl
refusal_told (D.Straightly (Wrote n written buffer)) = refl
refusal_told (D.Straightly (FinishedWith n written closed buffer)) = refl
refusal_told (D.Queued n) = refl

last_told : (v : Option Held) (status : ℕ) → N.last_of v status ≡ last_of v status
last_told none status = refl
last_told (some h) status = refl

asks_told : (a : Asking) (v : Option Held) → N.asks_to_say a v ≡ asks_to_say (asked a) v
asks_told (D.Straight (ForRead q)) v = refl
asks_told (D.Straight (ForSay o content buffer)) v = refl
asks_told (D.Straight (ForEnd o buffer)) v = refl
asks_told (D.Straight (ForFinish status buffer)) v = last_told v status
asks_told (D.ToSay o content) v = refl
asks_told (D.ToEnd o) v = refl
asks_told (D.ToFinish status) v = last_told v status

-- the answer on the machine tells as much
as_told : (a : Asking) (n : Answering) (v : Option Held) → N.said_by a n v ≡ told_by (asked a) (told_of n) v
as_told a n v = ap₂ (λ k l. unless_refused k l) (refusal_told n) (asks_told a v)

-- the request of an id, and what is shown of it
request_when : (m : QueueMemory) (id : ℕ) (b : Bool) → (conn_of m).«open» ≡ b → request_of id m.memory ≡ (if b then on_slot (find (conn_of m).table id) (λ i. some (held_at (conn_of m).table m.memory.store i)) none else none)
unfolding request_of
request_when m id b o = ap (λ (c : Bool). if c then on_slot (find (conn_of m).table id) (λ i. some (held_at (conn_of m).table m.memory.store i)) none else none) o

request_at_lem : (m : QueueMemory) (id : ℕ) → (conn_of m).«open» ≡ true → (s : Slot) → find (conn_of m).table id ≡ s → request_of id m.memory ≡ on_slot s (λ i. some (held_at (conn_of m).table m.memory.store i)) none
request_at_lem m id o s f = request_when m id true o ∙ ap (λ (x : Slot). on_slot x (λ i. some (held_at (conn_of m).table m.memory.store i)) none) f

shown_when : (m : QueueMemory) (id : ℕ) (b : Bool) → (conn_of m).«open» ≡ b
    → live_request id m ≡ (if (if b then on_slot (find (conn_of m).table id) (λ i. last_at m.waits i) false else false) then none else request_of id m.memory)
unfolding live_request leaving_of
shown_when m id b o = ap (λ (c : Bool). if (if c then on_slot (find (conn_of m).table id) (λ i. last_at m.waits i) false else false) then none else request_of id m.memory) o

shown_at_lem : (m : QueueMemory) (id : ℕ) → (conn_of m).«open» ≡ true → (s : Slot) → find (conn_of m).table id ≡ s
    → live_request id m ≡ (if on_slot s (λ i. last_at m.waits i) false then none else on_slot s (λ i. some (held_at (conn_of m).table m.memory.store i)) none)
shown_at_lem m id o s f =
    shown_when m id true o ∙ ap (λ (x : Slot). if on_slot x (λ i. last_at m.waits i) false then none else request_of id m.memory) f
    ∙ ap (λ v. if on_slot s (λ i. last_at m.waits i) false then none else v) (request_at_lem m id o s f)

-- a call of an id, as the accounts have it
unfoldable Told : QueueMemory → ℕ → Asking → QueueAnswer → Type 0
Told m id a n = told_by (asked a) n (request_of id m.memory) ≡ said_by (live_request id m) (asked a) n

told_none : (m : QueueMemory) (id : ℕ) (a : Asking) (n : QueueAnswer) → request_of id m.memory ≡ none → live_request id m ≡ none → told_by (asked a) n none ≡ [] → Told m id a n
unfolding Told
told_none m id a n e d f = rw (e, d) f

told_some : (m : QueueMemory) (id : ℕ) (a : Asking) (r : Queued) → request_of id m.memory ≡ some r.held → live_request id m ≡ (if end_waits r.waiting then none else some r.held)
    → Told m id a (Q.outcome_answer (queued_call (asked a) r))
unfolding Told
told_some m id a r e d =
    by_test (end_waits r.waiting) (λ l. rw (e, d, l) (told_leaving (asked a) r l)) (λ l. rw (e, d, l) (told_live (asked a) r (no_serve a) l))

told_call : (m : QueueMemory) (k : Fine m) (id : ℕ) (a : Asking) → Told m id a (answer_in (on_item queueing_receiver (loaded_queue m) (CallItem (RequestCall id (asked a)))).1)
unfolding on_item request_called answer_in
told_call m k id a =
    by_test (conn_of m).«open» (λ o. go o (find (conn_of m).table id) refl)
    (λ o.
    let shut : loaded_queue m ≡ Closed = ap (lift_connection (waiting_of m)) (closed_loaded m.memory o) in
    subst (λ s. Told m id a (answer_in (on_item queueing_receiver s (CallItem (RequestCall id (asked a)))).1)) (sym shut)
    (told_none m id a (Q.refused_by 1 (asked a)) (closed_request o) (closed_shown o) (told_refused 1 (asked a) none refl)))
  where
    closed_request : (conn_of m).«open» ≡ false → request_of id m.memory ≡ none
    closed_request o = request_when m id false o

    closed_shown : (conn_of m).«open» ≡ false → live_request id m ≡ none
    closed_shown o = shown_when m id false o ∙ request_when m id false o

    go : (conn_of m).«open» ≡ true → (s : Slot) → find (conn_of m).table id ≡ s → Told m id a (answer_in (on_item queueing_receiver (loaded_queue m) (CallItem (RequestCall id (asked a)))).1)
    go o None f =
        let T = loaded_slots (conn_of m).table m.memory.store in
        let there : loaded_queue m ≡ Open (lift_slots (waiting_of m) T) (lift_reading (loaded_reading (conn_of m).frame m.memory.state.gathered)) = ap (lift_connection (waiting_of m)) (open_loaded m.memory o) in
        let e : lookup id (lift_slots (waiting_of m) T) ≡ Absent = lift_lookup_lem (waiting_of m) id T ∙ rw (lookup_loaded (conn_of m).table m.memory.store id, f) in
        subst (λ s. Told m id a (answer_in (on_item queueing_receiver s (CallItem (RequestCall id (asked a)))).1)) (sym there)
        (rw e (told_none m id a (Q.refused_by 3 (asked a)) (request_at_lem m id o None f) (shown_at_lem m id o None f) (told_refused 3 (asked a) none refl)))
    go o (Some i) f =
        let z = k.good.steady in
        let y = k.good.roomy in
        let r = L.mine m z y o id i f in
        let d = shown_at_lem m id o (Some i) f ∙ ap (λ b. if b then none else some r.held) (sym (L.leaving_is m z y o id i f)) in
        subst (λ n. Told m id a n) (sym (ap (λ e. answer_in e.1) (L.call_decided_lem m z y o id i f (asked a)) ∙ decided_answer (queued_call (asked a) r) i r id (asked a) _ _))
        (told_some m id a r (request_at_lem m id o (Some i) f) d)

-- what a call says, either way
call_told_lem : (R : ℕ) (m : QueueMemory) (id : ℕ) (a : Asking) → Fine m → N.said_in R m (CallFor id a) ≡ said_op R m (CallFor id a)
unfolding N.said_in said_op Told
call_told_lem R m id a k =
    let n = (queue_called m id a).answer in
    by_test (eqb id R)
    (λ e.
    let t : Told m id a (told_of n) = subst (λ x. Told m id a x) (sym (call_is m id a k.good k.ends).answer) (told_call m k id a) in
    let u : told_by (asked a) (told_of n) (request_of R m.memory) ≡ said_by (live_request R m) (asked a) (told_of n) =
    subst (λ j. told_by (asked a) (told_of n) (request_of j m.memory) ≡ said_by (live_request j m) (asked a) (told_of n)) (eqb-true id R e) t in
    rw e (as_told a n (request_of R m.memory) ∙ u))
    (λ e. rw e)

op_told : (R : ℕ) (m : QueueMemory) (o : QueueOperation) → Fine m → N.said_in R m o ≡ said_op R m o
unfolding N.said_in said_op
op_told R m (D.StepOver piece) k = refl
op_told R m (CallFor id a) k = call_told_lem R m id a k
op_told R m CountActive k = refl
op_told R m (TurnWith allowance buffer) k = refl

run_told : (R : ℕ) (os : List QueueOperation) (m : QueueMemory) → Fine m → PiecesAreBytes os → N.said_all R m os ≡ said_from R m os
unfolding N.said_all said_from
run_told R [] m k p = refl
run_told R (o ∷ os) m k p =
    let q = piece_ok o os p in
    ap₂ (λ x y. x ++ y) (op_told R m o k) (run_told R os (queue_after m o) (op_fine m o k q.0) q.1)

-- ---- the theorem
-- of a start nothing waits
start_waits : (R : ℕ) (r : QueueRun) → waits_at R (loaded_queue (beginning r)) ≡ []
unfolding fresh request_in request_found waits_in
start_waits R r = ap (waits_at R) (start_is r) ∙ ap (λ o. waits_in queueing_receiver waiting_queue (request_found queueing_receiver o)) (contains_absent queueing_receiver.clean (contains_none queueing_receiver.clean R SLOTS))

pub nothing_lost : N.NothingLost
nothing_lost R r o =
    let m = beginning r in
    let f = start_fine r in
    let z = start_waits R r in
    let e = (run_is r.operations m f r.pieces).state in
    let open-end : state_after queueing_receiver (loaded_queue m) (items r) ≡ Closed → ⊥ = λ d.
    let a = ap (lift_connection (waiting_of (ending r))) (open_loaded (ending r).memory o) in
    let z : ◌≡◌ {A = ℕ} 0 1 = cc (sym a ∙ e ∙ d) in omega arith in
    let k = run_accounted R r.operations m f r.pieces open-end (subst (λ l. EndsWithEnd l) (sym z) tt) in
    run_told R r.operations m f r.pieces
    ∙ run_says R r.operations m f r.pieces
    ∙ ap (λ l. l ++ said_of R (observations queueing_receiver (loaded_queue m) (items r))) (sym z)
    ∙ k.accounts
    ∙ ap₂ (λ x y. x ++ y) (sym (run_writes R r.operations m f r.pieces)) (ap (waits_at R) (sym e) ∙ waits_are R (ending r))

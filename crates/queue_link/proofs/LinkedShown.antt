-- What is shown of R in a run with a queue is what is heard of R on the machine.
use Rattle.std.specs.Prelude.{◌≡◌, refl, List, [], ◌∷◌, ◌++◌, map, Bool, true, false, ℕ, ◌<◌, take, eqb, if◌then◌else◌}
use Rattle.std.proofs.Common.{ap, ap₂, sym, ◌∙◌, subst, arith, eqb-true, ne_eqb}
use Rattle.std.proofs.Math.Option.{Option}
use Rattle.wire.specs.Test.{by_test}
use Rattle.machine.specs.Timeline.{RequestCall, CountCall, CallItem, byte_items}
use Rattle.machine.specs.Machine.{Connection, Open, Closed, Observation, RequestEvent, NoticeEvent, CloseEvent, CountAnswer, CallAnswer, on_item, state_after, observations, as_list, concerns, observed, request_in}
use Rattle.machine.proofs.RunLaws.{observations_append, observed_append}
use Rattle.machine_queue.proofs.Appends.{heard_all_append}
use Rattle.machine_queue.specs.Waiting.{is_leaving, core_of, Heard, HeardEvent, HeardAnswer, HeardLeaving, heard_at, heard_in, heard_all}
use Rattle.connection.specs.Bytewise.{Note, notes}
use Rattle.connection.specs.Step.{Stepped}
use Rattle.wire.proofs.Bytes.{AllBytes}
use Rattle.connection.specs.Arguments.{ForRead, ForSay, ForEnd, ForFinish, refused}
use Rattle.connection.specs.Run as Run
use Rattle.connection.specs.Run.{Memory, Observed, Answered, StepOver, id_of, step_of, seen_in, items_of}
use Rattle.connection.specs.Runs.Receiver.{receiver, QueryWith, UnknownType}
use Rattle.connection.proofs.Runs.Telling.{note_with_id, told_all, names_id, query_nobody}
use Rattle.connection.proofs.Runs.LinkingStep.{loaded_of, Linked, step_linked}
use Rattle.queue_machine.specs.Queued as Q
use Rattle.queue_machine.specs.Queued.{Queued, Asked, Serve, QueueAnswer, queueing_receiver, waiting_queue}
use Rattle.queue_machine.proofs.Lift.{Waiting}
use Rattle.queue_machine.proofs.LiftRuns.{lift_seen, lift_bytes}
use Rattle.queue_link.proofs.Loaded.{waiting_of, loaded_queue, QueueSteady, queue_step_is}
use Rattle.queue_link.proofs.LoadedTurn.{serves_of}
use Rattle.queue_link.proofs.LinkedStraight.{asked, told_of}
use Rattle.queue_link.proofs.LinkedFinish.{call_is}
use Rattle.queue_link.proofs.Observing.{call_seen, served_seen}
use Rattle.queue_link.proofs.LinkedBuffers.{buffer_lent, leaving_buffer}
use Rattle.queue.specs.Calls.{QueueMemory, queue_step}
use Rattle.queue.specs.Run as D
use Rattle.queue.specs.Run.{Asking, Answering, QueueOperation, CallFor, CountActive, TurnWith, queue_called, used_of, queue_after, leaving_of, buffer_left, Shown, ShownNote, ShownAnswer, ShownLeaving, note_id, notes_of, shown_in, shown_all, PiecesAreBytes}
use Rattle.queue_link.proofs.LinkedRuns.{leaving_is, core_is, served_by, machine_items, machine_timeline, Fine, PieceOk, op_is, op_fine, piece_ok}

-- ---- what is asked and answered, and back
abbrev pub asking_of : Asked → Asking
asking_of (Q.Straight a) = D.Straight a
asking_of (Q.QueueSay o content) = D.ToSay o content
asking_of (Q.QueueEnd o) = D.ToEnd o
asking_of (Q.QueueFinish status) = D.ToFinish status
asking_of Serve = D.ToFinish 0

pub asking_back : (a : Asking) → asking_of (asked a) ≡ a
asking_back (D.Straight a) = refl
asking_back (D.ToSay o content) = refl
asking_back (D.ToEnd o) = refl
asking_back (D.ToFinish status) = refl

-- back
abbrev pub answering_of : QueueAnswer → Answering
answering_of (Q.Straightly n) = D.Straightly n
answering_of (Q.Queueing n) = D.Queued n
answering_of (Q.Record bytes) = D.Queued 0

pub answering_back : (n : Answering) → answering_of (told_of n) ≡ n
answering_back (D.Straightly n) = refl
answering_back (D.Queued n) = refl

-- a call of the station is no serve
pub no_serve : (a : Asking) → Q.is_serve_call (asked a) ≡ false
no_serve (D.Straight a) = refl
no_serve (D.ToSay o content) = refl
no_serve (D.ToEnd o) = refl
no_serve (D.ToFinish status) = refl

-- ---- what is shown of R
abbrev pub shown_of : ℕ → Heard queueing_receiver waiting_queue → Shown
shown_of R (HeardEvent e) = ShownNote (note_with_id R e)
shown_of R (HeardAnswer a n v w) = ShownAnswer (asking_of a) (answering_of n) v w
shown_of R (HeardLeaving a) = ShownLeaving (asking_of a) (buffer_lent (asking_of a))

-- A call that is refused leaves the lent buffer as it was.
pub refused_buffer : (n : ℕ) (a : Asked) → buffer_left (answering_of (Q.refused_by n a)) ≡ buffer_lent (asking_of a)
unfolding Q.refused_by refused
refused_buffer n (Q.Straight (ForRead q)) = refl
refused_buffer n (Q.Straight (ForSay o content buffer)) = refl
refused_buffer n (Q.Straight (ForEnd o buffer)) = refl
refused_buffer n (Q.Straight (ForFinish status buffer)) = refl
refused_buffer n (Q.QueueSay o content) = refl
refused_buffer n (Q.QueueEnd o) = refl
refused_buffer n (Q.QueueFinish status) = refl
refused_buffer n Serve = refl

-- what is heard of R, as what is shown
abbrev pub heard_of : ℕ → List (Observation queueing_receiver) → List Shown
heard_of R os = map (shown_of R) (heard_all queueing_receiver waiting_queue (observed queueing_receiver R os))

-- of a step
unfoldable notes_in : ℕ → List Observed → List Shown
notes_in R [] = []
notes_in R (Run.Heard n ∷ l) = if eqb (note_id n) R then ShownNote n ∷ notes_in R l else notes_in R l
notes_in R (Answered id a n v w ∷ l) = notes_in R l

noted : (R : ℕ) (ns : List Note) → notes_of R ns ≡ notes_in R (map Run.Heard ns)
unfolding notes_of notes_in
noted R [] = refl
noted R (n ∷ ns) = ap (λ l. if eqb (note_id n) R then ShownNote n ∷ l else l) (noted R ns)

note_id_lem : (n : Note) → note_id n ≡ id_of (Run.Heard n)
note_id_lem (Note.Told e) = refl
note_id_lem (Note.Shown id stream b) = refl

told_shown : (R : ℕ) (f : Waiting) (os : List (Observation receiver)) → 0 < R → notes_in R (told_all os) ≡ heard_of R (lift_seen f os)
unfolding notes_in told_all lift_seen observed concerns heard_all heard_in as_list
told_shown R f [] h = refl
told_shown R f (RequestEvent id n ∷ os) h =
    let k : note_id (note_with_id id n) ≡ id = note_id_lem (note_with_id id n) ∙ names_id id n in
    let i = told_shown R f os h in
    by_test (eqb id R) (λ e. rw (k, e) (ap₂ (λ x l. ShownNote x ∷ l) (ap (λ j. note_with_id j n) (eqb-true id R e)) i)) (λ e. rw (k, e) i)
told_shown R f (NoticeEvent (QueryWith list) ∷ os) h = rw (query_nobody R list h) (told_shown R f os h)
told_shown R f (NoticeEvent (UnknownType kind) ∷ os) h = rw (ne_eqb 0 R (λ e. omega arith)) (told_shown R f os h)
told_shown R f (CloseEvent n ∷ os) h = rw (ne_eqb 0 R (λ e. omega arith)) (told_shown R f os h)
told_shown R f (CountAnswer T ∷ os) h = told_shown R f os h
told_shown R f (CallAnswer id a n v w ∷ os) h = told_shown R f os h

step_tells : (m : Memory) (piece : List ℕ) → Linked m (StepOver piece) → map Run.Heard (notes (step_of m piece).event (take (step_of m piece).used piece)) ≡ told_all (observations receiver (loaded_of m) (byte_items (take (step_of m piece).used piece)))
unfolding seen_in items_of
step_tells m piece k = k.tells

-- what the machine observes of a step
pub step_observed : (m : QueueMemory) (piece : List ℕ) → QueueSteady m → observations queueing_receiver (loaded_queue m) (byte_items (used_of m piece)) ≡ lift_seen (waiting_of m) (observations receiver (loaded_of m.memory) (byte_items (used_of m piece)))
step_observed m piece z = (lift_bytes (waiting_of m) (used_of m piece) (loaded_of m.memory) z.free).seen

pub step_notes : (m : QueueMemory) (piece : List ℕ) → QueueSteady m → AllBytes piece → map Run.Heard (notes (queue_step m piece).event (used_of m piece)) ≡ told_all (observations receiver (loaded_of m.memory) (byte_items (used_of m piece)))
step_notes m piece z all = subst (λ (s : Stepped). map Run.Heard (notes s.event (take s.used piece)) ≡ told_all (observations receiver (loaded_of m.memory) (byte_items (take s.used piece)))) (sym (queue_step_is m piece z)) (step_tells m.memory piece (step_linked m.memory piece z.steady all))

step_shown : (R : ℕ) (m : QueueMemory) (piece : List ℕ) → 0 < R → QueueSteady m → AllBytes piece → shown_in R m (D.StepOver piece) ≡ heard_of R (observations queueing_receiver (loaded_queue m) (machine_items m (D.StepOver piece)))
unfolding shown_in machine_items
step_shown R m piece h z all =
    noted R (notes (queue_step m piece).event (used_of m piece)) ∙ ap (notes_in R) (step_notes m piece z all) ∙ told_shown R (waiting_of m) (observations receiver (loaded_of m.memory) (byte_items (used_of m piece))) h
    ∙ ap (heard_of R) (sym (step_observed m piece z))

-- of a call
pub call_observed : (m : QueueMemory) (id : ℕ) (a : Asking) → Fine m
    → observations queueing_receiver (loaded_queue m) (CallItem (RequestCall id (asked a)) ∷ [])
    ≡ CallAnswer id (asked a) (told_of (queue_called m id a).answer) (request_in queueing_receiver id (loaded_queue m)) (request_in queueing_receiver id (loaded_queue (queue_called m id a).left)) ∷ []
unfolding observations as_list
call_observed m id a k =
    let c = call_is m id a k.good k.ends in
    let e = call_seen (loaded_queue m) id (asked a) k.ends in
    ap (λ o. as_list queueing_receiver o ++ []) e
    ∙ ap₂ (λ n w. CallAnswer id (asked a) n (request_in queueing_receiver id (loaded_queue m)) (request_in queueing_receiver id w) ∷ []) (sym c.answer) (sym c.state)

heard_one : (R id : ℕ) (a : Asked) (n : QueueAnswer) (v w : Option Queued) → Q.is_serve_call a ≡ false
    → heard_of R (CallAnswer id a n v w ∷ []) ≡ (if eqb id R then shown_of R (heard_at queueing_receiver waiting_queue (is_leaving queueing_receiver waiting_queue v) a n v w) ∷ [] else [])
unfolding observed concerns heard_all heard_in
heard_one R id a n v w s = by_test (eqb id R) (λ e. rw (e, s)) (λ e. rw e)

call_shown_lem : (R : ℕ) (m : QueueMemory) (id : ℕ) (a : Asking) → Fine m → shown_in R m (CallFor id a) ≡ heard_of R (observations queueing_receiver (loaded_queue m) (machine_items m (CallFor id a)))
unfolding shown_in machine_items heard_at
call_shown_lem R m id a k =
    by_test (eqb id R) own (λ e. rw e (sym (ap (heard_of R) (call_observed m id a k) ∙ heard_one R id (asked a) _ _ _ (no_serve a) ∙ rw e)))
  where
    left : QueueMemory
    left = (queue_called m id a).left

    n : Answering
    n = (queue_called m id a).answer

    both : (b : Bool) (v w : Option Queued) → (b ≡ true → buffer_left n ≡ buffer_lent a) → shown_of R (heard_at queueing_receiver waiting_queue b (asked a) (told_of n) v w)
        ≡ (if b then ShownLeaving a (buffer_left n) else ShownAnswer a n (core_of queueing_receiver waiting_queue v) (core_of queueing_receiver waiting_queue w))
    both true v w f = ap (λ x. ShownLeaving x (buffer_lent x)) (asking_back a) ∙ ap (ShownLeaving a) (sym (f refl))
    both false v w f = ap₂ (λ x y. ShownAnswer x y (core_of queueing_receiver waiting_queue v) (core_of queueing_receiver waiting_queue w)) (asking_back a) (answering_back n)

    shows : List Shown
    shows = (if leaving_of R m then ShownLeaving a (buffer_left n) else ShownAnswer a n (Run.request_of R m.memory) (Run.request_of R left.memory)) ∷ []

    own : eqb id R ≡ true → (if eqb id R then shows else []) ≡ heard_of R (observations queueing_receiver (loaded_queue m) (CallItem (RequestCall id (asked a)) ∷ []))
    own e =
        let i : id ≡ R = eqb-true id R e in
        let v = request_in queueing_receiver id (loaded_queue m) in
        let w = request_in queueing_receiver id (loaded_queue left) in
        let lv : is_leaving queueing_receiver waiting_queue v ≡ leaving_of R m = ap (λ j. is_leaving queueing_receiver waiting_queue (request_in queueing_receiver j (loaded_queue m))) i ∙ leaving_is R m in
        let cv : core_of queueing_receiver waiting_queue v ≡ Run.request_of R m.memory = ap (λ j. core_of queueing_receiver waiting_queue (request_in queueing_receiver j (loaded_queue m))) i ∙ core_is R m in
        let cw : core_of queueing_receiver waiting_queue w ≡ Run.request_of R left.memory = ap (λ j. core_of queueing_receiver waiting_queue (request_in queueing_receiver j (loaded_queue left))) i ∙ core_is R left in
        let back : is_leaving queueing_receiver waiting_queue v ≡ true → buffer_left n ≡ buffer_lent a = λ t. leaving_buffer m id a (ap (λ j. leaving_of j m) i ∙ sym lv ∙ t) in
        let r : heard_of R (observations queueing_receiver (loaded_queue m) (CallItem (RequestCall id (asked a)) ∷ [])) ≡ shows =
        ap (heard_of R) (call_observed m id a k) ∙ heard_one R id (asked a) (told_of n) v w (no_serve a) ∙ rw e
        (ap (λ x. x ∷ []) (both (is_leaving queueing_receiver waiting_queue v) v w back ∙ ap₂ (λ (b : Bool) x. if b then ShownLeaving a (buffer_left n) else x) lv (ap₂ (λ x y. ShownAnswer a n x y) cv cw))) in
        rw e (sym r)

-- of a turn: nothing
heard_append : (R : ℕ) (os ps : List (Observation queueing_receiver)) → heard_of R (os ++ ps) ≡ heard_of R os ++ heard_of R ps
heard_append R os ps = ap (λ l. map (shown_of R) (heard_all queueing_receiver waiting_queue l)) (observed_append queueing_receiver R os ps) ∙ go (observed queueing_receiver R os) (observed queueing_receiver R ps)
  where
    maps : (x y : List (Heard queueing_receiver waiting_queue)) → map (shown_of R) (x ++ y) ≡ map (shown_of R) x ++ map (shown_of R) y
    maps [] y = refl
    maps (a ∷ x) y = ap (λ l. shown_of R a ∷ l) (maps x y)

    go : (x y : List (Observation queueing_receiver)) → map (shown_of R) (heard_all queueing_receiver waiting_queue (x ++ y)) ≡ map (shown_of R) (heard_all queueing_receiver waiting_queue x) ++ map (shown_of R) (heard_all queueing_receiver waiting_queue y)
    go x y = ap (map (shown_of R)) (heard_all_append queueing_receiver waiting_queue x y) ∙ maps (heard_all queueing_receiver waiting_queue x) (heard_all queueing_receiver waiting_queue y)

serve_heard : (R id : ℕ) (n : QueueAnswer) (v w : Option Queued) → heard_of R (CallAnswer id Serve n v w ∷ []) ≡ []
unfolding observed concerns heard_all heard_in
serve_heard R id n v w = by_test (eqb id R) (λ e. rw e) (λ e. rw e)

serves_heard : (R : ℕ) (ids : List ℕ) (s : Connection queueing_receiver) → heard_of R (observations queueing_receiver s (serves_of ids)) ≡ []
unfolding observations serves_of observed heard_all as_list
serves_heard R [] s = refl
serves_heard R (id ∷ ids) s =
    let e = on_item queueing_receiver s (CallItem (RequestCall id Serve)) in
    let k = served_seen s id in
    heard_append R (as_list queueing_receiver e.1) (observations queueing_receiver e.0 (serves_of ids))
    ∙ ap₂ (λ x y. x ++ y) (ap (λ o. heard_of R (as_list queueing_receiver o)) k.3 ∙ serve_heard R id k.0 k.1 k.2) (serves_heard R ids e.0)

count_heard : (R : ℕ) (s : Connection queueing_receiver) → heard_of R (observations queueing_receiver s (CallItem CountCall ∷ [])) ≡ []
unfolding observations on_item as_list observed concerns heard_all
count_heard R (Open T F) = refl
count_heard R Closed = refl

-- What an operation shows of R is what is heard of R there.
pub op_shown : (R : ℕ) (m : QueueMemory) (o : QueueOperation) → 0 < R → Fine m → PieceOk o → shown_in R m o ≡ heard_of R (observations queueing_receiver (loaded_queue m) (machine_items m o))
unfolding shown_in machine_items
op_shown R m (D.StepOver piece) h k p = step_shown R m piece h k.good.steady p
op_shown R m (CallFor id a) h k p = call_shown_lem R m id a k
op_shown R m CountActive h k p = sym (count_heard R (loaded_queue m))
op_shown R m (TurnWith allowance buffer) h k p = sym (serves_heard R (served_by m allowance buffer) (loaded_queue m))

-- What is shown of R in a run is what is heard of R in the machine's.
pub run_shown : (R : ℕ) (os : List QueueOperation) (m : QueueMemory) → 0 < R → Fine m → PiecesAreBytes os → shown_all R m os ≡ heard_of R (observations queueing_receiver (loaded_queue m) (machine_timeline m os))
unfolding shown_all machine_timeline observations observed heard_all
run_shown R [] m h k p = refl
run_shown R (o ∷ os) m h k p =
    let q = piece_ok o os p in
    let i = op_is m o k q.0 in
    let r = run_shown R os (queue_after m o) h (op_fine m o k q.0) q.1 in
    ap₂ (λ x y. x ++ y) (op_shown R m o h k q.0) (r ∙ ap (λ s. heard_of R (observations queueing_receiver s (machine_timeline (queue_after m o) os))) i.state)
    ∙ sym (heard_append R (observations queueing_receiver (loaded_queue m) (machine_items m o)) (observations queueing_receiver (state_after queueing_receiver (loaded_queue m) (machine_items m o)) (machine_timeline (queue_after m o) os)))
    ∙ ap (heard_of R) (sym (observations_append queueing_receiver (loaded_queue m) (machine_items m o) (machine_timeline (queue_after m o) os)))

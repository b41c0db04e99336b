-- Straight calls on the whole state are the machine's: refused because of what waits, or as before.
use Rattle.std.specs.Prelude.{◌≡◌, refl, List, [], ◌∷◌, ◌++◌, true, ℕ, length, Some}
use Rattle.std.proofs.Math.Path.{ap, sym, subst}
use Rattle.std.proofs.Common.{ap₂, ◌∙◌}
use Rattle.std.proofs.Math.Option.{Option, none, some}
use Rattle.machine.specs.Slots.{Vacant, HeldBy}
use Rattle.machine.specs.Timeline.{RequestCall, CallItem}
use Rattle.machine.specs.Machine.{Slots, Reading, Open, CallOutcome, Stays, Retires, Leaves, Closes, Observation, RequestEvent, NoticeEvent, CloseEvent, CountAnswer, CallAnswer, call_decided, request_called, on_item, state_after, observations, as_list}
use Rattle.connection.specs.Request.{Held}
use Rattle.connection.specs.Slots.{find}
use Rattle.connection.specs.Arguments.{ValueIs, Argument, Answer, RepliedWith}
use Rattle.connection.specs.Run.{Memory, Observed, Heard, Answered, CallFor, called, memory_after, seen_in, items_of}
use Rattle.connection.specs.Runs.Receiver.{receiver, receive_call}
use Rattle.connection.proofs.Runs.LoadingLaws.{lookup_loaded}
use Rattle.connection.proofs.Runs.Telling.{told_all}
use Rattle.connection.proofs.Runs.LinkingStep.{loaded_of, open_loaded, Steady, Linked}
use Rattle.connection.proofs.Runs.LinkingCalls.{call_linked}
use Rattle.queue_slot.specs.Atoms.{Atom}
use Rattle.queue_machine.specs.Queued as Q
use Rattle.queue_machine.specs.Queued.{Queued, Asked, QueueAnswer, queued_call, queueing_receiver, lifted, straight_call}
use Rattle.queue_machine.proofs.QueuedLaws.{Clear, clear_leaves}
use Rattle.queue_machine.proofs.Lift.{Waiting, lift_slots, lift_reading, lift_connection, lift_set, NothingFree}
use Rattle.queue_machine.proofs.LiftRuns.{FreeIn, free_set}
use Rattle.queue.specs.Numbers.{WAITS}
use Rattle.queue.proofs.Areas.{Roomy}
use Rattle.queue_link.proofs.Loaded.{waiting_of, loaded_queue, QueueSteady, kept_same, kept_either, with_memory_lem, steady_with}
use Rattle.queue_link.proofs.LoadedCalls as L
use Rattle.queue_link.proofs.LoadedPump.{lift_without}
use Rattle.queue_link.proofs.LoadedTurn.{Good, free_changed}
use Rattle.queue.specs.Calls.{QueueMemory, beside, conn_of}
use Rattle.queue.specs.Run as D
use Rattle.queue.specs.Run.{Asking, Answering, QueueResult, queue_called, with_memory}

-- ---- what is asked and answered, on the machine
abbrev pub asked : Asking → Asked
asked (D.Straight a) = Q.Straight a
asked (D.ToSay o content) = Q.QueueSay o content
asked (D.ToEnd o) = Q.QueueEnd o
asked (D.ToFinish status) = Q.QueueFinish status

-- the answer, on the machine
abbrev pub told_of : Answering → QueueAnswer
told_of (D.Straightly n) = Q.Straightly n
told_of (D.Queued n) = Q.Queueing n

-- the answer in what is observed of a call
unfoldable pub answer_in : Option (Observation queueing_receiver) → QueueAnswer
answer_in none = Q.Record []
answer_in (some (RequestEvent id e)) = Q.Record []
answer_in (some (NoticeEvent w)) = Q.Record []
answer_in (some (CloseEvent n)) = Q.Record []
answer_in (some (CountAnswer n)) = Q.Record []
answer_in (some (CallAnswer id a n v w)) = n

-- A call is the machine's: the state behind it and the answer; and it keeps what every state fulfils.
pub record CallIs (m : QueueMemory) (id : ℕ) (a : Asking) : Type 0 where
  pub state : loaded_queue (queue_called m id a).left ≡ (on_item queueing_receiver (loaded_queue m) (CallItem (RequestCall id (asked a)))).0
  pub answer : told_of (queue_called m id a).answer ≡ answer_in (on_item queueing_receiver (loaded_queue m) (CallItem (RequestCall id (asked a)))).1
  pub good : Good (queue_called m id a).left

-- ---- the same memory
pub same_with : (m : QueueMemory) → with_memory m m.memory ≡ m
same_with m = ap (λ w. beside m.memory w m.marks m.queue) (kept_same (conn_of m).«open» m.waits)

-- the sizes stay
pub roomy_with : (m : QueueMemory) (n : Memory) → Roomy m → Roomy (with_memory m n)
roomy_with m n y = record { waits = kept_either (λ w. length w ≡ WAITS) (conn_of m).«open» n.state.conn.«open» m.waits y.waits refl; queue = y.queue; marks = y.marks }

-- ---- a call that the request decides as before
lift_decided : (f : Waiting) (o : CallOutcome Held Answer) (i : ℕ) (h : Held) (q : Queued) (id : ℕ) (a : Argument) (b : Asked) (T : Slots receiver) (F : Reading receiver)
    → lift_connection f (call_decided receiver o i h id a T F).0 ≡ (call_decided queueing_receiver (lifted o (f i)) i q id b (lift_slots f T) (lift_reading F)).0
unfolding call_decided
lift_decided f (Stays r n) i h q id a b T F = ap (λ S. Open S (lift_reading F)) (lift_set f T i (HeldBy id r))
lift_decided f (Retires r n) i h q id a b T F = ap₂ (λ S G. Open S G) (lift_set f T i (HeldBy id r)) (lift_without i F)
lift_decided f (Leaves n) i h q id a b T F = ap₂ (λ S G. Open S G) (lift_set f T i (Vacant receiver.clean)) (lift_without i F)
lift_decided f (Closes n) i h q id a b T F = refl

free_decided : (f : Waiting) (o : CallOutcome Held Answer) (i : ℕ) (h : Held) (id : ℕ) (a : Argument) (T : Slots receiver) (F : Reading receiver) → Clear o (f i) → NothingFree f T
    → FreeIn f (call_decided receiver o i h id a T F).0
unfolding call_decided
free_decided f (Stays r n) i h id a T F c z = free_set i id r z
free_decided f (Retires r n) i h id a T F c z = free_set i id r z
free_decided f (Leaves n) i h id a T F c z = free_changed f i (Vacant receiver.clean) (λ j l d. refl) (clear_leaves n (f i) c) z
free_decided f (Closes n) i h id a T F c z = tt

-- the answer of a call without a queue
abbrev first_answer : Answer → List Observed → Answer
first_answer d [] = d
first_answer d (Heard n ∷ l) = d
first_answer d (Answered id a n v w ∷ l) = n

decided_answer : (o : CallOutcome Held Answer) (i : ℕ) (h : Held) (id : ℕ) (a : Argument) (T : Slots receiver) (F : Reading receiver) (d : Answer)
    → first_answer d (told_all (as_list receiver (call_decided receiver o i h id a T F).1 ++ [])) ≡ Q.answer_of o
unfolding call_decided as_list told_all
decided_answer (Stays r n) i h id a T F d = refl
decided_answer (Retires r n) i h id a T F d = refl
decided_answer (Leaves n) i h id a T F d = refl
decided_answer (Closes n) i h id a T F d = refl

lifted_answer : (o : CallOutcome Held Answer) (l : List Atom) (i : ℕ) (q : Queued) (id : ℕ) (b : Asked) (T : Slots queueing_receiver) (F : Reading queueing_receiver)
    → answer_in (call_decided queueing_receiver (lifted o l) i q id b T F).1 ≡ Q.Straightly (Q.answer_of o)
unfolding call_decided answer_in
lifted_answer (Stays r n) l i q id b T F = refl
lifted_answer (Retires r n) l i q id b T F = refl
lifted_answer (Leaves n) l i q id b T F = refl
lifted_answer (Closes n) l i q id b T F = refl

linked_left : (m : Memory) (id : ℕ) (a : Argument) → Linked m (CallFor id a) → loaded_of (called m id a).memory ≡ (on_item receiver (loaded_of m) (CallItem (RequestCall id a))).0
unfolding memory_after items_of state_after
linked_left m id a k = k.state

linked_tells : (m : Memory) (id : ℕ) (a : Argument) (d : Answer) → Linked m (CallFor id a)
    → (called m id a).answer ≡ first_answer d (told_all (as_list receiver (on_item receiver (loaded_of m) (CallItem (RequestCall id a))).1 ++ []))
unfolding seen_in items_of observations
linked_tells m id a d k = ap (first_answer d) k.tells

linked_kept : (m : Memory) (id : ℕ) (a : Argument) → Linked m (CallFor id a) → Steady (called m id a).memory
unfolding memory_after
linked_kept m id a k = k.steady

-- what a call leaves that is decided as before, and one that is refused
abbrev pub as_before : QueueMemory → ℕ → Argument → QueueResult
as_before m id a = record { left = with_memory m (called m.memory id a).memory; answer = D.Straightly (called m.memory id a).answer }

abbrev pub as_is : QueueMemory → Answer → QueueResult
as_is m n = record { left = m; answer = D.Straightly n }

module _ (m : QueueMemory) (g : Good m) (is_open : (conn_of m).«open» ≡ true) (id i : ℕ) (found : find (conn_of m).table id ≡ Some i) where
  abbrev z : QueueSteady m
  z = g.steady

  abbrev y : Roomy m
  y = g.roomy

  abbrev own : Held
  own = L.own m z y is_open id i found

  abbrev mine : Queued
  mine = L.mine m z y is_open id i found

  abbrev slots : Slots receiver
  slots = L.slots m z y is_open id i found

  abbrev reading : Reading receiver
  reading = L.reading m z y is_open id i found

  plain_decided : (a : Argument) → on_item receiver (loaded_of m.memory) (CallItem (RequestCall id a)) ≡ call_decided receiver (receive_call a own) i own id a slots reading
  unfolding on_item request_called
  plain_decided a = rw (open_loaded m.memory is_open, lookup_loaded (conn_of m).table m.memory.store id, found)

  pub before_is : (a : Argument) → queue_called m id (D.Straight a) ≡ as_before m id a → straight_call a mine ≡ lifted (receive_call a own) (waiting_of m i) → Clear (receive_call a own) (waiting_of m i) → CallIs m id (D.Straight a)
  unfolding queued_call
  before_is a c e clear =
      let k = call_linked m.memory id a z.steady in
      let n = (called m.memory id a).memory in
      let o = receive_call a own in
      let f = waiting_of m in
      let st : loaded_of n ≡ (call_decided receiver o i own id a slots reading).0 = linked_left m.memory id a k ∙ ap (λ e. e.0) (plain_decided a) in
      let ans : (called m.memory id a).answer ≡ Q.answer_of o =
      linked_tells m.memory id a (RepliedWith (ValueIs [])) k ∙ ap (λ e. first_answer (RepliedWith (ValueIs [])) (told_all (as_list receiver e.1 ++ []))) (plain_decided a) ∙ decided_answer o i own id a slots reading (RepliedWith (ValueIs [])) in
      let d : on_item queueing_receiver (loaded_queue m) (CallItem (RequestCall id (Q.Straight a))) ≡ call_decided queueing_receiver (lifted o (f i)) i mine id (Q.Straight a) (lift_slots f slots) (lift_reading reading) =
      L.call_decided_lem m z y is_open id i found (Q.Straight a) ∙ ap (λ x. call_decided queueing_receiver x i mine id (Q.Straight a) (lift_slots f slots) (lift_reading reading)) e in
      record {
        state = ap (λ (r : QueueResult). loaded_queue r.left) c ∙ with_memory_lem m n ∙ ap (lift_connection f) st ∙ lift_decided f o i own mine id a (Q.Straight a) slots reading ∙ sym (ap (λ e. e.0) d);
        answer = ap (λ (r : QueueResult). told_of r.answer) c ∙ ap Q.Straightly ans ∙ sym (lifted_answer o (f i) i mine id (Q.Straight a) (lift_slots f slots) (lift_reading reading)) ∙ sym (ap (λ e. answer_in e.1) d);
        good = subst (λ (r : QueueResult). Good r.left) (sym c)
            (record {
              steady = steady_with m n z (linked_kept m.memory id a k) (subst (λ s. FreeIn f s) (sym st) (free_decided f o i own id a slots reading clear (rw (open_loaded m.memory is_open) at z.free)));
              roomy = roomy_with m n y;
            });
      }

  -- a call that changes nothing
  pub stays_is : (a : Asking) (n : Answering) → queue_called m id a ≡ record { left = m; answer = n } → queued_call (asked a) mine ≡ Stays mine (told_of n) → CallIs m id a
  unfolding call_decided answer_in
  stays_is a n c e =
      let f = waiting_of m in
      let d : on_item queueing_receiver (loaded_queue m) (CallItem (RequestCall id (asked a))) ≡ call_decided queueing_receiver (Stays mine (told_of n)) i mine id (asked a) (lift_slots f slots) (lift_reading reading) =
      L.call_decided_lem m z y is_open id i found (asked a) ∙ ap (λ x. call_decided queueing_receiver x i mine id (asked a) (lift_slots f slots) (lift_reading reading)) e in
      record {
        state = ap (λ (r : QueueResult). loaded_queue r.left) c ∙ L.kept_loaded m z y is_open id i found ∙ sym (ap (λ e. e.0) d);
        answer = ap (λ (r : QueueResult). told_of r.answer) c ∙ sym (ap (λ e. answer_in e.1) d);
        good = subst (λ (r : QueueResult). Good r.left) (sym c) g;
      }

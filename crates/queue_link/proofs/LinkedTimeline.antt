-- The machine's timeline without its serves is the run's; purged or not.
use Rattle.std.specs.Prelude.{◌≡◌, refl, List, [], ◌∷◌, ◌++◌, map, Bool, true, false, ℕ, eqb, if◌then◌else◌}
use Rattle.std.proofs.Common.{ap, ap₂, sym, ◌∙◌}
use Rattle.wire.specs.Test.{by_test}
use Rattle.machine.specs.Timeline.{RequestCall, CountCall, Item, ByteItem, CallItem, byte_items, item_bytes, Scan, ScanHeader, scan_next, is_own, is_own_call, purge_from, purge}
use Rattle.machine_queue.specs.Waiting.{unserved}
use Rattle.queue_machine.specs.Queued as Q
use Rattle.queue_machine.specs.Queued.{Asked, queueing_receiver, waiting_queue}
use Rattle.queue_link.proofs.LoadedTurn.{serves_of}
use Rattle.queue_link.proofs.LinkedStraight.{asked}
use Rattle.queue_link.proofs.LinkedRuns.{served_by, machine_items, machine_timeline}
use Rattle.queue_link.proofs.LinkedShown.{asking_of, asking_back, no_serve}
use Rattle.queue.specs.Calls.{QueueMemory}
use Rattle.queue.specs.Run as D
use Rattle.queue.specs.Run.{Asking, QueueOperation, CallFor, CountActive, TurnWith, queue_after, used_of, queue_items, queue_timeline}

-- an item, on the machine
abbrev pub asked_item : Item Asking → Item Asked
asked_item (ByteItem b) = ByteItem b
asked_item (CallItem (RequestCall id a)) = CallItem (RequestCall id (asked a))
asked_item (CallItem CountCall) = CallItem CountCall

-- items, one after another
abbrev pub asked_items : List (Item Asking) → List (Item Asked)
asked_items t = map asked_item t

abbrev asking_item : Item Asked → Item Asking
asking_item (ByteItem b) = ByteItem b
asking_item (CallItem (RequestCall id a)) = CallItem (RequestCall id (asking_of a))
asking_item (CallItem CountCall) = CallItem CountCall

item_back_lem : (x : Item Asking) → asking_item (asked_item x) ≡ x
item_back_lem (ByteItem b) = refl
item_back_lem (CallItem (RequestCall id a)) = ap (λ a. CallItem (RequestCall id a)) (asking_back a)
item_back_lem (CallItem CountCall) = refl

items_back : (t : List (Item Asking)) → map asking_item (asked_items t) ≡ t
items_back [] = refl
items_back (x ∷ t) = ap₂ (λ a b. a ∷ b) (item_back_lem x) (items_back t)

-- nothing is lost by that
pub asked_same : (t u : List (Item Asking)) → asked_items t ≡ asked_items u → t ≡ u
asked_same t u e = sym (items_back t) ∙ ap (map asking_item) e ∙ items_back u

pub asked_append : (t u : List (Item Asking)) → asked_items (t ++ u) ≡ asked_items t ++ asked_items u
asked_append [] u = refl
asked_append (x ∷ t) u = ap (λ l. asked_item x ∷ l) (asked_append t u)

-- ---- without serves
bytes_unserved : (x : List ℕ) (t : List (Item Asked)) → unserved queueing_receiver waiting_queue (byte_items x ++ t) ≡ asked_items (byte_items x) ++ unserved queueing_receiver waiting_queue t
unfolding unserved byte_items
bytes_unserved [] t = refl
bytes_unserved (b ∷ x) t = ap (λ l. ByteItem b ∷ l) (bytes_unserved x t)

serves_unserved : (ids : List ℕ) (t : List (Item Asked)) → unserved queueing_receiver waiting_queue (serves_of ids ++ t) ≡ unserved queueing_receiver waiting_queue t
unfolding unserved serves_of
serves_unserved [] t = refl
serves_unserved (id ∷ ids) t = serves_unserved ids t

op_unserved : (m : QueueMemory) (o : QueueOperation) (t : List (Item Asked)) → unserved queueing_receiver waiting_queue (machine_items m o ++ t) ≡ asked_items (queue_items m o) ++ unserved queueing_receiver waiting_queue t
unfolding machine_items queue_items unserved
op_unserved m (D.StepOver piece) t = bytes_unserved (used_of m piece) t
op_unserved m (CallFor id a) t = rw (no_serve a)
op_unserved m CountActive t = refl
op_unserved m (TurnWith allowance buffer) t = serves_unserved (served_by m allowance buffer) t

-- Without its serves the timeline is that of the run.
pub run_unserved : (os : List QueueOperation) (m : QueueMemory) → unserved queueing_receiver waiting_queue (machine_timeline m os) ≡ asked_items (queue_timeline m os)
unfolding machine_timeline queue_timeline unserved
run_unserved [] m = refl
run_unserved (o ∷ os) m =
    op_unserved m o (machine_timeline (queue_after m o) os) ∙ ap (λ l. asked_items (queue_items m o) ++ l) (run_unserved os (queue_after m o)) ∙ sym (asked_append (queue_items m o) (queue_timeline (queue_after m o) os))

-- ---- the bytes
unserved_bytes : (t : List (Item Asked)) → item_bytes (unserved queueing_receiver waiting_queue t) ≡ item_bytes t
unfolding unserved item_bytes
unserved_bytes [] = refl
unserved_bytes (ByteItem b ∷ t) = ap (λ l. b ∷ l) (unserved_bytes t)
unserved_bytes (CallItem CountCall ∷ t) = unserved_bytes t
unserved_bytes (CallItem (RequestCall id a) ∷ t) = go (Q.is_serve_call a) (unserved_bytes t)
  where
    go : (b : Bool) → item_bytes (unserved queueing_receiver waiting_queue t) ≡ item_bytes t → item_bytes (if b then unserved queueing_receiver waiting_queue t else CallItem (RequestCall id a) ∷ unserved queueing_receiver waiting_queue t) ≡ item_bytes t
    go true e = e
    go false e = e

asked_bytes_lem : (t : List (Item Asking)) → item_bytes (asked_items t) ≡ item_bytes t
unfolding item_bytes
asked_bytes_lem [] = refl
asked_bytes_lem (ByteItem b ∷ t) = ap (λ l. b ∷ l) (asked_bytes_lem t)
asked_bytes_lem (CallItem (RequestCall id a) ∷ t) = asked_bytes_lem t
asked_bytes_lem (CallItem CountCall ∷ t) = asked_bytes_lem t

-- its bytes
pub run_bytes : (os : List QueueOperation) (m : QueueMemory) → item_bytes (machine_timeline m os) ≡ item_bytes (queue_timeline m os)
run_bytes os m = sym (unserved_bytes (machine_timeline m os)) ∙ ap item_bytes (run_unserved os m) ∙ asked_bytes_lem (queue_timeline m os)

-- ---- purged
unserved_purged : (R : ℕ) (k : Scan) (t : List (Item Asked)) → unserved queueing_receiver waiting_queue (purge_from R k t) ≡ purge_from R k (unserved queueing_receiver waiting_queue t)
unfolding unserved purge_from is_own_call
unserved_purged R k [] = refl
unserved_purged R k (ByteItem b ∷ t) =
    let e = unserved_bytes t in
    let i = unserved_purged R (scan_next R k b) t in
    rw e (by_test (is_own R k (b ∷ item_bytes t)) (λ d. rw d (ap (λ l. ByteItem b ∷ l) i)) (λ d. rw d i))
unserved_purged R k (CallItem CountCall ∷ t) = unserved_purged R k t
unserved_purged R k (CallItem (RequestCall id a) ∷ t) =
    let i = unserved_purged R k t in
    by_test (Q.is_serve_call a) (λ s. by_test (eqb id R) (λ e. rw (e, s) i) (λ e. rw (e, s) i)) (λ s. by_test (eqb id R) (λ e. rw (e, s) (rw e (ap (λ l. CallItem (RequestCall id a) ∷ l) i))) (λ e. rw (e, s) (rw e i)))

asked_purged : (R : ℕ) (k : Scan) (t : List (Item Asking)) → purge_from R k (asked_items t) ≡ asked_items (purge_from R k t)
unfolding purge_from is_own_call
asked_purged R k [] = refl
asked_purged R k (ByteItem b ∷ t) =
    let e = asked_bytes_lem t in
    let i = asked_purged R (scan_next R k b) t in
    rw e (by_test (is_own R k (b ∷ item_bytes t)) (λ d. rw d (ap (λ l. ByteItem b ∷ l) i)) (λ d. rw d i))
asked_purged R k (CallItem CountCall ∷ t) = asked_purged R k t
asked_purged R k (CallItem (RequestCall id a) ∷ t) =
    let i = asked_purged R k t in
    by_test (eqb id R) (λ e. rw e (ap (λ l. CallItem (RequestCall id (asked a)) ∷ l) i)) (λ e. rw e i)

-- also where what is not of R is struck out
pub run_purged : (R : ℕ) (os : List QueueOperation) (m : QueueMemory) → unserved queueing_receiver waiting_queue (purge R (machine_timeline m os)) ≡ asked_items (purge R (queue_timeline m os))
run_purged R os m = unserved_purged R (ScanHeader []) (machine_timeline m os) ∙ ap (purge_from R (ScanHeader [])) (run_unserved os m) ∙ asked_purged R (ScanHeader []) (queue_timeline m os)

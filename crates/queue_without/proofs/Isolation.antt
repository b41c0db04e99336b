-- Isolation without a queue is the case of isolation with a queue in which nothing is queued.
--
-- Two runs that meet what isolation without a queue asks meet, as runs with a queue that is not used, what isolation
-- with a queue asks; and what that concludes of them is what isolation without a queue concludes. So it is proved a
-- second time, as an instance. And any shuffle of requests without a queue speaks of runs by the calls with a queue in
-- which nothing is queued and no turn is made.
use Rattle.std.specs.Prelude.{◌≡◌, refl, ◌⊎◌, true, false, ℕ, ◌<◌, eqb}
use Rattle.std.proofs.Common.{ap, ap₂, sym, ◌∙◌, subst, inl, inr, arith, eqb-true}
use mathlib.Core.List.{List, [], ◌∷◌, ◌++◌, map, map-append, Memᴰ}
use Rattle.wire.specs.Test.{by_test, ◌=?◌}
use Rattle.record.specs.Names.{OVERLOADED}
use Rattle.record.specs.Split.{split}
use Rattle.machine.specs.Timeline.{RequestCall, CountCall, Item, ByteItem, CallItem, item_bytes, Scan, ScanHeader, scan_next, is_own, is_own_call, purge_from, purge}
use Rattle.connection.specs.Event.{Event}
use Rattle.connection.specs.Bytewise.{Note}
use Rattle.connection.specs.Arguments.{WalkOf, ValueIs, Argument, ForRead, Answer, RepliedWith}
use Rattle.connection.specs.Run as Base
use Rattle.connection.specs.Run.{Memory, Operation, Observed, Heard, Answered, memory_after, request_of, seen_of, WholeRun}
use Rattle.connection.specs.Isolation as Without
use Rattle.connection.proofs.Runs.Shuffled.{shuffle}
use Rattle.examples.proofs.RunTests.{heard_in}
use Rattle.queue.specs.Calls.{QueueMemory, conn_of}
use Rattle.queue.specs.Run as D
use Rattle.queue.specs.Run.{Asking, Straight, QueueOperation, Answering, Straightly, Shown, ShownNote, ShownAnswer, ShownLeaving, QueueRun}
use Rattle.queue.specs.Isolation as With
use Rattle.queue_theorem.proofs.Theorem
use Rattle.queue_runs.specs.Premises.{Quiet, is_well, scan_after, goes_well, among_others, on_its_own}
use Rattle.queue_runs.proofs.Premises.{settled, settled_alone}
use Rattle.queue_without.proofs.AnyCutting.{AnyRun, cutting_from}
use Rattle.queue_without.specs.Operations.{plainly, idle, plain_item, plain_shown, zero_queue, without_queue}
use Rattle.queue_without.proofs.Operations.{never_ten, call_same, after_same}
use Rattle.queue_without.proofs.WholeRuns.{NothingQueued, plain_part, PlainRun, SameRun, waits_none, leaving_none, through, without_plain, without_same, same_run, unqueued_plain, unqueued_same}

-- ---- nothing is lost between the two
-- the arguments of a straight call
abbrev argument_of : Asking → Argument
argument_of (Straight a) = a
argument_of (D.ToSay o content) = ForRead WalkOf
argument_of (D.ToEnd o) = ForRead WalkOf
argument_of (D.ToFinish status) = ForRead WalkOf

-- its answer
abbrev answer_of : Answering → Answer
answer_of (Straightly n) = n
answer_of (D.Queued n) = RepliedWith (ValueIs [])

-- an item of a timeline, back without a queue
abbrev item_back : Item Asking → Item Argument
item_back (ByteItem b) = ByteItem b
item_back (CallItem (RequestCall id a)) = CallItem (RequestCall id (argument_of a))
item_back (CallItem CountCall) = CallItem CountCall

-- what is shown of R, back without a queue
abbrev shown_back : ℕ → Shown → Observed
shown_back R (ShownNote n) = Heard n
shown_back R (ShownAnswer a n before after) = Answered R (argument_of a) (answer_of n) before after
shown_back R (ShownLeaving a buffer) = Heard (Note.Told Event.None)

items_back : (t : List (Item Argument)) → map item_back (map plain_item t) ≡ t
items_back [] = refl
items_back (ByteItem b ∷ t) = ap (λ l. ByteItem b ∷ l) (items_back t)
items_back (CallItem (RequestCall id a) ∷ t) = ap (λ l. CallItem (RequestCall id a) ∷ l) (items_back t)
items_back (CallItem CountCall ∷ t) = ap (λ l. CallItem CountCall ∷ l) (items_back t)

-- Timelines without a queue that are the same with one are the same.
pub items_apart : (t u : List (Item Argument)) → map plain_item t ≡ map plain_item u → t ≡ u
items_apart t u e = sym (items_back t) ∙ ap (map item_back) e ∙ items_back u

seen_back : (R : ℕ) (os : List Observed) → map (shown_back R) (map plain_shown (seen_of R os)) ≡ seen_of R os
unfolding seen_of
seen_back R [] = refl
seen_back R (Heard n ∷ os) = by_test (Base.id_of (Heard n) =? R) (λ t. rw t (ap (λ l. Heard n ∷ l) (seen_back R os))) (λ t. rw t (seen_back R os))
seen_back R (Answered id a n v w ∷ os) =
    by_test (id =? R) (λ t. rw t (ap₂ (λ x l. Answered x a n v w ∷ l) (sym (eqb-true id R t)) (seen_back R os))) (λ t. rw t (seen_back R os))

-- So is what is observed of R.
pub seen_apart : (R : ℕ) (os ps : List Observed) → map plain_shown (seen_of R os) ≡ map plain_shown (seen_of R ps) → seen_of R os ≡ seen_of R ps
seen_apart R os ps e = sym (seen_back R os) ∙ ap (map (shown_back R)) e ∙ seen_back R ps

-- ---- purging
-- the bytes of a timeline are the same
plain_bytes : (t : List (Item Argument)) → item_bytes (map plain_item t) ≡ item_bytes t
unfolding item_bytes
plain_bytes [] = refl
plain_bytes (ByteItem b ∷ t) = ap (λ l. b ∷ l) (plain_bytes t)
plain_bytes (CallItem (RequestCall id a) ∷ t) = plain_bytes t
plain_bytes (CallItem CountCall ∷ t) = plain_bytes t

-- what purging leaves is the same
plain_purged : (R : ℕ) (k : Scan) (t : List (Item Argument)) → purge_from R k (map plain_item t) ≡ map plain_item (purge_from R k t)
unfolding purge_from is_own_call
plain_purged R k [] = refl
plain_purged R k (ByteItem b ∷ t) =
    let i = plain_purged R (scan_next R k b) t in
    rw (plain_bytes t) (by_test (is_own R k (b ∷ item_bytes t)) (λ d. rw d (ap (λ l. ByteItem b ∷ l) i)) (λ d. rw d i))
plain_purged R k (CallItem (RequestCall id a) ∷ t) =
    let i = plain_purged R k t in
    by_test (eqb id R) (λ e. rw e (ap (λ l. CallItem (RequestCall id (Straight a)) ∷ l) i)) (λ e. rw e i)
plain_purged R k (CallItem CountCall ∷ t) = plain_purged R k t

-- ---- what the queue asks besides
-- With any test of a step that holds where R is not leaving,
module _ (marks queue : List ℕ) (quiet : Quiet) (holds : (k : Scan) (x rest : List ℕ) → quiet false k x rest ≡ true) (R : ℕ) where
  -- an operation without a queue goes well,
  op_well : (o : Operation) (os : List QueueOperation) (m : Memory) (k : Scan) → is_well quiet R (idle marks queue m) k (plainly o) os ≡ true
  op_well (Base.StepOver piece) os m k = rw (leaving_none marks queue m R) (holds k _ _)
  op_well (Base.CallFor id a) os m k = by_test (id =? R) (λ t. rw (t, call_same marks queue m id a, never_ten m id a)) (λ t. rw t)
  op_well Base.CountActive os m k = refl

  -- and so do all of them.
  goes_well_lem : (os : List Operation) (m : Memory) (k : Scan) → goes_well quiet R (idle marks queue m) k (map plainly os) ≡ true
  unfolding goes_well
  goes_well_lem [] m k = rw (waits_none marks queue m R)
  goes_well_lem (o ∷ os) m k =
      rw (op_well o (map plainly os) m k)
      (ap (λ n. goes_well quiet R n (scan_after R (idle marks queue m) k (plainly o)) (map plainly os)) (after_same marks queue m o) ∙ goes_well_lem os (memory_after m o) (scan_after R (idle marks queue m) k (plainly o)))

-- ---- premises
-- What is told is among what is observed,
heard_there : (n : Note) (os : List Observed) → Memᴰ n (heard_in os) → Memᴰ (Heard n) os
unfolding heard_in
heard_there n (Heard k ∷ os) (Memᴰ.head e) = Memᴰ.head (ap Heard e)
heard_there n (Heard k ∷ os) (Memᴰ.tail h) = Memᴰ.tail (heard_there n os h)
heard_there n (Answered id a answer before after ∷ os) h = Memᴰ.tail (heard_there n os h)
heard_there n [] h = elim h [ ]

-- and what is observed as told is told.
there_heard : (n : Note) (os : List Observed) → Memᴰ (Heard n) os → Memᴰ n (heard_in os)
unfolding heard_in
there_heard n (Heard k ∷ os) (Memᴰ.head e) = let d : n ≡ k = cc in Memᴰ.head d
there_heard n (Heard k ∷ os) (Memᴰ.tail h) = Memᴰ.tail (there_heard n os h)
there_heard n (Answered id a answer before after ∷ os) (Memᴰ.head e) = let z : ◌≡◌ {A = ℕ} 0 1 = cc in absurd (omega arith)
there_heard n (Answered id a answer before after ∷ os) (Memᴰ.tail h) = there_heard n os h
there_heard n [] x' = elim x' [ ]

-- Of a run w without a queue and of r, which makes the same operations with one:
module _ (w : WholeRun) (r : QueueRun) (p : PlainRun w r) where
  same : SameRun w r
  same = same_run w r p

  same_open : (conn_of (D.ending r)).«open» ≡ (Base.ending w).state.conn.«open»
  same_open = ap (λ (m : QueueMemory). (conn_of m).«open») same.same_ending

  same_rest : (split (item_bytes (D.timeline_of r))).rest ≡ (split (item_bytes (Base.timeline_of w))).rest
  same_rest = ap (λ t. (split (item_bytes t)).rest) same.same_timeline ∙ ap (λ b. (split b).rest) (plain_bytes (Base.timeline_of w))

  -- If w ends open and between two records, so does r.
  pub ends_with : Without.EndsBetweenRecords w → With.EndsBetweenRecords r
  ends_with e = record { is_open = same_open ∙ e.is_open; no_rest = same_rest ∙ e.no_rest }

  -- The other way.
  pub ends_without : With.EndsBetweenRecords r → Without.EndsBetweenRecords w
  ends_without e = record { is_open = sym same_open ∙ e.is_open; no_rest = sym same_rest ∙ e.no_rest }

  -- If R is never refused for want of a slot in w, it is not in r.
  pub never_with : (R : ℕ) → Without.NeverOverloaded R w → With.NeverOverloaded R r
  never_with R h x = h (heard_there _ (Base.observed_in w) (subst (λ l. Memᴰ (Note.Told (Event.Refuse R OVERLOADED)) l) same.same_notes x))

  -- The other way.
  pub never_without : (R : ℕ) → With.NeverOverloaded R r → Without.NeverOverloaded R w
  never_without R h x = h (subst (λ l. Memᴰ (Note.Told (Event.Refuse R OVERLOADED)) l) (sym same.same_notes) (there_heard _ (Base.observed_in w) x))

  -- What purging leaves of the one's timeline is what it leaves of the other's.
  pub same_purged : (R : ℕ) → purge R (D.timeline_of r) ≡ map plain_item (purge R (Base.timeline_of w))
  same_purged R = ap (purge R) same.same_timeline ∙ plain_purged R (ScanHeader []) (Base.timeline_of w)

  -- R's request at the end is the same.
  pub same_requests : (R : ℕ) → request_of R (D.ending r).memory ≡ request_of R (Base.ending w)
  same_requests R = ap (λ (m : QueueMemory). request_of R m.memory) same.same_ending

  well : (quiet : Quiet) → ((k : Scan) (x rest : List ℕ) → quiet false k x rest ≡ true) → (R : ℕ) → goes_well quiet R (D.beginning r) (ScanHeader []) r.operations ≡ true
  well quiet holds R = through w r p (λ m os. goes_well quiet R m (ScanHeader []) os) ∙ goes_well_lem r.marks r.queue quiet holds R w.operations (Base.beginning w) (ScanHeader [])

  -- No call of R is refused by 10, R is never between its finish and its END, and nothing of it waits at the end.
  pub settled_without : (R : ℕ) → With.Settled R r
  settled_without R = settled R r (well (among_others R) (λ k x rest. refl) R)

  -- The same as is asked of a run whose bytes are all of R.
  pub alone_without : (R : ℕ) → With.SettledAlone R r
  alone_without R = settled_alone R r (well on_its_own (λ k x rest. refl) R)

-- ---- isolation
-- nothing that is shown is a call between finish and END
plain_shown_lem : (os : List Observed) → Theorem.Plain (map plain_shown os)
plain_shown_lem [] = tt
plain_shown_lem (Heard n ∷ os) = plain_shown_lem os
plain_shown_lem (Answered id a answer before after ∷ os) = plain_shown_lem os

-- A run without a queue, as one with a queue of zeros that is not used.
abbrev pub with_zeros : WholeRun → QueueRun
with_zeros w = without_queue zero_queue w

plain : (w : WholeRun) → PlainRun w (with_zeros w)
plain w = without_plain zero_queue w

module _ (R : ℕ) (A B : WholeRun) where
  -- B is for R's items of A with a queue if it is without one.
  pub runs_with : Without.RunsFor R A B → With.RunsFor R (with_zeros A) (with_zeros B)
  runs_with h = record {
    rest = map plain_item h.rest;
    prefix = ap (λ t. t ++ map plain_item h.rest) (without_same zero_queue B).same_timeline
        ∙ sym (map-append plain_item (Base.timeline_of B) h.rest)
        ∙ ap (map plain_item) h.prefix
        ∙ sym (same_purged A (with_zeros A) (plain A) R);
    all_or_closed = closes h.rest h.all_or_closed;
  }
    where
      closes : (rest : List (Item Argument)) → (rest ≡ []) ⊎ ((Base.ending B).state.conn.«open» ≡ false) → (map plain_item rest ≡ []) ⊎ ((conn_of (D.ending (with_zeros B))).«open» ≡ false)
      closes rest (inl e) = inl (ap (map plain_item) e)
      closes rest (inr e) = inr (same_open B (with_zeros B) (plain B) ∙ e)

  -- What isolation with a queue concludes of the two is what isolation without one does.
  pub isolated_without : With.Isolated R (with_zeros A) (with_zeros B) → Without.Isolated R A B
  isolated_without i =
      let a = without_same zero_queue A in
      let b = without_same zero_queue B in
      let one : D.shown R (with_zeros A) ≡ D.shown R (with_zeros B) =
      Theorem.plain_same i.same_shown (rw (a.same_shown R) (plain_shown_lem (Base.observed R A))) (rw (b.same_shown R) (plain_shown_lem (Base.observed R B))) in
      record {
        all_items_lem = items_apart (Base.timeline_of B) (purge R (Base.timeline_of A)) (sym b.same_timeline ∙ i.all_items_lem ∙ same_purged A (with_zeros A) (plain A) R);
        ends_between = ends_without B (with_zeros B) (plain B) i.ends_between;
        same_observed = seen_apart R (Base.observed_in B) (Base.observed_in A) (sym (b.same_shown R) ∙ sym one ∙ a.same_shown R);
        same_request = sym (same_requests B (with_zeros B) (plain B) R) ∙ i.same_request ∙ same_requests A (with_zeros A) (plain A) R;
      }

-- The first half: any two runs without a queue that meet the premises are isolated.
pub any_run_without : With.Isolation → AnyRun
any_run_without q R A B low ends never runs =
    isolated_without R A B
    (q R (with_zeros A) (with_zeros B) low (ends_with A (with_zeros A) (plain A) ends) (never_with A (with_zeros A) (plain A) R never) (runs_with R A B runs) (settled_without A (with_zeros A) (plain A) R)
    (alone_without B (with_zeros B) (plain B) R))

-- Isolation without a queue is an instance of isolation with a queue. (That every cutting can be run to its end is
-- shown without a queue, by `SecondRun.second_run`; that such a run is isolated is the instance.)
pub isolation_without : With.Isolation → Without.Isolation
isolation_without q = record { any_run = any_run_without q; any_cutting = cutting_from (any_run_without q) }

-- So it is proved a second time.
pub isolation_again : Without.Isolation
isolation_again = isolation_without Theorem.isolation

-- ---- any shuffle
-- What of R is the same in two runs with a queue: what is shown of it, and its request and area at the end.
pub record SameShown (R : ℕ) (A B : QueueRun) : Type 0 where
  pub same_shown : D.shown R A ≡ D.shown R B
  pub same_request : request_of R (D.ending A).memory ≡ request_of R (D.ending B).memory

-- By the theorem without a queue: no request can tell two shuffles apart that are made by the calls with a queue, if
-- nothing is queued and no turn is made in either.
pub shuffle_unqueued : (A B : QueueRun) → NothingQueued A.operations → NothingQueued B.operations
    → ((R : ℕ) → 0 < R → purge R (D.timeline_of A) ≡ purge R (D.timeline_of B))
    → With.EndsBetweenRecords A → With.EndsBetweenRecords B
    → ((R : ℕ) → 0 < R → With.NeverOverloaded R A) → ((R : ℕ) → 0 < R → With.NeverOverloaded R B)
    → (R : ℕ) → 0 < R → SameShown R A B
shuffle_unqueued A B na nb each ends-a ends-b room-a room-b R low =
    let v = plain_part A in
    let w = plain_part B in
    let p = unqueued_plain A na in
    let q = unqueued_plain B nb in
    let s =
    shuffle.any_shuffle v w
    (λ S l. items_apart (purge S (Base.timeline_of v)) (purge S (Base.timeline_of w)) (sym (same_purged v A p S) ∙ each S l ∙ same_purged w B q S))
    (ends_without v A p ends-a) (ends_without w B q ends-b) (λ S l. never_without v A p S (room-a S l)) (λ S l. never_without w B q S (room-b S l)) R low in
    record {
      same_shown = (unqueued_same A na).same_shown R ∙ ap (map plain_shown) s.same_observed ∙ sym ((unqueued_same B nb).same_shown R);
      same_request = same_requests v A p R ∙ s.same_request ∙ sym (same_requests w B q R);
    }

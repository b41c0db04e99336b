-- The second run of isolation with a queue: R's items of a run, item by item.
--
-- Take any run A and what striking out leaves of its timeline. B makes a step over each byte of that by itself and
-- each of its calls, behind each call a turn of the pump that writes all that waits, and nothing more once the
-- connection is closed. B is a run for R's items of A: no step gets stuck. It is settled, if no call of R in it is
-- refused by 10; so it is if no queued say of R in A has more than ROOM bytes, whatever A is. `SecondRunExists` does
-- without that premise where A fulfils what isolation asks of it.
use Rattle.std.specs.Prelude.{◌≡◌, Bool, true, false, ◌⊎◌, ℕ, zero, suc, ◌≤◌, ◌<◌, length, if◌then◌else◌}
use Rattle.std.proofs.Math.Path.{refl, ap}
use mathlib.Core.List.{List, [], ◌∷◌, ◌++◌}
use Rattle.std.proofs.Common.{inl, inr, arith, take_all}
use Rattle.wire.proofs.Bytes.{AllBytes, take_bytes}
use Rattle.machine.specs.Timeline.{Call, RequestCall, CountCall, Item, ByteItem, CallItem, byte_items, item_bytes, Scan, ScanHeader, scan_next, is_own, is_own_call, purge_from, purge}
use Rattle.connection.specs.Sizes.{STORE, QUERY}
use Rattle.connection.specs.Run.{start_of}
use Rattle.connection.proofs.Laws.Progress.{step_uses_some}
use Rattle.queue.specs.Numbers.{nobody_waits}
use Rattle.queue.specs.Calls.{QUEUE, QueueMemory, beside, conn_of, queue_step}
use Rattle.queue.specs.Run.{Asking, QueueOperation, StepOver, CallFor, CountActive, TurnWith, used_of, queue_after, final_queue, queue_items, queue_timeline, PiecesAreBytes, QueueRun, beginning, ending, timeline_of}
use Rattle.queue.specs.Isolation.{EndsBetweenRecords, NeverOverloaded, NeverTenFrom, QuietAloneFrom, Settled, SettledAlone, RunsFor, Isolated}
use Rattle.queue_link.proofs.Loaded.{queue_step_is, nobody_at}
use Rattle.queue_link.proofs.LoadedTurn.{Good}
use Rattle.queue_link.proofs.LinkedRuns.{PieceOk, Fine, op_fine}
use Rattle.queue_theorem.proofs.Theorem.{start_fine, isolation}
use Rattle.queue_second_run.specs.Turns.{NothingWaits}
use Rattle.queue_second_run.specs.Idle.{whole_turn, SayFits}
use Rattle.queue_second_run.proofs.Idle.{none_of, none_leaving, step_idle, idle_not_ten, turn_idle}

-- ---- definitions
-- a call, as an operation
abbrev pub call_of : Call Asking → QueueOperation
call_of (RequestCall id a) = CallFor id a
call_of CountCall = CountActive

-- Item by item from a memory on: a step over each byte, and each call with a whole turn behind it; nothing more once
-- the connection is closed.
unfoldable pub item_by_item : QueueMemory → List (Item Asking) → List QueueOperation
item_by_item m [] = []
item_by_item m (ByteItem b ∷ t) = if (conn_of m).«open» then StepOver (b ∷ []) ∷ item_by_item (queue_after m (StepOver (b ∷ []))) t else []
item_by_item m (CallItem c ∷ t) = if (conn_of m).«open» then call_of c ∷ (whole_turn ∷ item_by_item (queue_after (queue_after m (call_of c)) whole_turn) t) else []

-- Each of the items is so.
abbrev pub EachItem : (Item Asking → Type 0) → List (Item Asking) → Type 0
EachItem P [] = Unit {0}
EachItem P (x ∷ t) = P x × EachItem P t

-- a byte is one
abbrev pub IsByte : Item Asking → Type 0
IsByte (ByteItem b) = b < 256
IsByte (CallItem c) = Unit {0}

-- a queued say of R has at most ROOM bytes
abbrev pub FitsOf : ℕ → Item Asking → Type 0
FitsOf R (ByteItem b) = Unit {0}
FitsOf R (CallItem (RequestCall id a)) = id ≡ R → SayFits a
FitsOf R (CallItem CountCall) = Unit {0}

-- No queued say of R in the run has more than ROOM bytes.
abbrev pub SaysFit : ℕ → QueueRun → Type 0
SaysFit R r = EachItem (FitsOf R) (timeline_of r)

-- ---- items
-- what is so of each item is so of each that striking out leaves
each_purged : (P : Item Asking → Type 0) (R : ℕ) (k : Scan) (t : List (Item Asking)) → EachItem P t → EachItem P (purge_from R k t)
unfolding purge_from
each_purged P R k [] h = tt
each_purged P R k (ByteItem b ∷ t) h = go (is_own R k (b ∷ item_bytes t)) (each_purged P R (scan_next R k b) t h.1)
  where
    go : (o : Bool) → EachItem P (purge_from R (scan_next R k b) t) → EachItem P (if o then ByteItem b ∷ purge_from R (scan_next R k b) t else purge_from R (scan_next R k b) t)
    go true r = (h.0, r)
    go false r = r
each_purged P R k (CallItem c ∷ t) h = go (is_own_call R c) (each_purged P R k t h.1)
  where
    go : (o : Bool) → EachItem P (purge_from R k t) → EachItem P (if o then CallItem c ∷ purge_from R k t else purge_from R k t)
    go true r = (h.0, r)
    go false r = r

-- bytes before items
bytes_before : (x : List ℕ) (t : List (Item Asking)) → AllBytes x → EachItem IsByte t → EachItem IsByte (byte_items x ++ t)
unfolding byte_items
bytes_before [] t a h = h
bytes_before (b ∷ x) t a h = (a 0, bytes_before x t (λ i. a (suc i)) h)

-- the bytes of a timeline are bytes
timeline_bytes : (os : List QueueOperation) (m : QueueMemory) → PiecesAreBytes os → EachItem IsByte (queue_timeline m os)
unfolding queue_timeline queue_items
timeline_bytes [] m p = tt
timeline_bytes (StepOver piece ∷ os) m p =
    bytes_before (used_of m piece) (queue_timeline (queue_after m (StepOver piece)) os) (take_bytes (queue_step m piece).used piece p.0) (timeline_bytes os (queue_after m (StepOver piece)) p.1)
timeline_bytes (CallFor id a ∷ os) m p = (tt, timeline_bytes os (queue_after m (CallFor id a)) p)
timeline_bytes (CountActive ∷ os) m p = (tt, timeline_bytes os (queue_after m CountActive) p)
timeline_bytes (TurnWith allowance buffer ∷ os) m p = timeline_bytes os (queue_after m (TurnWith allowance buffer)) p

-- Those that striking out leaves are.
pub purged_bytes : (R : ℕ) (r : QueueRun) → EachItem IsByte (purge R (timeline_of r))
purged_bytes R r = each_purged IsByte R (ScanHeader []) (timeline_of r) (timeline_bytes r.operations (beginning r) r.pieces)

-- ---- the operations
-- A piece of one byte is bytes.
pub one_byte_lem : (b : ℕ) → b < 256 → AllBytes (b ∷ [])
one_byte_lem b h zero = h
one_byte_lem b h (suc i) = omega arith

-- a call and a turn are over no piece
call_pieces : (c : Call Asking) (os : List QueueOperation) → PiecesAreBytes os → PiecesAreBytes (call_of c ∷ (whole_turn ∷ os))
call_pieces (RequestCall id a) os p = p
call_pieces CountCall os p = p

-- The steps are over bytes.
pub item_pieces : (t : List (Item Asking)) (m : QueueMemory) → EachItem IsByte t → PiecesAreBytes (item_by_item m t)
unfolding item_by_item
item_pieces [] m h = tt
item_pieces (ByteItem b ∷ t) m h = go (conn_of m).«open» (item_pieces t (queue_after m (StepOver (b ∷ []))) h.1)
  where
    os : List QueueOperation
    os = item_by_item (queue_after m (StepOver (b ∷ []))) t

    go : (o : Bool) → PiecesAreBytes os → PiecesAreBytes (if o then StepOver (b ∷ []) ∷ os else [])
    go true p = (one_byte_lem b h.0, p)
    go false p = tt
item_pieces (CallItem c ∷ t) m h = go (conn_of m).«open» (item_pieces t (queue_after (queue_after m (call_of c)) whole_turn) h.1)
  where
    os : List QueueOperation
    os = item_by_item (queue_after (queue_after m (call_of c)) whole_turn) t

    go : (o : Bool) → PiecesAreBytes os → PiecesAreBytes (if o then call_of c ∷ (whole_turn ∷ os) else [])
    go true p = call_pieces c os p
    go false p = tt

-- The second run: R's items of A, item by item, whatever its gathered bytes, store, queue and marks held before.
abbrev pub second_run : (R : ℕ) (A : QueueRun) (gathered store queue marks : List ℕ) → length gathered ≡ QUERY → length store ≡ STORE → length queue ≡ QUEUE → length marks ≡ QUEUE → QueueRun
second_run R A gathered store queue marks g s q k =
    let m = beside (start_of gathered store) nobody_waits marks queue in
    record {
      gathered = gathered;
      store = store;
      queue = queue;
      marks = marks;
      operations = item_by_item m (purge R (timeline_of A));
      gathered_size = g;
      store_size = s;
      queue_size = q;
      marks_size = k;
      pieces = item_pieces (purge R (timeline_of A)) m (purged_bytes R A);
    }

-- ---- one item
-- a step over one byte uses it
one_used : (m : QueueMemory) (b : ℕ) → Good m → (conn_of m).«open» ≡ true → used_of m (b ∷ []) ≡ b ∷ []
one_used m b g o =
    let z = g.steady in
    let u = step_uses_some m.memory.state m.memory.store (b ∷ []) z.steady.shape o z.steady.sizes.full (omega arith) in
    let h : length (b ∷ []) ≤ (queue_step m (b ∷ [])).used = rw (queue_step_is m (b ∷ []) z) u.0 in
    take_all (queue_step m (b ∷ [])).used (b ∷ []) h

-- a call is over no piece
call_ok : (c : Call Asking) → PieceOk (call_of c)
call_ok (RequestCall id a) = tt
call_ok CountCall = tt

-- Behind a call and a whole turn nothing waits, and all is as in a run.
pub call_idle : (m : QueueMemory) (c : Call Asking) → Fine m → Fine (queue_after (queue_after m (call_of c)) whole_turn) × NothingWaits (queue_after (queue_after m (call_of c)) whole_turn)
call_idle m c k =
    let i = op_fine m (call_of c) k (call_ok c) in
    (op_fine (queue_after m (call_of c)) whole_turn i tt, turn_idle (queue_after m (call_of c)) i.good)

-- What holds of the operations for these items, whatever is said: their timeline begins the items, and is all of them
-- or the connection is closed; R is leaving at no byte; nothing waits at the end.
record Through (R : ℕ) (m : QueueMemory) (t : List (Item Asking)) (os : List QueueOperation) : Type 0 where
  rest : List (Item Asking)
  prefix : queue_timeline m os ++ rest ≡ t
  all_or_closed : (rest ≡ []) ⊎ ((conn_of (final_queue m os)).«open» ≡ false)
  quiet : QuietAloneFrom R m os
  idle : NothingWaits (final_queue m os)

module _ (R : ℕ) where
  -- no operation: there is no item, or the connection is closed
  through_none : (m : QueueMemory) (t : List (Item Asking)) → NothingWaits m → (t ≡ []) ⊎ ((conn_of m).«open» ≡ false) → Through R m t []
  unfolding queue_timeline final_queue
  through_none m t n e = record { rest = t; prefix = refl; all_or_closed = e; quiet = tt; idle = n }

  -- a byte, and then these operations
  through_byte : (m : QueueMemory) (b : ℕ) (t : List (Item Asking)) (os : List QueueOperation) → Good m → (conn_of m).«open» ≡ true → NothingWaits m
      → Through R (queue_after m (StepOver (b ∷ []))) t os → Through R m (ByteItem b ∷ t) (StepOver (b ∷ []) ∷ os)
  unfolding queue_timeline queue_items final_queue byte_items
  through_byte m b t os g o n r = record {
    rest = r.rest;
    prefix = rw (one_used m b g o) (ap (λ l. ByteItem b ∷ l) r.prefix);
    all_or_closed = r.all_or_closed;
    quiet = (inr (none_leaving R m n), r.quiet);
    idle = r.idle;
  }

  -- a call and a whole turn, and then these
  through_call : (m : QueueMemory) (c : Call Asking) (t : List (Item Asking)) (os : List QueueOperation)
      → Through R (queue_after (queue_after m (call_of c)) whole_turn) t os → Through R m (CallItem c ∷ t) (call_of c ∷ (whole_turn ∷ os))
  unfolding queue_timeline queue_items final_queue queue_after
  through_call m (RequestCall id a) t os r = record {
    rest = r.rest;
    prefix = ap (λ l. CallItem (RequestCall id a) ∷ l) r.prefix;
    all_or_closed = r.all_or_closed;
    quiet = r.quiet;
    idle = r.idle;
  }
  through_call m CountCall t os r = record {
    rest = r.rest;
    prefix = ap (λ l. CallItem CountCall ∷ l) r.prefix;
    all_or_closed = r.all_or_closed;
    quiet = r.quiet;
    idle = r.idle;
  }

  -- item by item
  through : (t : List (Item Asking)) (m : QueueMemory) → Fine m → NothingWaits m → EachItem IsByte t → Through R m t (item_by_item m t)
  unfolding item_by_item
  through [] m k n h = through_none m [] n (inl refl)
  through (ByteItem b ∷ t) m k n h =
      let p = StepOver (b ∷ []) in
      go (conn_of m).«open» refl (through t (queue_after m p) (op_fine m p k (one_byte_lem b h.0)) (step_idle m (b ∷ []) n) h.1)
    where
      os : List QueueOperation
      os = item_by_item (queue_after m (StepOver (b ∷ []))) t

      go : (o : Bool) → (conn_of m).«open» ≡ o → Through R (queue_after m (StepOver (b ∷ []))) t os → Through R m (ByteItem b ∷ t) (if o then StepOver (b ∷ []) ∷ os else [])
      go true o r = through_byte m b t os k.good o n r
      go false o r = through_none m (ByteItem b ∷ t) n (inr o)
  through (CallItem c ∷ t) m k n h =
      let i = call_idle m c k in
      go (conn_of m).«open» refl (through t (queue_after (queue_after m (call_of c)) whole_turn) i.0 i.1 h.1)
    where
      os : List QueueOperation
      os = item_by_item (queue_after (queue_after m (call_of c)) whole_turn) t

      go : (o : Bool) → (conn_of m).«open» ≡ o → Through R (queue_after (queue_after m (call_of c)) whole_turn) t os → Through R m (CallItem c ∷ t) (if o then call_of c ∷ (whole_turn ∷ os) else [])
      go true o r = through_call m c t os r
      go false o r = through_none m (CallItem c ∷ t) n (inr o)

  -- a call that is not refused by 10, and a whole turn, and then these
  tens_call : (m : QueueMemory) (c : Call Asking) (os : List QueueOperation) → Good m → NothingWaits m → FitsOf R (CallItem c) → NeverTenFrom R (queue_after (queue_after m (call_of c)) whole_turn) os
      → NeverTenFrom R m (call_of c ∷ (whole_turn ∷ os))
  unfolding queue_after
  tens_call m (RequestCall id a) os g n f r = (λ e. idle_not_ten m g n id a (f e), r)
  tens_call m CountCall os g n f r = r

  -- where no queued say of R has more than ROOM bytes, no call of R is refused by 10
  fitting_tens : (t : List (Item Asking)) (m : QueueMemory) → Fine m → NothingWaits m → EachItem IsByte t → EachItem (FitsOf R) t → NeverTenFrom R m (item_by_item m t)
  unfolding item_by_item
  fitting_tens [] m k n h f = tt
  fitting_tens (ByteItem b ∷ t) m k n h f =
      let p = StepOver (b ∷ []) in
      go (conn_of m).«open» (fitting_tens t (queue_after m p) (op_fine m p k (one_byte_lem b h.0)) (step_idle m (b ∷ []) n) h.1 f.1)
    where
      os : List QueueOperation
      os = item_by_item (queue_after m (StepOver (b ∷ []))) t

      go : (o : Bool) → NeverTenFrom R (queue_after m (StepOver (b ∷ []))) os → NeverTenFrom R m (if o then StepOver (b ∷ []) ∷ os else [])
      go true r = r
      go false r = tt
  fitting_tens (CallItem c ∷ t) m k n h f =
      let i = call_idle m c k in
      go (conn_of m).«open» (fitting_tens t (queue_after (queue_after m (call_of c)) whole_turn) i.0 i.1 h.1 f.1)
    where
      os : List QueueOperation
      os = item_by_item (queue_after (queue_after m (call_of c)) whole_turn) t

      go : (o : Bool) → NeverTenFrom R (queue_after (queue_after m (call_of c)) whole_turn) os → NeverTenFrom R m (if o then call_of c ∷ (whole_turn ∷ os) else [])
      go true r = tens_call m c os k.good n f.0 r
      go false r = tt

-- ---- the theorem
module _ (R : ℕ) (A : QueueRun) (gathered store queue marks : List ℕ) (g : length gathered ≡ QUERY) (s : length store ≡ STORE) (q : length queue ≡ QUEUE) (k : length marks ≡ QUEUE) where
  -- the second run
  abbrev B : QueueRun
  B = second_run R A gathered store queue marks g s q k

  -- Nothing waits at its start.
  pub start_idle : NothingWaits (beginning B)
  start_idle i low = nobody_at (beginning B) i refl

  -- B is a run for R's items of A, and settled if no call of R in it is refused by 10.
  pub second_run_unheld : NeverTenFrom R (beginning B) B.operations → RunsFor R A B × SettledAlone R B
  second_run_unheld never =
      let h = through R (purge R (timeline_of A)) (beginning B) (start_fine B) start_idle (purged_bytes R A) in
      (record { rest = h.rest; prefix = h.prefix; all_or_closed = h.all_or_closed }, record { never_ten = never; quiet = h.quiet; nothing_waits = none_of R (ending B) h.idle })

  -- So it is if no queued say of R in A has more than ROOM bytes, whatever A is.
  pub second_run_lem : SaysFit R A → RunsFor R A B × SettledAlone R B
  second_run_lem f = second_run_unheld (fitting_tens R (purge R (timeline_of A)) (beginning B) (start_fine B) start_idle (purged_bytes R A) (each_purged (FitsOf R) R (ScanHeader []) (timeline_of A) f))

  -- Then it is isolated from A, if A fulfils what isolation asks of it.
  pub fitting_isolated : 0 < R → EndsBetweenRecords A → NeverOverloaded R A → Settled R A → SaysFit R A → Isolated R A B
  fitting_isolated low ends never settled f = let h = second_run_lem f in isolation R A B low ends never h.0 settled h.1

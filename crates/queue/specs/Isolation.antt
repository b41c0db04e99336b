-- Demand 3 with a queue: the statement, on the definitions of `Run`.
--
-- A run also holds queued calls and turns of the pump. Turns name nobody: they are no items of a timeline, and each run
-- has its own anywhere. Asked besides what the statement without a queue asks: in neither run is a call of R refused by
-- 10, comes a byte of R's records between a finish of R and its END, or waits anything of R at the end. Concluded: as
-- without a queue, but for the answers of R's calls between finish and END in either run, and R's request (its
-- parameters and counts) there; and what was written of what R said on both streams, in one order, with R's endings,
-- is the same. At these calls too the lent buffers are the same, and the finish is compared like any other call.
use Rattle.std.specs.Prelude.{◌≡◌, Bool, true, false, ◌⊎◌, ℕ, ◌<◌}
use mathlib.Core.List.{List, [], ◌∷◌, ◌++◌, Memᴰ}
use Rattle.std.proofs.Math.Option.{none}
use Rattle.wire.specs.Test.{◌=?◌}
use Rattle.record.specs.Names.{OVERLOADED}
use Rattle.record.specs.Split.{split}
use Rattle.machine.specs.Timeline.{Item, item_bytes, purge, Scan, ScanHeader, scan_next, is_own}
use Rattle.connection.specs.Event.{Event}
use Rattle.connection.specs.Bytewise.{Note}
use Rattle.connection.specs.Arguments.{RepliedWith, Wrote, FinishedWith}
use Rattle.connection.specs.Run.{request_of}
use Rattle.queue.specs.Calls.{QueueMemory, conn_of}
use Rattle.queue.specs.Run.{Asking, QueueOperation, StepOver, CallFor, CountActive, TurnWith, Answering, Straightly, Queued, queue_called, used_of, queue_after, waits_of, leaving_of, buffer_left, Shown, ShownAnswer, ShownLeaving, queue_timeline, notes_all, QueueRun, beginning, ending, timeline_of, shown, written}

-- ---- premises
-- It ends open and between two records: the bytes that its steps used split into whole records.
pub record EndsBetweenRecords (r : QueueRun) : Type 0 where
  pub is_open : (conn_of (ending r)).«open» ≡ true
  pub no_rest : (split (item_bytes (timeline_of r))).rest ≡ []

-- R is never refused for want of a slot.
abbrev pub NeverOverloaded : ℕ → QueueRun → Type 0
NeverOverloaded R r = Memᴰ (Note.Told (Event.Refuse R OVERLOADED)) (notes_all (beginning r) r.operations) → ⊥

-- a call was refused by 10
abbrev pub is_ten : Answering → Bool
is_ten (Straightly (Wrote n written buffer)) = n =? 10
is_ten (Straightly (FinishedWith n written closed buffer)) = n =? 10
is_ten (Straightly (RepliedWith r)) = false
is_ten (Queued n) = n =? 10

-- no call of R is refused by 10, from a memory on, over these operations
abbrev pub NeverTenFrom : ℕ → QueueMemory → List QueueOperation → Type 0
NeverTenFrom R m [] = Unit {0}
NeverTenFrom R m (StepOver piece ∷ os) = NeverTenFrom R (queue_after m (StepOver piece)) os
NeverTenFrom R m (CallFor id a ∷ os) = (id ≡ R → is_ten (queue_called m id a).answer ≡ false) × NeverTenFrom R (queue_after m (CallFor id a)) os
NeverTenFrom R m (CountActive ∷ os) = NeverTenFrom R m os
NeverTenFrom R m (TurnWith allowance buffer ∷ os) = NeverTenFrom R (queue_after m (TurnWith allowance buffer)) os

-- Where R is leaving (l), none of these bytes is of R's records; `rest` is what comes after them.
abbrev pub QuietBytes : ℕ → Bool → Scan → List ℕ → List ℕ → Type 0
QuietBytes R l m [] rest = Unit {0}
QuietBytes R l m (b ∷ x) rest = (is_own R m (b ∷ (x ++ rest)) ≡ true → l ≡ false) × QuietBytes R l (scan_next R m b) x rest

-- where the scan for R stands after these bytes
abbrev pub scanned : ℕ → Scan → List ℕ → Scan
scanned R m [] = m
scanned R m (b ∷ x) = scanned R (scan_next R m b) x

-- no byte of R's records comes between a finish of R and its END, from a memory on, over these operations; k is where
-- the scan for R stands
abbrev pub QuietFrom : ℕ → QueueMemory → Scan → List QueueOperation → Type 0
QuietFrom R m k [] = Unit {0}
QuietFrom R m k (StepOver piece ∷ os) =
    QuietBytes R (leaving_of R m) k (used_of m piece) (item_bytes (queue_timeline (queue_after m (StepOver piece)) os)) × QuietFrom R (queue_after m (StepOver piece)) (scanned R k (used_of m piece)) os
QuietFrom R m k (CallFor id a ∷ os) = QuietFrom R (queue_after m (CallFor id a)) k os
QuietFrom R m k (CountActive ∷ os) = QuietFrom R m k os
QuietFrom R m k (TurnWith allowance buffer ∷ os) = QuietFrom R (queue_after m (TurnWith allowance buffer)) k os

-- the same where all bytes are of R's records, as in B
abbrev pub QuietAloneFrom : ℕ → QueueMemory → List QueueOperation → Type 0
QuietAloneFrom R m [] = Unit {0}
QuietAloneFrom R m (StepOver piece ∷ os) = ((used_of m piece ≡ []) ⊎ (leaving_of R m ≡ false)) × QuietAloneFrom R (queue_after m (StepOver piece)) os
QuietAloneFrom R m (CallFor id a ∷ os) = QuietAloneFrom R (queue_after m (CallFor id a)) os
QuietAloneFrom R m (CountActive ∷ os) = QuietAloneFrom R m os
QuietAloneFrom R m (TurnWith allowance buffer ∷ os) = QuietAloneFrom R (queue_after m (TurnWith allowance buffer)) os

-- What the queue asks of either run: no call of R refused by 10, no byte of R's records between a finish of R and its
-- END, nothing of R waits at the end.
pub record Settled (R : ℕ) (r : QueueRun) : Type 0 where
  pub never_ten : NeverTenFrom R (beginning r) r.operations
  pub quiet : QuietFrom R (beginning r) (ScanHeader []) r.operations
  pub nothing_waits : waits_of R (ending r) ≡ []

-- the same of a run whose bytes are all of R
pub record SettledAlone (R : ℕ) (r : QueueRun) : Type 0 where
  pub never_ten : NeverTenFrom R (beginning r) r.operations
  pub quiet : QuietAloneFrom R (beginning r) r.operations
  pub nothing_waits : waits_of R (ending r) ≡ []

-- B is for R's items of A: its timeline begins what striking out leaves of A's, and is all of that, or B is closed at
-- its end.
pub record RunsFor (R : ℕ) (A B : QueueRun) : Type 0 where
  pub rest : List (Item Asking)
  pub prefix : timeline_of B ++ rest ≡ purge R (timeline_of A)
  pub all_or_closed : (rest ≡ []) ⊎ ((conn_of (ending B)).«open» ≡ false)

-- The same, save for the answers of calls between finish and END in either run, and R's request there. The lent buffer
-- is left the same.
pub data SameSave : List Shown → List Shown → Type 0 where
  SaveNone : SameSave [] []
  -- a call between finish and END in both runs, or anything else
  SaveSame : {x : Shown} {xs ys : List Shown} → SameSave xs ys → SameSave (x ∷ xs) (x ∷ ys)
  -- a call between finish and END in the first run; in the other run R is no longer active
  SaveFirst : {a : Asking} {n : Answering} {xs ys : List Shown} → SameSave xs ys → SameSave (ShownLeaving a (buffer_left n) ∷ xs) (ShownAnswer a n none none ∷ ys)
  -- a call between finish and END in the second run; in the other run R is no longer active
  SaveSecond : {a : Asking} {n : Answering} {xs ys : List Shown} → SameSave xs ys → SameSave (ShownAnswer a n none none ∷ xs) (ShownLeaving a (buffer_left n) ∷ ys)

-- What B has in common with A.
pub record Isolated (R : ℕ) (A B : QueueRun) : Type 0 where
  -- B had all of R's items, and ends open and between two records
  pub all_items_lem : timeline_of B ≡ purge R (timeline_of A)
  pub ends_between : EndsBetweenRecords B
  -- the same events of R, data byte by byte, and the same answers to R's calls, in one order, with R's request and
  -- area before and after each call; save for calls between finish and END in either run
  pub same_shown : SameSave (shown R A) (shown R B)
  -- the same bytes written of what R said, on both streams in one order, with the ends of the streams and END
  pub same_written : written R B ≡ written R A
  -- the same request and area of R at the end
  pub same_request : request_of R (ending B).memory ≡ request_of R (ending A).memory

-- Demand 3 with the queue.
abbrev pub Isolation : Type 0
Isolation = (R : ℕ) (A B : QueueRun) → 0 < R → EndsBetweenRecords A → NeverOverloaded R A → RunsFor R A B → Settled R A → SettledAlone R B → Isolated R A B

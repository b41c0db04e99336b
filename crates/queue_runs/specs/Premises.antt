-- The premises of isolation with a queue, as tests that are computed for runs that are written out.
--
-- One test goes once through a run: no call of R is refused by 10, no byte of R's records comes between a finish of R
-- and its END, and nothing of R waits at the end.
use Rattle.std.specs.Prelude.{ℕ, Bool, true, false, not, List, [], ◌∷◌, ◌++◌, if◌then◌else◌}
use Rattle.wire.specs.Test.{◌=?◌}
use Rattle.machine.specs.Timeline.{item_bytes, Scan, scan_next, is_own}
use Rattle.queue.specs.Calls.{QueueMemory}
use Rattle.queue.specs.Run.{QueueOperation, StepOver, CallFor, CountActive, TurnWith, queue_called, used_of, queue_after, waits_of, leaving_of, queue_timeline}
use Rattle.queue.specs.Isolation.{is_ten, scanned}

-- none of these bytes is of R's records
unfoldable pub none_own : ℕ → Scan → List ℕ → List ℕ → Bool
none_own R m [] rest = true
none_own R m (b ∷ x) rest = if is_own R m (b ∷ (x ++ rest)) then false else none_own R (scan_next R m b) x rest

-- the test of a step among the records of others, by whether R is leaving
abbrev pub among_others : ℕ → Bool → Scan → List ℕ → List ℕ → Bool
among_others R true k x rest = none_own R k x rest
among_others R false k x rest = true

-- the test of a step where all bytes are R's
abbrev pub is_nil : {A : Type 0} → List A → Bool
is_nil [] = true
is_nil (x ∷ l) = false

abbrev pub on_its_own : Bool → Scan → List ℕ → List ℕ → Bool
on_its_own true k x rest = is_nil x
on_its_own false k x rest = true

-- ---- a run
abbrev pub Quiet : Type 0
Quiet = Bool → Scan → List ℕ → List ℕ → Bool

-- an operation goes well: a call of R is not refused by 10, and a step is quiet
abbrev pub is_well : Quiet → ℕ → QueueMemory → Scan → QueueOperation → List QueueOperation → Bool
is_well quiet R m k (StepOver piece) os = quiet (leaving_of R m) k (used_of m piece) (item_bytes (queue_timeline (queue_after m (StepOver piece)) os))
is_well quiet R m k (CallFor id a) os = if id =? R then not (is_ten (queue_called m id a).answer) else true
is_well quiet R m k CountActive os = true
is_well quiet R m k (TurnWith allowance buffer) os = true

-- where the scan for R stands behind it
abbrev pub scan_after : ℕ → QueueMemory → Scan → QueueOperation → Scan
scan_after R m k (StepOver piece) = scanned R k (used_of m piece)
scan_after R m k (CallFor id a) = k
scan_after R m k CountActive = k
scan_after R m k (TurnWith allowance buffer) = k

-- All of it, in one way through the operations.
unfoldable pub goes_well : Quiet → ℕ → QueueMemory → Scan → List QueueOperation → Bool
goes_well quiet R m k [] = is_nil (waits_of R m)
goes_well quiet R m k (o ∷ os) = if is_well quiet R m k o os then goes_well quiet R (queue_after m o) (scan_after R m k o) os else false

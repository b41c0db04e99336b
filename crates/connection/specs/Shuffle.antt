-- Any shuffle of requests (request [12]), the statement. `Runs/Shuffled.shuffle` is its proof.
--
-- Take two whole runs, A and B, in which each request gets the same: the same records with the same bytes, and the same
-- calls with the same arguments and lent bytes, in its own order, a call inside one of its own records after the same
-- byte. How the requests are shuffled among each other may differ, and so may the cutting into pieces, what the
-- gathered bytes and the store held before the start, and the slots that the requests get. Both runs end open and
-- between two records, and no opening is refused in either for want of a slot. Then no request can tell A from B: what
-- is told of it, data byte by byte, what its calls answer and leave in their buffers, in one order, and its record and
-- area before and after each call are the same; and at the end the same ids are active, each with the same record (its
-- role, flag, turn, spent mark, counts and endings, and the length of its list) and the same area, whole, whatever slot
-- it is in (`any_shuffle`).
--
-- "The same records and calls for each request" is said by striking out: for each id, what is left of A's timeline
-- without the bytes of others' records and without calls that do not name the id is what is left of B's (`purge`, as
-- in `Isolation`). That this is what the words mean is shown beside it. A timeline that is put together from whole
-- records, with calls between their bytes and between them (the crate `machine`, `Interleaving`), is purged to just the
-- records and calls of that id, in their order (`own_is_left`). So two interleavings of the same records and calls are
-- such a pair (`interleavings`), and two neighbours that are of different ids may change places (`neighbours`).
--
-- Calls that ask for the number of active requests name nobody and may differ freely. So may management records: the
-- request asks that there are none, and it is not needed, since nothing that is compared speaks of them.
use Rattle.std.specs.Prelude.{◌≡◌, List, ◌∷◌, ◌++◌, ℕ, ◌<◌}
use Rattle.std.proofs.Math.Option.{none}
use Rattle.machine.specs.Timeline.{purge}
use Rattle.machine.specs.Interleaving.{Part, AllWhole, all_items, own_of, IsOf}
use Rattle.connection.specs.Arguments.{Argument}
use Rattle.connection.specs.Run.{request_of, WholeRun, ending, timeline_of, observed}
use Rattle.connection.specs.Isolation.{EndsBetweenRecords, NeverOverloaded}

-- ---- two runs
-- For each id the same bytes of its records and the same calls, in the same order.
abbrev pub SameForEach : WholeRun → WholeRun → Type 0
SameForEach A B = (R : ℕ) → 0 < R → purge R (timeline_of A) ≡ purge R (timeline_of B)

-- No opening is refused for want of a slot.
abbrev pub NobodyOverloaded : WholeRun → Type 0
NobodyOverloaded A = (R : ℕ) → 0 < R → NeverOverloaded R A

-- What of R is the same in two runs: its events, data byte by byte, and the answers to its calls, in one order, with
-- its request and area before and after each call; and its request and area at the end, if it is active then.
pub record SameOf (R : ℕ) (A B : WholeRun) : Type 0 where
  pub same_observed : observed R A ≡ observed R B
  pub same_request : request_of R (ending A) ≡ request_of R (ending B)

-- ---- the statement
pub record Shuffle : Type 0 where
  -- no request can tell two shuffles apart
  pub any_shuffle : (A B : WholeRun) → SameForEach A B → EndsBetweenRecords A → EndsBetweenRecords B
      → NobodyOverloaded A → NobodyOverloaded B → (R : ℕ) → 0 < R → SameOf R A B
  -- id 0 is never active, so the same ids are
  pub zero_never : (A : WholeRun) → request_of 0 (ending A) ≡ none
  -- purging leaves of an interleaving just the records and calls of that id, in their order
  pub own_is_left : (R : ℕ) (ps : List (Part Argument)) → AllWhole ps → purge R (all_items ps) ≡ own_of R ps
  -- two interleavings of the same records and calls are such a pair
  pub interleavings : (A B : WholeRun) (ps qs : List (Part Argument))
      → timeline_of A ≡ all_items ps → timeline_of B ≡ all_items qs → AllWhole ps → AllWhole qs
      → ((R : ℕ) → 0 < R → own_of R ps ≡ own_of R qs) → SameForEach A B
  -- neighbours of different ids may change places
  pub neighbours : (R i j : ℕ) (before after : List (Part Argument)) (p q : Part Argument)
      → IsOf i p → IsOf j q → (i ≡ j → ⊥)
      → own_of R (before ++ (p ∷ q ∷ after)) ≡ own_of R (before ++ (q ∷ p ∷ after))

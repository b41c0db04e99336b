-- Demand 3, the statement. `Runs/Whole.isolation` is its proof.
--
-- Many requests share a connection. Take any run A: a start, then steps over pieces and calls, in any order, refused
-- ones too. Strike out all bytes of records that are not R's and all calls that do not name R. Let B be any run, from
-- a start of its own, of what is left: the same bytes in any pieces, the same calls with the same arguments and lent
-- bytes, each after as many bytes of R's records. Then R cannot tell the two apart: what is told of R, what R's calls
-- answer and leave in their buffers, and R's request with its whole area, before and after each of its calls and at
-- the end, are the same (`any_run`).
--
-- Of A it is asked that it ends open and between two records, and that R is never refused there for want of a slot.
-- Nothing is asked of B but that it does not stop early: if it has not had all of R's items, it is closed. That it
-- has had them all, and ends open and between two records too, is concluded.
--
-- And there is such a B, whatever its gathered bytes and store held before its start, and however what is left of A
-- is cut into pieces: step over each piece until it is used up, and make each call in its place. This run does not
-- get stuck, its steps use all the bytes, and it is isolated as above (`any_cutting`).
--
-- Runs, timelines, what is observed, and pieces that are used up are defined in `Run`, striking out (`purge`) in the
-- crate `machine`, `Timeline`; steps and calls are those that the contracts of the code cite.
use Rattle.std.specs.Prelude.{◌≡◌, ◌⊎◌, true, false, ℕ, ◌<◌, length}
use mathlib.Core.List.{List, [], ◌++◌, Memᴰ}
use Rattle.record.specs.Names.{OVERLOADED}
use Rattle.record.specs.Split.{split}
use Rattle.machine.specs.Timeline.{Item, item_bytes, purge}
use Rattle.connection.specs.Event.{Event}
use Rattle.connection.specs.Bytewise.{Note}
use Rattle.connection.specs.Arguments.{Argument}
use Rattle.connection.specs.Sizes.{STORE, QUERY}
use Rattle.connection.specs.Run.{Operation, Observed, Heard, request_of, start_of, PiecesOk, WholeRun, ending, timeline_of, observed_in, all_stepped, items_in, observed}

-- It ends open and between two records: the bytes that its steps used split into whole records.
pub record EndsBetweenRecords (r : WholeRun) : Type 0 where
  pub is_open : (ending r).state.conn.«open» ≡ true
  pub no_rest : (split (item_bytes (timeline_of r))).rest ≡ []

-- R is refused for want of a slot
abbrev pub overloaded_for : ℕ → Observed
overloaded_for R = Heard (Note.Told (Event.Refuse R OVERLOADED))

-- It never is.
abbrev pub NeverOverloaded : ℕ → WholeRun → Type 0
NeverOverloaded R r = Memᴰ (overloaded_for R) (observed_in r) → ⊥

-- B is for R's items of A: its timeline begins what purging leaves of A's, and is all of that, or B is closed at its
-- end.
pub record RunsFor (R : ℕ) (A B : WholeRun) : Type 0 where
  pub rest : List (Item Argument)
  pub prefix : timeline_of B ++ rest ≡ purge R (timeline_of A)
  pub all_or_closed : (rest ≡ []) ⊎ ((ending B).state.conn.«open» ≡ false)

-- What B has in common with A.
pub record Isolated (R : ℕ) (A B : WholeRun) : Type 0 where
  -- B had all of R's items, and ends open and between two records
  pub all_items_lem : timeline_of B ≡ purge R (timeline_of A)
  pub ends_between : EndsBetweenRecords B
  -- the same events of R, data byte by byte, and the same answers to R's calls, in one order, with R's request and
  -- area before and after each call
  pub same_observed : observed R B ≡ observed R A
  -- the same request and area of R at the end
  pub same_request : request_of R (ending B) ≡ request_of R (ending A)

-- There is a run from these gathered bytes and this store that steps over each piece of ps until it is used up and
-- makes each call of ps in its place, and it is isolated.
pub record CanBeRun (R : ℕ) (A : WholeRun) (gathered store : List ℕ) (ps : List Operation) : Type 0 where
  pub run : WholeRun
  pub same_gathered : run.gathered ≡ gathered
  pub same_store : run.store ≡ store
  pub each_stepped : run.operations ≡ all_stepped (start_of gathered store) ps
  pub isolated : Isolated R A run

-- Demand 3.
pub record Isolation : Type 0 where
  -- any run for R's items of A is isolated
  pub any_run : (R : ℕ) (A B : WholeRun) → 0 < R → EndsBetweenRecords A → NeverOverloaded R A → RunsFor R A B → Isolated R A B
  -- any cutting ps of R's items of A into pieces of bytes can be run, from any gathered bytes and any store
  pub any_cutting : (R : ℕ) (A : WholeRun) (gathered store : List ℕ) (ps : List Operation) → 0 < R → EndsBetweenRecords A → NeverOverloaded R A
      → length gathered ≡ QUERY → length store ≡ STORE → PiecesOk ps → items_in ps ≡ purge R (timeline_of A)
      → CanBeRun R A gathered store ps

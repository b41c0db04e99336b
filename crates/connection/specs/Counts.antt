-- How much of R's input was shown, told from what is observed of a run.
use Rattle.std.specs.Prelude.{ℕ, ◌≡◌, List, [], ◌∷◌, if◌then◌else◌}
use Rattle.std.proofs.Math.Option.{some}
use Rattle.wire.specs.Test.{◌=?◌}
use Rattle.record.specs.Names.{STDIN, DATA}
use Rattle.connection.specs.Event.{Event}
use Rattle.connection.specs.Request.{Held, counted}
use Rattle.connection.specs.Bytewise.{Note}
use Rattle.connection.specs.Run.{Observed, Heard, Answered, request_of, WholeRun, ending, observed_in}

-- What an event does to the count of a stream of R: an opening and a fault of R set it to 0. (Data is told byte by byte,
-- and counted below.)
abbrev pub count_at : ℕ → ℕ → Event → ℕ
count_at R n Event.None = n
count_at R n (Event.Open id role keep) = if id =? R then 0 else n
count_at R n (Event.Ready id k) = n
count_at R n (Event.Data id stream k) = n
count_at R n (Event.End id stream measure) = n
count_at R n (Event.Abort id) = n
count_at R n (Event.Refuse id k) = n
count_at R n (Event.Fault id cause) = if id =? R then 0 else n
count_at R n (Event.Query conns reqs mpxs) = n
count_at R n (Event.Unknown kind) = n
count_at R n (Event.Closed cause) = n

-- A byte of that stream of R that is shown is one more, up to the number that a count stays at.
abbrev pub count_after : ℕ → ℕ → ℕ → Observed → ℕ
count_after R stream n (Heard (Note.Told e)) = count_at R n e
count_after R stream n (Heard (Note.Shown id s b)) = if id =? R then (if s =? stream then counted n 1 else n) else n
count_after R stream n (Answered id a answer before after) = n

unfoldable pub shown_in : ℕ → ℕ → ℕ → List Observed → ℕ
shown_in R stream n [] = n
shown_in R stream n (o ∷ os) = shown_in R stream (count_after R stream n o) os

-- In a run the counts of an active request are the numbers of its bytes that were shown since it was opened, up to the
-- number that a count stays at, or 0 once it has a fault.
pub record Counted (R : ℕ) (r : WholeRun) (h : Held) : Type 0 where
  pub stdin : h.request.state.shown.stdin ≡ shown_in R STDIN 0 (observed_in r)
  pub «data» : h.request.state.shown.«data» ≡ shown_in R DATA 0 (observed_in r)

abbrev pub CountsAreShown : Type 0
CountsAreShown = (R : ℕ) (r : WholeRun) (h : Held) → request_of R (ending r) ≡ some h → Counted R r h

-- What bytes come to when they are fed one at a time, and what they come to in steps.
use Rattle.std.specs.Prelude.{ℕ, zero, suc, List, [], ◌∷◌, ◌++◌, length, take, drop, if◌then◌else◌}
use Rattle.wire.specs.Test.{◌=?◌}
use Rattle.connection.specs.Event.{Event}
use Rattle.connection.specs.Step.{State, Stepped, step_refusal, stepped}

-- What is told: an event, or one byte shown, with the id of its request and the type of its stream.
pub data Note : Type 0 where
  Told : Event → Note
  Shown : ℕ → ℕ → ℕ → Note

-- each of these bytes shown
unfoldable pub showing : ℕ → ℕ → List ℕ → List Note
showing id stream [] = []
showing id stream (b ∷ bytes) = Note.Shown id stream b ∷ showing id stream bytes

-- An event over the bytes that it came with: none tells nothing, data of n bytes shows the first n of them one by
-- one, any other is told as it is.
abbrev pub notes : Event → List ℕ → List Note
notes Event.None bytes = []
notes (Event.Open id role keep) bytes = Note.Told (Event.Open id role keep) ∷ []
notes (Event.Ready id n) bytes = Note.Told (Event.Ready id n) ∷ []
notes (Event.Data id stream n) bytes = showing id stream (take n bytes)
notes (Event.End id stream measure) bytes = Note.Told (Event.End id stream measure) ∷ []
notes (Event.Abort id) bytes = Note.Told (Event.Abort id) ∷ []
notes (Event.Refuse id status) bytes = Note.Told (Event.Refuse id status) ∷ []
notes (Event.Fault id n) bytes = Note.Told (Event.Fault id n) ∷ []
notes (Event.Query conns reqs mpxs) bytes = Note.Told (Event.Query conns reqs mpxs) ∷ []
notes (Event.Unknown kind) bytes = Note.Told (Event.Unknown kind) ∷ []
notes (Event.Closed n) bytes = Note.Told (Event.Closed n) ∷ []

-- Where bytes lead: the state and the store after them, and what was told on the way.
pub record Run : Type 0 where
  pub state : State
  pub store : List ℕ
  pub notes : List Note

-- no bytes: nothing changes, nothing is told
abbrev pub resting : State → List ℕ → Run
resting st store = record { state = st; store = store; notes = [] }

-- one step over some bytes, of which it told this
abbrev pub single : Stepped → List ℕ → Run
single s bytes = record { state = s.state; store = s.store; notes = notes s.event bytes }

infixl 30 ◌then-run◌
-- a run, and then what its state and store lead to
abbrev pub ◌then-run◌ : Run → (State → List ℕ → Run) → Run
r then-run f =
    record { state = (f r.state r.store).state; store = (f r.state r.store).store; notes = r.notes ++ (f r.state r.store).notes }

-- The bytes one at a time, each by a step over a piece of one byte.
unfoldable pub by_byte : State → List ℕ → List ℕ → Run
by_byte st store [] = resting st store
by_byte st store (b ∷ bytes) =
    single (stepped st store (b ∷ [])) (b ∷ []) then-run (λ st' store'. by_byte st' store' bytes)

-- The bytes in at most k steps, each over all that is left.
unfoldable pub fed : ℕ → State → List ℕ → List ℕ → Run
fed zero st store bytes = resting st store
fed (suc k) st store bytes =
    single (stepped st store bytes) (take (stepped st store bytes).used bytes)
    then-run (λ st' store'. fed k st' store' (drop (stepped st store bytes).used bytes))

-- what these steps leave unread
unfoldable pub left_of : ℕ → State → List ℕ → List ℕ → List ℕ
left_of zero st store bytes = bytes
left_of (suc k) st store bytes =
    left_of k (stepped st store bytes).state (stepped st store bytes).store (drop (stepped st store bytes).used bytes)

-- what the bytes one at a time leave unread: all that comes when a step is refused, as it is after a byte that closed
-- the connection
unfoldable pub unread : State → List ℕ → List ℕ → List ℕ
unread st store [] = []
unread st store (b ∷ bytes) =
    if step_refusal st.conn store =? 0 then unread (stepped st store (b ∷ [])).state (stepped st store (b ∷ [])).store bytes else b ∷ bytes

-- how many of these steps read something
unfoldable pub steps_of : ℕ → State → List ℕ → List ℕ → ℕ
steps_of zero st store bytes = 0
steps_of (suc k) st store bytes =
    if (stepped st store bytes).used =? 0 then 0
    else suc (steps_of k (stepped st store bytes).state (stepped st store bytes).store (drop (stepped st store bytes).used bytes))

-- Pieces one after the other, each fed to its end; a piece of n bytes takes n steps at most.
unfoldable pub fed_pieces : State → List ℕ → List (List ℕ) → Run
fed_pieces st store [] = resting st store
fed_pieces st store (piece ∷ pieces) = fed (length piece) st store piece then-run (λ st' store'. fed_pieces st' store' pieces)

-- the pieces in one
unfoldable pub joined : List (List ℕ) → List ℕ
joined [] = []
joined (piece ∷ pieces) = piece ++ joined pieces

-- Steps over a piece, one after another, until something is told, a step is refused, or the piece is used up. These are
-- the steps of the rules; nothing is new but that each is lent what the one before left of the piece.
use Rattle.std.specs.Prelude.{ℕ, zero, suc, ◌+◌, ◌-◌, Bool, true, false, List, [], ◌∷◌, length, take, drop, if◌then◌else◌}
use Rattle.wire.specs.Test.{◌<?◌, ◌=?◌}
use Rattle.connection.specs.Event.{Event}
use Rattle.connection.specs.Step.{State, Stepped, stepped}
use Rattle.connection.specs.Run.{Operation, StepOver}

abbrev pub is_none : Event → Bool
is_none Event.None = true
is_none (Event.Open id role keep) = false
is_none (Event.Ready id n) = false
is_none (Event.Data id stream n) = false
is_none (Event.End id stream measure) = false
is_none (Event.Abort id) = false
is_none (Event.Refuse id n) = false
is_none (Event.Fault id cause) = false
is_none (Event.Query conns reqs mpxs) = false
is_none (Event.Unknown kind) = false
is_none (Event.Closed cause) = false

-- not refused, and nothing told
abbrev pub is_silent : ℕ → Event → Bool
is_silent refusal event = if refusal =? 0 then is_none event else false

-- After this step over a piece of so many bytes another one follows: it is silent, and bytes are left.
abbrev pub goes_on_from : ℕ → Event → ℕ → ℕ → Bool
goes_on_from refusal event used n = if is_silent refusal event then used <? n else false

abbrev pub goes_on : Stepped → ℕ → Bool
goes_on s n = goes_on_from s.refusal s.event s.used n

-- a step with so many bytes used before it
abbrev pub after : ℕ → Stepped → Stepped
after n s = record { refusal = s.refusal; used = n + s.used; event = s.event; state = s.state; store = s.store }

-- how many bytes an event shows
abbrev pub count_of : Event → ℕ
count_of Event.None = 0
count_of (Event.Open id role keep) = 0
count_of (Event.Ready id n) = 0
count_of (Event.Data id stream n) = n
count_of (Event.End id stream measure) = 0
count_of (Event.Abort id) = 0
count_of (Event.Refuse id n) = 0
count_of (Event.Fault id cause) = 0
count_of (Event.Query conns reqs mpxs) = 0
count_of (Event.Unknown kind) = 0
count_of (Event.Closed cause) = 0

-- the bytes that it shows: of a data event the last of those used
abbrev pub shown_by : Stepped → List ℕ → List ℕ
shown_by s piece = take (count_of s.event) (drop (s.used - count_of s.event) piece)

-- (The first argument bounds the number of further steps. That the bound plays no part is `NextLaws.next_step`.)
unfoldable pub next_in : ℕ → State → List ℕ → List ℕ → Stepped
next_in zero st store piece = stepped st store piece
next_in (suc k) st store piece =
    let s = stepped st store piece in
    if goes_on s (length piece) then after s.used (next_in k s.state s.store (drop s.used piece)) else s

unfoldable pub next_event : State → List ℕ → List ℕ → Stepped
unfolding next_in
next_event st store piece = next_in (length piece) st store piece

-- the same as operations of a run: each step, lent what is left of the piece
unfoldable pub steps_in : ℕ → State → List ℕ → List ℕ → List Operation
steps_in zero st store piece = StepOver piece ∷ []
steps_in (suc k) st store piece =
    let s = stepped st store piece in
    if goes_on s (length piece) then StepOver piece ∷ steps_in k s.state s.store (drop s.used piece) else StepOver piece ∷ []

unfoldable pub next_steps : State → List ℕ → List ℕ → List Operation
unfolding steps_in
next_steps st store piece = steps_in (length piece) st store piece

-- ---- for the proof of the loop, in which both calls are one
-- One step, or steps up to the next event.
abbrev pub steps_by : Bool → State → List ℕ → List ℕ → Stepped
steps_by false st store piece = stepped st store piece
steps_by true st store piece = next_event st store piece

-- After this step another is due: the call goes on, the step is silent, and bytes are left.
abbrev pub is_due : Bool → ℕ → Event → ℕ → ℕ → Bool
is_due on refusal event used n = if on then goes_on_from refusal event used n else false

-- What a piece comes to where steps have used so many of its bytes, the last one with this refusal and event: on from
-- there if another is due, or this.
abbrev pub reached : Bool → Bool → ℕ → Event → ℕ → State → List ℕ → List ℕ → Stepped
reached on due refusal event used st store piece =
    if due then after used (steps_by on st store (drop used piece))
    else record { refusal = refusal; used = used; event = event; state = st; store = store }

-- An inner step of the proof about histories: what one item of a timeline does to R's parameters on the machine, by
-- what the machine observes of it. Definitions only. The definition of R's parameters is in `History`.
use Rattle.std.specs.Prelude.{List, [], ◌∷◌, ◌++◌, Bool, true, false, ℕ, zero, suc, if◌then◌else◌}
use Rattle.std.proofs.Math.Option.{Option, none, some}
use Rattle.wire.specs.Test.{◌=?◌}
use Rattle.machine.specs.Timeline.{Item, ByteItem, CallItem, Scan, ScanHeader, ScanRest}
use Rattle.machine.specs.Machine.{Observation, RequestEvent, NoticeEvent, CloseEvent, CountAnswer, CallAnswer}
use Rattle.connection.specs.Event.{Event}
use Rattle.connection.specs.Bytewise.{Note}
use Rattle.connection.specs.Arguments.{Argument, Answer, RepliedWith, Wrote, FinishedWith}
use Rattle.connection.specs.Runs.Receiver.{receiver}
use Rattle.connection.specs.History.{scan_params}

-- ---- what empties the parameters of R
-- a request is opened, or faults
abbrev pub opens_or_faults : Event → Bool
opens_or_faults Event.None = false
opens_or_faults (Event.Open id role keep) = true
opens_or_faults (Event.Ready id n) = false
opens_or_faults (Event.Data id stream n) = false
opens_or_faults (Event.End id stream measure) = false
opens_or_faults (Event.Abort id) = false
opens_or_faults (Event.Refuse id n) = false
opens_or_faults (Event.Fault id n) = true
opens_or_faults (Event.Query conns reqs mpxs) = false
opens_or_faults (Event.Unknown kind) = false
opens_or_faults (Event.Closed n) = false

-- such a thing is told
abbrev pub tells_anew : Note → Bool
tells_anew (Note.Told e) = opens_or_faults e
tells_anew (Note.Shown id stream b) = false

-- a finish that is not refused
abbrev pub is_finish : Answer → Bool
is_finish (RepliedWith r) = false
is_finish (Wrote refusal n buffer) = false
is_finish (FinishedWith refusal n closed buffer) = refusal =? 0

-- and it closed the connection
abbrev pub is_close : Answer → Bool
is_close (RepliedWith r) = false
is_close (Wrote refusal n buffer) = false
is_close (FinishedWith refusal n closed buffer) = closed

-- R is opened or faults, R is finished, or the connection closes
abbrev pub empties : ℕ → Observation receiver → Bool
empties R (RequestEvent id n) = if id =? R then tells_anew n else false
empties R (NoticeEvent w) = false
empties R (CloseEvent n) = true
empties R (CountAnswer T) = false
empties R (CallAnswer id a n v w) = if is_finish n then (if is_close n then true else id =? R) else false

-- if something is observed
abbrev pub empties_any : ℕ → Option (Observation receiver) → Bool
empties_any R none = false
empties_any R (some o) = empties R o

-- ---- where a byte stands
-- after an item
abbrev pub scan_item : ℕ → Scan → Item Argument → Scan
scan_item R m (ByteItem b) = scan_params R m b
scan_item R m (CallItem c) = m

-- ---- while R takes PARAMS
-- an event of R: it takes PARAMS from its opening until it is ready, aborted or faulted
abbrev pub takes_after : Event → Bool → Bool
takes_after Event.None k = k
takes_after (Event.Open id role keep) k = true
takes_after (Event.Ready id n) k = false
takes_after (Event.Data id stream n) k = k
takes_after (Event.End id stream measure) k = k
takes_after (Event.Abort id) k = false
takes_after (Event.Refuse id n) k = k
takes_after (Event.Fault id n) k = false
takes_after (Event.Query conns reqs mpxs) k = k
takes_after (Event.Unknown kind) k = k
takes_after (Event.Closed n) k = k

-- what is told of R
abbrev pub takes_told : Note → Bool → Bool
takes_told (Note.Told e) k = takes_after e k
takes_told (Note.Shown id stream b) k = k

-- does R take PARAMS? It does not when it is finished or the connection closes.
abbrev pub takes_seen : ℕ → Observation receiver → Bool → Bool
takes_seen R (RequestEvent id n) k = if id =? R then takes_told n k else k
takes_seen R (NoticeEvent w) k = k
takes_seen R (CloseEvent n) k = false
takes_seen R (CountAnswer T) k = k
takes_seen R (CallAnswer id a n v w) k = if is_finish n then (if is_close n then false else if id =? R then false else k) else k

-- if something is observed
abbrev pub takes_then : ℕ → Option (Observation receiver) → Bool → Bool
takes_then R none k = k
takes_then R (some o) k = takes_seen R o k

-- ---- what is added
-- a byte of the content of a PARAMS record of R, while R takes PARAMS
abbrev pub content_by : Scan → Bool → Item Argument → List ℕ
content_by (ScanHeader h) k x = []
content_by (ScanRest own zero p) k x = []
content_by (ScanRest own (suc c) p) k (ByteItem b) = if (if own then k else false) then b ∷ [] else []
content_by (ScanRest own (suc c) p) k (CallItem a) = []

-- what an item that was observed so makes of the parameters
abbrev pub parameters_then : ℕ → Option (Observation receiver) → List ℕ → List ℕ → List ℕ
parameters_then R o content l = if empties_any R o then [] else l ++ content

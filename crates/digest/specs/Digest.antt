-- One number of all that a connection tells, and the pieces of one size that an input is cut into.
use Rattle.std.specs.Prelude.{ℕ, ◌+◌, ◌*◌, ◌-◌, ◌%◌, Bool, if◌then◌else◌}
use Rattle.wire.specs.Test.{◌<?◌, ◌=?◌}
use Rattle.machine.specs.Cause.{Cause, Plain, At, cause_number}
use Rattle.connection.specs.declared.event.Measure.{Measure}
use Rattle.connection.specs.Event.{Event}

-- ---- a number for what a step tells: its kind, and its values
abbrev pub packed : ℕ → ℕ → ℕ → ℕ → ℕ
packed kind id what n = kind + id * 256 + what * 16777216 + n * 4294967296

abbrev pub flag_number : Bool → ℕ
flag_number b = if b then 1 else 0

-- the place that a cause has, or 0
abbrev pub place_of : Cause → ℕ
place_of (Plain n) = 0
place_of (At n place) = place

-- the word at a stream's end
abbrev pub measure_number : Measure → ℕ
measure_number Measure.Short = 0
measure_number Measure.Exact = 1
measure_number Measure.Over = 2
measure_number Measure.Unstated = 3

abbrev pub weight : Event → ℕ
weight Event.None = packed 0 0 0 0
weight (Event.Open id role keep) = packed 1 id role (flag_number keep)
weight (Event.Ready id n) = packed 2 id 0 n
weight (Event.Data id stream n) = packed 3 id stream (n % 65536)
weight (Event.End id stream measure) = packed 4 id stream (measure_number measure)
weight (Event.Abort id) = packed 5 id 0 0
weight (Event.Refuse id n) = packed 6 id n 0
weight (Event.Fault id cause) = packed 7 id (cause_number cause) (place_of cause)
weight (Event.Query conns reqs mpxs) = packed 8 (flag_number conns) (flag_number reqs) (flag_number mpxs)
weight (Event.Unknown kind) = packed 9 0 kind 0
weight (Event.Closed cause) = packed 10 0 (cause_number cause) (place_of cause)

-- a refusal, or else the event
abbrev pub told_weight : ℕ → Event → ℕ
told_weight n e = if n =? 0 then weight e else packed 11 0 n 0

-- mixed into a digest of 56 bits
unfoldable pub mixed : ℕ → ℕ → Event → ℕ
mixed sum n e = (sum * 33 + told_weight n e) % 72057594037927936

-- ---- pieces
-- The end of the piece of which the byte at a place is part, after the last end.
unfoldable pub next_end : ℕ → ℕ → ℕ → ℕ → ℕ
next_end at end piece n = if at <? end then end else if piece <? n - at then at + piece else n

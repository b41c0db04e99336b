-- Numbers of bytes, and the part of a piece that an event shows.
use Rattle.std.specs.Prelude.{ℕ, ◌+◌, ◌-◌, min, List, take, drop, if◌then◌else◌}
use Rattle.wire.specs.Test.{◌=?◌}
use Rattle.connection.specs.declared.event.Event.{Event}

-- A sum; where it would not fit into 64 bits, the largest number that does.
abbrev pub sum : ℕ → ℕ → ℕ
sum a b = min (a + b) 18446744073709551615

-- Where a piece of `end` bytes goes on after a step from a place on that used so many bytes. A step that is refused uses
-- none, and the rest of the piece is passed over.
unfoldable pub past_of : ℕ → ℕ → ℕ → ℕ
past_of from used end = if used =? 0 then end else min end (from + used)

-- How many bytes an event shows: those that were used last.
abbrev pub count_of : Event → ℕ
count_of (Event.Data id stream count) = count
count_of Event.Nothing = 0
count_of (Event.Open id role keep) = 0
count_of (Event.Ready id length) = 0
count_of (Event.End id stream measure) = 0
count_of (Event.Abort id) = 0
count_of (Event.Refuse id status) = 0
count_of (Event.Fault id fault) = 0
count_of (Event.Query conns reqs mpxs) = 0
count_of (Event.Unknown kind) = 0
count_of (Event.Closed cause) = 0

unfoldable pub shown_of : List ℕ → ℕ → Event → List ℕ
shown_of piece upto e = take (count_of e) (drop (upto - count_of e) piece)

-- Steps that change the frame and at most a count: content of STDIN or DATA, and a header that goes on with such a
-- stream. Nothing in this file is a rule: `Laws` shows that these are steps of the rules. Here `Target.Skip` means that there is no quick way.
use Rattle.std.specs.Prelude.{ℕ, Bool, true, false, if◌then◌else◌}
use Rattle.wire.specs.Test.{◌<?◌, ◌≤?◌, ◌=?◌}
use Rattle.record.specs.Names.{VERSION}
use Rattle.record.specs.declared.header.Header.{Header}
use Rattle.record_reader.specs.declared.Position.{Position}
use Rattle.connection.specs.declared.event.Stream.{Stream}
use Rattle.connection.specs.declared.request.Turn.{Turn}
use Rattle.connection.specs.declared.request.Standing.{Standing}
use Rattle.connection.specs.declared.state.Table.{Table}
use Rattle.connection.specs.declared.state.Target.{Target}
use Rattle.connection.specs.Request.{is_spent, turn_type}
use Rattle.connection.specs.Slots.{standing_of, request_at, find, on_slot}

abbrev pub is_stream : Target → Bool
is_stream Target.Skip = false
is_stream (Target.Begin id) = false
is_stream Target.Query = false
is_stream (Target.Params i) = false
is_stream (Target.Stdin i) = true
is_stream (Target.Data i) = true

-- content of STDIN or DATA is left
abbrev pub is_shown : ℕ → Target → Bool
is_shown left target = if 0 <? left then is_stream target else false

-- the slot that it is for
abbrev pub slot_of : Target → ℕ
slot_of Target.Skip = 0
slot_of (Target.Begin id) = 0
slot_of Target.Query = 0
slot_of (Target.Params i) = 0
slot_of (Target.Stdin i) = i
slot_of (Target.Data i) = i

-- the stream that it is of
abbrev pub stream_of : Target → Stream
stream_of Target.Skip = Stream.Stdin
stream_of (Target.Begin id) = Stream.Stdin
stream_of Target.Query = Stream.Stdin
stream_of (Target.Params i) = Stream.Stdin
stream_of (Target.Stdin i) = Stream.Stdin
stream_of (Target.Data i) = Stream.Data

-- Where the content of the stream goes whose turn it is. For PARAMS there is no quick way, since it is kept.
abbrev pub stream_to : Turn → ℕ → Target
stream_to Turn.Params i = Target.Skip
stream_to Turn.Stdin i = Target.Stdin i
stream_to Turn.Data i = Target.Data i
stream_to Turn.Done i = Target.Skip

-- a record of this type, for a request that is in slot i
abbrev pub goes_to : Standing → ℕ → ℕ → Target
goes_to s kind i =
    if is_spent s.life then Target.Skip
    else if kind =? turn_type s.turn then stream_to s.turn i
    else Target.Skip

-- Where a record's content goes if it goes on with STDIN or DATA, and to `Skip` if it does not.
unfoldable pub headed_to : Table → Header → Target
headed_to t h =
    if h.version =? VERSION then
    (if h.id =? 0 then Target.Skip
    else if h.content =? 0 then Target.Skip
    else on_slot (find t h.id) (λ i. goes_to (standing_of (request_at t i).state) h.kind i) Target.Skip)
    else Target.Skip

-- between two records, a piece of so many bytes begins with a whole header
abbrev pub is_headed : Position → ℕ → Bool
is_headed p bytes =
    if p.content =? 0 then (if p.padding =? 0 then (if p.held =? 0 then 8 ≤? bytes else false) else false) else false

-- The rows that a header is judged by, as the code takes them: whom it is for, then 51 to 53, then its own.
use Rattle.connection.specs.Slots.{Slot}
use Rattle.std.specs.Prelude.{ℕ, ◌≡◌, Bool, true, false, List, if◌then◌else◌, Ok, Err, Result, ⊤}
use Rattle.wire.specs.Test.{◌=?◌}
use Rattle.record.specs.Names.{VERSION}
use Rattle.record.specs.declared.header.Header.{Header}
use Rattle.connection.specs.declared.answer.Output.{Output}
use Rattle.connection.specs.declared.state.Table.{Table}
use Rattle.connection.specs.Sizes.{SLOTS}
use Rattle.connection.specs.Codes.{output_type}
use Rattle.connection.specs.Slots.{request_at, find_from, on_slot}
use Rattle.server.specs.declared.event.ServerClose.{ServerClose}
use Rattle.server.specs.Codes.{close_number}
use Rattle.server.specs.Event.{Event}
use Rattle.server.specs.Decision.{stream_ended}
use Rattle.server.specs.Step.{Inner, Left, idle, told, aimed, closes, is_management, is_reply, output_target, on_management, on_request}
use Rattle.server_header.specs.declared.Words.{Words}
use Rattle.server_header.specs.declared.Owner.{Owner}
use Rattle.server_header.specs.declared.OutputRow.{OutputRow}

-- The parts of a table that a header is judged by.
pub record Seen (t : Table) (all : List ℕ) (w : Words) : Type 0 where
  pub ids : t.ids ≡ all
  pub occupied : t.occupied ≡ w.occupied
  pub out_ended_same : t.out_ended ≡ w.out_ended
  pub err_ended_same : t.err_ended ≡ w.err_ended

abbrev pub slot_owner : Slot → Owner
slot_owner s = on_slot s Owner.Request Owner.Nobody

unfoldable pub owner_in : List ℕ → ℕ → ℕ → ℕ → Owner
owner_in ids occupied kind id =
    if is_management kind then (if id =? 0 then Owner.Connection else Owner.Nobody)
    else slot_owner (find_from SLOTS ids occupied id 0)

abbrev pub is_known : Owner → Bool
is_known Owner.Connection = true
is_known (Owner.Request i) = true
is_known Owner.Nobody = false

-- rows 51, 52 and 53
abbrev pub rows_of : Bool → Bool → Bool → Result ⊤ ServerClose
rows_of version reply known =
    if version then
    (if reply then (if known then (Ok tt) else Err ServerClose.NotOpen) else Err ServerClose.NoReply)
    else Err ServerClose.Version

unfoldable pub checked_header : ℕ → Bool → Bool → Result ⊤ ServerClose
checked_header version reply known = rows_of (version =? VERSION) reply known

-- row 56, then the end of a stream
unfoldable pub output_row : Bool → ℕ → OutputRow
output_row ended n = if ended then OutputRow.TooLate else if n =? 0 then OutputRow.Ends else OutputRow.Shows

abbrev pub by_owner : Owner → Inner → ℕ → ℕ → Left
by_owner Owner.Connection s kind n = on_management s kind n
by_owner (Owner.Request i) s kind n = on_request s kind n i
by_owner Owner.Nobody s kind n = closes s 53

abbrev pub by_check : Result ⊤ ServerClose → Inner → Left → Left
by_check (Ok tt) s left = left
by_check (Err cause) s left = closes s (close_number cause)

-- a header judged, once it is known whom it is for
abbrev pub judged_for : Owner → Inner → Header → Left
judged_for owner s h =
    by_check (checked_header h.version (is_reply h.kind) (is_known owner)) s (by_owner owner s h.kind h.content)

-- A record of output, by its row.
abbrev pub by_row : OutputRow → Inner → Output → ℕ → ℕ → Left
by_row OutputRow.TooLate s output n i = closes s 56
by_row OutputRow.Ends s output n i =
    told (idle (stream_ended s.table i output) true s.values) (Event.Ended (request_at s.table i).id (output_type output))
by_row OutputRow.Shows s output n i = told (aimed s s.table n (output_target output i)) Event.None

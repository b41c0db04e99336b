-- Where the answers of calls that read lie in the store, and reading on from a place, with what waits in shape.
use Rattle.std.specs.Prelude.{ℕ, List, length, if◌then◌else◌, None, Option}
use Rattle.connection.specs.declared.state.Conn.{Conn}
use Rattle.call_list.specs.Listing.{listing}
use Rattle.call_list.specs.Part.{value_place}
use Rattle.call_walk.specs.Place.{ReadAnswer, ReadRefused, read_from}
use Rattle.queue_admit.specs.Admission.{is_barred}

-- where value's answer lies: none where the call is refused
unfoldable pub queue_value_place : Conn → List ℕ → List ℕ → ℕ → List ℕ → Option ℕ
queue_value_place c waits store id name = if is_barred waits c.table.occupied (length store) then None else value_place c store id name

-- where a request's list lies: at 0, without bytes, where the call is refused
unfoldable pub queue_list_place : Conn → List ℕ → List ℕ → ℕ → ℕ
queue_list_place c waits store id = if is_barred waits c.table.occupied (length store) then 0 else (listing c store id).from

-- reading on from a place of a request's list
unfoldable pub queue_read_from : Conn → List ℕ → List ℕ → ℕ → ℕ → ReadAnswer
queue_read_from c waits store id place = if is_barred waits c.table.occupied (length store) then ReadRefused 9 else read_from c store id place

-- Row 9: a state out of shape, condition by condition.
use Rattle.std.specs.Prelude.{ℕ, zero, suc, ◌+◌, Bool, true, false, not, List, get_or, if◌then◌else◌}
use Rattle.wire.specs.Test.{◌<?◌, ◌≤?◌, ◌=?◌}
use Rattle.slot_word.specs.Word.{taken}
use Rattle.record_reader.specs.declared.Position.{Position}
use Rattle.connection.specs.declared.state.Table.{Table}
use Rattle.connection.specs.declared.state.Target.{Target}
use Rattle.connection.specs.declared.state.Conn.{Conn}
use Rattle.connection.specs.Sizes.{SLOTS, AREA, QUERY}
use Rattle.connection.specs.Slots.{find_from, find, is_found}

infixr 25 ◌and◌
abbrev pub ◌and◌ : Bool → Bool → Bool
true and b = b
false and b = false

-- an area's length is not over AREA, in any of the slots
abbrev pub length_fits : List ℕ → ℕ → Bool
length_fits lengths i = get_or lengths i 0 ≤? AREA

-- an active request's id is not 0, and none of the n slots after it has the same
unfoldable pub id_fits : List ℕ → ℕ → ℕ → ℕ → Bool
id_fits ids occupied n i =
    if taken i occupied then not (get_or ids i 0 =? 0) and not (is_found (find_from n ids occupied (get_or ids i 0) (i + 1)))
    else true

-- the n slots from i on
unfoldable pub slots_fit : ℕ → List ℕ → List ℕ → ℕ → ℕ → Bool
slots_fit zero ids lengths occupied i = true
slots_fit (suc n) ids lengths occupied i = length_fits lengths i and (id_fits ids occupied n i and slots_fit n ids lengths occupied (i + 1))

-- not over 7 header bytes held, content left not over 65,535, padding left not over 255
unfoldable pub position_fits : Position → Bool
position_fits p = (p.held ≤? 7) and ((p.content ≤? 65535) and (p.padding ≤? 255))

-- content is due to one of the slots, and that slot is not free
abbrev pub due_fits : Table → ℕ → Bool
due_fits t i = (i <? SLOTS) and taken i t.occupied

-- What the content is for, with the bytes gathered and those left: of a BEGIN body they make 8, for an id that is
-- neither 0 nor active; of a query they do not
-- pass QUERY; PARAMS content does not pass AREA.
abbrev pub target_fits : Target → Table → ℕ → ℕ → Bool
target_fits Target.Skip t gathered left = true
target_fits (Target.Begin id) t gathered left = (gathered + left =? 8) and (not (id =? 0) and not (is_found (find t id)))
target_fits Target.Query t gathered left = gathered + left ≤? QUERY
target_fits (Target.Params i) t gathered left = due_fits t i and (get_or t.lengths i 0 + left ≤? AREA)
target_fits (Target.Stdin i) t gathered left = due_fits t i
target_fits (Target.Data i) t gathered left = due_fits t i

unfoldable pub in_shape : Conn → Bool
in_shape c =
    slots_fit SLOTS c.table.ids c.table.lengths c.table.occupied 0
    and (position_fits c.frame.position and target_fits c.frame.target c.table c.frame.gathered c.frame.position.content)

-- A request as it is written, part by part, and what each part is to the station that reads it. Definitions only.
use Rattle.std.specs.Prelude.{ℕ, ◌≤◌, ◌≡◌, Bool, List, [], ◌∷◌, ◌++◌, length}
use Rattle.wire.proofs.Bytes.{AllBytes}
use Rattle.record.specs.Names.{STDIN, DATA}
use Rattle.pair_writer.specs.Write.{MAX_WRITTEN}
use Rattle.pair_list.proofs.ReadBackList.{Named, written}
use Rattle.stated_length.specs.Stated.{stated_in}
use Rattle.connection.specs.declared.request.Role.{Role}
use Rattle.connection.specs.declared.request.Turn.{Turn}
use Rattle.connection.specs.declared.request.Life.{Life}
use Rattle.connection.specs.declared.request.Shown.{Shown}
use Rattle.connection.specs.Sizes.{AREA}
use Rattle.connection.specs.Codes.{stream_type, stream_due}
use Rattle.connection.specs.Event.{Event}
use Rattle.connection.specs.Request.{CONTENT_LENGTH, DATA_LENGTH, measured, shown_more, unshown}
use Rattle.connection.specs.Bytewise.{Note, showing}
use Rattle.server.specs.declared.state.Input.{Input}
use Rattle.server.specs.Calls.{Part, APair, Content, EndOf, Abort, turn_after}

-- A request so far: as it was opened, the stream that may come next, whether it was aborted, the pairs that were
-- written, and how many bytes of its STDIN and DATA.
pub record SoFar : Type 0 where
  pub role : Role
  pub keep : Bool
  pub turn : Turn
  pub life : Life
  pub pairs : List Named
  pub shown : Shown

-- nothing of it but its BEGIN_REQUEST
abbrev pub begun : Role → Bool → SoFar
begun role keep =
    record { role = role; keep = keep; turn = Turn.Params; life = Life.Live; pairs = []; shown = unshown }

-- with one part more
abbrev pub so_far : SoFar → Part → SoFar
so_far s (APair name value) =
    record { role = s.role; keep = s.keep; turn = s.turn; life = s.life; pairs = s.pairs ++ (record { name = name; value = value } ∷ []); shown = s.shown }
so_far s (Content stream x) =
    record { role = s.role; keep = s.keep; turn = s.turn; life = s.life; pairs = s.pairs; shown = shown_more (stream_due stream) (length x) s.shown }
so_far s (EndOf input) =
    record { role = s.role; keep = s.keep; turn = turn_after s.role input; life = s.life; pairs = s.pairs; shown = s.shown }
so_far s Abort =
    record { role = s.role; keep = s.keep; turn = s.turn; life = Life.Aborted; pairs = s.pairs; shown = s.shown }

unfoldable pub all_so_far : SoFar → List Part → SoFar
all_so_far s [] = s
all_so_far s (p ∷ ps) = all_so_far (so_far s p) ps

-- its list of parameters, as bytes
abbrev pub list_so_far : SoFar → List ℕ
list_so_far s = written s.pairs

-- ---- what the station tells of it
-- The end of PARAMS is told with the list's length; that of STDIN and of DATA with the word for what was written of the
-- stream against the length that the list states for it.
abbrev pub end_told : ℕ → SoFar → Input → Event
end_told id s Input.Params = Event.Ready id (length (list_so_far s))
end_told id s Input.Stdin = Event.End id STDIN (measured s.shown.stdin (stated_in (list_so_far s) CONTENT_LENGTH))
end_told id s Input.Data = Event.End id DATA (measured s.shown.«data» (stated_in (list_so_far s) DATA_LENGTH))

abbrev pub part_told : ℕ → SoFar → Part → List Note
part_told id s (APair name value) = []
part_told id s (Content stream x) = showing id (stream_type stream) x
part_told id s (EndOf input) = Note.Told (end_told id s input) ∷ []
part_told id s Abort = Note.Told (Event.Abort id) ∷ []

unfoldable pub parts_told : ℕ → SoFar → List Part → List Note
parts_told id s [] = []
parts_told id s (p ∷ ps) = part_told id s p ++ parts_told id (so_far s p) ps

-- ---- what is asked of it
-- bytes, and names and values that are not too long to be written
abbrev pub Proper : Part → Type 0
Proper (APair name value) = AllBytes name × AllBytes value × (length name ≤ MAX_WRITTEN) × (length value ≤ MAX_WRITTEN)
Proper (Content stream x) = AllBytes x
Proper (EndOf input) = Unit {0}
Proper Abort = Unit {0}

-- no two pairs have one name
abbrev pub NotAmong : List ℕ → List Named → Type 0
NotAmong name [] = Unit {0}
NotAmong name (p ∷ ps) = (name ≡ p.name → ⊥) × NotAmong name ps

abbrev pub NamesDiffer : List Named → Type 0
NamesDiffer [] = Unit {0}
NamesDiffer (p ∷ ps) = NotAmong p.name ps × NamesDiffer ps

-- names that differ, and a list that fits an area
abbrev pub ListFits : SoFar → Type 0
ListFits s = NamesDiffer s.pairs × (length (list_so_far s) ≤ AREA)

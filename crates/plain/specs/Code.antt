-- The code's values, read as those of the definition.
use Rattle.std.specs.Prelude.{ℕ, ◌+◌, ◌*◌, false, List, [], ◌∷◌, take, drop, get_or, set, replicate}
use Rattle.connection.specs.declared.event.Status.{Status}
use Rattle.connection.specs.declared.event.Event.{Event as CodeEvent}
use Rattle.connection.specs.Codes.{event_of, stream_type, close_cause}
use Rattle.connection.specs.Bytewise.{Told, Shown}
use Rattle.plain.specs.declared.LastWord.{LastWord}
use Rattle.plain.specs.declared.Answer.{Answer as CodeAnswer}
use Rattle.plain.specs.declared.table.Entry.{Entry}
use Rattle.plain.specs.declared.table.Table.{Table}
use Rattle.plain.specs.declared.table.Tells.{Tells}
use Rattle.plain.specs.declared.table.Said.{Said as CodeSaid}
use Rattle.plain.specs.declared.live.Change.{Change as CodeChange}
use Rattle.plain.specs.Plain.{Request, Said, Word, Answer, Event_is, Last_is, bytes}

-- ---- answers
abbrev pub word_of : LastWord → Word
word_of LastWord.Open = Word.Open
word_of LastWord.Cut = Word.Cut
word_of (LastWord.Closed cause) = Word.Closed (close_cause cause)

abbrev pub answer_of : CodeAnswer → Answer
answer_of (CodeAnswer.Event e) = Event_is (Told (event_of e))
answer_of (CodeAnswer.Byte id stream b) = Event_is (Shown id (stream_type stream) b)
answer_of (CodeAnswer.Last w) = Last_is (word_of w)

-- ---- requests
-- An entry with its list is a request.
abbrev pub request_of : Entry → List ℕ → Request
request_of e list =
    record { id = e.id; role = e.role; turn = e.turn; spent = e.spent; list = list; shown = e.shown }

-- the list of an entry in place i: the first bytes of its area of the store
abbrev pub list_at : Entry → List ℕ → ℕ → List ℕ
list_at e store i = take e.length (drop (i * 4096) store)

-- the requests of some entries, of which the first is in place i
unfoldable pub requests_from : List Entry → List ℕ → ℕ → List Request
requests_from [] store i = []
requests_from (e ∷ es) store i = request_of e (list_at e store i) ∷ requests_from es store (i + 1)

-- the requests of a table
abbrev pub requests_of : Table → List ℕ → List Request
requests_of t store = requests_from (take t.count t.entries) store 0

-- the entry in place i (past the last place a list answers this)
abbrev pub no_entry : Entry
no_entry = record { id = 0; role = 0; turn = 0; spent = false; length = 0; shown = 0 }

abbrev pub entry_at : Table → ℕ → Entry
entry_at t i = get_or t.entries i no_entry

-- ---- what a record with that content tells, and the requests after it
abbrev pub said_by : Tells → List Request → List ℕ → Said
said_by Tells.Nothing rs x = Said.Goes [] rs
said_by (Tells.Event e) rs x = Said.Goes (Told (event_of e) ∷ []) rs
said_by (Tells.Bytes id stream) rs x = Said.Goes (bytes id (stream_type stream) x) rs
said_by (Tells.Close close) rs x = Said.Closes (close_cause close)

-- ---- values that the code makes
abbrev pub new_entry : ℕ → ℕ → Entry
new_entry id role = record { id = id; role = role; turn = 4; spent = false; length = 0; shown = 0 }

abbrev pub empty_table : Table
empty_table = record { entries = replicate 16 (new_entry 0 0); count = 0 }

abbrev pub with_entry : Table → ℕ → Entry → ℕ → Table
with_entry t i e count = record { entries = set t.entries i e; count = count }

abbrev pub change : Entry → ℕ → Tells → CodeChange
change after kept tells = record { after = after; kept = kept; tells = tells }

abbrev pub said : Table → Tells → CodeSaid
said table tells = record { table = table; tells = tells }

abbrev pub refused : Table → ℕ → Status → CodeSaid
refused table id status = said table (Tells.Event (CodeEvent.Refuse id status))

-- What the web server's end is told, in the rules' numbers: output streams by their record type, closes by their number.
use Rattle.std.specs.Prelude.{ℕ, List, [], ◌∷◌, take}

pub data Event : Type 0 where
  None : Event
  -- the id, the stream, so many bytes of it
  Output : ℕ → ℕ → ℕ → Event
  -- the id, the stream that is ended
  Ended : ℕ → ℕ → Event
  -- the id, the application's status, the protocol's status
  Finished : ℕ → ℕ → ℕ → Event
  -- the length of the list of values, which is in the bytes that are lent
  Values : ℕ → Event
  -- the type that the station does not know
  Unknown : ℕ → Event
  -- why the connection closes: 51 to 56
  Closed : ℕ → Event

-- What is told: an event; one byte of output, with the id of its request and the type of its stream; of values, the
-- bytes of their list.
pub data Note : Type 0 where
  Told : Event → Note
  Shown : ℕ → ℕ → ℕ → Note
  Listed : List ℕ → Note

-- each of these bytes shown
unfoldable pub showing : ℕ → ℕ → List ℕ → List Note
showing id stream [] = []
showing id stream (b ∷ bytes) = Note.Shown id stream b ∷ showing id stream bytes

-- An event over the bytes that it came with, and the lent bytes as it left them.
abbrev pub notes : Event → List ℕ → List ℕ → List Note
notes Event.None bytes values = []
notes (Event.Output id stream n) bytes values = showing id stream (take n bytes)
notes (Event.Ended id stream) bytes values = Note.Told (Event.Ended id stream) ∷ []
notes (Event.Finished id a p) bytes values = Note.Told (Event.Finished id a p) ∷ []
notes (Event.Values n) bytes values = Note.Listed (take n values) ∷ []
notes (Event.Unknown kind) bytes values = Note.Told (Event.Unknown kind) ∷ []
notes (Event.Closed n) bytes values = Note.Told (Event.Closed n) ∷ []

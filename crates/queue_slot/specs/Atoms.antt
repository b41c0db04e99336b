-- Output made of atoms: a byte on a stream, the end of a stream, END. What waits is a list of them, oldest first.
-- Definitions only.
use Rattle.std.specs.Prelude.{ℕ, zero, suc, Bool, true, false, if◌then◌else◌}
use mathlib.Core.List.{List, [], ◌∷◌, map, flatten}
use Rattle.wire.specs.Test.{◌=?◌}
use Rattle.record.specs.Names.{STDOUT, STDERR, END_REQUEST, REQUEST_COMPLETE}
use Rattle.record.specs.Body.{end_body_bytes}
use Rattle.record.specs.Split.{Record, split}
use Rattle.connection.specs.declared.answer.Output.{Output}

-- END comes with its content.
pub data Atom : Type 0 where
  ByteOn : Output → ℕ → Atom
  EndOf : Output → Atom
  EndRequest : List ℕ → Atom

-- END with the content that a finish gives it
abbrev pub finish_of : ℕ → Atom
finish_of status = EndRequest (end_body_bytes status REQUEST_COMPLETE)

-- the most content bytes of a record that the pump writes
abbrev pub RUN : ℕ
RUN = 512

-- how many data bytes wait
unfoldable pub data_in : List Atom → ℕ
data_in [] = 0
data_in (ByteOn o b ∷ l) = suc (data_in l)
data_in (EndOf o ∷ l) = data_in l
data_in (EndRequest c ∷ l) = data_in l

-- does anything wait?
unfoldable pub is_some : List Atom → Bool
is_some [] = false
is_some (x ∷ l) = true

-- does END wait?
unfoldable pub end_waits : List Atom → Bool
end_waits [] = false
end_waits (ByteOn o b ∷ l) = end_waits l
end_waits (EndOf o ∷ l) = end_waits l
end_waits (EndRequest c ∷ l) = true

-- ---- what is written next
-- Nothing; the end of a stream; data of a stream; END with its content. Each with what waits then.
pub data Next : Type 0 where
  NoNext : Next
  NextEnd : Output → List Atom → Next
  NextData : Output → List ℕ → List Atom → Next
  NextLast : List ℕ → List Atom → Next

-- are they one stream?
abbrev pub is_same : Output → Output → Bool
is_same Output.Stdout Output.Stdout = true
is_same Output.Stdout Output.Stderr = false
is_same Output.Stderr Output.Stdout = false
is_same Output.Stderr Output.Stderr = true

-- the longest run of bytes of that stream at the front, up to so many, and what is behind it
pub record Run : Type 0 where
  pub content : List ℕ
  pub behind : List Atom

-- one byte more at its front
abbrev pub longer : ℕ → Run → Run
longer b r = record { content = b ∷ r.content; behind = r.behind }

-- at most so many bytes
unfoldable pub run_from : ℕ → Output → List Atom → Run
run_from zero o l = record { content = []; behind = l }
run_from (suc k) o [] = record { content = []; behind = [] }
run_from (suc k) o (ByteOn p b ∷ l) = if is_same o p then longer b (run_from k o l) else record { content = []; behind = ByteOn p b ∷ l }
run_from (suc k) o (EndOf p ∷ l) = record { content = []; behind = EndOf p ∷ l }
run_from (suc k) o (EndRequest c ∷ l) = record { content = []; behind = EndRequest c ∷ l }

-- what is at the front decides
unfoldable pub next : List Atom → Next
next [] = NoNext
next (ByteOn o b ∷ l) = NextData o (run_from RUN o (ByteOn o b ∷ l)).content (run_from RUN o (ByteOn o b ∷ l)).behind
next (EndOf o ∷ l) = NextEnd o l
next (EndRequest c ∷ l) = NextLast c l

-- ---- what written bytes say
-- a record of a stream: without content it is the end
abbrev pub stream_atoms : Output → List ℕ → List Atom
stream_atoms o [] = EndOf o ∷ []
stream_atoms o (b ∷ l) = map (ByteOn o) (b ∷ l)

-- a record by its type; others say nothing of output
unfoldable pub record_atoms : ℕ → List ℕ → List Atom
record_atoms kind content =
    if kind =? STDOUT then stream_atoms Output.Stdout content
    else if kind =? STDERR then stream_atoms Output.Stderr content
    else if kind =? END_REQUEST then EndRequest content ∷ []
    else []

-- a record that was read
abbrev pub atoms_of_record : Record → List Atom
atoms_of_record r = record_atoms r.kind r.content

-- bytes, record by record
unfoldable pub atoms_of : List ℕ → List Atom
atoms_of bytes = flatten (map atoms_of_record (split bytes).records)

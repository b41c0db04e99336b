-- The two receivers agree, the statement. `Theorem.agreement` is its proof.
--
-- Take any bytes, cut into pieces in any way. The stepping receiver is started, whatever the gathered bytes and the
-- store that it is lent held before, and is fed the pieces one after the other, with no call between. The plain
-- receiver (`plain/Plain`) is given the joined bytes at once. Then the stepping receiver tells just the events that
-- the plain one hears, in the same order, with the same ids, causes and measures, and shows the same bytes of STDIN
-- and DATA, one by one. And both have the same last word: closed, with the same cause; open, where the bytes end
-- between two records; or cut, where they end within one (`plain_is_stepping`). So both answer the same when they are
-- asked by number: the event of that number, or past the last event the last word (`by_number`).
--
-- The stepping receiver tells a close as an event, its last one. To the plain receiver a close is a last word, and so
-- closes are left out of the events here (`events_of`) and read as a last word (`last_word`).
use Rattle.std.specs.Prelude.{ℕ, ◌≡◌, Bool, false, List, [], ◌∷◌, length, if◌then◌else◌}
use Rattle.std.proofs.Math.Option.{Option, none, some}
use Rattle.wire.specs.Test.{◌=?◌}
use Rattle.record_reader.specs.declared.Position.{Position}
use Rattle.machine.specs.Cause.{Cause}
use Rattle.connection.specs.Sizes.{QUERY, STORE}
use Rattle.connection.specs.Event.{Event}
use Rattle.connection.specs.Step.{started}
use Rattle.connection.specs.Bytewise.{Note, Told, Shown, Run, fed_pieces, joined}
use Rattle.wire.proofs.Bytes.{AllBytes}
use Rattle.plain.specs.Plain.{Word, Open, Cut, Closed, heard, answer_in, answer}

-- ---- closes
-- the cause of the close that an event tells
abbrev pub close_of_event : Event → Option Cause
close_of_event Event.None = none
close_of_event (Event.Open id role keep) = none
close_of_event (Event.Ready id n) = none
close_of_event (Event.Data id stream n) = none
close_of_event (Event.End id stream measure) = none
close_of_event (Event.Abort id) = none
close_of_event (Event.Refuse id status) = none
close_of_event (Event.Fault id cause) = none
close_of_event (Event.Query conns reqs mpxs) = none
close_of_event (Event.Unknown kind) = none
close_of_event (Event.Closed cause) = some cause

abbrev pub close_of_note : Note → Option Cause
close_of_note (Told e) = close_of_event e
close_of_note (Shown id stream b) = none

-- ---- the events: all that is told and shown, without closes
abbrev pub unless_close : Option Cause → Note → List Note → List Note
unless_close none n ns = n ∷ ns
unless_close (some cause) n ns = ns

unfoldable pub events_of : List Note → List Note
events_of [] = []
events_of (n ∷ ns) = unless_close (close_of_note n) n (events_of ns)

-- ---- the last word
-- the cause of the first close that is told
abbrev pub first_of : Option Cause → Option Cause → Option Cause
first_of none later = later
first_of (some cause) later = some cause

unfoldable pub close_in : List Note → Option Cause
close_in [] = none
close_in (n ∷ ns) = first_of (close_of_note n) (close_in ns)

-- between two records: no byte of a header is held, no content and no padding is yet to come
abbrev pub is_between : Position → Bool
is_between p = if p.held =? 0 then (if p.content =? 0 then p.padding =? 0 else false) else false

abbrev pub word_at : Option Cause → Position → Word
word_at none p = if is_between p then Open else Cut
word_at (some cause) p = Closed cause

unfoldable pub last_word : Run → Word
last_word r = word_at (close_in r.notes) r.state.conn.frame.position

-- ---- the statement
-- a fresh connection, fed these pieces; its gathered bytes and its store may have held anything
abbrev pub fed_fresh : List ℕ → List ℕ → List (List ℕ) → Run
fed_fresh gathered store pieces = fed_pieces (started gathered store).state (started gathered store).store pieces

-- A run of the stepping receiver agrees with what the plain receiver hears in these bytes.
pub record Agrees (b : List ℕ) (r : Run) : Type 0 where
  pub events : events_of r.notes ≡ (heard b).events
  pub word : last_word r ≡ (heard b).word

pub record Agreement : Type 0 where
  pub plain_is_stepping : (pieces : List (List ℕ)) (gathered store : List ℕ) → length gathered ≡ QUERY
      → length store ≡ STORE → AllBytes (joined pieces) → Agrees (joined pieces) (fed_fresh gathered store pieces)
  pub by_number : (pieces : List (List ℕ)) (gathered store : List ℕ) (k : ℕ) → length gathered ≡ QUERY
      → length store ≡ STORE → AllBytes (joined pieces)
      → answer_in (events_of (fed_fresh gathered store pieces).notes) (last_word (fed_fresh gathered store pieces)) k
      ≡ answer (joined pieces) k

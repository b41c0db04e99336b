-- What bytes mean, record by record: the records of their split, each header judged and its content given at once to
-- what it is for. Here is no phase and no step.
use Rattle.std.specs.Prelude.{ℕ, ◌-◌, List, [], ◌∷◌, length, take, drop, if◌then◌else◌}
use Rattle.wire.specs.Test.{◌<?◌, ◌=?◌}
use Rattle.wire.specs.Buffer.{put_at}
use Rattle.record.specs.Names.{HEADER_LEN}
use Rattle.record.specs.Header.{header_of}
use Rattle.record.specs.declared.header.Header.{Header}
use Rattle.record.specs.Split.{Record, split}
use Rattle.record_reader.specs.Position.{no_header}
use Rattle.record_reader.specs.declared.Position.{Position}
use Rattle.connection.specs.Event.{Event}
use Rattle.connection.specs.Step.{State, Left, state_of, frame_at, reads, judged, on_target}
use Rattle.connection.specs.Bytewise.{Run, notes, resting, ◌then-run◌}

-- a run that is what one rule leaves, told of these bytes
abbrev pub ran : Left → List ℕ → Run
ran l bytes = record { state = state_of l.conn l.gathered; store = l.store; notes = notes l.event bytes }

-- after a header and some of what follows it: so much content and so much padding is yet to come
abbrev pub to_come : ℕ → ℕ → Position
to_come content padding = record { content = content; padding = padding; held = 0; header = no_header }

-- Content goes at once to what it is for. None changes nothing, and neither does any when the connection is closed.
unfoldable pub content_means : ℕ → ℕ → List ℕ → State → List ℕ → Run
content_means content padding x st store =
    if st.conn.«open» then
    (if length x =? 0 then resting st store else ran (on_target st.conn.frame.target st store x (to_come content padding)) x)
    else resting st store

-- the header with another padding length
abbrev pub with_padding : Header → ℕ → Header
with_padding h padding = record { version = h.version; kind = h.kind; id = h.id; content = h.content; padding = padding }

-- A header is judged, and then comes its content, or the part of it that there is; so much of content and padding is
-- yet to come.
unfoldable pub header_means : State → List ℕ → Header → List ℕ → ℕ → ℕ → Run
header_means st store h x content padding = ran (judged st store (with_padding h padding)) [] then-run content_means content padding x

-- A whole record: nothing is yet to come, and its padding says nothing.
abbrev pub header_for : Record → Header
header_for r = record { version = r.version; kind = r.kind; id = r.id; content = length r.content; padding = r.padding }

abbrev pub record_means : State → List ℕ → Record → Run
record_means st store r = header_means st store (header_for r) r.content 0 0

-- The cut rest: a header that is not whole is held; a header that is whole is judged, and then comes what there is of
-- its content.
unfoldable pub rest_means : State → List ℕ → List ℕ → Run
rest_means st store b =
    if length b <? HEADER_LEN then
    ran (reads st store (frame_at st.conn.frame (record { content = 0; padding = 0; held = length b; header = put_at no_header 0 b })) Event.None) []
    else let c = (header_of b).content in
    header_means st store (header_of b) (take c (drop HEADER_LEN b)) (c - (length b - HEADER_LEN)) ((header_of b).padding - (length b - HEADER_LEN - c))

-- The records in order, until one closes the connection, and the rest last.
unfoldable pub records_mean : List Record → List ℕ → State → List ℕ → Run
records_mean [] rest st store = if st.conn.«open» then rest_means st store rest else resting st store
records_mean (r ∷ rs) rest st store =
    if st.conn.«open» then record_means st store r then-run records_mean rs rest else resting st store

-- Bytes, from a state between two records.
unfoldable pub means : State → List ℕ → List ℕ → Run
means st store b = records_mean (split b).records (split b).rest st store

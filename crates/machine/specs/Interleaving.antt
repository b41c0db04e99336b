-- Interleavings: timelines that are put together from whole records and calls, and what of one is R's own. Definitions
-- only. Like those of `Timeline` they know no connection: a call is an id and an argument of any type.
use Rattle.std.specs.Prelude.{◌≡◌, List, [], ◌∷◌, ◌++◌, Bool, true, ℕ, if◌then◌else◌}
use Rattle.wire.specs.Test.{◌=?◌}
use Rattle.record.specs.Split.{Record, split}
use Rattle.machine.specs.Timeline.{Call, Item, ByteItem, CallItem, item_bytes, is_own_call}

-- ---- parts
-- A part of a timeline: a record of an id, with the calls that stand between its bytes; or a call between two records.
pub data Part (Argument : Type 0) : Type 0 where
  RecordPart : ℕ → List (Item Argument) → Part Argument
  CallPart : Call Argument → Part Argument

-- The bytes are one whole record, and it is of that id.
pub record IsRecordOf (id : ℕ) (bytes : List ℕ) : Type 0 where
  pub whole : Record
  pub is_split : split bytes ≡ record { records = whole ∷ []; rest = [] }
  pub is_id : whole.id ≡ id

-- The part is a whole record of the id that it names, or a call.
abbrev pub WholePart : {Argument : Type 0} → Part Argument → Type 0
WholePart (RecordPart id items) = IsRecordOf id (item_bytes items)
WholePart (CallPart c) = Unit {0}

abbrev pub AllWhole : {Argument : Type 0} → List (Part Argument) → Type 0
AllWhole [] = Unit {0}
AllWhole (p ∷ ps) = WholePart p × AllWhole ps

-- the timeline that parts make
abbrev pub part_items : {Argument : Type 0} → Part Argument → List (Item Argument)
part_items (RecordPart id items) = items
part_items (CallPart c) = CallItem c ∷ []

unfoldable pub all_items : {Argument : Type 0} → List (Part Argument) → List (Item Argument)
all_items [] = []
all_items (p ∷ ps) = part_items p ++ all_items ps

-- ---- what is R's
-- Of items in a record: the bytes, if the record is R's, and the calls that name R, whosever the record is.
unfoldable pub own_in : {Argument : Type 0} → Bool → ℕ → List (Item Argument) → List (Item Argument)
own_in of_r R [] = []
own_in of_r R (ByteItem b ∷ t) = if of_r then ByteItem b ∷ own_in of_r R t else own_in of_r R t
own_in of_r R (CallItem c ∷ t) = if is_own_call R c then CallItem c ∷ own_in of_r R t else own_in of_r R t

-- of a part
abbrev pub own_of_part : {Argument : Type 0} → ℕ → Part Argument → List (Item Argument)
own_of_part R (RecordPart id items) = own_in (id =? R) R items
own_of_part R (CallPart c) = if is_own_call R c then CallItem c ∷ [] else []

-- of parts, in their order
unfoldable pub own_of : {Argument : Type 0} → ℕ → List (Part Argument) → List (Item Argument)
own_of R [] = []
own_of R (p ∷ ps) = own_of_part R p ++ own_of R ps

-- ---- parts of one request alone
-- All calls among these items name that id.
abbrev pub AllCallsOf : {Argument : Type 0} → ℕ → List (Item Argument) → Type 0
AllCallsOf id [] = Unit {0}
AllCallsOf id (ByteItem b ∷ t) = AllCallsOf id t
AllCallsOf id (CallItem c ∷ t) = (is_own_call id c ≡ true) × AllCallsOf id t

-- The part is of that id alone: its record is, and so are all its calls.
abbrev pub IsOf : {Argument : Type 0} → ℕ → Part Argument → Type 0
IsOf id (RecordPart r items) = (r ≡ id) × AllCallsOf id items
IsOf id (CallPart c) = is_own_call id c ≡ true

-- Timelines: the bytes that the steps of a run used and the calls that it made, in order; and what purging (striking
-- out) leaves of one. Definitions only. They know no connection: a call is an id and an argument of any type.
use Rattle.std.specs.Prelude.{List, [], ◌∷◌, ◌++◌, Bool, true, false, ℕ, zero, suc, length, if◌then◌else◌}
use Rattle.wire.specs.Test.{◌<?◌, ◌=?◌}
use Rattle.record.specs.Header.{header_of}

-- ---- items
-- A call names the request that it is for; the active number names nobody.
pub data Call (Argument : Type 0) : Type 0 where
  RequestCall : ℕ → Argument → Call Argument
  CountCall : Call Argument

-- One item of a timeline: a byte that was used, or a call.
pub data Item (Argument : Type 0) : Type 0 where
  ByteItem : ℕ → Item Argument
  CallItem : Call Argument → Item Argument

-- bytes as items
unfoldable pub byte_items : {Argument : Type 0} → List ℕ → List (Item Argument)
byte_items [] = []
byte_items (b ∷ x) = ByteItem b ∷ byte_items x

-- the bytes of a timeline, without its calls
unfoldable pub item_bytes : {Argument : Type 0} → List (Item Argument) → List ℕ
item_bytes [] = []
item_bytes (ByteItem b ∷ t) = b ∷ item_bytes t
item_bytes (CallItem c ∷ t) = item_bytes t

-- ---- the fields of a header, as the record format has them
-- the version
unfoldable pub header_version : List ℕ → ℕ
header_version h = (header_of h).version

-- the record type
unfoldable pub header_type : List ℕ → ℕ
header_type h = (header_of h).kind

-- the request id
unfoldable pub header_id : List ℕ → ℕ
header_id h = (header_of h).id

-- the content length
unfoldable pub header_content : List ℕ → ℕ
header_content h = (header_of h).content

-- the padding length
unfoldable pub header_padding : List ℕ → ℕ
header_padding h = (header_of h).padding

-- ---- purging: of the bytes those of R's records stay, of the calls those that name R
-- Where the next byte stands: in a header, with the bytes of it that are in; or past a header, with whether the
-- record is R's and its content and padding left.
pub data Scan : Type 0 where
  ScanHeader : List ℕ → Scan
  ScanRest : Bool → ℕ → ℕ → Scan

-- with so much left of the record
unfoldable pub scan_left : Bool → ℕ → ℕ → Scan
scan_left k zero zero = ScanHeader []
scan_left k zero (suc p) = ScanRest k zero (suc p)
scan_left k (suc c) p = ScanRest k (suc c) p

-- after a header byte: are they fewer than eight still?
unfoldable pub scan_whole : Bool → ℕ → List ℕ → Scan
scan_whole true R h = ScanHeader h
scan_whole false R h = scan_left (header_id h =? R) (header_content h) (header_padding h)

-- after any byte
unfoldable pub scan_next : ℕ → Scan → ℕ → Scan
scan_next R (ScanHeader h) b = scan_whole (length (h ++ b ∷ []) <? 8) R (h ++ b ∷ [])
scan_next R (ScanRest k (suc c) p) b = scan_left k c p
scan_next R (ScanRest k zero (suc p)) b = scan_left k zero p
scan_next R (ScanRest k zero zero) b = ScanHeader []

-- Is the first of the bytes that still come one of R's record? A byte of a header belongs to the record that it
-- becomes part of: its id is read from the bytes that are in and those that still come.
unfoldable pub is_own : ℕ → Scan → List ℕ → Bool
is_own R (ScanHeader h) l = header_id (h ++ l) =? R
is_own R (ScanRest k c p) l = k

-- does a call name R?
unfoldable pub is_own_call : {Argument : Type 0} → ℕ → Call Argument → Bool
is_own_call R (RequestCall id a) = id =? R
is_own_call R CountCall = false

-- what stays of a timeline from there on
unfoldable pub purge_from : {Argument : Type 0} → ℕ → Scan → List (Item Argument) → List (Item Argument)
purge_from R m [] = []
purge_from R m (ByteItem b ∷ t) =
    if is_own R m (b ∷ item_bytes t) then ByteItem b ∷ purge_from R (scan_next R m b) t else purge_from R (scan_next R m b) t
purge_from R m (CallItem c ∷ t) = if is_own_call R c then CallItem c ∷ purge_from R m t else purge_from R m t

-- what stays of a timeline that begins between two records
abbrev pub purge : {Argument : Type 0} → ℕ → List (Item Argument) → List (Item Argument)
purge R t = purge_from R (ScanHeader []) t

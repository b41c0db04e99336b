-- A list of bytes split into whole records and the rest, a record that is cut (FastCGI 1.0, section 3.3).
use Rattle.std.specs.Prelude.{ℕ, zero, suc, ◌+◌, Bool, false, List, [], ◌∷◌, ◌++◌, length, take, drop, if◌then◌else◌}
use Rattle.wire.specs.Test.{◌<?◌, ◌≤?◌}
use Rattle.record.specs.Names.{HEADER_LEN}
use Rattle.record.specs.Header.{header_of}

infixr 30 ◌then-split◌
-- A whole record as it is read: what its header says and its content. Padding has a length and nothing else.
pub record Record : Type 0 where
  pub version : ℕ
  pub kind : ℕ
  pub id : ℕ
  pub content : List ℕ
  pub padding : ℕ

pub record Split : Type 0 where
  pub records : List Record
  pub rest : List ℕ

-- the length of the record at the front, by its header
unfoldable pub front_length : List ℕ → ℕ
front_length b = HEADER_LEN + (header_of b).content + (header_of b).padding

-- there is a whole record at the front
unfoldable pub whole_front : List ℕ → Bool
whole_front b = if length b <? HEADER_LEN then false else front_length b ≤? length b

-- the record at the front
unfoldable pub front : List ℕ → Record
front b =
    record {
      version = (header_of b).version;
      kind = (header_of b).kind;
      id = (header_of b).id;
      content = take (header_of b).content (drop HEADER_LEN b);
      padding = (header_of b).padding;
    }

-- no record, all is rest; records and then a split
abbrev pub all_rest : List ℕ → Split
all_rest b = record { records = []; rest = b }

abbrev pub ◌then-split◌ : List Record → Split → Split
rs then-split s = record { records = rs ++ s.records; rest = s.rest }

-- (The first argument bounds the number of records.)
unfoldable pub split_in : ℕ → List ℕ → Split
split_in zero b = all_rest b
split_in (suc k) b =
    if whole_front b then (front b ∷ []) then-split split_in k (drop (front_length b) b)
    else all_rest b

unfoldable pub split : List ℕ → Split
unfolding split_in
split b = split_in (length b) b

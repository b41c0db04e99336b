-- What contracts ask of a header, and of what content is for.
use Rattle.std.specs.Prelude.{◌≡◌, ℕ, ◌+◌, ◌≤◌, ◌<◌, true, get_or, None}
use Rattle.slot_word.specs.Word.{taken}
use Rattle.record.specs.declared.header.Header.{Header}
use Rattle.connection.specs.declared.state.Table.{Table}
use Rattle.connection.specs.declared.state.Target.{Target}
use Rattle.connection.specs.Sizes.{SLOTS, AREA, QUERY}
use Rattle.connection.specs.Slots.{find}

-- A header with content of at most 65,535 bytes and padding of at most 255.
pub record HeaderFits (h : Header) : Type 0 where
  pub content : h.content ≤ 65535
  pub padding : h.padding ≤ 255

-- A slot that is not free.
pub record InUse (t : Table) (i : ℕ) : Type 0 where
  pub low : i < SLOTS
  pub slot_taken : taken i t.occupied ≡ true

-- A BEGIN body: the bytes gathered and those left make 8, and its id is neither 0 nor active.
pub record Begins (t : Table) (id gathered left : ℕ) : Type 0 where
  pub eight : gathered + left ≡ 8
  pub some : id ≡ 0 → ⊥
  pub inactive : find t id ≡ None

-- PARAMS content: its slot is not free, and its list with what is left does not pass AREA.
pub record Grows (t : Table) (i left : ℕ) : Type 0 where
  pub slot : InUse t i
  pub room : get_or t.lengths i 0 + left ≤ AREA

-- What the content left is for, with the bytes gathered.
abbrev pub Aimed : Target → Table → ℕ → ℕ → Type 0
Aimed Target.Skip t gathered left = Unit {0}
Aimed (Target.Begin id) t gathered left = Begins t id gathered left
Aimed Target.Query t gathered left = gathered + left ≤ QUERY
Aimed (Target.Params i) t gathered left = Grows t i left
Aimed (Target.Stdin i) t gathered left = InUse t i
Aimed (Target.Data i) t gathered left = InUse t i

-- The position of a reader of records: what it still needs of the record that it is in.
use Rattle.std.specs.Prelude.{ℕ, ◌+◌, ◌-◌, ◌<◌, min, ◌≡◌, List, [], ◌∷◌, ◌++◌, length, take, replicate, if◌then◌else◌}
use Rattle.wire.specs.Test.{◌<?◌, ◌≤?◌}
use Rattle.wire.specs.Buffer.{put_at, zeros}
use Rattle.record.specs.Names.{HEADER_LEN}
use Rattle.record.specs.Header.{header_of}
use Rattle.record.specs.declared.header.Header.{Header}
use Rattle.record_reader.specs.declared.Position.{Position}
use Rattle.record_reader.specs.declared.Phase.{Phase}
use Rattle.record_reader.specs.declared.Phase.TheVariants.{Content, Padding, Part, Whole}
use Rattle.record_reader.specs.declared.Advanced.{Advanced}

-- the bytes of a header when none is in
abbrev pub no_header : List ℕ
no_header = zeros HEADER_LEN

-- Between two records: nothing is left of the last one, nothing is in of the next.
abbrev pub between_records : Position
between_records = record { content = 0; padding = 0; held = 0; header = no_header }

-- A header that is whole says how much content and padding follow.
abbrev pub after_header : Header → Position
after_header h = record { content = h.content; padding = h.padding; held = 0; header = no_header }

-- The header bytes held and the first n of the piece.
abbrev pub held_and : ℕ → List ℕ → ℕ → List ℕ → List ℕ
held_and held header n piece = put_at header held (take n piece)

-- In a header: as many bytes as it still needs or the piece has. (A reader that holds eight header bytes or more,
-- which no reading makes, uses none.)
unfoldable pub in_header : ℕ → List ℕ → List ℕ → Advanced
in_header held header piece =
    if HEADER_LEN ≤? held then record {
      used = 0;
      phase = Part;
      position = record { content = 0; padding = 0; held = held; header = header };
    }
    else let used = min (HEADER_LEN - held) (length piece) in
    if held + used <? HEADER_LEN then record {
      used = used;
      phase = Part;
      position = record { content = 0; padding = 0; held = held + used; header = held_and held header used piece };
    }
    else record {
      used = used;
      phase = Whole (header_of (held_and held header used piece));
      position = after_header (header_of (held_and held header used piece));
    }

-- One step: it stays in one phase, and a phase of which nothing is left is passed over.
unfoldable pub advanced : Position → List ℕ → Advanced
advanced p piece =
    if 0 <? p.content then record {
      used = min p.content (length piece);
      phase = Content;
      position = record {
        content = p.content - min p.content (length piece);
        padding = p.padding;
        held = p.held;
        header = p.header;
      };
    }
    else if 0 <? p.padding then record {
      used = min p.padding (length piece);
      phase = Padding;
      position = record {
        content = 0;
        padding = p.padding - min p.padding (length piece);
        held = p.held;
        header = p.header;
      };
    }
    else in_header p.held p.header piece

-- Not more than seven header bytes are held, in a buffer of eight.
pub record Proper (p : Position) : Type 0 where
  pub held : p.held < HEADER_LEN
  pub eight : length p.header ≡ HEADER_LEN

-- Byte by byte: the position after some bytes, and what each of them was.
unfoldable pub after : Position → List ℕ → Position
after p [] = p
after p (b ∷ bs) = after (advanced p (b ∷ [])).position bs

unfoldable pub phases : Position → List ℕ → List Phase
phases p [] = []
phases p (b ∷ bs) = (advanced p (b ∷ [])).phase ∷ phases (advanced p (b ∷ [])).position bs

-- What the bytes of one step were, one by one: of those that make a header whole only the last does so.
unfoldable pub spread : ℕ → Phase → List Phase
spread n Content = replicate n Content
spread n Padding = replicate n Padding
spread n Part = replicate n Part
spread n (Whole h) = replicate (n - 1) Part ++ (Whole h ∷ [])

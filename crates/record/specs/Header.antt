-- The header of a record (FastCGI 1.0, section 3.3).
use Rattle.std.specs.Prelude.{ℕ, List, [], ◌∷◌, ◌++◌}
use Rattle.wire.specs.Number.{number2, bytes2}
use Rattle.wire.specs.Buffer.{byte_at}
use Rattle.record.specs.Names.{VERSION}
use Rattle.record.specs.declared.header.Header.{Header}

-- What the eight bytes say: version, type, request id, content length, padding length. The eighth is reserved and
-- says nothing.
unfoldable pub header_of : List ℕ → Header
header_of b =
    record {
      version = byte_at b 0;
      kind = byte_at b 1;
      id = number2 (byte_at b 2) (byte_at b 3);
      content = number2 (byte_at b 4) (byte_at b 5);
      padding = byte_at b 6;
    }

-- The eight bytes as they are written: version 1, reserved byte 0.
unfoldable pub header_bytes : ℕ → ℕ → ℕ → ℕ → List ℕ
header_bytes kind id content padding = VERSION ∷ kind ∷ (bytes2 id ++ bytes2 content ++ (padding ∷ 0 ∷ []))

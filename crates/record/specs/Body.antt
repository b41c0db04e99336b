-- The bodies of eight bytes: BEGIN_REQUEST, END_REQUEST and UNKNOWN_TYPE (FastCGI 1.0, sections 5.1, 5.5 and 4.2).
use Rattle.std.specs.Prelude.{ℕ, ◌%◌, Bool, List, ◌∷◌, ◌++◌, if◌then◌else◌}
use Rattle.wire.specs.Test.{◌=?◌}
use Rattle.wire.specs.Number.{number2, number4, bytes2, bytes4}
use Rattle.wire.specs.Buffer.{byte_at, zeros}
use Rattle.record.specs.Names.{KEEP_CONN}
use Rattle.record.specs.declared.body.BeginBody.{BeginBody}
use Rattle.record.specs.declared.body.EndBody.{EndBody}

-- Section 5.1: the role in two bytes, then the flags. KEEP_CONN is the lowest flag bit, the other bits are ignored;
-- five bytes are reserved.
unfoldable pub begin_body_of : List ℕ → BeginBody
begin_body_of b =
    record { role = number2 (byte_at b 0) (byte_at b 1); keep = byte_at b 2 % 2 =? KEEP_CONN }

-- Section 5.5, the struct FCGI_EndRequestBody: the application status in four bytes, the protocol status, three
-- reserved bytes.
unfoldable pub end_body_of : List ℕ → EndBody
end_body_of b =
    record {
      app_status = number4 (byte_at b 0) (byte_at b 1) (byte_at b 2) (byte_at b 3);
      protocol_status = byte_at b 4;
    }

-- Section 4.2, the struct FCGI_UnknownTypeBody: the type that was not understood, seven reserved bytes.
unfoldable pub unknown_type_of : List ℕ → ℕ
unknown_type_of b = byte_at b 0

-- The bodies as they are written, reserved bytes 0.
unfoldable pub begin_body_bytes : ℕ → Bool → List ℕ
begin_body_bytes role keep = bytes2 role ++ ((if keep then KEEP_CONN else 0) ∷ zeros 5)

unfoldable pub end_body_bytes : ℕ → ℕ → List ℕ
end_body_bytes appStatus protocolStatus = bytes4 appStatus ++ (protocolStatus ∷ zeros 3)

unfoldable pub unknown_type_bytes : ℕ → List ℕ
unknown_type_bytes kind = kind ∷ zeros 7

-- What holds of the bodies of eight bytes.
use Rattle.std.specs.Prelude.{ℕ, ◌%◌, ◌<◌, ◌≡◌, refl, Bool, true, false, List, ◌∷◌, length}
use Rattle.std.proofs.Common.{arith}
use Rattle.wire.specs.Number.{number2_bytes, number4_bytes}
use Rattle.record.specs.Body.{begin_body_of, end_body_of, unknown_type_of, begin_body_bytes, end_body_bytes, unknown_type_bytes}

-- What is written reads back.
pub begin_read_back : (role : ℕ) (keep : Bool) → role < 65536 → begin_body_of (begin_body_bytes role keep) ≡ record { role = role; keep = keep }
unfolding begin_body_of begin_body_bytes
begin_read_back role true h = rw (number2_bytes role h)
begin_read_back role false h = rw (number2_bytes role h)

pub end_read_back : (appStatus protocolStatus : ℕ) → appStatus < 4294967296
    → end_body_of (end_body_bytes appStatus protocolStatus) ≡ record { app_status = appStatus; protocol_status = protocolStatus }
unfolding end_body_of end_body_bytes
end_read_back appStatus protocolStatus h = rw (number4_bytes appStatus h)

pub unknown_read_back : (kind : ℕ) → unknown_type_of (unknown_type_bytes kind) ≡ kind
unfolding unknown_type_of unknown_type_bytes
unknown_read_back kind = refl

pub begin_length : (role : ℕ) (keep : Bool) → length (begin_body_bytes role keep) ≡ 8
unfolding begin_body_bytes
begin_length role keep = refl

pub end_length : (appStatus protocolStatus : ℕ) → length (end_body_bytes appStatus protocolStatus) ≡ 8
unfolding end_body_bytes
end_length appStatus protocolStatus = refl

pub unknown_length : (kind : ℕ) → length (unknown_type_bytes kind) ≡ 8
unfolding unknown_type_bytes
unknown_length kind = refl

-- The reserved bytes and the other flag bits of a BEGIN body, and the reserved bytes of the others, say nothing.
pub begin_reserved : (r1 r0 flags : ℕ) (x y : List ℕ) → begin_body_of (r1 ∷ r0 ∷ flags ∷ x) ≡ begin_body_of (r1 ∷ r0 ∷ flags % 2 ∷ y)
unfolding begin_body_of
begin_reserved r1 r0 flags x y = let twice : flags % 2 % 2 ≡ flags % 2 = omega arith in rw twice

pub end_reserved : (s3 s2 s1 s0 p : ℕ) (x y : List ℕ) → end_body_of (s3 ∷ s2 ∷ s1 ∷ s0 ∷ p ∷ x) ≡ end_body_of (s3 ∷ s2 ∷ s1 ∷ s0 ∷ p ∷ y)
unfolding end_body_of
end_reserved s3 s2 s1 s0 p x y = refl

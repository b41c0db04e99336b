-- What is written is bytes: records, streams, bodies, pairs.
use Rattle.std.specs.Prelude.{ℕ, zero, suc, ◌+◌, ◌<◌, ◌≡◌, Bool, true, false, List, [], ◌∷◌, ◌++◌, length, take, drop, ltb, if◌then◌else◌}
use Rattle.std.proofs.Common.{arith, ltb-true}
use Rattle.wire.specs.Test.{◌<?◌, by_test}
use Rattle.wire.specs.Number.{bytes4}
use Rattle.wire.specs.Buffer.{zeros}
use Rattle.wire.proofs.Bytes.{AllBytes, zeros_bytes, take_bytes, drop_bytes, append_bytes}
use Rattle.record.specs.Header.{header_bytes}
use Rattle.record.specs.Body.{end_body_bytes, unknown_type_bytes}
use Rattle.record_writer.specs.Written.{padding_of, record_bytes, stream_bytes}
use Rattle.record_writer.proofs.WrittenLaws.{padding_small}
use Rattle.record_writer.proofs.StreamLaws.{by_chunks, stream_none, stream_more}
use Rattle.pairs.specs.Length.{length_bytes}
use Rattle.pairs.specs.Pair.{pair_bytes}
use Rattle.connection.specs.Sizes.{CHUNK}

pub no_bytes : AllBytes []
no_bytes k = omega arith

-- one byte in front of others
cons_bytes : (b : ℕ) (x : List ℕ) → b < 256 → AllBytes x → AllBytes (b ∷ x)
cons_bytes b x h a zero = h
cons_bytes b x h a (suc k) = a k

-- bytes that are written out: a test that computes
abbrev pub all_small : List ℕ → Bool
all_small [] = true
all_small (b ∷ x) = if b <? 256 then all_small x else false

pub small_bytes : (x : List ℕ) → all_small x ≡ true → AllBytes x
small_bytes [] e = no_bytes
small_bytes (b ∷ x) e =
    by_test (ltb b 256)
    (λ t. cons_bytes b x (ltb-true b 256 t) (small_bytes x (simp t at e)))
    (λ t. let z : ◌≡◌ {A = ℕ} 0 1 = cc (simp t at e) in absurd (omega arith))

-- ---- records
header_bytes_lem : (kind id content padding : ℕ) → kind < 256 → padding < 256 → AllBytes (header_bytes kind id content padding)
unfolding header_bytes
header_bytes_lem kind id content padding hk hp zero = omega arith
header_bytes_lem kind id content padding hk hp (suc zero) = hk
header_bytes_lem kind id content padding hk hp (suc (suc zero)) = omega arith
header_bytes_lem kind id content padding hk hp (suc (suc (suc zero))) = omega arith
header_bytes_lem kind id content padding hk hp (suc (suc (suc (suc zero)))) = omega arith
header_bytes_lem kind id content padding hk hp (suc (suc (suc (suc (suc zero))))) = omega arith
header_bytes_lem kind id content padding hk hp (suc (suc (suc (suc (suc (suc zero)))))) = hp
header_bytes_lem kind id content padding hk hp (suc (suc (suc (suc (suc (suc (suc k))))))) = zeros_bytes 1 k

pub record_is_bytes : (kind id : ℕ) (x : List ℕ) → kind < 256 → AllBytes x → AllBytes (record_bytes kind id x)
unfolding record_bytes
record_is_bytes kind id x hk all =
    let p = padding_of (length x) in
    let h = header_bytes kind id (length x) p in
    append_bytes (h ++ x) (zeros p) (append_bytes h x (header_bytes_lem kind id (length x) p hk (omega (arith, padding_small (length x)))) all) (zeros_bytes p)

pub stream_is_bytes : (kind id : ℕ) → kind < 256 → (x : List ℕ) → AllBytes x → AllBytes (stream_bytes CHUNK kind id x)
stream_is_bytes kind id hk =
    by_chunks (λ x. AllBytes x → AllBytes (stream_bytes CHUNK kind id x)) CHUNK (omega arith)
    (λ all. rw (stream_none CHUNK kind id) no_bytes)
    (λ x some ih all.
    rw (stream_more CHUNK kind id x (omega arith) some)
    (append_bytes (record_bytes kind id (take CHUNK x)) (stream_bytes CHUNK kind id (drop CHUNK x)) (record_is_bytes kind id (take CHUNK x) hk (take_bytes CHUNK x all)) (ih (drop_bytes CHUNK x all))))

-- ---- bodies and pairs
four_bytes : (n : ℕ) → AllBytes (bytes4 n)
four_bytes n zero = omega arith
four_bytes n (suc zero) = omega arith
four_bytes n (suc (suc zero)) = omega arith
four_bytes n (suc (suc (suc zero))) = omega arith
four_bytes n (suc (suc (suc (suc k)))) = no_bytes k

pub end_body_is_bytes : (a p : ℕ) → p < 256 → AllBytes (end_body_bytes a p)
unfolding end_body_bytes
end_body_is_bytes a p h = append_bytes (bytes4 a) (p ∷ zeros 3) (four_bytes a) (cons_bytes p (zeros 3) h (zeros_bytes 3))

pub unknown_body_is_bytes : (kind : ℕ) → kind < 256 → AllBytes (unknown_type_bytes kind)
unfolding unknown_type_bytes
unknown_body_is_bytes kind h = cons_bytes kind (zeros 7) h (zeros_bytes 7)

length_is_bytes : (n : ℕ) → AllBytes (length_bytes n)
unfolding length_bytes
length_is_bytes n = by_test (ltb n 128) (λ t. rw t (cons_bytes n [] (omega (arith, ltb-true n 128 t)) no_bytes)) (λ t. rw t (four_bytes (n + 2147483648)))

pub pair_is_bytes : (name value : List ℕ) → AllBytes name → AllBytes value → AllBytes (pair_bytes name value)
unfolding pair_bytes
pair_is_bytes name value a b =
    let n = length_bytes (length name) in
    let v = length_bytes (length value) in
    append_bytes (n ++ v ++ name) value (append_bytes (n ++ v) name (append_bytes n v (length_is_bytes (length name)) (length_is_bytes (length value))) a) b

-- What holds of a pair that is written as a stream: one record of it, the loop, and what the call comes to.
use Rattle.std.specs.Prelude.{ℕ, ◌+◌, ◌-◌, ◌≤◌, ◌<◌, min, ◌≡◌, refl, true, List, ◌++◌, length, take, drop, Ok}
use Rattle.std.proofs.Common.{sym, ap, ◌∙◌, arith, length-append, length-take, length-drop, length-take-le, zero-add, le-ltb}
use Rattle.wire.specs.Buffer.{put_at, copied, zeros}
use Rattle.record.specs.Header.{header_bytes}
use Rattle.pairs.specs.Length.{length_bytes}
use Rattle.pairs.specs.Pair.{pair_bytes}
use Rattle.pair_writer.specs.Write.{MAX_WRITTEN, answered}
use Rattle.pair_writer.proofs.WriteLaws.{lengths_take}
use Rattle.pair_stream.specs.Stream.{pair_streamed}
use Rattle.record_writer.specs.Written.{Placed, padding_of, record_length, record_bytes, stream_bytes, record_fits, stream_fits, record_placed, stream_placed}
use Rattle.record_writer.proofs.WrittenLaws.{record_length_lem, fits_record, record_placed_lem}
use Rattle.record_writer.proofs.StreamLaws.{stream_step, LoopTurn, stream_turn}

-- the padding of a record, from its length
pub padding_is : (n : ℕ) → record_length n ≡ 8 + n + padding_of n
unfolding record_length
padding_is n = refl

-- n bytes of some are n
pub part_length : (n from : ℕ) (x : List ℕ) → from + n ≤ length x → length (take n (drop from x)) ≡ n
part_length n from x h = length-take-le n (drop from x) (omega (arith, length-drop from x))

-- header, content and padding, one after the other, are the record
pub piece_placed : (l : List ℕ) (at kind id from n : ℕ) (x : List ℕ) {h l1 l2 l3 : List ℕ} (pad : ℕ) → n ≤ 65535 → from + n ≤ length x → at + record_length n ≤ length l
    → pad ≡ padding_of n → h ≡ header_bytes kind id n pad
    → l1 ≡ copied l at h → l2 ≡ copied l1 (at + 8) (take n (drop from x)) → l3 ≡ copied l2 (at + 8 + n) (take (pad - 0) (zeros 8))
    → ◌≡◌ {A = Placed} (record { next = at + 8 + n + pad; buffer = l3 }) (record_placed l at kind id (take n (drop from x)))
piece_placed l at kind id from n x {h} {l1} {l2} {l3} pad small inside room p eh e1 e2 e3 =
    let y = take n (drop from x) in
    let e : n ≡ length y = sym (part_length n from x inside) in
    let fits : record_fits (length y) at (length l) ≡ true = fits_record (length y) at (length l) (omega arith) (omega (arith, ap record_length e)) in
    ap (λ (k : ℕ). record { next = at + 8 + k + pad; buffer = l3 }) e
    ∙ record_placed_lem l at kind id y fits pad (p ∙ ap padding_of e) (eh ∙ ap (λ (k : ℕ). header_bytes kind id k pad) e) e1 e2 (e3 ∙ ap (λ (k : ℕ). copied l2 (at + 8 + k) (take (pad - 0) (zeros 8))) e)

-- three lists, one after the other
pub three_length : (a b c : List ℕ) → length (a ++ b ++ c) ≡ length a + length b + length c
three_length a b c = length-append (a ++ b) c ∙ ap (λ (n : ℕ). n + length c) (length-append a b)

-- the next record of a stream that fits has room
pub piece_room : (size kind id : ℕ) (x : List ℕ) (from n place room : ℕ) → 0 < size → from < length x → n ≡ min size (length x - from)
    → place + length (stream_bytes size kind id (drop from x)) ≤ room → place + record_length n ≤ room
piece_room size kind id x from n place room hs h e r =
    let y = take n (drop from x) in
    let rest = stream_bytes size kind id (drop (from + n) x) in
    let step : length (stream_bytes size kind id (drop from x)) ≡ length (record_bytes kind id y) + length rest = ap length (stream_step size kind id x from n hs h e) ∙ length-append (record_bytes kind id y) rest in
    let own : length (record_bytes kind id y) ≡ record_length n = record_length_lem kind id y ∙ ap record_length (part_length n from x (omega arith)) in
    omega arith

-- what a turn of the loop does
pub piece_turn : (size kind id : ℕ) (x l l' : List ℕ) (place place' from n : ℕ) → 0 < size → size ≤ 65535 → from < length x → n ≡ min size (length x - from)
    → place + length (stream_bytes size kind id (drop from x)) ≤ length l
    → ◌≡◌ {A = Placed} (record { next = place'; buffer = l' }) (record_placed l place kind id (take n (drop from x)))
    → LoopTurn size kind id x l l' place place' from n
piece_turn size kind id x l l' place place' from n hs hm h e room w =
    let m : n ≡ from + n - from = omega arith in
    stream_turn size kind id x l l' place place' from n hs hm h e room (w ∙ ap (λ (k : ℕ). record_placed l place kind id (take k (drop from x))) m)

-- ---- the pair
-- Both lengths are the front of eight bytes, and the pair is they, the name and the value.
pub record Head (name value bytes : List ℕ) (count : ℕ) : Type 0 where
  pub short : count ≤ 8
  pub within : count ≤ length bytes
  pub front : length (take (count - 0) bytes) ≡ count
  pub size : count + length name + length value ≡ length (pair_bytes name value)
  pub joined : take (count - 0) bytes ++ name ++ value ≡ pair_bytes name value

pub head : (name value bytes : List ℕ) (count : ℕ) → count ≡ length (length_bytes (length name) ++ length_bytes (length value))
    → take count bytes ≡ length_bytes (length name) ++ length_bytes (length value) → Head name value bytes count
unfolding pair_bytes
head name value bytes count e f =
    let x = length_bytes (length name) ++ length_bytes (length value) in
    let z : count - 0 ≡ count = omega arith in
    let g : take (count - 0) bytes ≡ x = ap (λ (k : ℕ). take k bytes) z ∙ f in
    record {
      short = omega (arith, lengths_take (length name) (length value));
      within = omega (arith, length-take count bytes, ap length f);
      front = ap length g ∙ sym e;
      size = ap (λ (k : ℕ). k + length name + length value) e ∙ sym (three_length x name value);
      joined = ap (λ (l : List ℕ). l ++ name ++ value) g;
    }

-- a stream that was placed is what the call comes to
pub pair_placed : (out : List ℕ) (kind id : ℕ) (name value : List ℕ) (size : ℕ) {n : ℕ} {l : List ℕ} → length name ≤ MAX_WRITTEN → length value ≤ MAX_WRITTEN
    → stream_fits size (length (pair_bytes name value)) 0 (length out) ≡ true
    → ◌≡◌ {A = Placed} (record { next = n; buffer = l }) (stream_placed out 0 kind id (pair_bytes name value) size)
    → answered (Ok n) l ≡ pair_streamed out kind id name value size
unfolding pair_streamed stream_placed
pair_placed out kind id name value size hn hv fits w =
    let bytes = stream_bytes size kind id (pair_bytes name value) in
    let v : ◌≡◌ {A = Placed} _ (record { next = 0 + length bytes; buffer = put_at out 0 bytes }) = simp fits at w in
    let en = ap (λ (p : Placed). p.next) v ∙ zero-add (length bytes) in
    let el = ap (λ (p : Placed). p.buffer) v in
    simp (le-ltb _ _ hn, le-ltb _ _ hv, fits) (rw (en, el))

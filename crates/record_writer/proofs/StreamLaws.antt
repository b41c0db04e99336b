-- What holds of a stream as it is written: its chunks, its length, and the loop that writes it.
use Rattle.std.specs.Prelude.{ℕ, zero, suc, ◌+◌, ◌*◌, ◌-◌, ◌/◌, ◌%◌, ◌≤◌, ◌<◌, min, ◌≡◌, refl, true, false, length, take, drop, ltb, eqb}
use Rattle.std.proofs.Common.{sym, ap₂, ◌∙◌, add-mul, one-mul, zero-mul, mod-eq_of_lt, le-div_iff_mul-le, div-lt_iff_lt-mul, length-append, length-take, length-drop, drop_of_length-le, take-append-drop, take_all, length-take-le, drop-drop}
use Rattle.std.proofs.Math.Path.{ap}
use mathlib.Core.List.{List, [], ◌∷◌, ◌++◌, flatten}
use native.Mathlib.Omega.{arith}
use Rattle.std.proofs.Math.Nat.{div-eq_of_lt, div-eq-sub-div, mod-eq-sub-mod}
use Rattle.std.proofs.Math.Dec.{leb}
use borrow.Author.Tests.{ltb-true, ltb-false, leb-true, lt-ltb, lt-leb, le-leb, eq-eqb, ne_eqb}
use Rattle.wire.specs.Test.{by_test}
use Rattle.wire.specs.Buffer.{put_at}
use Rattle.wire.proofs.BufferLaws.{put_put, put_length, room_left}
use Rattle.record_writer.specs.Written.{record_length, record_bytes, chunks_in, chunks, stream_bytes, stream_length, Placed, record_fits, stream_fits, record_placed, stream_placed}
use Rattle.record_writer.proofs.WrittenLaws.{record_length_lem, fits_record}

-- ---- chunks
chunks_enough : (k k' size : ℕ) (x : List ℕ) → 0 < size → length x ≤ k → length x ≤ k' → chunks_in k size x ≡ chunks_in k' size x
unfolding chunks_in
chunks_enough zero zero size x hs h h' = refl
chunks_enough zero (suc k') size [] hs h h' = refl
chunks_enough zero (suc k') size (b ∷ bs) hs h h' = absurd (omega arith)
chunks_enough (suc k) zero size [] hs h h' = refl
chunks_enough (suc k) zero size (b ∷ bs) hs h h' = absurd (omega arith)
chunks_enough (suc k) (suc k') size [] hs h h' = refl
chunks_enough (suc k) (suc k') size (b ∷ bs) hs h h' =
    let d : length (drop size (b ∷ bs)) ≡ length (b ∷ bs) - size = length-drop size (b ∷ bs) in
    ap (λ (r : List (List ℕ)). take size (b ∷ bs) ∷ r) (chunks_enough k k' size (drop size (b ∷ bs)) hs (omega (arith, d)) (omega (arith, d)))

pub chunks_more : (size : ℕ) (x : List ℕ) → 0 < size → 0 < length x → chunks size x ≡ take size x ∷ chunks size (drop size x)
unfolding chunks chunks_in
chunks_more size [] hs h = absurd (omega arith)
chunks_more size (b ∷ bs) hs h =
    let d : length (drop size (b ∷ bs)) ≡ length (b ∷ bs) - size = length-drop size (b ∷ bs) in
    ap (λ (r : List (List ℕ)). take size (b ∷ bs) ∷ r) (chunks_enough (length bs) (length (drop size (b ∷ bs))) size (drop size (b ∷ bs)) hs (omega (arith, d)) (omega arith))

pub chunks_none : (size : ℕ) → chunks size [] ≡ []
unfolding chunks chunks_in
chunks_none size = refl

-- What holds of no data, and of data if it holds after the first chunk, holds of all data: induction over chunks.
pub by_chunks : (P : List ℕ → Type 0) (size : ℕ) → 0 < size → P [] → ((x : List ℕ) → 0 < length x → P (drop size x) → P x) → (x : List ℕ) → P x
by_chunks P size hs none more x = go (length x) x (omega arith)
  where
    go : (k : ℕ) (x : List ℕ) → length x ≤ k → P x
    go zero [] h = none
    go zero (b ∷ bs) h = absurd (omega arith)
    go (suc k) [] h = none
    go (suc k) (b ∷ bs) h = more (b ∷ bs) (omega arith) (go k (drop size (b ∷ bs)) (omega (arith, length-drop size (b ∷ bs))))

-- the chunks joined are the data
pub chunks_joined : (size : ℕ) → 0 < size → (x : List ℕ) → flatten (chunks size x) ≡ x
unfolding flatten
chunks_joined size hs =
    by_chunks (λ x. flatten (chunks size x) ≡ x) size hs (ap flatten (chunks_none size))
    (λ x h ih. ap flatten (chunks_more size x hs h) ∙ ap (λ (r : List ℕ). take size x ++ r) ih ∙ take-append-drop size x)

-- no chunk is empty, and none is longer than its size
abbrev pub Each : (List ℕ → Type 0) → List (List ℕ) → Type 0
Each P [] = Unit {0}
Each P (x ∷ xs) = P x × Each P xs

pub chunk_sizes : (size : ℕ) → 0 < size → (x : List ℕ) → Each (λ c. (0 < length c) × (length c ≤ size)) (chunks size x)
chunk_sizes size hs =
    by_chunks (λ x. Each (λ c. (0 < length c) × (length c ≤ size)) (chunks size x)) size hs
    (rw (chunks_none size) tt)
    (λ x h ih. rw (chunks_more size x hs h) ((omega (arith, length-take size x), omega (arith, length-take size x)), ih))

-- ---- the stream
pub stream_none : (size kind id : ℕ) → stream_bytes size kind id [] ≡ []
unfolding stream_bytes flatten
stream_none size kind id = rw (chunks_none size)

pub stream_more : (size kind id : ℕ) (x : List ℕ) → 0 < size → 0 < length x
    → stream_bytes size kind id x ≡ record_bytes kind id (take size x) ++ stream_bytes size kind id (drop size x)
unfolding stream_bytes flatten
stream_more size kind id x hs h = rw (chunks_more size x hs h)

-- ---- its length
length_none : (size : ℕ) → 0 < size → stream_length size 0 ≡ 0
unfolding stream_length
length_none size hs =
    let q : 0 / size ≡ 0 = div-eq_of_lt hs in
    let r : 0 % size ≡ 0 = mod-eq_of_lt hs in
    simp (q, r, zero-mul)

-- a last record, shorter than the others; a whole one and the rest
length_last : (size n : ℕ) → 0 < n → n < size → stream_length size n ≡ record_length n
unfolding stream_length
length_last size n h l =
    let q : n / size ≡ 0 = div-eq_of_lt l in
    let r : n % size ≡ n = mod-eq_of_lt l in
    let t : eqb n 0 ≡ false = ne_eqb n 0 (omega arith) in
    simp (q, r, t, zero-mul) (omega arith)

length_more : (size n : ℕ) → 0 < size → size ≤ n → stream_length size n ≡ record_length size + stream_length size (n - size)
unfolding stream_length
length_more size n hs h =
    let q : n / size ≡ (n - size) / size + 1 = div-eq-sub-div hs h in
    let r : n % size ≡ (n - size) % size = mod-eq-sub-mod h in
    let m : ((n - size) / size + 1) * record_length size ≡ (n - size) / size * record_length size + record_length size =
    add-mul ((n - size) / size) 1 (record_length size) ∙ ap (λ (k : ℕ). (n - size) / size * record_length size + k) (one-mul (record_length size)) in
    rw (q, r, m) (omega arith)

-- the length is that of the bytes
pub stream_length_lem : (size kind id : ℕ) → 0 < size → (x : List ℕ) → length (stream_bytes size kind id x) ≡ stream_length size (length x)
stream_length_lem size kind id hs =
    by_chunks (λ x. length (stream_bytes size kind id x) ≡ stream_length size (length x)) size hs
    (ap length (stream_none size kind id) ∙ sym (length_none size hs)) more
  where
    more : (x : List ℕ) → 0 < length x → length (stream_bytes size kind id (drop size x)) ≡ stream_length size (length (drop size x))
        → length (stream_bytes size kind id x) ≡ stream_length size (length x)
    more x h ih =
        ap length (stream_more size kind id x hs h)
        ∙ length-append (record_bytes kind id (take size x)) (stream_bytes size kind id (drop size x))
        ∙ ap₂ (λ (a b : ℕ). a + b) (record_length_lem kind id (take size x)) ih
        ∙ by_test (ltb (length x) size) last whole
      where
        last : ltb (length x) size ≡ true → record_length (length (take size x)) + stream_length size (length (drop size x)) ≡ stream_length size (length x)
        last t =
            let l : length x < size = ltb-true (length x) size t in
            let a : take size x ≡ x = take_all size x (omega arith) in
            let d : drop size x ≡ [] = drop_of_length-le x {i = size} (omega arith) in
            rw (a, d, length_none size hs, length_last size (length x) h l) (omega arith)

        whole : ltb (length x) size ≡ false → record_length (length (take size x)) + stream_length size (length (drop size x)) ≡ stream_length size (length x)
        whole t =
            let l : size ≤ length x = ltb-false (length x) size t in
            let a : length (take size x) ≡ size = length-take-le size x l in
            let d : length (drop size x) ≡ length x - size = length-drop size x in
            rw (a, d) (sym (length_more size (length x) hs l))

-- ---- a turn of the loop that writes a stream
-- the first chunk, by the number of its bytes
chunk_taken : (size : ℕ) (y : List ℕ) (n : ℕ) → n ≡ min size (length y) → (take size y ≡ take n y) × (drop size y ≡ drop n y) × (length (take n y) ≡ n)
chunk_taken size y n e =
    by_test (ltb (length y) size)
    (λ t.
    let l : length y < size = ltb-true (length y) size t in
    let k : n ≡ length y = omega arith in (
      take_all size y (omega arith) ∙ sym (take_all n y (omega arith)),
      drop_of_length-le y {i = size} (omega arith) ∙ sym (drop_of_length-le y {i = n} (omega arith)),
      length-take-le n y (omega arith),
    ))
    (λ t.
    let l : size ≤ length y = ltb-false (length y) size t in
    let k : n ≡ size = omega arith in (ap (λ (m : ℕ). take m y) (sym k), ap (λ (m : ℕ). drop m y) (sym k), length-take-le n y (omega arith)))

pub stream_step : (size kind id : ℕ) (x : List ℕ) (from n : ℕ) → 0 < size → from < length x → n ≡ min size (length x - from)
    → stream_bytes size kind id (drop from x) ≡ record_bytes kind id (take n (drop from x)) ++ stream_bytes size kind id (drop (from + n) x)
stream_step size kind id x from n hs h e =
    let d : length (drop from x) ≡ length x - from = length-drop from x in
    let k = chunk_taken size (drop from x) n (omega arith) in
    stream_more size kind id (drop from x) hs (omega arith)
    ∙ ap₂ (λ (a b : List ℕ). record_bytes kind id a ++ stream_bytes size kind id b) k.0 (k.1 ∙ drop-drop n from x)

-- What a turn does: all that is left goes out from this place, or one record does and the rest goes out from after it.
pub record LoopTurn (size kind id : ℕ) (x l l' : List ℕ) (place place' from n : ℕ) : Type 0 where
  pub some : 0 < n
  pub inside : from + n ≤ length x
  pub kept : length l' ≡ length l
  pub left : place' + length (stream_bytes size kind id (drop (from + n) x)) ≡ place + length (stream_bytes size kind id (drop from x))
  pub put : put_at l place (stream_bytes size kind id (drop from x)) ≡ put_at l' place' (stream_bytes size kind id (drop (from + n) x))

pub stream_turn : (size kind id : ℕ) (x l l' : List ℕ) (place place' from n : ℕ) → 0 < size → size ≤ 65535 → from < length x → n ≡ min size (length x - from)
    → place + length (stream_bytes size kind id (drop from x)) ≤ length l
    → ◌≡◌ {A = Placed} (record { next = place'; buffer = l' }) (record_placed l place kind id (take (from + n - from) (drop from x)))
    → LoopTurn size kind id x l l' place place' from n
unfolding record_placed
stream_turn size kind id x l l' place place' from n hs hm h e room w =
    let d : length (drop from x) ≡ length x - from = length-drop from x in
    let k = chunk_taken size (drop from x) n (omega arith) in
    let c = take n (drop from x) in
    let rec = record_bytes kind id c in
    let rest = stream_bytes size kind id (drop (from + n) x) in
    let step : stream_bytes size kind id (drop from x) ≡ rec ++ rest = stream_step size kind id x from n hs h e in
    let whole : length (stream_bytes size kind id (drop from x)) ≡ length rec + length rest = ap length step ∙ length-append rec rest in
    let rl : length rec ≡ record_length n = record_length_lem kind id c ∙ ap record_length k.2 in
    let fits : record_fits (length c) place (length l) ≡ true = fits_record (length c) place (length l) (omega (arith, k.2)) (omega (arith, ap record_length k.2)) in
    let m : from + n - from ≡ n = omega arith in
    let v : ◌≡◌ {A = Placed} (record { next = place'; buffer = l' }) (record { next = place + length rec; buffer = put_at l place rec }) = simp (m, fits) at w in
    let pl : place' ≡ place + length rec = ap (λ (p : Placed). p.next) v in
    let bl : l' ≡ put_at l place rec = ap (λ (p : Placed). p.buffer) v in
    record {
      some = omega arith;
      inside = omega arith;
      kept = ap length bl ∙ put_length l place rec (omega arith);
      left = omega arith;
      put =
          ap (put_at l place) step
          ∙ sym (put_put l place (place + length rec) rec rest refl (omega arith))
          ∙ ap₂ (λ (u : List ℕ) (p : ℕ). put_at u p rest) (sym bl) (sym pl);
    }

-- the stream placed, and not placed
pub stream_placed_lem : (l : List ℕ) (at kind id : ℕ) (x : List ℕ) (size : ℕ) {l' : List ℕ} {place : ℕ} → stream_fits size (length x) at (length l) ≡ true
    → place ≡ at + length (stream_bytes size kind id x) → l' ≡ put_at l at (stream_bytes size kind id x)
    → ◌≡◌ {A = Placed} (record { next = place; buffer = l' }) (stream_placed l at kind id x size)
unfolding stream_placed
stream_placed_lem l at kind id x size fits e p = simp fits (rw (e, p))

pub stream_unplaced : (l : List ℕ) (at kind id : ℕ) (x : List ℕ) (size : ℕ) → stream_fits size (length x) at (length l) ≡ false
    → ◌≡◌ {A = Placed} (record { next = at; buffer = l }) (stream_placed l at kind id x size)
unfolding stream_placed
stream_unplaced l at kind id x size e = simp e

-- a stream that fits
pub stream_fits_lem : (size n at room : ℕ) → stream_fits size n at room ≡ true → (0 < size) × (at + stream_length size n ≤ room)
unfolding stream_fits
stream_fits_lem size n at room e =
    by_test (ltb 0 size)
    (λ t. (ltb-true 0 size t, leb-true (at + stream_length size n) room (simp t at e)))
    (λ t. let z : ◌≡◌ {A = ℕ} 0 1 = cc (simp t at e) in absurd (omega arith))

-- ---- whether a stream fits, tested without a product that could overflow
pub record_long : (n : ℕ) → 8 ≤ record_length n
unfolding record_length
record_long n = omega arith

module _ (size n at room whole : ℕ) (hs : 0 < size) (e : whole ≡ record_length size) where
  pub fits_behind : room < at → stream_fits size n at room ≡ false
  unfolding stream_fits
  fits_behind h = simp (lt-ltb 0 size hs, lt-leb (at + stream_length size n) room (omega arith))

  pub fits_count : at ≤ room → (room - at) / whole < n / size → stream_fits size n at room ≡ false
  unfolding stream_fits stream_length
  fits_count h l =
      let some : 0 < whole = omega (arith, record_long size) in
      let many : room - at < n / size * whole = (div-lt_iff_lt-mul some).0 l in
      let w : n / size * whole ≡ n / size * record_length size = ap (λ (k : ℕ). n / size * k) e in
      let over : room < at + stream_length size n = omega arith in
      simp (lt-ltb 0 size hs) (lt-leb (at + stream_length size n) room over)

  pub count_room : n / size ≤ (room - at) / whole → n / size * whole ≤ room - at
  count_room l = let some : 0 < whole = omega (arith, record_long size) in (le-div_iff_mul-le some).0 l

  pub fits_whole : at ≤ room → n / size * whole ≤ room - at → n % size ≡ 0 → stream_fits size n at room ≡ true
  unfolding stream_fits stream_length
  fits_whole h l z =
      let w : n / size * whole ≡ n / size * record_length size = ap (λ (k : ℕ). n / size * k) e in
      simp (lt-ltb 0 size hs, eq-eqb (n % size) 0 z) (le-leb (at + (n / size * record_length size + 0)) room (omega arith))

  pub fits_last : (last : ℕ) → at ≤ room → n / size * whole ≤ room - at → (n % size ≡ 0 → ⊥) → last ≡ record_length (n % size)
      → leb last (room - at - n / size * whole) ≡ stream_fits size n at room
  unfolding stream_fits stream_length
  fits_last last h l z q =
      let w : n / size * whole ≡ n / size * record_length size = ap (λ (k : ℕ). n / size * k) e in
      room_left (n / size * whole) last (room - at) l
      ∙ room_left at (n / size * whole + last) room h
      ∙ simp (lt-ltb 0 size hs, ne_eqb (n % size) 0 z) (ap₂ (λ (a b : ℕ). leb (at + (a + b)) room) w q)

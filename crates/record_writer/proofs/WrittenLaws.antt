-- What holds of records and streams as they are written.
use Rattle.std.specs.Prelude.{ℕ, zero, suc, ◌+◌, ◌-◌, ◌≤◌, ◌<◌, ◌≡◌, refl, true, false, leb}
use Rattle.std.proofs.Math.Path.{ap}
use Rattle.std.proofs.Common.{◌∙◌, leb-true, le-leb}
use mathlib.Core.List.{List, ◌++◌}
use native.Mathlib.Omega.{arith}
use Rattle.std.proofs.Math.ListN.{length, take, length-append, length-replicate}
use Rattle.wire.specs.Test.{by_test}
use Rattle.wire.specs.Buffer.{put_at, copied, zeros}
use Rattle.wire.proofs.BufferLaws.{put_put, put_length, copied_room}
use Rattle.record.specs.Header.{header_bytes}
use Rattle.record_writer.specs.Written.{padding_of, record_length, record_bytes, Placed, record_fits, record_placed}

-- ---- one record
pub padding_small : (n : ℕ) → padding_of n < 8
unfolding padding_of
padding_small n = omega arith

pub header_length : (kind id content padding : ℕ) → length (header_bytes kind id content padding) ≡ 8
unfolding header_bytes
header_length kind id content padding = refl

pub record_length_lem : (kind id : ℕ) (x : List ℕ) → length (record_bytes kind id x) ≡ record_length (length x)
unfolding record_bytes record_length
record_length_lem kind id x =
    simp (length-append, length-replicate, header_length kind id (length x) (padding_of (length x)))

-- a record that fits: its content length can be said, and there is room
pub record Fits (n at room : ℕ) : Type 0 where
  pub said : n ≤ 65535
  pub within : at + 8 + n + padding_of n ≤ room

pub record_fits_lem : (n at room : ℕ) → record_fits n at room ≡ true → Fits n at room
unfolding record_fits record_length
record_fits_lem n at room e =
    by_test (leb n 65535)
    (λ t. record { said = leb-true n 65535 t; within = omega (arith, leb-true (at + (8 + n + padding_of n)) room (simp t at e)) })
    (λ t. let z : ◌≡◌ {A = ℕ} 0 1 = cc (simp t at e) in absurd (omega arith))

pub fits_record : (n at room : ℕ) → n ≤ 65535 → at + record_length n ≤ room → record_fits n at room ≡ true
unfolding record_fits
fits_record n at room h r = simp (le-leb n 65535 h, le-leb (at + record_length n) room r)

-- eight zeros, as many of them as the padding takes
eight_zeros : (p : ℕ) → p < 8 → take p (zeros 8) ≡ zeros p
eight_zeros zero h = refl
eight_zeros (suc zero) h = refl
eight_zeros (suc (suc zero)) h = refl
eight_zeros (suc (suc (suc zero))) h = refl
eight_zeros (suc (suc (suc (suc zero)))) h = refl
eight_zeros (suc (suc (suc (suc (suc zero))))) h = refl
eight_zeros (suc (suc (suc (suc (suc (suc zero)))))) h = refl
eight_zeros (suc (suc (suc (suc (suc (suc (suc zero))))))) h = refl
eight_zeros (suc (suc (suc (suc (suc (suc (suc (suc p)))))))) h = absurd (omega arith)

-- header, content and padding, copied one after the other
module _ (l : List ℕ) (at kind id : ℕ) (x : List ℕ) (fits : record_fits (length x) at (length l) ≡ true) where
  put_record : {h l1 l2 l3 : List ℕ} (pad : ℕ) → pad ≡ padding_of (length x) → h ≡ header_bytes kind id (length x) pad
      → l1 ≡ copied l at h → l2 ≡ copied l1 (at + 8) x → l3 ≡ copied l2 (at + 8 + length x) (take (pad - 0) (zeros 8))
      → l3 ≡ put_at l at (record_bytes kind id x)
  unfolding record_bytes
  put_record {h} {l1} {l2} {l3} pad p eh e1 e2 e3 =
      let n = length x in
      let f = record_fits_lem n at (length l) fits in
      let small = padding_small n in
      let hl : length h ≡ 8 = ap length eh ∙ header_length kind id n pad in
      let none : pad - 0 ≡ pad = omega arith in
      let z : take (pad - 0) (zeros 8) ≡ zeros pad = ap (λ (k : ℕ). take k (zeros 8)) none ∙ eight_zeros pad (omega arith) in
      let zl : length (zeros pad) ≡ pad = length-replicate pad 0 in
      let s1 : l1 ≡ put_at l at h = e1 ∙ copied_room l at h (omega (arith, f)) in
      let k1 : length l1 ≡ length l = ap length s1 ∙ put_length l at h (omega (arith, f)) in
      let s2 : l2 ≡ put_at l at (h ++ x) =
      e2 ∙ copied_room l1 (at + 8) x (omega (arith, f)) ∙ ap (λ (u : List ℕ). put_at u (at + 8) x) s1 ∙ put_put l at (at + 8) h x (omega arith) (omega (arith, f)) in
      let hx : length (h ++ x) ≡ 8 + n = length-append h x ∙ omega arith in
      let k2 : length l2 ≡ length l = ap length s2 ∙ put_length l at (h ++ x) (omega (arith, f)) in
      e3
      ∙ ap (copied l2 (at + 8 + n)) z
      ∙ copied_room l2 (at + 8 + n) (zeros pad) (omega (arith, f))
      ∙ ap (λ (u : List ℕ). put_at u (at + 8 + n) (zeros pad)) s2
      ∙ put_put l at (at + 8 + n) (h ++ x) (zeros pad) (omega arith) (omega (arith, f))
      ∙ simp (eh, p)

  pub record_placed_lem : {h l1 l2 l3 : List ℕ} (pad : ℕ) → pad ≡ padding_of (length x) → h ≡ header_bytes kind id (length x) pad
      → l1 ≡ copied l at h → l2 ≡ copied l1 (at + 8) x → l3 ≡ copied l2 (at + 8 + length x) (take (pad - 0) (zeros 8))
      → ◌≡◌ {A = Placed} (record { next = at + 8 + length x + pad; buffer = l3 }) (record_placed l at kind id x)
  unfolding record_placed record_length
  record_placed_lem pad p eh e1 e2 e3 =
      let e : at + 8 + length x + pad ≡ at + length (record_bytes kind id x) = omega (arith, p, record_length_lem kind id x) in
      simp fits (rw (e, put_record pad p eh e1 e2 e3))

pub record_unplaced : (l : List ℕ) (at kind id : ℕ) (x : List ℕ) → record_fits (length x) at (length l) ≡ false
    → ◌≡◌ {A = Placed} (record { next = at; buffer = l }) (record_placed l at kind id x)
unfolding record_placed
record_unplaced l at kind id x e = simp e

-- What holds of a reply as it is written.
use Rattle.std.specs.Prelude.{ℕ, ◌+◌, ◌-◌, ◌≤◌, refl, Bool, true, List, [], ◌∷◌, ◌++◌, take, drop, Ok, Err, Result}
use Rattle.std.proofs.Math.Path.{◌≡◌, ap}
use Rattle.std.proofs.Common.{sym, ◌∙◌, append-nil, append_assoc, arith, length-append, length-take, length-drop, drop_of_length-le, take_all, take_at, drop-drop}
use Rattle.std.proofs.Math.Bool.{false}
use Rattle.std.proofs.Math.Nat.{zero-add}
use Rattle.std.proofs.Math.ListN.{length}
use Rattle.std.proofs.Math.Dec.{leb}
use borrow.Author.Tests.{lt-ltb, le-ltb, leb-false, le-leb}
use borrow.Rule.Slice.PartMut.{put_mid}
use Rattle.wire.specs.Buffer.{put_at, zeros}
use Rattle.wire.proofs.BufferLaws.{put_put, put_length, put_none, part_put}
use Rattle.record_writer.specs.Written.{record_length, record_bytes, Placed, record_fits, record_placed}
use Rattle.record_writer.proofs.WrittenLaws.{record_length_lem, record_fits_lem}
use Rattle.pairs.specs.Length.{length_bytes}
use Rattle.pairs.specs.Pair.{pair_bytes}
use Rattle.pair_writer.specs.Write.{answered, pair_written}
use Rattle.pair_writer.proofs.WriteLaws.{pair_written_lem, answered_once}
use Rattle.connection.specs.declared.answer.Refusal.{Refusal}
use Rattle.connection.specs.Step.{MAX_CONNS, MAX_REQS, MPXS_CONNS}
use Rattle.connection.specs.Event.{Event}
use Rattle.connection.specs.Calls.{values_of, owed, replied}
use Rattle.call_reply.specs.Answer.{replied_by, filled_by, named_pair}
use Rattle.pair_writer.specs.declared.PairRefusal.{PairRefusal}

-- ---- one record
module _ (l : List ℕ) (kind id : ℕ) (x : List ℕ) where
  -- a record that fits is the reply
  pub record_filled : {l' : List ℕ} {n : ℕ} → record_fits (length x) 0 (length l) ≡ true
      → ◌≡◌ {A = Placed} (record { next = n; buffer = l' }) (record_placed l 0 kind id x)
      → replied_by (Ok n) l' ≡ filled_by (record_bytes kind id x) l
  unfolding record_placed record_length
  record_filled {l'} {n} fits w =
      let f = record_fits_lem (length x) 0 (length l) fits in
      let v : ◌≡◌ {A = Placed} (record { next = n; buffer = l' }) (record { next = 0 + length (record_bytes kind id x); buffer = put_at l 0 (record_bytes kind id x) }) = simp fits at w in
      let nl : n ≡ length (record_bytes kind id x) = ap (λ (p : Placed). p.next) v ∙ zero-add (length (record_bytes kind id x)) in
      let bl : l' ≡ put_at l 0 (record_bytes kind id x) = ap (λ (p : Placed). p.buffer) v in
      let room : length (record_bytes kind id x) ≤ length l = omega (arith, record_length_lem kind id x) in
      simp (le-ltb _ _ room) (rw (nl, bl))

  -- one that does not is refused
  pub record_unfilled : length x ≤ 65535 → record_fits (length x) 0 (length l) ≡ false
      → replied_by (Err Refusal.NoRoom) l ≡ filled_by (record_bytes kind id x) l
  unfolding record_fits
  record_unfilled h e =
      let t : leb (0 + record_length (length x)) (length l) ≡ false = simp (le-leb (length x) 65535 h) at e in
      let short = leb-false (0 + record_length (length x)) (length l) t in
      simp (lt-ltb (length l) (length (record_bytes kind id x)) (omega (arith, record_length_lem kind id x)))

-- ---- one pair
-- bytes put at the start of the part from place a on are put at place a
put_part : (l : List ℕ) (a : ℕ) (x : List ℕ) → a + length x ≤ length l → put_at l a (put_at (take (length l - a) (drop a l)) 0 x) ≡ put_at l a x
put_part l a x h =
    let d : length (drop a l) ≡ length l - a = length-drop a l in
    let all : take (length l - a) (drop a l) ≡ drop a l = take_all (length l - a) (drop a l) (omega arith) in
    let rest : drop (0 + length x) (drop a l) ≡ drop (a + length x) l = ap (λ (k : ℕ). drop k (drop a l)) (zero-add (length x)) ∙ drop-drop (length x) a l in
    let n : length (x ++ drop (a + length x) l) ≡ length l - a = simp (length-append, length-drop) (omega arith) in
    let none : drop (a + length (x ++ drop (a + length x) l)) l ≡ [] = drop_of_length-le l {i = a + length (x ++ drop (a + length x) l)} (omega arith) in
    rw (all, rest, none) (append-nil (take a l ++ (x ++ drop (a + length x) l)) ∙ sym (append_assoc (take a l) x (drop (a + length x) l)))

-- a pair that fits is written
pair_fits : (w : Result ℕ PairRefusal) (l l' name value : List ℕ) → length name ≤ 65535 → length value ≤ 65535 → length (pair_bytes name value) ≤ length l
    → answered w l' ≡ pair_written l name value → (w ≡ Ok (length (pair_bytes name value))) × (l' ≡ put_at l 0 (pair_bytes name value))
pair_fits w l l' name value n v h e =
    answered_once w (Ok (length (pair_bytes name value))) l' (put_at l 0 (pair_bytes name value)) (e ∙ sym (pair_written_lem l name value n v refl h refl))

-- A pair written into the part of a list from a place on: the bytes it took, and the list with it there.
pub record PairPut (w : Result ℕ PairRefusal) (l l' : List ℕ) (at : ℕ) (x : List ℕ) : Type 0 where
  pub count : (answered w []).bytes ≡ length x
  pub put : put_mid at (length l - at) l l' ≡ put_at l at x

pub pair_put : (w : Result ℕ PairRefusal) (l l' : List ℕ) (at : ℕ) (name value : List ℕ) → length name ≤ 65535 → length value ≤ 65535
    → at + length (pair_bytes name value) ≤ length l
    → answered w l' ≡ pair_written (take (length l - at) (drop at l)) name value
    → PairPut w l l' at (pair_bytes name value)
pair_put w l l' at name value n v h e =
    let x = pair_bytes name value in
    let part = take (length l - at) (drop at l) in
    let len : length part ≡ length l - at = simp (length-take, length-drop) (omega arith) in
    let f = pair_fits w part l' name value n v (omega arith) e in
    let len' : length l' ≡ length l - at = ap length f.1 ∙ put_length part 0 x (omega arith) ∙ len in
    record {
      count = ap (λ (p : Result ℕ PairRefusal). (answered p []).bytes) f.0;
      put = part_put l at (length l) l' (omega arith) len' ∙ ap (put_at l at) f.1 ∙ put_part l at x h;
    }

-- ---- the values
pub named_length : (asked : Bool) (name value : List ℕ) → length (named_pair asked name value) ≤ length (pair_bytes name value)
named_length true name value = omega arith
named_length false name value = omega arith

-- so many bytes at most
pub record Lengths (conns reqs mpxs : Bool) : Type 0 where
  pub all_conns : length (pair_bytes MAX_CONNS (49 ∷ [])) ≡ 17
  pub all_reqs : length (pair_bytes MAX_REQS (49 ∷ 54 ∷ [])) ≡ 17
  pub all_mpxs : length (pair_bytes MPXS_CONNS (49 ∷ [])) ≡ 18
  pub named_conns : length (named_pair conns MAX_CONNS (49 ∷ [])) ≤ 17
  pub named_reqs : length (named_pair reqs MAX_REQS (49 ∷ 54 ∷ [])) ≤ 17
  pub named_mpxs : length (named_pair mpxs MPXS_CONNS (49 ∷ [])) ≤ 18

pub lengths : (conns reqs mpxs : Bool) → Lengths conns reqs mpxs
unfolding pair_bytes length_bytes
lengths conns reqs mpxs =
    record {
      all_conns = refl;
      all_reqs = refl;
      all_mpxs = refl;
      named_conns = named_length conns MAX_CONNS (49 ∷ []);
      named_reqs = named_length reqs MAX_REQS (49 ∷ 54 ∷ []);
      named_mpxs = named_length mpxs MPXS_CONNS (49 ∷ []);
    }

-- three lists of bytes, put one after the other
pub three_put : (l x y z : List ℕ) {l1 l2 l3 : List ℕ} {a b e : ℕ} → length x + length y + length z ≤ length l
    → a ≡ 0 + length x → l1 ≡ put_at l 0 x
    → b ≡ a + length y → l2 ≡ put_at l1 a y
    → e ≡ b + length z → l3 ≡ put_at l2 b z
    → (e ≡ length (x ++ (y ++ z))) × (l3 ≡ put_at l 0 (x ++ (y ++ z)))
three_put l x y z {l1} {l2} {l3} {a} {b} {e} h ea e1 eb e2 ee e3 =
    let xy : length (x ++ y) ≡ length x + length y = length-append x y in
    let yz : length (y ++ z) ≡ length y + length z = length-append y z in
    let xyz : length (x ++ (y ++ z)) ≡ length x + length (y ++ z) = length-append x (y ++ z) in
    let two : l2 ≡ put_at l 0 (x ++ y) = e2 ∙ ap (λ (u : List ℕ). put_at u a y) e1 ∙ put_put l 0 a x y ea (omega arith) in
    let three : l3 ≡ put_at l 0 (x ++ y ++ z) = e3 ∙ ap (λ (u : List ℕ). put_at u b z) two ∙ put_put l 0 b (x ++ y) z (omega arith) (omega arith) in
    (omega arith, three ∙ ap (put_at l 0) (append_assoc x y z))

-- The values take no more than the 52 bytes of all three.
pub values_length : (conns reqs mpxs : Bool) → length (values_of conns reqs mpxs) ≤ 52
unfolding values_of
values_length conns reqs mpxs = simp length-append (omega (arith, lengths conns reqs mpxs))

-- The values, put at the start of 52 zeros: they fit, and are the front of the list.
pub record Values (values l : List ℕ) (n : ℕ) : Type 0 where
  pub short : n ≤ 52
  pub within : n ≤ length l
  pub front : take n l ≡ values

pub values_put : (conns reqs mpxs : Bool) {l : List ℕ} {n : ℕ} → n ≡ length (values_of conns reqs mpxs) → l ≡ put_at (zeros 52) 0 (values_of conns reqs mpxs)
    → Values (values_of conns reqs mpxs) l n
values_put conns reqs mpxs {l} {n} en el =
    let x = values_of conns reqs mpxs in
    let few = values_length conns reqs mpxs in
    let len : length l ≡ 52 = ap length el ∙ put_length (zeros 52) 0 x (omega arith) in
    record {
      short = omega arith;
      within = omega arith;
      front = ap (take n) el ∙ take_at x (drop (0 + length x) (zeros 52)) n (omega arith);
    }

-- ---- the event
-- the owed bytes at the buffer's start, or 6
pub filled_owed : (e : Event) (l : List ℕ) → filled_by (owed e) l ≡ replied e l
unfolding replied
filled_owed e l = refl

-- nothing is owed, and nothing written
pub unowed : (e : Event) (l : List ℕ) → owed e ≡ [] → replied_by (Ok 0) l ≡ replied e l
unowed e l none =
    let h : 0 ≤ length l = omega arith in
    sym (simp (le-ltb (length l) 0 h) (ap (λ (u : List ℕ). record { refusal = 0; written = 0; buffer = u }) (put_none l 0)))
    ∙ ap (λ (x : List ℕ). filled_by x l) (sym none)
    ∙ filled_owed e l

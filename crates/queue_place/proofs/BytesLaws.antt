-- The bytes of the store at the place that is told are those that `value` answers, or those of the walk.
use Rattle.std.specs.Prelude.{ℕ, zero, suc, ◌+◌, ◌-◌, ◌≤◌, ◌≡◌, refl, List, [], ◌∷◌, length, take, drop, Some, None, Option}
use Rattle.std.proofs.Common.{sym, ap, ◌∙◌, arith, take-take, drop-drop}
use Rattle.std.proofs.Math.Bool.{true, false}
use Rattle.wire.specs.Test.{◌=?◌, by_test}
use Rattle.pairs.specs.Pair.{value_of}
use Rattle.pairs.specs.declared.pair.Pair.{Pair}
use Rattle.pair_list.specs.List.{first_named}
use Rattle.pair_list.proofs.ListLaws.{first_within}
use Rattle.call_list.specs.Listing.{Listing, part_of, listing}
use Rattle.call_list.proofs.Laws.{listing_within, value_listed, source_listed, walk_listed}
use Rattle.call_list.specs.Part.{value_place}
use Rattle.queue.specs.Calls.{QueueMemory, conn_of, queue_value, queue_walk}
use Rattle.queue_admit.proofs.BarredLaws.{barred}
use Rattle.queue_list.specs.Places.{queue_value_place, queue_list_place}
use Rattle.queue_list.proofs.ListLaws.{value_free, source_free, walk_free}
use Rattle.queue_place.specs.Lies.{Lies, lies_at, value_lies, list_lies}
use Rattle.queue_place.proofs.LiesLaws.{part_length, value_barred, list_barred}

-- ---- a part of a part
inner : (v n k : ℕ) (l : List ℕ) → v + n ≤ k → take n (drop v (take k l)) ≡ take n (drop v l)
inner zero n k l h = take-take n k l (omega arith)
inner (suc v) n zero l h = absurd (omega arith)
inner (suc v) n (suc k) [] h = refl
inner (suc v) n (suc k) (x ∷ l) h = inner v n k l (omega arith)

part_of_part : (s : List ℕ) (a k v n : ℕ) → v + n ≤ k
    → take n (drop v (take k (drop a s))) ≡ take n (drop (a + v) s)
part_of_part s a k v n h = inner v n k (drop a s) h ∙ ap (take n) (drop-drop v a s)

-- The bytes from a place of the store on, which all lie in it.
pub record Holds (store : List ℕ) (l : Lies) (bytes : List ℕ) : Type 0 where
  pub inside : l.offset + l.size ≤ length store
  pub same : take l.size (drop l.offset store) ≡ bytes

apart : {P : Type 0} → false ≡ true → P
apart e = let z : ◌≡◌ {A = ℕ} 0 1 = cc in absurd (omega arith)

module _ (m : QueueMemory) (id : ℕ) where
  abbrev store : List ℕ
  store = m.memory.store

  abbrev listed : Listing
  listed = listing (conn_of m) store id

  abbrev list : List ℕ
  list = part_of store listed

  -- The list that is found.
  pub list_bytes : (list_lies m id).found ≡ true → Holds store (list_lies m id) (queue_walk m id).list
  unfolding list_lies queue_list_place
  list_bytes e =
      by_test (barred m)
      (λ t. apart (sym (ap (λ (l : Lies). l.found) (list_barred m id t)) ∙ e))
      (λ t. by_test (listed.refusal =? 0)
      (λ u. simp (t, walk_free m id t, walk_listed (conn_of m) store id, u) there)
      (λ u. let z : false ≡ true = simp (walk_free m id t, walk_listed (conn_of m) store id, u) at e in apart z))
    where
      there : Holds store (lies_at listed.from (length list)) list
      there =
          let w = listing_within (conn_of m) store id in
          let n = part_length store listed.from (listed.to - listed.from) (omega (arith, w)) in
          record { inside = omega (arith, w, n); same = rw n }

  -- The value that is found, whatever the fallback.
  pub value_bytes : (name fallback : List ℕ) → (value_lies m id name).found ≡ true
      → Holds store (value_lies m id name) (queue_value m id name fallback)
  unfolding value_lies queue_value_place value_place
  value_bytes name fallback e =
      by_test (barred m)
      (λ t. apart (sym (ap (λ (l : Lies). l.found) (value_barred m id name t)) ∙ e))
      (λ t. by_test (listed.refusal =? 0)
      (λ u. look t u (first_named list name) refl)
      (λ u.
      let z : false ≡ true = simp (source_free m id name t, source_listed (conn_of m) store id name, u) at e in
      apart z))
    where
      there : (p : Pair) → first_named list name ≡ Some p
          → Holds store (lies_at (listed.from + p.value) (length (value_of list p))) (value_of list p)
      there p f =
          let w = listing_within (conn_of m) store id in
          let k = listed.to - listed.from in
          let all = part_length store listed.from k (omega (arith, w)) in
          let h = (first_within list name p f).within in
          let n = part_length list p.value p.value_len h in
          let fits : p.value + p.value_len ≤ k = omega (arith, all, h) in
          record {
            inside = omega (arith, w, all, h, n);
            same = rw n (sym (part_of_part store listed.from k p.value p.value_len fits));
          }

      look : barred m ≡ false → (listed.refusal =? 0) ≡ true → (f : Option Pair) → first_named list name ≡ f
          → Holds store (value_lies m id name) (queue_value m id name fallback)
      look t u (Some p) f =
          simp (
            t,
            source_free m id name t,
            source_listed (conn_of m) store id name,
            value_free m id name [] t,
            value_free m id name fallback t,
            value_listed (conn_of m) store id name [],
            value_listed (conn_of m) store id name fallback,
            u,
            f,
          )
          (there p f)
      look t u None f =
          let z : false ≡ true = simp (source_free m id name t, source_listed (conn_of m) store id name, u, f) at e in
          apart z

-- Where a value and a list lie, by whether the call is barred, and by what is listed.
use Rattle.std.specs.Prelude.{ℕ, ◌+◌, ◌-◌, ◌≤◌, ◌≡◌, true, false, take, drop, Some, None}
use Rattle.std.proofs.Common.{subst, arith, length-take, length-drop}
use mathlib.Core.List.{List, []}
use Rattle.std.proofs.Math.ListN.{length}
use Rattle.codes.proofs.Laws.{refusal_some}
use Rattle.pairs.specs.Pair.{value_of}
use Rattle.pairs.specs.declared.pair.Pair.{Pair}
use Rattle.pair_list.specs.List.{first_named}
use Rattle.pair_list.proofs.ListLaws.{first_within}
use Rattle.connection.specs.declared.answer.Refusal.{Refusal}
use Rattle.connection.specs.Codes.{refusal_number}
use Rattle.call_list.specs.Listing.{Listing, unlisted, listing}
use Rattle.call_list.proofs.Laws.{Within, listing_within, value_listed, source_listed, walk_listed}
use Rattle.call_list.specs.Part.{value_place}
use Rattle.queue.specs.Calls.{QueueMemory, conn_of}
use Rattle.queue_admit.proofs.BarredLaws.{barred}
use Rattle.queue_list.specs.Places.{queue_value_place, queue_list_place}
use Rattle.queue_list.proofs.ListLaws.{value_free, source_barred, source_free, walk_barred, walk_free}
use Rattle.queue_place.specs.Lies.{lies_at, nowhere, value_lies, list_lies}

-- Of a part of a list that ends within it, all bytes are there.
pub part_length : (s : List ℕ) (a n : ℕ) → a + n ≤ length s → length (take n (drop a s)) ≡ n
part_length s a n h = omega (arith, length-take n (drop a s), length-drop a s)

module _ (m : QueueMemory) (id : ℕ) where
  abbrev store : List ℕ
  store = m.memory.store

  -- what is listed for the request, without a queue
  abbrev pub listed : Listing
  listed = listing (conn_of m) store id

  -- A barred call is refused by 9.
  pub value_barred : (name : List ℕ) → barred m ≡ true → value_lies m id name ≡ nowhere 9
  unfolding value_lies
  value_barred name e = simp (source_barred m id name e)

  pub list_barred : barred m ≡ true → list_lies m id ≡ nowhere 9
  unfolding list_lies
  list_barred e = simp (walk_barred m id e)

  -- One whose list is not there is refused by that row.
  pub value_refused : (name : List ℕ) (why : Refusal) → barred m ≡ false → listed ≡ unlisted (refusal_number why)
      → value_lies m id name ≡ nowhere (refusal_number why)
  unfolding value_lies
  value_refused name why e l =
      simp (source_free m id name e, source_listed (conn_of m) store id name, l, refusal_some why)

  pub list_refused : (why : Refusal) → barred m ≡ false → listed ≡ unlisted (refusal_number why)
      → list_lies m id ≡ nowhere (refusal_number why)
  unfolding list_lies
  list_refused why e l = simp (walk_free m id e, walk_listed (conn_of m) store id, l, refusal_some why)

  -- A list that is there, from a byte of the store to another.
  module _ (from to : ℕ) (free : barred m ≡ false) (l : listed ≡ record { refusal = 0; from = from; to = to }) where
    within : Within store (record { refusal = 0; from = from; to = to })
    within = subst (Within store) l (listing_within (conn_of m) store id)

    abbrev list : List ℕ
    list = take (to - from) (drop from store)

    pub list_lies_lem : list_lies m id ≡ lies_at from (to - from)
    unfolding list_lies queue_list_place
    list_lies_lem =
        let n : length list ≡ to - from = part_length store from (to - from) (omega (arith, within)) in
        simp (walk_free m id free, walk_listed (conn_of m) store id, l, free, n)

    -- No pair of that name in it.
    pub value_absent : (name : List ℕ) → first_named list name ≡ None → value_lies m id name ≡ nowhere 0
    unfolding value_lies
    value_absent name f = simp (source_free m id name free, source_listed (conn_of m) store id name, l, f)

    -- A pair of that name: its value lies in the list, and so in the store.
    pub value_lies_lem : (name : List ℕ) (p : Pair) → first_named list name ≡ Some p
        → value_lies m id name ≡ lies_at (from + p.value) p.value_len
    unfolding value_lies queue_value_place value_place
    value_lies_lem name p f =
        let inside = (first_within list name p f).within in
        let n : length (value_of list p) ≡ p.value_len = part_length list p.value p.value_len inside in
        simp (
          source_free m id name free,
          source_listed (conn_of m) store id name,
          value_free m id name [] free,
          value_listed (conn_of m) store id name [],
          l,
          free,
          f,
          n,
        )

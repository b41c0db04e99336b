-- The calls that ask for a request's parameters, by whether they are barred: refused by 9, or as without a queue.
use Rattle.std.specs.Prelude.{ℕ, ◌≡◌, true, false, not, List, [], ◌∷◌, if◌then◌else◌}
use Rattle.std.proofs.Math.Path.{refl}
use Rattle.wire.specs.Test.{◌=?◌, by_test}
use Rattle.pairs.specs.Pair.{pair_at}
use Rattle.connection.specs.Refusal.{◌when◌, refusal}
use Rattle.connection.specs.RequestCalls as Of
use Rattle.connection.specs.Calls as C
use Rattle.queue.specs.Calls.{QueueMemory, conn_of, queue_in_shape, queue_value, queue_source, queue_pair, queue_walk, queue_request, queue_count, rows_of}
use Rattle.call_walk.specs.Place.{ReadIs, ReadRefused, read_from}
use Rattle.queue_admit.proofs.BarredLaws.{barred, waits_well, shape_alone, shape_lost, barred_lent, free_lent, as_alone}
use Rattle.queue_list.specs.Places.{queue_read_from}

module _ (m : QueueMemory) (id : ℕ) where
  -- The value of a name: the fallback, or as without a queue.
  pub value_barred : (name fallback : List ℕ) → barred m ≡ true → queue_value m id name fallback ≡ fallback
  unfolding queue_value
  value_barred name fallback e = simp (barred_lent m id e)

  pub value_free : (name fallback : List ℕ) → barred m ≡ false → queue_value m id name fallback ≡ C.value (conn_of m) m.memory.store id name fallback
  unfolding queue_value C.value
  value_free name fallback e = as_alone _ _ _ _ (λ n. fallback) (free_lent m id e) refl

  -- Where it comes from.
  pub source_barred : (name : List ℕ) → barred m ≡ true → queue_source m id name ≡ Of.SourceRefused 9
  unfolding queue_source
  source_barred name e = simp (barred_lent m id e)

  pub source_free : (name : List ℕ) → barred m ≡ false → queue_source m id name ≡ C.source (conn_of m) m.memory.store id name
  unfolding queue_source C.source
  source_free name e = as_alone _ _ _ _ Of.SourceRefused (free_lent m id e) refl

  -- The pair of a number.
  pub pair_barred : (k : ℕ) → barred m ≡ true → queue_pair m id k ≡ Of.PairRefused 9
  unfolding queue_pair
  pair_barred k e = simp (barred_lent m id e)

  pub pair_free : (k : ℕ) → barred m ≡ false → queue_pair m id k ≡ C.pair_at_number (conn_of m) m.memory.store id k
  unfolding queue_pair C.pair_at_number
  pair_free k e = as_alone _ _ _ _ Of.PairRefused (free_lent m id e) refl

  -- The walk.
  pub walk_barred : barred m ≡ true → queue_walk m id ≡ Of.no_walk 9
  unfolding queue_walk
  walk_barred e = simp (barred_lent m id e)

  pub walk_free : barred m ≡ false → queue_walk m id ≡ C.walk (conn_of m) m.memory.store id
  unfolding queue_walk C.walk
  walk_free e = as_alone _ _ _ _ Of.no_walk (free_lent m id e) refl

-- What the request is, by whether what waits is in shape.
pub request_lost : (m : QueueMemory) (id : ℕ) → waits_well m ≡ false → queue_request m id ≡ Of.RequestRefused 9
unfolding queue_request
request_lost m id e = simp (shape_lost m e)

pub request_alone : (m : QueueMemory) (id : ℕ) → waits_well m ≡ true → queue_request m id ≡ C.request_named (conn_of m) id
unfolding queue_request C.request_named C.call_refusal
request_alone m id e =
    let rows : refusal (rows_of m id []) ≡ C.call_refusal (conn_of m) id = simp (shape_alone m e) in
    as_alone _ _ _ _ Of.RequestRefused rows refl

-- How many requests are active, by whether what waits is in shape.
pub count_lost : (m : QueueMemory) → waits_well m ≡ false → queue_count m ≡ record { refusal = 9; count = 0 }
unfolding queue_count
count_lost m e = simp (shape_lost m e)

pub count_alone : (m : QueueMemory) → waits_well m ≡ true → queue_count m ≡ C.active_count (conn_of m)
unfolding queue_count C.active_count C.count_refusal
count_alone m e =
    let rows : refusal ((9 when not (queue_in_shape m)) ∷ (1 when not (conn_of m).«open») ∷ []) ≡ C.count_refusal (conn_of m) = simp (shape_alone m e) in
    as_alone _ _ _ _ (λ n. record { refusal = n; count = 0 }) rows refl

-- Reading on from a place reads in the walk's list, and is refused as the walk is.
pub read_from_walk : (m : QueueMemory) (id place : ℕ) → queue_read_from (conn_of m) m.waits m.memory.store id place
    ≡ (if (queue_walk m id).refusal =? 0 then ReadIs (pair_at (queue_walk m id).list place) else ReadRefused (queue_walk m id).refusal)
unfolding queue_read_from read_from
read_from_walk m id place =
    by_test (barred m)
    (λ t. simp (t, walk_barred m id t))
    (λ t. simp (t, walk_free m id t))

-- The buffer that is lent to a call of a request between its finish and its END: it comes back as it was.
use Rattle.connection.specs.Slots.{Slot}
use Rattle.std.specs.Prelude.{◌≡◌, refl, List, [], ◌∷◌, Bool, true, false, not, ℕ, eqb, Some, None}
use Rattle.std.proofs.Common.{arith}
use Rattle.std.proofs.Math.ListN.{length}
use Rattle.wire.specs.Test.{by_test, ◌<?◌, ◌=?◌}
use Rattle.connection.specs.declared.answer.Output.{Output}
use Rattle.connection.specs.Sizes.{SLOTS, STORE}
use Rattle.connection.specs.Refusal.{◌when◌, refusal}
use Rattle.connection.specs.RequestCalls as Of
use Rattle.connection.specs.Slots.{find, on_slot, is_found}
use Rattle.connection.specs.Arguments.{ForRead, ForSay, ForEnd, ForFinish}
use Rattle.queue_slot.specs.Wait.{anything}
use Rattle.queue.specs.Numbers.{last_at}
use Rattle.queue.specs.Calls as T
use Rattle.queue.specs.Calls.{QueueMemory, conn_of, wait_at, slot_of, is_leaving, queue_in_shape, straight_say, straight_end, straight_finish}
use Rattle.queue.specs.Run as D
use Rattle.queue.specs.Run.{Asking, queue_called, leaving_of, buffer_left}

-- the buffer that a call is lent; nothing where none is
abbrev pub buffer_lent : Asking → List ℕ
buffer_lent (D.Straight (ForRead q)) = []
buffer_lent (D.Straight (ForSay o content buffer)) = buffer
buffer_lent (D.Straight (ForEnd o buffer)) = buffer
buffer_lent (D.Straight (ForFinish status buffer)) = buffer
buffer_lent (D.ToSay o content) = []
buffer_lent (D.ToEnd o) = []
buffer_lent (D.ToFinish status) = []

-- ---- between finish and END
-- the number of the slot says so
leaving_slot : (m : QueueMemory) (id : ℕ) → leaving_of id m ≡ true → is_leaving m id ≡ true
unfolding leaving_of
leaving_slot m id e = by_test (conn_of m).«open» (λ o. go (find (conn_of m).table id) (rw o at e)) (λ o. let z : ◌≡◌ {A = ℕ} 0 1 = cc (rw o at e) in absurd (omega arith))
  where
    go : (s : Slot) → on_slot s (λ i. last_at m.waits i) false ≡ true → last_at m.waits (on_slot s (λ i. i) SLOTS) ≡ true
    go (Some i) d = d
    go None d = let z : ◌≡◌ {A = ℕ} 0 1 = cc in absurd (omega arith)

-- row 5 holds, if none before it
five : (shape closed inactive room waits : Bool)
    → eqb (refusal ((9 when shape) ∷ (1 when closed) ∷ (3 when inactive) ∷ (4 when false) ∷ (5 when true) ∷ (6 when room) ∷ (10 when waits) ∷ [])) 0 ≡ false
five true closed inactive room waits = refl
five false true inactive room waits = refl
five false false true room waits = refl
five false false false room waits = refl

-- the same for finish, which has row 2 and not row 4
five_finish : (store shape closed inactive room waits : Bool)
    → eqb (refusal ((2 when store) ∷ (9 when shape) ∷ (1 when closed) ∷ (3 when inactive) ∷ (5 when true) ∷ (6 when room) ∷ (10 when waits) ∷ [])) 0 ≡ false
five_finish true shape closed inactive room waits = refl
five_finish false true closed inactive room waits = refl
five_finish false false true inactive room waits = refl
five_finish false false false true room waits = refl
five_finish false false false false room waits = refl

module _ (m : QueueMemory) (id : ℕ) (l : is_leaving m id ≡ true) where
  say_buffer : (o : Output) (content buffer : List ℕ) → (straight_say m id o content buffer).buffer ≡ buffer
  unfolding straight_say
  say_buffer o content buffer =
      let r = five (not (queue_in_shape m)) (not (conn_of m).«open») (not (is_found (find (conn_of m).table id))) (length buffer <? length (Of.say_bytes (T.request_of m id) o content)) (anything (wait_at m (slot_of m id))) in
      rw (l, r)

  end_buffer : (o : Output) (buffer : List ℕ) → (straight_end m id o buffer).buffer ≡ buffer
  unfolding straight_end
  end_buffer o buffer =
      let r = five (not (queue_in_shape m)) (not (conn_of m).«open») (not (is_found (find (conn_of m).table id))) (length buffer <? length (Of.end_bytes (T.request_of m id) o)) (anything (wait_at m (slot_of m id))) in
      rw (l, r)

  finish_buffer : (status : ℕ) (buffer : List ℕ) → (straight_finish m id status buffer).buffer ≡ buffer
  unfolding straight_finish
  finish_buffer status buffer =
      let r = five_finish (not (length m.memory.store =? STORE)) (not (queue_in_shape m)) (not (conn_of m).«open») (not (is_found (find (conn_of m).table id))) (length buffer <? length (Of.finish_bytes (T.request_of m id) status)) (anything (wait_at m (slot_of m id))) in
      rw (l, r)

-- Whatever the memory: a call of a request between its finish and its END leaves the lent buffer as it was.
pub leaving_buffer : (m : QueueMemory) (id : ℕ) (a : Asking) → leaving_of id m ≡ true → buffer_left (queue_called m id a).answer ≡ buffer_lent a
unfolding queue_called
leaving_buffer m id (D.Straight (ForRead q)) l = refl
leaving_buffer m id (D.Straight (ForSay o content buffer)) l = say_buffer m id (leaving_slot m id l) o content buffer
leaving_buffer m id (D.Straight (ForEnd o buffer)) l = end_buffer m id (leaving_slot m id l) o buffer
leaving_buffer m id (D.Straight (ForFinish status buffer)) l = finish_buffer m id (leaving_slot m id l) status buffer
leaving_buffer m id (D.ToSay o content) l = refl
leaving_buffer m id (D.ToEnd o) l = refl
leaving_buffer m id (D.ToFinish status) l = refl

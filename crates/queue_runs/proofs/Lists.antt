-- Neither a queued call nor the pump changes a list.
--
-- A queued say, end or finish leaves the parameters of every request as they are, its own too, from every memory. So the
-- list of a request stays through its queued finish. A turn of the pump leaves each request and its area as
-- they are, or ends it: they go only with END, or with the connection.
use Rattle.connection.specs.Slots.{Slot}
use Rattle.std.specs.Prelude.{◌≡◌, refl, List, ◌⊎◌, Bool, true, false, ℕ, ◌<◌, length, take, get_or, Some, None}
use Rattle.std.proofs.Common.{ap, ap₂, ◌∙◌, inl, inr}
use Rattle.std.proofs.Math.Option.{Option, none, some}
use Rattle.std.proofs.lemmas.List.{length-replicate}
use Rattle.wire.specs.Test.{by_test}
use Rattle.wire.specs.Buffer.{zeros}
use Rattle.connection.specs.declared.request.Request.{Request}
use Rattle.connection.specs.declared.state.Table.{Table}
use Rattle.connection.specs.Slots.{request_at, area_at, held_at, put_request, put_area, free_slot, find, on_slot}
use Rattle.connection.specs.Sizes.{SLOTS, AREA}
use Rattle.connection.specs.Calls as C
use Rattle.connection.specs.Request.{Held}
use Rattle.connection.specs.History.{list_found}
use Rattle.connection.specs.Run.{Memory, request_of}
use Rattle.connection.proofs.Laws.SlotsLaws.{find_put, find_at, only_slot, other_of_free, area_length, area_of_other}
use Rattle.connection.proofs.Laws.ShapeLaws.{shaped}
use Rattle.connection.proofs.Runs.ReceiverLaws.{SameList}
use Rattle.connection.proofs.Runs.CallShape.{lengths_stay, with_request, without_request, closed_memory, free_holds}
use Rattle.queue_slot.specs.Wait.{Wait}
use Rattle.queue.specs.Calls.{QueueMemory, conn_of, put_wait, put_both, with_conn, skipping, served_last, released_slot, pump_slot, PumpedRecord, slot_waits, turned}
use Rattle.queue.specs.Run as D
use Rattle.queue.specs.Run.{CallFor, QueueOperation, queue_after}
use Rattle.queue_link.proofs.LinkedFinish.{skipped}
use Rattle.queue_runs.proofs.Closing.{both_ways, KeepsNothing, waits_open, nothing_record}
use Rattle.queue_runs.proofs.Hygiene.{Clean, clean_record}
use Rattle.queue_runs.proofs.Changes.{Change, Keeps, Steps, Writes, Waits, Retires, Turns, change, Serving, Goes, Ends, serving, turn_keeps}

-- the list of R in a memory; nothing where R is not active
abbrev pub list_of_r : ℕ → Memory → List ℕ
list_of_r R m = list_found (request_of R m)

-- a request put back with its id and list
put_list : (R : ℕ) (m : Memory) (i : ℕ) (r : Request) → SameList (request_at m.state.conn.table i) r → list_of_r R (with_request m i r) ≡ list_of_r R m
unfolding request_of request_at
put_list R m i r same =
    by_test m.state.conn.«open»
    (λ o. rw (o, find_put t i r R same.id) (go (find t R))) (λ o. rw o)
  where
    t : Table
    t = m.state.conn.table

    here : (j : ℕ) → take (get_or (put_request t i r).lengths j 0) (area_at m.store j) ≡ take (get_or t.lengths j 0) (area_at m.store j)
    here j = ap (λ (ls : List ℕ). take (get_or ls j 0) (area_at m.store j)) (lengths_stay t i r same)

    go : (s : Slot) → list_found (on_slot s (λ j. some (held_at (put_request t i r) m.store j)) none) ≡ list_found (on_slot s (λ j. some (held_at t m.store j)) none)
    go (Some j) = here j
    go None = refl

-- the rest of a record skipped
skip_list : (R : ℕ) (m : Memory) (i : ℕ) → list_of_r R (skipped m i) ≡ list_of_r R m
unfolding request_of
skip_list R m i = refl

both_list : (R : ℕ) (m : QueueMemory) (i : ℕ) (r : Request) (w : Wait) → SameList (request_at (conn_of m).table i) r → list_of_r R (put_both m i r w).memory ≡ list_of_r R m.memory
unfolding put_wait
both_list R m i r w same = put_list R m.memory i r same

-- queued, not straight
abbrev pub is_queued : D.Asking → Bool
is_queued (D.Straight a) = false
is_queued (D.ToSay o content) = true
is_queued (D.ToEnd o) = true
is_queued (D.ToFinish status) = true

-- an operation that is a queued call
abbrev is_queued_call : QueueOperation → Bool
is_queued_call (D.StepOver piece) = false
is_queued_call (CallFor id a) = is_queued a
is_queued_call D.CountActive = false
is_queued_call (D.TurnWith allowance buffer) = false

change_keeps : (R : ℕ) (m n : QueueMemory) (o : QueueOperation) → is_queued_call o ≡ true → Change m o n → list_of_r R n.memory ≡ list_of_r R m.memory
change_keeps R m n o q Keeps = refl
change_keeps R m n o q (Steps piece e) = both_ways false q refl
change_keeps R m n o q (Writes id a e) = both_ways false q refl
change_keeps R m n o q (Waits id i a e found r w same) = both_list R m i r w same
change_keeps R m n o q (Retires id i a e found r w same) = both_list R (with_conn m (skipping (conn_of m) i)) i r w same ∙ skip_list R m.memory i
change_keeps R m n o q (Turns allowance buffer) = both_ways false q refl

-- A queued call, whoever's it is and whether or not it is refused, changes no list.
pub queued_keeps_lists : (R : ℕ) (m : QueueMemory) (id : ℕ) (a : D.Asking) → is_queued a ≡ true → list_of_r R (queue_after m (CallFor id a)).memory ≡ list_of_r R m.memory
queued_keeps_lists R m id a q = change_keeps R m (queue_after m (CallFor id a)) (CallFor id a) q (change m (CallFor id a))

-- ---- the pump
-- the request in a slot
abbrev in_slot : Table → List ℕ → Slot → Option Held
in_slot u l s = on_slot s (λ j. some (held_at u l j)) none

-- R's request with its area in n is that in m, or R is active no more.
abbrev pub SameOrNone : ℕ → Memory → Memory → Type 0
SameOrNone R m n = (request_of R n ≡ request_of R m) ⊎ (request_of R n ≡ none)

-- slot i given back
freed_request : (R : ℕ) (m : Memory) (i : ℕ) → i < SLOTS → Clean m → m.state.conn.«open» ≡ true → SameOrNone R m (without_request m i)
unfolding request_of C.released
freed_request R m i low k o = rw o (go (find (free_slot t i) R) refl)
  where
    t : Table
    t = m.state.conn.table

    store : List ℕ
    store = put_area m.store i (zeros (length (area_at m.store i)))

    size : length (zeros (length (area_at m.store i))) ≡ AREA
    size = length-replicate (length (area_at m.store i)) 0 ∙ area_length m.store i k.steady.sizes.full low

    go : (s : Slot) → find (free_slot t i) R ≡ s → (in_slot (free_slot t i) store s ≡ in_slot t m.store (find t R)) ⊎ (in_slot (free_slot t i) store s ≡ none)
    go None e = inr refl
    go (Some j) e =
        let h = free_holds t i R j (find_at (free_slot t i) R j e) in
        let f : find t R ≡ Some j = only_slot t (shaped m.state.conn k.steady.shape).table.distinct R j h.held in
        let q = other_of_free t i j h.other in
        let a = area_of_other m.store i (zeros (length (area_at m.store i))) k.steady.sizes.full low size j h.other in
        inl (rw f (ap₂ (λ (r : Request) (x : List ℕ). some (record { request = r; area = x })) q a))

-- a close
shut_request : (R : ℕ) (m : Memory) → request_of R (closed_memory m) ≡ none
unfolding request_of
shut_request R m = refl

-- a record
record_request : (R : ℕ) (m : QueueMemory) (i : ℕ) (p : PumpedRecord) → i < SLOTS → Clean m.memory → (conn_of m).«open» ≡ true → Serving m i p → SameOrNone R m.memory p.left.memory
record_request R m i p low k o (Goes e) = inl (ap (request_of R) e)
record_request R m i p low k o (Ends status) = go (request_at (conn_of m).table i).state.keep
  where
    go : (b : Bool) → SameOrNone R m.memory (released_slot (served_last m i) i b).memory
    go true = freed_request R m.memory i low k o
    go false = inr (shut_request R m.memory)

-- one after another
then_request : (R : ℕ) (l m n : Memory) → SameOrNone R l m → SameOrNone R m n → SameOrNone R l n
then_request R l m n (inl d) (inl e) = inl (e ∙ d)
then_request R l m n (inr d) (inl e) = inr (e ∙ d)
then_request R l m n d (inr e) = inr e

-- what each record keeps
record Listed (R : ℕ) (l : Memory) (m : QueueMemory) : Type 0 where
  clean : Clean m.memory
  nothing : KeepsNothing m
  same : SameOrNone R l m.memory

-- A turn of the pump changes no request: R's, with its whole area, is as it was, or R is active no more.
pub turn_keeps_requests : (R k : ℕ) (m : QueueMemory) → Clean m.memory → KeepsNothing m → SameOrNone R m.memory (turned k m).left.memory
turn_keeps_requests R k m c z = (turn_keeps (Listed R m.memory) one k m (record { clean = c; nothing = z; same = inl refl })).same
  where
    one : (n : QueueMemory) (i : ℕ) → i < SLOTS → slot_waits n i ≡ true → Listed R m.memory n → Listed R m.memory (pump_slot n i).left
    one n i low w a =
        let o = waits_open n i a.nothing w in
        record {
          clean = clean_record n i (pump_slot n i) low a.clean (serving n i);
          nothing = nothing_record n i (pump_slot n i) o (serving n i);
          same = then_request R m.memory n.memory (pump_slot n i).left.memory a.same (record_request R n i (pump_slot n i) low a.clean o (serving n i));
        }

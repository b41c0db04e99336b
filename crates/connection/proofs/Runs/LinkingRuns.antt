-- A run of the receiver is the machine's run of its timeline.
use Rattle.connection.specs.Slots.{Slot}
use Rattle.std.specs.Prelude.{◌≡◌, refl, List, [], ◌∷◌, ◌++◌, Bool, true, false, ℕ, zero, suc, length, take, eqb, Some, None}
use Rattle.std.proofs.Common.{ap, ap₂, sym, ◌∙◌, arith, eq-eqb}
use Rattle.std.proofs.Math.Option.{none, some}
use Rattle.wire.specs.Test.{by_test}
use Rattle.wire.specs.Buffer.{zeros}
use Rattle.slot_word.specs.Word.{taken}
use Rattle.machine.specs.Machine.{AtHeader, Open, Closed, fresh, Target, state_after, observations, request_found, request_in}
use Rattle.machine.proofs.RunLaws.{state_append, observations_append}
use Rattle.machine.proofs.Isolation as Generic
use Rattle.connection.specs.declared.state.Table.{Table}
use Rattle.connection.specs.Sizes.{SLOTS, STORE, QUERY}
use Rattle.connection.specs.Slots.{request_at, area_at, held_at, find, on_slot, no_requests}
use Rattle.connection.specs.Step.{no_frame, started}
use Rattle.connection.proofs.Laws.StepShape.{start_in_shape, start_arrays}
use Rattle.connection.proofs.Laws.StepSizes.{start_sizes}
use Rattle.connection.specs.Runs.Receiver.{clean_area, receiver}
use Rattle.connection.proofs.Runs.Loading.{elements, loaded_slot, slot_of, loaded_slots, reading_at, loaded_reading, loaded_when}
use Rattle.connection.proofs.Runs.LoadingLaws.{found_as, lookup_loaded}
use Rattle.connection.specs.Run.{Memory, Operation, StepOver, CallFor, CountActive, request_of, memory_after, items_of, final_memory, all_seen, timeline, start_of, PiecesOk}
use Rattle.connection.proofs.Runs.Telling.{told_all, told_append}
use Rattle.connection.proofs.Runs.LinkingStep.{loaded_of, open_loaded, closed_loaded, Steady, Linked, step_linked}
use Rattle.connection.proofs.Runs.LinkingCalls.{call_linked, count_linked}

-- ---- a run
-- It comes to the machine's run of its timeline, and every memory of it is steady.
pub record LinkedRun (m : Memory) (os : List Operation) : Type 0 where
  pub state : loaded_of (final_memory m os) ≡ state_after receiver (loaded_of m) (timeline m os)
  pub tells : all_seen m os ≡ told_all (observations receiver (loaded_of m) (timeline m os))
  pub steady : Steady (final_memory m os)

run_more : (m : Memory) (o : Operation) (os : List Operation) → Linked m o → LinkedRun (memory_after m o) os → LinkedRun m (o ∷ os)
unfolding final_memory all_seen timeline
run_more m o os k i =
    let t = items_of m o in
    let u = timeline (memory_after m o) os in
    record {
      state = i.state ∙ ap (λ w. state_after receiver w u) k.state ∙ sym (state_append receiver (loaded_of m) t u);
      tells =
          ap₂ (λ x y. x ++ y) k.tells (i.tells ∙ ap (λ w. told_all (observations receiver w u)) k.state)
          ∙ sym (told_append (observations receiver (loaded_of m) t) (observations receiver (state_after receiver (loaded_of m) t) u))
          ∙ ap told_all (sym (observations_append receiver (loaded_of m) t u));
      steady = i.steady;
    }

-- Any run.
pub run_linked : (os : List Operation) (m : Memory) → Steady m → PiecesOk os → LinkedRun m os
unfolding final_memory all_seen timeline state_after observations told_all
run_linked [] m z p = record { state = refl; tells = refl; steady = z }
run_linked (StepOver piece ∷ os) m z p =
    let k = step_linked m piece z p.0 in
    run_more m (StepOver piece) os k (run_linked os (memory_after m (StepOver piece)) k.steady p.1)
run_linked (CallFor id a ∷ os) m z p =
    let k = call_linked m id a z in
    run_more m (CallFor id a) os k (run_linked os (memory_after m (CallFor id a)) k.steady p)
run_linked (CountActive ∷ os) m z p =
    let k = count_linked m z in
    run_more m CountActive os k (run_linked os (memory_after m CountActive) k.steady p)

-- ---- a start
fresh_loaded : (gathered : List ℕ) → loaded_when true no_requests no_frame gathered (zeros STORE) ≡ fresh receiver SLOTS
unfolding loaded_when loaded_slots elements slot_of loaded_slot taken request_at area_at fresh clean_area
fresh_loaded gathered = refl

-- A start is the machine's fresh start.
pub start_loaded : (gathered store : List ℕ) → length store ≡ STORE → loaded_of (start_of gathered store) ≡ fresh receiver SLOTS
unfolding start_of started
start_loaded gathered store full =
    simp (eq-eqb (length store) STORE full) (ap (λ n. loaded_when true no_requests no_frame (zeros (length gathered)) (zeros n)) full ∙ fresh_loaded (zeros (length gathered)))

start_header : (g s : List ℕ) → (started g s).state.conn.frame.position.held ≡ 0
unfolding started
start_header g s = by_test (eqb (length s) STORE) (λ e. simp e) (λ e. simp e)

-- Its memory is steady.
pub start_steady : (gathered store : List ℕ) → length gathered ≡ QUERY → length store ≡ STORE → Steady (start_of gathered store)
unfolding start_of
start_steady gathered store size full =
    record {
      sizes = start_sizes gathered store size full;
      arrays = start_arrays gathered store;
      shape = start_in_shape gathered store;
      header = λ w. start_header gathered store;
    }

-- ---- the request of an id
found_some : (t : Table) (store : List ℕ) (s : Slot) → request_found receiver (found_as t store s) ≡ on_slot s (λ i. some (held_at t store i)) none
unfolding request_found
found_some t store (Some i) = refl
found_some t store None = refl

-- It is the machine's.
pub request_loaded : (R : ℕ) (m : Memory) → request_in receiver R (loaded_of m) ≡ request_of R m
unfolding request_of request_in loaded_when
request_loaded R m = go m.state.conn.«open» refl
  where
    go : (o : Bool) → m.state.conn.«open» ≡ o → request_in receiver R (loaded_of m) ≡ request_of R m
    go true e =
        rw e (ap (request_found receiver) (lookup_loaded m.state.conn.table m.store R) ∙ found_some m.state.conn.table m.store (find m.state.conn.table R))
    go false e = rw e

-- ---- between two records
-- Open, with nothing left of a record and nothing in of the next.
pub record BetweenRecords (m : Memory) : Type 0 where
  pub is_open : m.state.conn.«open» ≡ true
  pub no_content : m.state.conn.frame.position.content ≡ 0
  pub no_padding : m.state.conn.frame.position.padding ≡ 0
  pub no_header : m.state.conn.frame.position.held ≡ 0

reading_between : (c p held : ℕ) (header : List ℕ) (s : Target receiver) → c ≡ 0 → p ≡ 0 → held ≡ 0 → reading_at c p (take held header) s ≡ AtHeader []
reading_between zero zero held header s a b e = rw e
reading_between zero (suc p) held header s a b e = absurd (omega arith)
reading_between (suc c) p held header s a b e = absurd (omega arith)

-- So is the machine's connection.
pub between_loaded : (m : Memory) → BetweenRecords m → Generic.BetweenRecords receiver (loaded_of m)
between_loaded m b =
    let p = m.state.conn.frame.position in
    record {
      slots = loaded_slots m.state.conn.table m.store;
      is_open =
          open_loaded m b.is_open
          ∙ ap (λ F. Open (loaded_slots m.state.conn.table m.store) F) (reading_between p.content p.padding p.held p.header _ b.no_content b.no_padding b.no_header);
    }

none_taken : (k : ℕ) (l : List ℕ) → length l ≡ 8 → take k l ≡ [] → k ≡ 0
none_taken zero l n e = refl
none_taken (suc k) [] n e = absurd (omega arith)
none_taken (suc k) (x ∷ l) n e = cc

reading_empty : (c p held : ℕ) (header : List ℕ) (s : Target receiver) → length header ≡ 8 → reading_at c p (take held header) s ≡ AtHeader [] → (c ≡ 0) × (p ≡ 0) × (held ≡ 0)
reading_empty zero zero held header s l e = (refl, refl, none_taken held header l (cc))
reading_empty zero (suc p) held header s l e = let z : ◌≡◌ {A = ℕ} 0 1 = cc in absurd (omega arith)
reading_empty (suc c) p held header s l e = let z : ◌≡◌ {A = ℕ} 0 1 = cc in absurd (omega arith)

-- And back.
pub loaded_between : (m : Memory) → Steady m → Generic.BetweenRecords receiver (loaded_of m) → BetweenRecords m
loaded_between m z b = by_test m.state.conn.«open» when_open when_closed_lem
  where
    when_open : m.state.conn.«open» ≡ true → BetweenRecords m
    when_open e =
        let p = m.state.conn.frame.position in
        let d : loaded_reading m.state.conn.frame m.state.gathered ≡ AtHeader [] = cc (sym (open_loaded m e) ∙ b.is_open) in
        let x = reading_empty p.content p.padding p.held p.header _ z.sizes.header d in
        record { is_open = e; no_content = x.0; no_padding = x.1; no_header = x.2 }

    when_closed_lem : m.state.conn.«open» ≡ false → BetweenRecords m
    when_closed_lem e =
        let d : Closed ≡ Open b.slots (AtHeader []) = sym (closed_loaded m e) ∙ b.is_open in
        let y : ◌≡◌ {A = ℕ} 0 1 = cc in
        absurd (omega arith)

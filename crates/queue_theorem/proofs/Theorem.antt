-- Demand 3 with a queue: the statement on whole runs of the executable definitions, proved.
use Rattle.std.specs.Prelude.{◌≡◌, ◌⊎◌, true, false, ℕ, zero, suc, ◌*◌, ◌<◌, length, drop, replicate}
use Rattle.std.proofs.Math.Path.{refl, ap}
use Rattle.std.proofs.Common.{sym, ◌∙◌, subst, inl, inr, arith, length-take, length-drop}
use mathlib.Core.List.{List, [], ◌∷◌, ◌++◌, map, Memᴰ}
use Rattle.record.specs.Names.{OVERLOADED}
use Rattle.record_reader.specs.Position.{between_records, after}
use Rattle.record_reader.proofs.PositionSplit.{position_split, unfinished, finished_split}
use Rattle.record_reader.specs.declared.Position.{Position}
use Rattle.machine.specs.Slots.{Vacant}
use Rattle.machine.specs.Timeline.{Item, ScanHeader, item_bytes, purge}
use Rattle.machine.specs.Machine.{Reading, AtHeader, PastHeader, Slots, Connection, Open, Closed, RequestEvent, fresh, state_after, observations, observed, ran_fresh, request_in}
use Rattle.machine.proofs.Isolation as Generic
use Rattle.machine.specs.Shape.{WellShaped}
use Rattle.machine.proofs.ShapeKept.{shape_fresh}
use Rattle.machine_queue.specs.Waiting as W
use Rattle.machine_queue.specs.Waiting.{Heard, core_of, waits_in, unserved, Quiet, QuietAlone, NoneHeldUp}
use Rattle.connection.specs.Sizes.{SLOTS}
use Rattle.connection.specs.Event.{Event}
use Rattle.connection.specs.Bytewise.{Note}
use Rattle.connection.specs.Run.{request_of}
use Rattle.connection.specs.Runs.Receiver.{receiver}
use Rattle.connection.proofs.Runs.LinkingStep.{loaded_of, closed_loaded}
use Rattle.connection.proofs.Runs.LinkingRuns.{start_loaded, start_steady, BetweenRecords, between_loaded, loaded_between}
use Rattle.connection.proofs.Runs.Records.{start_position}
use Rattle.queue_slot.specs.Wait.{ROOM}
use Rattle.queue_slot.proofs.WaitLaws.{Sized}
use Rattle.queue_slot.proofs.ServeLaws.{nothing_waits}
use Rattle.queue_machine.specs.Queued.{Asked, queueing_receiver, waiting_queue}
use Rattle.queue_machine.proofs.Lift.{Waiting, lift_slots, lift_reading, lift_connection, NothingFree, FreeEnd, FreeVacant}
use Rattle.queue_machine.proofs.LiftRuns.{FreeIn}
use Rattle.queue_machine.proofs.Isolation.{isolation as machine-isolation}
use Rattle.queue_link.proofs.Loaded.{waiting_of, loaded_queue, nobody_count, nobody_at}
use Rattle.queue_link.proofs.LoadedTurn.{Good}
use Rattle.queue_machine.proofs.EndsRight.{ends_laws}
use Rattle.machine_queue.proofs.IdsBelow.{IdsBelow, below_fresh}
use Rattle.queue_link.proofs.LinkedRuns.{machine_timeline, Fine, RunIs, run_is, waits_are, core_is}
use Rattle.queue_link.proofs.LinkedShown.{shown_of, refused_buffer, heard_of, run_shown}
use Rattle.queue_link.proofs.LinkedWrites.{written_of, run_writes}
use Rattle.queue_link.proofs.LinkedTimeline.{asked_items, asked_same, asked_append, run_unserved, run_purged}
use Rattle.queue_link.proofs.LinkedPremises.{run_full, run_unheld}
use Rattle.queue_link.proofs.LinkedQuiet.{run_quiet, run_alone}
use Rattle.queue_link.proofs.LinkedPosition.{run_place}
use Rattle.queue.specs.Calls.{QUEUE, QueueMemory, conn_of, room_at, wait_at}
use Rattle.queue.specs.Run as D
use Rattle.queue.specs.Run.{Asking, QueueRun, beginning, ending, timeline_of, shown, written}
use Rattle.queue.specs.Isolation as I
use Rattle.queue.specs.Isolation.{EndsBetweenRecords, NeverOverloaded, Settled, SettledAlone, RunsFor}

-- ---- a start
room_length : (l : List ℕ) (i : ℕ) → length l ≡ QUEUE → i < SLOTS → length (room_at l i) ≡ ROOM
room_length l i e h = length-take ROOM (drop (i * ROOM) l) ∙ omega (arith, length-drop (i * ROOM) l)

free_none : (n : ℕ) (f : Waiting) (x : List ℕ) → ((k : ℕ) → k < n → f k ≡ []) → NothingFree f (replicate n (Vacant x))
free_none zero f x h = FreeEnd
free_none (suc n) f x h = FreeVacant (h 0 (omega arith)) (free_none n (λ j. f (suc j)) x (λ k l. h (suc k) (omega arith)))

module _ (r : QueueRun) where
  -- where the run begins
  abbrev pub start : QueueMemory
  start = beginning r

  start_waits : (i : ℕ) → i < SLOTS → waiting_of start i ≡ []
  start_waits i h = nothing_waits (wait_at start i) (nobody_at start i refl)

  start_sized : (i : ℕ) → i < SLOTS → Sized (wait_at start i)
  unfolding wait_at
  start_sized i h = record { count_fits = rw (nobody_count i) (omega arith); bytes_size = room_length r.queue i r.queue_size h; marks_size = room_length r.marks i r.marks_size h }

  start_free : FreeIn (waiting_of start) (fresh receiver SLOTS)
  unfolding fresh
  start_free = free_none SLOTS (waiting_of start) receiver.clean start_waits

  start_good : Good start
  start_good = record {
    steady = record {
      steady = start_steady r.gathered r.store r.gathered_size r.store_size;
      sized = start_sized;
      free = subst (λ s. FreeIn (waiting_of start) s) (sym (start_loaded r.gathered r.store r.store_size)) start_free;
      dropped = λ o. refl;
    };
    roomy = record { waits = refl; queue = r.queue_size; marks = r.marks_size };
  }

  lift_fresh : (f : Waiting) → lift_connection f (fresh receiver SLOTS) ≡ fresh queueing_receiver SLOTS
  unfolding fresh lift_slots
  lift_fresh f = refl

  -- on the machine it is a fresh start
  pub start_is : loaded_queue start ≡ fresh queueing_receiver SLOTS
  start_is = ap (lift_connection (waiting_of start)) (start_loaded r.gathered r.store r.store_size) ∙ lift_fresh (waiting_of start)

  -- it fulfils what every state of a run fulfils
  pub start_fine : Fine start
  start_fine = record {
    good = start_good;
    ends = subst (λ s. WellShaped queueing_receiver ends_laws s) (sym start_is) (shape_fresh queueing_receiver ends_laws);
    below = subst (λ s. IdsBelow queueing_receiver s) (sym start_is) (below_fresh queueing_receiver SLOTS);
  }

  -- ---- the run on the machine
  abbrev pub items : List (Item Asked)
  items = machine_timeline start r.operations

  whole : RunIs start r.operations
  whole = run_is r.operations start start_fine r.pieces

  -- the run ends as the machine does
  pub ends_as : loaded_queue (ending r) ≡ (ran_fresh queueing_receiver 15 items).state
  ends_as = whole.state ∙ ap (λ s. state_after queueing_receiver s items) start_is

  -- what is observed on the machine
  pub seen_as : observations queueing_receiver (loaded_queue start) items ≡ (ran_fresh queueing_receiver 15 items).seen
  seen_as = ap (λ s. observations queueing_receiver s items) start_is

  -- no request of R is refused for want of a slot, on the machine
  pub never_full : (R : ℕ) → NeverOverloaded R r → Memᴰ (RequestEvent R (Note.Told (Event.Refuse 0 OVERLOADED))) (ran_fresh queueing_receiver 15 items).seen → ⊥
  never_full R h x = h (run_full R r.operations start start_fine r.pieces (subst (λ l. Memᴰ (RequestEvent R (Note.Told (Event.Refuse 0 OVERLOADED))) l) (sym seen_as) x))

  none_held : (R : ℕ) → I.NeverTenFrom R start r.operations → NoneHeldUp queueing_receiver waiting_queue (observed queueing_receiver R (ran_fresh queueing_receiver 15 items).seen)
  none_held R h = subst (λ l. NoneHeldUp queueing_receiver waiting_queue (observed queueing_receiver R l)) seen_as (run_unheld R r.operations start start_fine r.pieces h)

  none_waits : (R : ℕ) → D.waits_of R (ending r) ≡ [] → waits_in queueing_receiver waiting_queue (request_in queueing_receiver R (ran_fresh queueing_receiver 15 items).state) ≡ []
  none_waits R h = ap (λ s. waits_in queueing_receiver waiting_queue (request_in queueing_receiver R s)) (sym ends_as) ∙ waits_are R (ending r) ∙ h

  is_quiet : (R : ℕ) → I.QuietFrom R start (ScanHeader []) r.operations → Quiet queueing_receiver waiting_queue R (fresh queueing_receiver SLOTS) (ScanHeader []) items
  is_quiet R h = subst (λ s. Quiet queueing_receiver waiting_queue R s (ScanHeader []) items) start_is (run_quiet R r.operations start (ScanHeader []) start_fine r.pieces h)

  is_quiet_alone : (R : ℕ) → I.QuietAloneFrom R start r.operations → QuietAlone queueing_receiver waiting_queue R (fresh queueing_receiver SLOTS) items
  is_quiet_alone R h = subst (λ s. QuietAlone queueing_receiver waiting_queue R s items) start_is (run_alone R r.operations start start_fine r.pieces h)

  shown_as : (R : ℕ) → 0 < R → shown R r ≡ heard_of R (ran_fresh queueing_receiver 15 items).seen
  shown_as R h = run_shown R r.operations start h start_fine r.pieces ∙ ap (heard_of R) seen_as

  -- what the run writes of R the machine writes
  pub written_as_lem : (R : ℕ) → written R r ≡ written_of R (ran_fresh queueing_receiver 15 items).seen
  written_as_lem R = run_writes R r.operations start start_fine r.pieces ∙ ap (written_of R) seen_as

  core_as : (R : ℕ) → request_of R (ending r).memory ≡ core_of queueing_receiver waiting_queue (request_in queueing_receiver R (ran_fresh queueing_receiver 15 items).state)
  core_as R = sym (core_is R (ending r)) ∙ ap (λ s. core_of queueing_receiver waiting_queue (request_in queueing_receiver R s)) ends_as

  -- ---- between two records
  ending_place : (conn_of (ending r)).«open» ≡ true → (conn_of (ending r)).frame.position ≡ after between_records (item_bytes (timeline_of r))
  ending_place o = run_place r.operations start between_records start_fine r.pieces (λ e. start_position r.gathered r.store) o

  whole_between : EndsBetweenRecords r → BetweenRecords (ending r).memory
  unfolding after
  whole_between w =
      let e : (conn_of (ending r)).frame.position ≡ between_records =
      ending_place w.is_open ∙ position_split (item_bytes (timeline_of r)) ∙ ap (after between_records) w.no_rest in
      record {
        is_open = w.is_open;
        no_content = ap (λ (q : Position). q.content) e;
        no_padding = ap (λ (q : Position). q.padding) e;
        no_header = ap (λ (q : Position). q.held) e;
      }

  between_whole : BetweenRecords (ending r).memory → EndsBetweenRecords r
  between_whole b =
      let none : unfinished (conn_of (ending r)).frame.position ≡ 0 = omega (arith, b.no_content, b.no_padding, b.no_header) in
      record { is_open = b.is_open; no_rest = finished_split (item_bytes (timeline_of r)) (ap unfinished (sym (ending_place b.is_open)) ∙ none) }

  machine_between : EndsBetweenRecords r → Generic.BetweenRecords queueing_receiver (ran_fresh queueing_receiver 15 items).state
  machine_between w =
      let b = between_loaded (ending r).memory (whole_between w) in
      record { slots = lift_slots (waiting_of (ending r)) b.slots; is_open = sym ends_as ∙ ap (lift_connection (waiting_of (ending r))) b.is_open }

  lift_header : (F : Reading receiver) → lift_reading F ≡ AtHeader [] → F ≡ AtHeader []
  lift_header (AtHeader h) e = let d : h ≡ [] = cc in ap AtHeader d
  lift_header (PastHeader s c p) e = let z : ◌≡◌ {A = ℕ} 0 1 = cc in absurd (omega arith)

  lift_between : (f : Waiting) (s : Connection receiver) (S : Slots queueing_receiver) → lift_connection f s ≡ Open S (AtHeader []) → Generic.BetweenRecords receiver s
  lift_between f Closed S e = let z : ◌≡◌ {A = ℕ} 0 1 = cc in absurd (omega arith)
  lift_between f (Open T F) S e = let d : lift_reading F ≡ AtHeader [] = cc in record { slots = T; is_open = ap (λ G. Open T G) (lift_header F d) }

  between_machine : Generic.BetweenRecords queueing_receiver (ran_fresh queueing_receiver 15 items).state → EndsBetweenRecords r
  between_machine b =
      between_whole (loaded_between (ending r).memory whole.fine.good.steady.steady (lift_between (waiting_of (ending r)) (loaded_of (ending r).memory) b.slots (ends_as ∙ b.is_open)))

-- ---- the same, save between finish and END
same_save : (R : ℕ) {xs ys : List (Heard queueing_receiver waiting_queue)} → W.SameSave queueing_receiver waiting_queue xs ys → I.SameSave (map (shown_of R) xs) (map (shown_of R) ys)
same_save R W.SaveNone = I.SaveNone
same_save R (W.SaveSame s) = I.SaveSame (same_save R s)
same_save R (W.SaveFirst {a = a} s) = rw (← (refused_buffer 3 a)) (I.SaveFirst (same_save R s))
same_save R (W.SaveSecond {a = a} s) = rw (← (refused_buffer 3 a)) (I.SaveSecond (same_save R s))

-- Demand 3 with the queue.
pub isolation : I.Isolation
isolation R A B low ends never runs sa sb =
    let t = items A in
    let u = items B in
    let prefix : unserved queueing_receiver waiting_queue u ++ asked_items runs.rest ≡ unserved queueing_receiver waiting_queue (purge R t) =
    ap (λ l. l ++ asked_items runs.rest) (run_unserved B.operations (beginning B)) ∙ sym (asked_append (timeline_of B) runs.rest) ∙ ap asked_items runs.prefix ∙ sym (run_purged R A.operations (beginning A)) in
    let i =
    machine-isolation R t u low (machine_between A ends) (never_full A R never)
    (record { rest = asked_items runs.rest; prefix = prefix; all_or_closed = closes runs.rest runs.all_or_closed })
    (record { none_held_up = none_held A R sa.never_ten; nothing_waits = none_waits A R sa.nothing_waits })
    (record { none_held_up = none_held B R sb.never_ten; nothing_waits = none_waits B R sb.nothing_waits })
    (is_quiet A R sa.quiet) (is_quiet_alone B R sb.quiet) in
    record {
      all_items_lem = asked_same (timeline_of B) (purge R (timeline_of A)) (sym (run_unserved B.operations (beginning B)) ∙ i.all_items_lem ∙ run_purged R A.operations (beginning A));
      ends_between = between_machine B i.ends_between;
      same_shown = subst (λ l. I.SameSave l (shown R B)) (sym (shown_as A R low)) (subst (λ l. I.SameSave (heard_of R (ran_fresh queueing_receiver 15 t).seen) l) (sym (shown_as B R low)) (same_save R i.same_heard));
      same_written = written_as_lem B R ∙ i.same_written ∙ sym (written_as_lem A R);
      same_request = core_as B R ∙ i.same_core ∙ sym (core_as A R);
    }
  where
    closes : (rest : List (Item Asking)) → (rest ≡ []) ⊎ ((conn_of (ending B)).«open» ≡ false) → (asked_items rest ≡ []) ⊎ ((ran_fresh queueing_receiver 15 (items B)).state ≡ Closed)
    closes rest (inl e) = inl (ap asked_items e)
    closes rest (inr o) = inr (sym (ends_as B) ∙ ap (lift_connection (waiting_of (ending B))) (closed_loaded (ending B).memory o))

-- ---- without a call of R between its finish and its END
abbrev pub Plain : List D.Shown → Type 0
Plain [] = Unit {0}
Plain (D.ShownNote n ∷ l) = Plain l
Plain (D.ShownAnswer a n v w ∷ l) = Plain l
Plain (D.ShownLeaving a b ∷ l) = ⊥

plain_rest : (x : D.Shown) (l : List D.Shown) → Plain (x ∷ l) → Plain l
plain_rest (D.ShownNote n) l h = h
plain_rest (D.ShownAnswer a n v w) l h = h
plain_rest (D.ShownLeaving a b) l h = absurd h

-- Then what is shown of R is the same list, as in the theorem without a queue.
pub plain_same : {xs ys : List D.Shown} → I.SameSave xs ys → Plain xs → Plain ys → xs ≡ ys
plain_same I.SaveNone p q = refl
plain_same (I.SaveSame {x = x} {xs = xs} {ys = ys} s) p q = ap (λ l. x ∷ l) (plain_same s (plain_rest x xs p) (plain_rest x ys q))
plain_same (I.SaveFirst s) p q = absurd p
plain_same (I.SaveSecond s) p q = absurd q

-- Without a call of R between finish and END in either run, what is shown of R is one list.
pub isolation_plain : (R : ℕ) (A B : QueueRun) → 0 < R → EndsBetweenRecords A → NeverOverloaded R A → RunsFor R A B → Settled R A → SettledAlone R B
    → Plain (shown R A) → Plain (shown R B) → shown R A ≡ shown R B
isolation_plain R A B low ends never runs sa sb pa pb = plain_same (isolation R A B low ends never runs sa sb).same_shown pa pb

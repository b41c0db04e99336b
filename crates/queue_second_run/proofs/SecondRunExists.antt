-- The second run of isolation with a queue exists, for every run A that isolation takes.
--
-- It is that of `SecondRun`, and nothing is asked of what R says. A queued say of R of more than ROOM bytes is refused
-- in A, and not by 10. Shorten all queued says of R to ROOM bytes: A stays the same run, and its second run is
-- isolated from it. So there the shortened say is refused as in A, or R is active no more; and so is the long one, by
-- a row before 10.
use Rattle.connection.specs.Slots.{Slot}
use Rattle.std.specs.Prelude.{◌≡◌, Bool, false, not, ◌⊎◌, ℕ, ◌≤◌, ◌<◌, length, take, leb, if◌then◌else◌, Some, None}
use Rattle.std.proofs.Math.Path.{refl, subst}
use Rattle.std.proofs.Common.{ap, sym, ◌∙◌, inl, inr, arith, length-take}
use mathlib.Core.List.{List, [], ◌∷◌, ◌++◌, map}
use Rattle.std.proofs.Math.Option.{none, some}
use Rattle.std.proofs.Math.Bool.{true}
use Rattle.std.proofs.Math.Dec.{eqb}
use borrow.Author.Tests.{eqb-true, eqb-false, eq-eqb, leb-true}
use Rattle.wire.specs.Test.{by_test, ◌≤?◌, ◌=?◌}
use Rattle.machine.specs.Timeline.{RequestCall, CountCall, Item, ByteItem, CallItem, byte_items, item_bytes, Scan, ScanHeader, scan_next, is_own, is_own_call, purge_from, purge}
use Rattle.connection.specs.declared.answer.Output.{Output}
use Rattle.connection.specs.Sizes.{STORE, QUERY}
use Rattle.connection.specs.Bytewise.{Note, notes}
use Rattle.connection.specs.Slots.{find, on_slot, held_at, is_found}
use Rattle.connection.specs.Run.{request_of}
use Rattle.queue_slot.specs.Wait.{ROOM, has_room_for}
use Rattle.queue.specs.Calls as T
use Rattle.queue.specs.Calls.{QUEUE, QueueMemory, conn_of, wait_at, queue_step, say_refusal}
use Rattle.queue.specs.Run as D
use Rattle.queue.specs.Run.{Asking, QueueOperation, StepOver, CallFor, CountActive, TurnWith, QueueResult, Queued, queue_called, used_of, queue_after, leaving_of, buffer_left, Shown, ShownNote, ShownAnswer, ShownLeaving, note_id, notes_of, shown_in, queue_items, queue_timeline, shown_all, QueueRun, beginning, timeline_of}
use Rattle.queue.specs.Isolation.{EndsBetweenRecords, NeverOverloaded, is_ten, NeverTenFrom, Settled, SettledAlone, RunsFor, SameSave, SaveNone, SaveSame, SaveFirst, SaveSecond, Isolated}
use Rattle.queue_link.proofs.LoadedTurn.{Good}
use Rattle.queue_link.proofs.LinkedRuns.{Fine, op_fine}
use Rattle.queue_theorem.proofs.Theorem.{start_fine, isolation}
use Rattle.queue_runs.proofs.Rows.{let_through}
use Rattle.queue_runs.proofs.Closing.{both_ways}
use Rattle.queue_second_run.specs.Turns.{NothingWaits}
use Rattle.queue_second_run.specs.Idle.{whole_turn, SayFits}
use Rattle.queue_second_run.proofs.Idle.{none_leaving, step_idle, not_ten, idle_not_ten}
use Rattle.queue_second_run.proofs.SecondRun.{item_by_item, EachItem, IsByte, FitsOf, purged_bytes, one_byte_lem, second_run, call_idle, start_idle, second_run_unheld, fitting_isolated}
use Rattle.queue_second_run.proofs.LongSays.{shortened, short_call, short_item, short_run, short_of, first_rows, first_refusal, say_first, say_last, first_called, say_answer, long_first, left_short, short_purged, same_timeline, ends_short, never_short, settled_short}

-- ---- definitions
-- what was asked of R, in order
unfoldable pub askings_of : ℕ → List (Item Asking) → List Asking
askings_of R [] = []
askings_of R (ByteItem b ∷ t) = askings_of R t
askings_of R (CallItem (RequestCall id a) ∷ t) = if id =? R then a ∷ askings_of R t else askings_of R t
askings_of R (CallItem CountCall ∷ t) = askings_of R t

-- a queued say of more than ROOM bytes
abbrev pub IsLong : Asking → Type 0
IsLong (D.Straight a) = ⊥
IsLong (D.ToSay o content) = (length content ≤? ROOM) ≡ false
IsLong (D.ToEnd o) = ⊥
IsLong (D.ToFinish status) = ⊥

-- What is shown of R, beside what was asked before it was shortened: where that was too long, the call is refused or R
-- is not active.
abbrev pub LongRefused : List Shown → List Asking → Type 0
LongRefused [] bs = Unit {0}
LongRefused (ShownNote n ∷ l) bs = LongRefused l bs
LongRefused (ShownAnswer a n v w ∷ l) [] = Unit {0}
LongRefused (ShownAnswer a n v w ∷ l) (b ∷ bs) = (IsLong b → (n ≡ Queued 0 → ⊥) ⊎ (v ≡ none)) × LongRefused l bs
LongRefused (ShownLeaving a x ∷ l) [] = Unit {0}
LongRefused (ShownLeaving a x ∷ l) (b ∷ bs) = LongRefused l bs

-- ---- what is asked of R, and what is shown
-- bytes ask nothing
askings_used : (R : ℕ) (x : List ℕ) (t : List (Item Asking)) → askings_of R (byte_items x ++ t) ≡ askings_of R t
unfolding askings_of byte_items
askings_used R [] t = refl
askings_used R (b ∷ x) t = askings_used R x t

-- striking out leaves all that was asked of R
askings_purged : (R : ℕ) (k : Scan) (t : List (Item Asking)) → askings_of R (purge_from R k t) ≡ askings_of R t
unfolding askings_of purge_from is_own_call
askings_purged R k [] = refl
askings_purged R k (ByteItem b ∷ t) =
    let i = askings_purged R (scan_next R k b) t in
    by_test (is_own R k (b ∷ item_bytes t)) (λ d. rw d i) (λ d. rw d i)
askings_purged R k (CallItem (RequestCall id a) ∷ t) =
    let i = askings_purged R k t in
    by_test (eqb id R) (λ e. rw e (rw e (ap (λ l. a ∷ l) i))) (λ e. rw e i)
askings_purged R k (CallItem CountCall ∷ t) = askings_purged R k t

-- notes are no calls
notes_aside : (R : ℕ) (ns : List Note) (l : List Shown) (bs : List Asking)
    → (LongRefused (notes_of R ns ++ l) bs → LongRefused l bs) × (LongRefused l bs → LongRefused (notes_of R ns ++ l) bs)
unfolding notes_of
notes_aside R [] l bs = (λ h. h, λ h. h)
notes_aside R (n ∷ ns) l bs = go (eqb (note_id n) R) (notes_aside R ns l bs)
  where
    go : (b : Bool) → (LongRefused (notes_of R ns ++ l) bs → LongRefused l bs) × (LongRefused l bs → LongRefused (notes_of R ns ++ l) bs)
        → (LongRefused ((if b then ShownNote n ∷ notes_of R ns else notes_of R ns) ++ l) bs → LongRefused l bs) × (LongRefused l bs → LongRefused ((if b then ShownNote n ∷ notes_of R ns else notes_of R ns) ++ l) bs)
    go true p = p
    go false p = p

-- what holds of what one run shows holds of another that shows the same, save between finish and END
long_save : {xs ys : List Shown} → SameSave xs ys → (bs : List Asking) → LongRefused xs bs → LongRefused ys bs
long_save SaveNone bs h = tt
long_save (SaveSame {x = ShownNote n} s) bs h = long_save s bs h
long_save (SaveSame {x = ShownAnswer a n v w} s) [] h = tt
long_save (SaveSame {x = ShownAnswer a n v w} s) (b ∷ bs) h = (h.0, long_save s bs h.1)
long_save (SaveSame {x = ShownLeaving a y} s) [] h = tt
long_save (SaveSame {x = ShownLeaving a y} s) (b ∷ bs) h = long_save s bs h
long_save (SaveFirst s) [] h = tt
long_save (SaveFirst s) (b ∷ bs) h = (λ l. inr refl, long_save s bs h)
long_save (SaveSecond s) [] h = tt
long_save (SaveSecond s) (b ∷ bs) h = long_save s bs h.1

-- ---- the run A
-- two numbers of refusals
queued_same : {x y : ℕ} → Queued x ≡ Queued y → x ≡ y
queued_same e = cc

-- a call that is too long and not refused by 10 is refused when it is shortened
long_answer : (m : QueueMemory) (id : ℕ) (b : Asking) → is_ten (queue_called m id b).answer ≡ false → IsLong b → (queue_called m id (shortened b)).answer ≡ Queued 0 → ⊥
long_answer m id (D.ToSay o content) h l e =
    let f = long_first m id o content l (sym (ap is_ten (say_answer m id o content)) ∙ h) in
    eqb-false (first_refusal m id o) 0 f (queued_same (sym (ap (λ (r : QueueResult). r.answer) (first_called m id o (take ROOM content) f)) ∙ e))
long_answer m id (D.Straight _) h l e = elim l [ ]
long_answer m id (D.ToEnd _) h l e = elim l [ ]
long_answer m id (D.ToFinish _) h l e = elim l [ ]

module _ (R : ℕ) where
  -- a call, shown of R
  abbrev call_shown : QueueMemory → ℕ → Asking → Shown
  call_shown m id a =
      let q = queue_called m id a in
      if leaving_of R m then ShownLeaving a (buffer_left q.answer) else ShownAnswer a q.answer (request_of R m.memory) (request_of R q.left.memory)

  -- a call of R, and then what is shown
  long_call : (m : QueueMemory) (id : ℕ) (a : Asking) (l : List Shown) (bs : List Asking) → is_ten (queue_called m id a).answer ≡ false → LongRefused l bs
      → LongRefused (call_shown m id (shortened a) ∷ l) (a ∷ bs)
  long_call m id a l bs h r =
      by_test (leaving_of R m) (λ t. rw t r) (λ t. rw t (λ x. inl (long_answer m id a h x), r))

  -- in a run in which no call of R is refused by 10, shortened, what was too long is refused
  long_shown : (os : List QueueOperation) (m : QueueMemory) → NeverTenFrom R m os → LongRefused (shown_all R m (short_run R os)) (askings_of R (queue_timeline m os))
  unfolding shown_all shown_in queue_timeline queue_items askings_of queue_after
  long_shown [] m h = tt
  long_shown (StepOver piece ∷ os) m h =
      let n = queue_after m (StepOver piece) in
      rw (askings_used R (used_of m piece) (queue_timeline n os))
      ((notes_aside R (notes (queue_step m piece).event (used_of m piece)) (shown_all R n (short_run R os)) (askings_of R (queue_timeline n os))).1 (long_shown os n h))
  long_shown (CallFor id a ∷ os) m h =
      let n = queue_after m (CallFor id a) in
      let r : LongRefused (shown_all R (queue_after m (CallFor id (short_call R id a))) (short_run R os)) (askings_of R (queue_timeline n os)) =
      subst (λ k. LongRefused (shown_all R k (short_run R os)) (askings_of R (queue_timeline n os))) (sym (left_short R m id a h.0)) (long_shown os n h.1) in
      by_test (eqb id R)
      (λ e. rw e (long_call m id a (shown_all R (queue_called m id (shortened a)).left (short_run R os)) (askings_of R (queue_timeline n os)) (h.0 (eqb-true id R e)) (rw e at r)))
      (λ e. rw e (rw e at r))
  long_shown (CountActive ∷ os) m h = long_shown os m h
  long_shown (TurnWith allowance buffer ∷ os) m h = long_shown os (queue_after m (TurnWith allowance buffer)) h

-- ---- the second run
-- an id that is not active is refused by a row before 10
absent_first : (m : QueueMemory) (id : ℕ) (o : Output) → find (conn_of m).table id ≡ None → eqb (first_refusal m id o) 0 ≡ false
unfolding first_refusal
absent_first m id o e =
    by_test (eqb (first_refusal m id o) 0)
    (λ t. both_ways (not (is_found (find (conn_of m).table id))) (rw e) (let_through (first_rows m id o) 3 (eqb-true (first_refusal m id o) 0 t) refl)) (λ t. t)

-- where there is no request of R, R is in no slot
absent : (R : ℕ) (m : QueueMemory) → (conn_of m).«open» ≡ true → request_of R m.memory ≡ none → find (conn_of m).table R ≡ None
unfolding request_of
absent R m o e = go (find (conn_of m).table R) (rw o at e)
  where
    go : (s : Slot) → on_slot s (λ i. some (held_at (conn_of m).table m.memory.store i)) none ≡ none → s ≡ None
    go (Some i) x = let z : ◌≡◌ {A = ℕ} 0 1 = cc in absurd (omega arith)
    go None x = refl

-- a refusal by a row before 10 is not by 10
first_not_ten : (m : QueueMemory) (id : ℕ) (o : Output) → eqb (first_refusal m id o) 10 ≡ false
unfolding first_refusal
first_not_ten m id o = not_ten (first_rows m id o) refl

module _ (R : ℕ) (m : QueueMemory) (g : Good m) (n : NothingWaits m) (o : (conn_of m).«open» ≡ true) where
  -- a say of ROOM bytes is let through if no row before 10 holds
  short_through : (s : Output) (content : List ℕ) → eqb (first_refusal m R s) 0 ≡ true → (queue_called m R (D.ToSay s (take ROOM content))).answer ≡ Queued 0
  short_through s content e =
      let c = take ROOM content in
      let l : length c ≤ ROOM = omega (arith, length-take ROOM content) in
      let t : eqb (say_refusal m R s c) 10 ≡ false = sym (ap is_ten (say_answer m R s c)) ∙ idle_not_ten m g n R (D.ToSay s c) l in
      say_answer m R s c ∙ ap Queued (go (not (has_room_for (wait_at m (T.slot_of m R)) c)) (say_last m R s c e) t)
    where
      go : (b : Bool) → say_refusal m R s (take ROOM content) ≡ (if b then 10 else 0) → eqb (say_refusal m R s (take ROOM content)) 10 ≡ false → say_refusal m R s (take ROOM content) ≡ 0
      go true x t = both_ways (eqb (say_refusal m R s (take ROOM content)) 10) (rw x) t
      go false x t = x

  -- a say whose shortened one is refused, or R not active, is refused by a row before 10
  refused_first : (s : Output) (content : List ℕ) → ((queue_called m R (D.ToSay s (take ROOM content))).answer ≡ Queued 0 → ⊥) ⊎ (request_of R m.memory ≡ none) → eqb (first_refusal m R s) 0 ≡ false
  refused_first s content (inl x) = by_test (eqb (first_refusal m R s) 0) (λ e. absurd (x (short_through s content e))) (λ e. e)
  refused_first s content (inr x) = absent_first m R s (absent R m o x)

  -- Where nothing waits, a call of R is not refused by 10, if what is too long is refused when it is shortened.
  unheld : (a : Asking) → (IsLong a → ((queue_called m R (shortened a)).answer ≡ Queued 0 → ⊥) ⊎ (request_of R m.memory ≡ none)) → is_ten (queue_called m R a).answer ≡ false
  unheld (D.Straight a) h = idle_not_ten m g n R (D.Straight a) tt
  unheld (D.ToSay s content) h =
      by_test (leb (length content) ROOM)
      (λ l. idle_not_ten m g n R (D.ToSay s content) (leb-true (length content) ROOM l))
      (λ l. ap is_ten (say_answer m R s content) ∙ ap (λ k. eqb k 10) (say_first m R s content (refused_first s content (h l))) ∙ first_not_ten m R s)
  unheld (D.ToEnd s) h = idle_not_ten m g n R (D.ToEnd s) tt
  unheld (D.ToFinish status) h = idle_not_ten m g n R (D.ToFinish status) tt

module _ (R : ℕ) where
  -- the operations for shortened items
  abbrev short_items : QueueMemory → List (Item Asking) → List QueueOperation
  short_items m t = item_by_item m (map (short_item R) t)

  -- what a shortened call and a whole turn leave
  abbrev short_next : QueueMemory → ℕ → Asking → QueueMemory
  short_next m id a = queue_after (queue_after m (CallFor id (short_call R id a))) whole_turn

  -- what is shown of a shortened call, a whole turn and the rest
  abbrev ShownFrom : QueueMemory → ℕ → Asking → List (Item Asking) → Type 0
  ShownFrom m id a t = LongRefused (shown_all R m (CallFor id (short_call R id a) ∷ (whole_turn ∷ short_items (short_next m id a) t))) (askings_of R (CallItem (RequestCall id a) ∷ t))

  -- a call is not refused by 10, and the rest goes on
  record Unheld (m : QueueMemory) (id : ℕ) (a : Asking) (t : List (Item Asking)) : Type 0 where
    not_by_ten : id ≡ R → is_ten (queue_called m id a).answer ≡ false
    others : LongRefused (shown_all R (short_next m id a) (short_items (short_next m id a) t)) (askings_of R t)

  -- a call of R
  own_call : (m : QueueMemory) (a : Asking) (t : List (Item Asking)) → Good m → NothingWaits m → (conn_of m).«open» ≡ true → ShownFrom m R a t → Unheld m R a t
  unfolding shown_all shown_in askings_of
  own_call m a t g n o h =
      let e : eqb R R ≡ true = eq-eqb R R refl in
      let l = none_leaving R m n in
      let k = rw (e, l) at h in
      record { not_by_ten = λ i. unheld R m g n o a k.0; others = rw e k.1 }

  -- a call of any id
  unheld_call : (m : QueueMemory) (id : ℕ) (a : Asking) (t : List (Item Asking)) → Good m → NothingWaits m → (conn_of m).«open» ≡ true → ShownFrom m id a t → Unheld m id a t
  unfolding shown_all shown_in askings_of
  unheld_call m id a t g n o h =
      by_test (eqb id R)
      (λ e. subst (λ i. ShownFrom m i a t → Unheld m i a t) (sym (eqb-true id R e)) (own_call m a t g n o) h)
      (λ e. record { not_by_ten = λ i. absurd (eqb-false id R e i); others = rw e (rw e at h) })

  -- a step shows no call
  step_aside : (m : QueueMemory) (piece : List ℕ) (os : List QueueOperation) (x : ℕ) (t : List (Item Asking)) → LongRefused (shown_all R m (StepOver piece ∷ os)) (askings_of R (ByteItem x ∷ t))
      → LongRefused (shown_all R (queue_after m (StepOver piece)) os) (askings_of R t)
  unfolding shown_all shown_in askings_of
  step_aside m piece os x t h = (notes_aside R (notes (queue_step m piece).event (used_of m piece)) (shown_all R (queue_after m (StepOver piece)) os) (askings_of R t)).0 h

  -- neither does the active number with a whole turn
  count_aside : (m : QueueMemory) (os : List QueueOperation) (t : List (Item Asking)) → LongRefused (shown_all R m (CountActive ∷ (whole_turn ∷ os))) (askings_of R (CallItem CountCall ∷ t))
      → LongRefused (shown_all R (queue_after (queue_after m CountActive) whole_turn) os) (askings_of R t)
  unfolding shown_all shown_in askings_of
  count_aside m os t h = h

  -- and none of them is refused by 10
  count_tens : (m : QueueMemory) (os : List QueueOperation) → NeverTenFrom R (queue_after (queue_after m CountActive) whole_turn) os → NeverTenFrom R m (CountActive ∷ (whole_turn ∷ os))
  unfolding queue_after
  count_tens m os h = h

  -- where what is too long is refused when it is shortened, no call of R is refused by 10
  alone_tens : (t : List (Item Asking)) (m : QueueMemory) → Fine m → NothingWaits m → EachItem IsByte t → LongRefused (shown_all R m (short_items m t)) (askings_of R t) → NeverTenFrom R m (item_by_item m t)
  unfolding item_by_item
  alone_tens [] m k n b h = tt
  alone_tens (ByteItem x ∷ t) m k n b h =
      let p = StepOver (x ∷ []) in
      go (conn_of m).«open» h (alone_tens t (queue_after m p) (op_fine m p k (one_byte_lem x b.0)) (step_idle m (x ∷ []) n) b.1)
    where
      next : QueueMemory
      next = queue_after m (StepOver (x ∷ []))

      aside : LongRefused (shown_all R m (StepOver (x ∷ []) ∷ short_items next t)) (askings_of R (ByteItem x ∷ t)) → LongRefused (shown_all R next (short_items next t)) (askings_of R t)
      aside = step_aside m (x ∷ []) (short_items next t) x t

      go : (o : Bool) → LongRefused (shown_all R m (if o then StepOver (x ∷ []) ∷ short_items next t else [])) (askings_of R (ByteItem x ∷ t))
          → (LongRefused (shown_all R next (short_items next t)) (askings_of R t) → NeverTenFrom R next (item_by_item next t)) → NeverTenFrom R m (if o then StepOver (x ∷ []) ∷ item_by_item next t else [])
      go true h f = f (aside h)
      go false h f = tt
  alone_tens (CallItem (RequestCall id a) ∷ t) m k n b h =
      let i = call_idle m (RequestCall id a) k in
      go (conn_of m).«open» refl h (alone_tens t next i.0 i.1 b.1)
    where
      next : QueueMemory
      next = queue_after (queue_after m (CallFor id a)) whole_turn

      go : (o : Bool) → (conn_of m).«open» ≡ o → LongRefused (shown_all R m (if o then CallFor id (short_call R id a) ∷ (whole_turn ∷ short_items (short_next m id a) t) else [])) (askings_of R (CallItem (RequestCall id a) ∷ t))
          → (LongRefused (shown_all R next (short_items next t)) (askings_of R t) → NeverTenFrom R next (item_by_item next t)) → NeverTenFrom R m (if o then CallFor id a ∷ (whole_turn ∷ item_by_item next t) else [])
      go true o h f =
          let u = unheld_call m id a t k.good n o h in
          let e : short_next m id a ≡ next = ap (λ l. queue_after l whole_turn) (left_short R m id a u.not_by_ten) in
          (u.not_by_ten, f (subst (λ l. LongRefused (shown_all R l (short_items l t)) (askings_of R t)) e u.others))
      go false o h f = tt
  alone_tens (CallItem CountCall ∷ t) m k n b h =
      let i = call_idle m CountCall k in
      go (conn_of m).«open» h (alone_tens t next i.0 i.1 b.1)
    where
      next : QueueMemory
      next = queue_after (queue_after m CountActive) whole_turn

      go : (o : Bool) → LongRefused (shown_all R m (if o then CountActive ∷ (whole_turn ∷ short_items next t) else [])) (askings_of R (CallItem CountCall ∷ t))
          → (LongRefused (shown_all R next (short_items next t)) (askings_of R t) → NeverTenFrom R next (item_by_item next t)) → NeverTenFrom R m (if o then CountActive ∷ (whole_turn ∷ item_by_item next t) else [])
      go true h f = count_tens m (item_by_item next t) (f (count_aside m (short_items next t) t h))
      go false h f = tt

-- ---- the theorem
-- shortened, R's queued says have at most ROOM bytes
short_fits : (R : ℕ) (t : List (Item Asking)) → EachItem (FitsOf R) (map (short_item R) t)
short_fits R [] = tt
short_fits R (ByteItem b ∷ t) = (tt, short_fits R t)
short_fits R (CallItem (RequestCall id a) ∷ t) = (λ e. let d = eq-eqb id R e in rw d (fits a), short_fits R t)
  where
    fits : (a : Asking) → SayFits (shortened a)
    fits (D.Straight a) = tt
    fits (D.ToSay o content) = omega (arith, length-take ROOM content)
    fits (D.ToEnd o) = tt
    fits (D.ToFinish status) = tt
short_fits R (CallItem CountCall ∷ t) = (tt, short_fits R t)

module _ (R : ℕ) (A : QueueRun) (gathered store queue marks : List ℕ) (g : length gathered ≡ QUERY) (s : length store ≡ STORE) (q : length queue ≡ QUEUE) (k : length marks ≡ QUEUE) where
  -- the second run
  abbrev B : QueueRun
  B = second_run R A gathered store queue marks g s q k

  -- the second run of A with R's says shortened
  abbrev short : QueueRun
  short = second_run R (short_of R A) gathered store queue marks g s q k

  module _ (low : 0 < R) (ends : EndsBetweenRecords A) (never : NeverOverloaded R A) (settled : Settled R A) where
    -- it is isolated from that
    short_isolated : Isolated R (short_of R A) short
    short_isolated =
        fitting_isolated R (short_of R A) gathered store queue marks g s q k low (ends_short R A settled ends) (never_short R A settled never) (settled_short R A settled)
        (subst (EachItem (FitsOf R)) (sym (same_timeline R A settled)) (short_fits R (timeline_of A)))

    -- its operations are those for the shortened items
    short_operations : short.operations ≡ item_by_item (beginning B) (map (short_item R) (purge R (timeline_of A)))
    short_operations = ap (item_by_item (beginning B)) (ap (purge R) (same_timeline R A settled) ∙ short_purged R (ScanHeader []) (timeline_of A))

    -- what was too long is refused there
    short_refused : LongRefused (shown_all R (beginning B) (item_by_item (beginning B) (map (short_item R) (purge R (timeline_of A))))) (askings_of R (purge R (timeline_of A)))
    short_refused =
        let a = long_shown R A.operations (beginning A) settled.never_ten in
        let b = long_save short_isolated.same_shown (askings_of R (timeline_of A)) a in
        rw (askings_purged R (ScanHeader []) (timeline_of A)) (subst (λ os. LongRefused (shown_all R (beginning B) os) (askings_of R (timeline_of A))) short_operations b)

    -- For every run A as isolation takes it, B is a run for R's items of A, and settled.
    pub second_run_exists : RunsFor R A B × SettledAlone R B
    second_run_exists =
        second_run_unheld R A gathered store queue marks g s q k
        (alone_tens R (purge R (timeline_of A)) (beginning B) (start_fine B) (start_idle R A gathered store queue marks g s q k) (purged_bytes R A) short_refused)

    -- So it is isolated from A.
    pub second_run_isolated : Isolated R A B
    second_run_isolated = let h = second_run_exists in isolation R A B low ends never h.0 settled h.1

-- With a queue too the call up to the next event stands for steps of a run: what it leaves, tells and uses is what the
-- steps leave, tell and use. Row 9 with what waits is tested once in the call and at each of the steps; that comes to
-- the same, since a step after which another follows takes and frees no slot and leaves the connection open.
use Rattle.connection.specs.Slots.{Slot}
use Rattle.std.specs.Prelude.{◌≡◌, refl, Bool, true, false, List, [], ◌∷◌, ◌++◌, map, take, drop, if◌then◌else◌}
use Rattle.std.proofs.Common.{sym, ap, ap₂, ◌∙◌, append-nil, arith, length-drop, drop-drop, take-add}
use Prim.Native.Nat.{ℕ, zero, suc, ◌+◌, ◌-◌, ◌≤◌, ◌<◌}
use mathlib.Mathlib.Data.List.Basic.Function
use Rattle.std.proofs.Math.ListN.{length}
use Rattle.wire.specs.Test.{◌=?◌, by_test}
use Rattle.wire.proofs.Bytes.{AllBytes, drop_bytes}
use Rattle.record.specs.Split.{split_in, split}
use Rattle.machine.specs.Timeline.{Item, byte_items}
use Rattle.machine.proofs.TimelineLaws.{byte_items_append}
use Rattle.connection.specs.Sizes.{SLOTS, STORE}
use Rattle.connection.specs.Event.{Event}
use Rattle.connection.specs.Bytewise.{notes}
use Rattle.connection.specs.Step.{State, Left, Stepped, closes, on_active, of_request, step_refusal, stepped}
use Rattle.connection.specs.Run.{Memory, Heard, memory_of, seen_in, all_seen}
use Rattle.connection.specs.Run as Base
use Rattle.connection.proofs.Laws.SlotsLaws.{put_occupied}
use Rattle.connection.proofs.Laws.Ways.{Way, by_way}
use Rattle.connection.proofs.Laws.Progress.{admitted_fits}
use Rattle.connection.proofs.Laws.RefusalRows.{step_rows_lem}
use Rattle.call_step.specs.Next.{goes_on, after, count_of, shown_by, next_event, steps_in, next_steps}
use Rattle.call_step.proofs.NextLaws.{GoesOn, goes_on_lem, uses_some, next_step, stays_open, next_shows, next_seen}
use Rattle.call_step.proofs.BesideLaws.{beside_fits}
use Rattle.queue.specs.Numbers.{kept_waits}
use Rattle.queue.specs.Calls.{QueueMemory, beside, conn_of, waits_fit, queue_step_refusal, queue_step}
use Rattle.queue.specs.Run.{Asking, QueueOperation, StepOver, with_memory, used_of, queue_after, notes_of, shown_in, records_of, bytes_in, final_queue, queue_items, queue_timeline, shown_all, written_all, notes_all, PiecesAreBytes}
use Rattle.queue_admit.proofs.BarredLaws.{waits_well, shape_lost}
use Rattle.queue_read.specs.Next.{queue_next}
use Rattle.queue_read.proofs.ReadLaws.{beside_step, beside_next}

-- ---- the steps
-- what a step of a run leaves
abbrev pub after_step : QueueMemory → List ℕ → QueueMemory
after_step m piece = queue_after m (StepOver piece)

-- what it leaves of its piece
abbrev pub rest_of : QueueMemory → List ℕ → List ℕ
rest_of m piece = drop (queue_step m piece).used piece

-- Steps over a piece, each lent what the one before left of it, until something is told, a step is refused, or the
-- piece is used up. (The first argument bounds the number of further steps. That the bound plays no part is
-- `steps_step`.)
unfoldable pub queue_steps_in : ℕ → QueueMemory → List ℕ → List QueueOperation
queue_steps_in zero m piece = StepOver piece ∷ []
queue_steps_in (suc k) m piece =
    if goes_on (queue_step m piece) (length piece) then StepOver piece ∷ queue_steps_in k (after_step m piece) (rest_of m piece)
    else StepOver piece ∷ []

-- the steps that the call stands for
unfoldable pub queue_steps : QueueMemory → List ℕ → List QueueOperation
unfolding queue_steps_in
queue_steps m piece = queue_steps_in (length piece) m piece

-- After this step another follows: it is not refused, tells nothing, and leaves bytes.
abbrev pub Another : QueueMemory → List ℕ → Type 0
Another m piece = goes_on (queue_step m piece) (length piece) ≡ true

-- After this step none follows.
abbrev pub Final : QueueMemory → List ℕ → Type 0
Final m piece = goes_on (queue_step m piece) (length piece) ≡ false

-- ---- a step after which another follows
-- A silent step takes and frees no slot.
pub silent_keeps_slots : (st : State) (store piece : List ℕ) → (stepped st store piece).event ≡ Event.None
    → (stepped st store piece).state.conn.table.occupied ≡ st.conn.table.occupied
unfolding closes on_active of_request
silent_keeps_slots st store piece =
    by_way (λ (s : Stepped). s.event ≡ Event.None → s.state.conn.table.occupied ≡ st.conn.table.occupied) st store piece (λ n e. refl)
    (λ fits used l w e. go l w e)
  where
    go : {k : Slot} (l : Left) → Way st store k l → l.event ≡ Event.None → l.conn.table.occupied ≡ st.conn.table.occupied
    go l (Way.Reads g f told q) e = refl
    go l (Way.Closes g cause c) e = let z : ◌≡◌ {A = ℕ} 0 1 = cc in absurd (omega arith)
    go l (Way.Rules h i k found) e = put_occupied st.conn.table i _
    go l (Way.Feeds due i bytes p k low aim some) e = put_occupied st.conn.table i _
    go l (Way.Takes id role keep f k low idle) e = let z : ◌≡◌ {A = ℕ} 0 1 = cc in absurd (omega arith)

-- Where another step follows: this one was as without a queue, the connection was and is open, and what waits
-- stays and still fits.
record Follows (m : QueueMemory) (piece : List ℕ) : Type 0 where
  alone : queue_step m piece ≡ stepped m.memory.state m.memory.store piece
  was_open : (conn_of m).«open» ≡ true
  is_open : (conn_of (after_step m piece)).«open» ≡ true
  kept : (after_step m piece).waits ≡ m.waits
  fits : waits_well (after_step m piece) ≡ true

-- A step with a queue that is not refused: what waits is in shape.
taken_well : (m : QueueMemory) (piece : List ℕ) → (queue_step m piece).refusal ≡ 0 → waits_well m ≡ true
unfolding queue_step queue_step_refusal
taken_well m piece e =
    by_test (waits_well m)
    (λ t. t)
    (λ t.
    let lost = shape_lost m t in
    by_test (length m.memory.store =? STORE)
    (λ s. let z : ◌≡◌ {A = ℕ} 9 0 = simp (s, lost) at e in absurd (omega arith))
    (λ s. let z : ◌≡◌ {A = ℕ} 2 0 = simp s at e in absurd (omega arith)))

-- A step without a queue that is not refused: the connection is open.
taken_open : (st : State) (store piece : List ℕ) → (stepped st store piece).refusal ≡ 0 → st.conn.«open» ≡ true
unfolding step_refusal
taken_open st store piece e = (admitted_fits st.conn store (sym (step_rows_lem st store piece) ∙ e)).is_open

-- All that is known of a step after which another follows.
follows : (m : QueueMemory) (piece : List ℕ) → Another m piece → Follows m piece
unfolding queue_after
follows m piece t =
    let g = goes_on_lem (queue_step m piece) (length piece) t in
    let st = m.memory.state in
    let store = m.memory.store in
    let well = taken_well m piece g.taken in
    let alone : queue_step m piece ≡ stepped st store piece = sym (beside_step m piece) ∙ beside_fits (waits_well m) false st store piece well in
    let h : GoesOn (stepped st store piece) (length piece) = rw alone at g in
    let was = taken_open st store piece h.taken in
    let is : (queue_step m piece).state.conn.«open» ≡ true = ap (λ (s : Stepped). s.state.conn.«open») alone ∙ stays_open st store piece was h.silent in
    let kept : (after_step m piece).waits ≡ m.waits = ap₂ (λ (a b : Bool). kept_waits a b m.waits) was is in
    let slots : (queue_step m piece).state.conn.table.occupied ≡ st.conn.table.occupied =
    ap (λ (s : Stepped). s.state.conn.table.occupied) alone ∙ silent_keeps_slots st store piece h.silent in
    record { alone = alone; was_open = was; is_open = is; kept = kept; fits = ap₂ (λ (w : List ℕ) (n : ℕ). waits_fit SLOTS w n 0) kept slots ∙ well }

-- ---- the call, step by step
-- Where no other step follows, the call is the step.
pub next_last : (m : QueueMemory) (piece : List ℕ) → Final m piece → queue_next m piece ≡ queue_step m piece
unfolding queue_next queue_step
next_last m piece =
    by_test (queue_step_refusal m =? 0)
    (λ t. simp t (λ e. next_step m.memory.state m.memory.store piece ∙ simp e))
    (λ t. simp t (λ e. refl))

-- Where another follows, the call is that step and then the call over what is left of the piece.
pub next_on : (m : QueueMemory) (piece : List ℕ) → Another m piece
    → queue_next m piece ≡ after (queue_step m piece).used (queue_next (after_step m piece) (rest_of m piece))
unfolding queue_after
next_on m piece t =
    let g = goes_on_lem (queue_step m piece) (length piece) t in
    let f = follows m piece t in
    let st = m.memory.state in
    let store = m.memory.store in
    let s = queue_step m piece in
    let first : queue_next m piece ≡ next_event st store piece =
    sym (beside_next m piece) ∙ beside_fits (waits_well m) true st store piece (taken_well m piece g.taken) in
    let rest : next_event s.state s.store (rest_of m piece) ≡ queue_next (after_step m piece) (rest_of m piece) =
    sym (beside_fits (waits_well (after_step m piece)) true s.state s.store (rest_of m piece) f.fits) ∙ beside_next (after_step m piece) (rest_of m piece) in
    let on : goes_on (stepped st store piece) (length piece) ≡ true = sym (ap (λ (x : Stepped). goes_on x (length piece)) f.alone) ∙ t in
    first ∙ next_step st store piece ∙ simp on (ap (λ (x : Stepped). after x.used (next_event x.state x.store (drop x.used piece))) (sym f.alone) ∙ ap (after s.used) rest)

-- ---- the steps without the bound
-- a step after which another follows leaves less to read
less_left : (m : QueueMemory) (piece : List ℕ) → Another m piece → length (rest_of m piece) < length piece
less_left m piece t =
    let g = goes_on_lem (queue_step m piece) (length piece) t in
    let f = follows m piece t in
    let some : 1 ≤ (queue_step m piece).used = rw f.alone (uses_some m.memory.state m.memory.store piece (rw f.alone at g)) in
    omega (arith, length-drop (queue_step m piece).used piece, g.left)

-- an empty piece takes one step
stops : (m : QueueMemory) (piece : List ℕ) → length piece ≤ 0 → Final m piece
stops m piece h = by_test (goes_on (queue_step m piece) (length piece)) (λ t. absurd (omega (arith, less_left m piece t))) (λ t. t)

-- a bound that is large enough is as good as another
enough : (k k' : ℕ) (m : QueueMemory) (piece : List ℕ) → length piece ≤ k → length piece ≤ k' → queue_steps_in k m piece ≡ queue_steps_in k' m piece
unfolding queue_steps_in
enough zero zero m piece h h' = refl
enough zero (suc k') m piece h h' = simp (stops m piece h)
enough (suc k) zero m piece h h' = simp (stops m piece h')
enough (suc k) (suc k') m piece h h' =
    by_test (goes_on (queue_step m piece) (length piece))
    (λ t.
    let n = less_left m piece t in
    simp t (ap (λ (os : List QueueOperation). StepOver piece ∷ os) (enough k k' (after_step m piece) (rest_of m piece) (omega (arith, n)) (omega (arith, n)))))
    (λ t. simp t)

-- The steps over a piece: the first, and those over the rest of the piece after it, if another follows.
pub steps_step : (m : QueueMemory) (piece : List ℕ)
    → queue_steps m piece
    ≡ (if goes_on (queue_step m piece) (length piece) then StepOver piece ∷ queue_steps (after_step m piece) (rest_of m piece) else StepOver piece ∷ [])
unfolding queue_steps queue_steps_in
steps_step m piece =
    enough (length piece) (suc (length piece)) m piece (omega arith) (omega arith)
    ∙ by_test (goes_on (queue_step m piece) (length piece))
    (λ t.
    let n = less_left m piece t in
    simp t (ap (λ (os : List QueueOperation). StepOver piece ∷ os) (enough (length piece) (length (rest_of m piece)) (after_step m piece) (rest_of m piece) (omega (arith, n)) (omega arith))))
    (λ t. simp t)

-- ---- induction over the steps
-- P holds of a step after which none follows, and of a step and those after it if it holds of those.
module _ (P : QueueMemory → List ℕ → List QueueOperation → Type 0) (last : (m : QueueMemory) (piece : List ℕ) → Final m piece → P m piece (StepOver piece ∷ []))
    (more : (m : QueueMemory) (piece : List ℕ) (os : List QueueOperation) → Another m piece → P (after_step m piece) (rest_of m piece) os → P m piece (StepOver piece ∷ os)) where
  -- within a bound that is large enough
  within : (k : ℕ) (m : QueueMemory) (piece : List ℕ) → length piece ≤ k → P m piece (queue_steps_in k m piece)
  unfolding queue_steps_in
  within zero m piece h = last m piece (stops m piece h)
  within (suc k) m piece h =
      by_test (goes_on (queue_step m piece) (length piece))
      (λ t.
      let low : length (rest_of m piece) ≤ k = omega (arith, less_left m piece t) in
      simp t (more m piece _ t (within k (after_step m piece) (rest_of m piece) low)))
      (λ t. simp t (last m piece t))

  -- Then it holds of the steps that the call stands for.
  pub by_steps : (m : QueueMemory) (piece : List ℕ) → P m piece (queue_steps m piece)
  unfolding queue_steps
  by_steps m piece = within (length piece) m piece (omega arith)

-- ---- what the steps leave
-- what one leaves
step_leaves : (m : QueueMemory) (piece : List ℕ) → after_step m piece ≡ with_memory m (memory_of (queue_step m piece))
unfolding queue_after
step_leaves m piece = refl

-- What the later steps leave is seen from before this one.
from_before : (m : QueueMemory) (piece : List ℕ) (n : Memory) → Another m piece → with_memory (after_step m piece) n ≡ with_memory m n
unfolding queue_after
from_before m piece n t =
    let f = follows m piece t in
    ap₂ (λ (a : Bool) (w : List ℕ). beside n (kept_waits a n.state.conn.«open» w) m.marks m.queue) (f.is_open ∙ sym f.was_open) f.kept

-- They leave what the call leaves: state and store, and what waits, which a close drops.
pub steps_leave : (m : QueueMemory) (piece : List ℕ)
    → final_queue m (queue_steps m piece) ≡ with_memory m (record { state = (queue_next m piece).state; store = (queue_next m piece).store })
unfolding final_queue
steps_leave =
    by_steps (λ m piece os. final_queue m os ≡ with_memory m (memory_of (queue_next m piece)))
    (λ m piece t. step_leaves m piece ∙ sym (ap (λ (s : Stepped). with_memory m (memory_of s)) (next_last m piece t)))
    (λ m piece os t rest. rest ∙ from_before m piece _ t ∙ sym (ap (λ (s : Stepped). with_memory m (memory_of s)) (next_on m piece t)))

-- ---- what they tell
-- a step after which none follows is all that a call without a queue stands for
one_step : (k : ℕ) (st : State) (store piece : List ℕ) → goes_on (stepped st store piece) (length piece) ≡ false → steps_in k st store piece ≡ Base.StepOver piece ∷ []
unfolding steps_in
one_step zero st store piece t = refl
one_step (suc k) st store piece t = simp t

-- so what it tells over the bytes that it used, it tells over those that it shows
last_notes : (st : State) (store piece : List ℕ) → goes_on (stepped st store piece) (length piece) ≡ false
    → notes (stepped st store piece).event (take (stepped st store piece).used piece) ≡ notes (stepped st store piece).event (shown_by (stepped st store piece) piece)
unfolding next_steps all_seen seen_in
last_notes st store piece t =
    let m : Memory = record { state = st; store = store } in
    let s = stepped st store piece in
    let only : next_event st store piece ≡ s = next_step st store piece ∙ simp t in
    let seen : map Heard (notes s.event (take s.used piece)) ≡ map Heard (notes s.event (shown_by s piece)) =
    sym (append-nil _) ∙ sym (ap (all_seen m) (one_step (length piece) st store piece t)) ∙ next_seen m piece
    ∙ ap (λ (x : Stepped). map Heard (notes x.event (shown_by x piece))) only in
    Function.Injective-list-map (λ x y e. cc) _ _ seen

-- The same with a queue.
step_notes : (m : QueueMemory) (piece : List ℕ) → Final m piece
    → notes (queue_step m piece).event (used_of m piece) ≡ notes (queue_step m piece).event (shown_by (queue_step m piece) piece)
unfolding queue_step
step_notes m piece =
    by_test (queue_step_refusal m =? 0)
    (λ t. simp t (last_notes m.memory.state m.memory.store piece))
    (λ t. simp t (λ e. refl))

-- A call shows no more than it used.
shows_used : (m : QueueMemory) (piece : List ℕ) → count_of (queue_next m piece).event ≤ (queue_next m piece).used
unfolding queue_next
shows_used m piece =
    by_test (queue_step_refusal m =? 0) (λ t. simp t (next_shows m.memory.state m.memory.store piece)) (λ t. simp t (omega arith))

-- Of all that is told on the way, what the call tells is all. (A premise of isolation speaks of what is told.)
pub steps_notes : (m : QueueMemory) (piece : List ℕ) → notes_all m (queue_steps m piece) ≡ notes (queue_next m piece).event (shown_by (queue_next m piece) piece)
unfolding notes_all
steps_notes =
    by_steps (λ m piece os. notes_all m os ≡ notes (queue_next m piece).event (shown_by (queue_next m piece) piece))
    (λ m piece t. append-nil _ ∙ step_notes m piece t ∙ sym (ap (λ (s : Stepped). notes s.event (shown_by s piece)) (next_last m piece t)))
    (λ m piece os t rest.
    let s = queue_step m piece in
    let r = queue_next (after_step m piece) (rest_of m piece) in
    let c = count_of r.event in
    let n : s.used + (r.used - c) ≡ s.used + r.used - c = omega (arith, shows_used (after_step m piece) (rest_of m piece)) in
    let same = ap (take c) (drop-drop (r.used - c) s.used piece ∙ ap (λ (i : ℕ). drop i piece) n) in
    ap (λ (e : Event). notes e (used_of m piece) ++ notes_all (after_step m piece) os) (goes_on_lem s (length piece) t).silent
    ∙ rest ∙ ap (notes r.event) same ∙ sym (ap (λ (x : Stepped). notes x.event (shown_by x piece)) (next_on m piece t)))

-- what is shown of R is what is told of it
told_of_lem : (R : ℕ) (m : QueueMemory) (piece : List ℕ) → shown_all R m (queue_steps m piece) ≡ notes_of R (notes_all m (queue_steps m piece))
unfolding shown_all shown_in notes_all notes_of
told_of_lem R =
    by_steps (λ m piece os. shown_all R m os ≡ notes_of R (notes_all m os))
    (λ m piece t.
    let told = notes (queue_step m piece).event (used_of m piece) in
    append-nil (notes_of R told) ∙ sym (ap (notes_of R) (append-nil told)))
    (λ m piece os t rest.
    let quiet = (goes_on_lem (queue_step m piece) (length piece) t).silent in
    ap (λ (e : Event). notes_of R (notes e (used_of m piece)) ++ shown_all R (after_step m piece) os) quiet
    ∙ rest ∙ sym (ap (λ (e : Event). notes_of R (notes e (used_of m piece) ++ notes_all (after_step m piece) os)) quiet))

-- Of each request they show what the call tells of it.
pub steps_show : (R : ℕ) (m : QueueMemory) (piece : List ℕ)
    → shown_all R m (queue_steps m piece) ≡ notes_of R (notes (queue_next m piece).event (shown_by (queue_next m piece) piece))
steps_show R m piece = told_of_lem R m piece ∙ ap (notes_of R) (steps_notes m piece)

-- ---- what they use and write
-- Their bytes in the run are those that the call used.
pub steps_items : (m : QueueMemory) (piece : List ℕ) → queue_timeline m (queue_steps m piece) ≡ byte_items (take (queue_next m piece).used piece)
unfolding queue_timeline queue_items
steps_items =
    by_steps (λ m piece os. queue_timeline m os ≡ byte_items (take (queue_next m piece).used piece))
    (λ m piece t. append-nil _ ∙ sym (ap (λ (s : Stepped). byte_items (take s.used piece)) (next_last m piece t)))
    (λ m piece os t rest.
    let s = queue_step m piece in
    let r = queue_next (after_step m piece) (rest_of m piece) in
    ap (λ (l : List (Item Asking)). byte_items (used_of m piece) ++ l) rest
    ∙ sym (ap byte_items (take-add s.used r.used piece) ∙ byte_items_append (used_of m piece) (take r.used (rest_of m piece)))
    ∙ sym (ap (λ (x : Stepped). byte_items (take x.used piece)) (next_on m piece t)))

-- They write nothing.
pub steps_write : (R : ℕ) (m : QueueMemory) (piece : List ℕ) → written_all R m (queue_steps m piece) ≡ []
unfolding written_all bytes_in records_of split split_in
steps_write R = by_steps (λ m piece os. written_all R m os ≡ []) (λ m piece t. refl) (λ m piece os t rest. rest)

-- They are lent bytes where the call is.
pub steps_pieces : (m : QueueMemory) (piece : List ℕ) → AllBytes piece → PiecesAreBytes (queue_steps m piece)
steps_pieces =
    by_steps (λ m piece os. AllBytes piece → PiecesAreBytes os) (λ m piece t all. (all, tt)) (λ m piece os t rest all. (all, rest (drop_bytes (queue_step m piece).used piece all)))

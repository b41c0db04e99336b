-- What holds of the steps up to the next event. The bound of the definition is seen in the proofs of `enough` and
-- `next_step` only.
use Rattle.std.specs.Prelude.{◌≡◌, refl, ℕ, zero, suc, ◌+◌, ◌-◌, ◌≤◌, ◌<◌, true, false, List, [], ◌∷◌, ◌++◌, map, length, take, drop, eqb, ltb, if◌then◌else◌}
use Rattle.std.proofs.Common.{sym, ap, ◌∙◌, arith, append-nil, length-drop, drop-drop, take-add, eq-eqb, eqb-true, ltb-true, ltb-false}
use Rattle.std.proofs.lemmas.Bool.{eqb-false}
use Rattle.wire.specs.Test.{by_test}
use Rattle.connection.specs.Event.{Event}
use Rattle.connection.specs.Sizes.{QUERY}
use Rattle.connection.proofs.Laws.Closing.{closes_by_cause}
use Rattle.wire.proofs.Bytes.{AllBytes, drop_bytes}
use Rattle.connection.proofs.Laws.StateShape.{Arrays}
use Rattle.connection.proofs.Laws.StepShape.{step_in_shape, step_keeps_arrays}
use Rattle.connection.proofs.Laws.StepSizes.{Sizes, sizes_stay}
use Rattle.connection.specs.Step.{State, Stepped, stays, advances, stepped, step_refusal}
use Rattle.connection.proofs.Laws.Progress.{Fits, fits_admitted, admitted_fits, step_refused, step_uses_some, step_uses_no_more}
use Rattle.machine.specs.Timeline.{Item, byte_items}
use Rattle.machine.proofs.TimelineLaws.{byte_items_append}
use Rattle.connection.specs.Arguments.{Argument}
use Rattle.connection.proofs.Laws.RefusalRows.{store_row, shape_row, closed_row, step_rows_lem}
use Rattle.connection.specs.Refusal.{refusal}
use Rattle.connection.specs.Run.{Memory, Observed, Heard, memory_of, memory_after, seen_in, final_memory, all_seen, items_of, timeline, PiecesOk}
use Rattle.call_step.specs.Next.{is_none, goes_on, after, count_of, shown_by, next_in, next_event, steps_in, next_steps}
use Rattle.connection.specs.Bytewise.{notes, showing}
use Rattle.call_step.proofs.DataLaws.{data_used}

-- ---- a step after which another follows
-- it is not refused, tells nothing, and leaves bytes
pub record GoesOn (s : Stepped) (n : ℕ) : Type 0 where
  pub taken : s.refusal ≡ 0
  pub silent : s.event ≡ Event.None
  pub left : s.used < n

none_is : (e : Event) → is_none e ≡ true → e ≡ Event.None
none_is Event.None h = refl
none_is (Event.Open id role keep) h = let z : ◌≡◌ {A = ℕ} 0 1 = cc in absurd (omega arith)
none_is (Event.Ready id n) h = let z : ◌≡◌ {A = ℕ} 0 1 = cc in absurd (omega arith)
none_is (Event.Data id stream n) h = let z : ◌≡◌ {A = ℕ} 0 1 = cc in absurd (omega arith)
none_is (Event.End id stream measure) h = let z : ◌≡◌ {A = ℕ} 0 1 = cc in absurd (omega arith)
none_is (Event.Abort id) h = let z : ◌≡◌ {A = ℕ} 0 1 = cc in absurd (omega arith)
none_is (Event.Refuse id n) h = let z : ◌≡◌ {A = ℕ} 0 1 = cc in absurd (omega arith)
none_is (Event.Fault id cause) h = let z : ◌≡◌ {A = ℕ} 0 1 = cc in absurd (omega arith)
none_is (Event.Query conns reqs mpxs) h = let z : ◌≡◌ {A = ℕ} 0 1 = cc in absurd (omega arith)
none_is (Event.Unknown kind) h = let z : ◌≡◌ {A = ℕ} 0 1 = cc in absurd (omega arith)
none_is (Event.Closed cause) h = let z : ◌≡◌ {A = ℕ} 0 1 = cc in absurd (omega arith)

pub goes_on_lem : (s : Stepped) (n : ℕ) → goes_on s n ≡ true → GoesOn s n
goes_on_lem s n h =
    by_test (eqb s.refusal 0)
    (λ r.
    by_test (is_none s.event)
    (λ e. record { taken = eqb-true s.refusal 0 r; silent = none_is s.event e; left = ltb-true s.used n (simp (r, e) at h) })
    (λ e. let z : ◌≡◌ {A = ℕ} 0 1 = cc (simp (r, e) at h) in absurd (omega arith)))
    (λ r. let z : ◌≡◌ {A = ℕ} 0 1 = cc (simp r at h) in absurd (omega arith))

-- ---- without the bound
-- a step after which another follows uses a byte
pub uses_some : (st : State) (store piece : List ℕ) → GoesOn (stepped st store piece) (length piece) → 1 ≤ (stepped st store piece).used
uses_some st store piece g =
    by_test (eqb (step_refusal st.conn store) 0)
    (λ t.
    let f = admitted_fits st.conn store (eqb-true (step_refusal st.conn store) 0 t) in
    (step_uses_some st store piece f.shape f.is_open f.size (omega (arith, g.left))).0)
    (λ t.
    let n = eqb-false (step_refusal st.conn store) 0 t in
    absurd (n (sym (ap (λ (s : Stepped). s.refusal) (step_refused st store piece n)) ∙ g.taken)))

-- an empty piece takes one step
stops : (st : State) (store piece : List ℕ) → length piece ≤ 0 → goes_on (stepped st store piece) (length piece) ≡ false
stops st store piece h =
    by_test (goes_on (stepped st store piece) (length piece))
    (λ t. absurd (omega (arith, (goes_on_lem (stepped st store piece) (length piece) t).left)))
    (λ t. t)

-- a bound that is large enough is as good as another
enough : (k k' : ℕ) (st : State) (store piece : List ℕ) → length piece ≤ k → length piece ≤ k' → next_in k st store piece ≡ next_in k' st store piece
unfolding next_in
enough zero zero st store piece h h' = refl
enough zero (suc k') st store piece h h' = simp (stops st store piece h)
enough (suc k) zero st store piece h h' = simp (stops st store piece h')
enough (suc k) (suc k') st store piece h h' =
    let s = stepped st store piece in
    by_test (goes_on s (length piece))
    (λ t.
    let g = goes_on_lem s (length piece) t in
    let n : length (drop s.used piece) < length piece = omega (arith, length-drop s.used piece, uses_some st store piece g, g.left) in
    simp t (ap (after s.used) (enough k k' s.state s.store (drop s.used piece) (omega arith) (omega arith))))
    (λ t. simp t)

-- What a piece comes to: its first step, and the rest of the piece after it, if another step follows.
pub next_step : (st : State) (store piece : List ℕ)
    → next_event st store piece
    ≡ (if goes_on (stepped st store piece) (length piece) then after (stepped st store piece).used (next_event (stepped st store piece).state (stepped st store piece).store (drop (stepped st store piece).used piece))
    else stepped st store piece)
unfolding next_event next_in
next_step st store piece =
    let s = stepped st store piece in
    enough (length piece) (suc (length piece)) st store piece (omega arith) (omega arith)
    ∙ by_test (goes_on s (length piece))
    (λ t.
    let g = goes_on_lem s (length piece) t in
    let rest = drop s.used piece in
    let n : length rest ≤ length piece = omega (arith, length-drop s.used piece) in
    simp t (ap (after s.used) (enough (length piece) (length rest) s.state s.store rest n (omega arith))))
    (λ t. simp t)

-- ---- bytes used
inside : (k : ℕ) (st : State) (store piece : List ℕ) → (next_in k st store piece).used ≤ length piece
unfolding next_in
inside zero st store piece = step_uses_no_more st store piece
inside (suc k) st store piece =
    let s = stepped st store piece in
    by_test (goes_on s (length piece))
    (λ t. simp t (omega (arith, inside k s.state s.store (drop s.used piece), length-drop s.used piece, (goes_on_lem s (length piece) t).left)))
    (λ t. simp t (step_uses_no_more st store piece))

-- Whatever state and piece, no more are used than there are.
pub next_uses_no_more : (st : State) (store piece : List ℕ) → (next_event st store piece).used ≤ length piece
unfolding next_event
next_uses_no_more st store piece = inside (length piece) st store piece

to_end : (k : ℕ) (st : State) (store piece : List ℕ) → length piece ≤ k → (next_in k st store piece).refusal ≡ 0 → (next_in k st store piece).event ≡ Event.None
    → (next_in k st store piece).used ≡ length piece
unfolding next_in
to_end zero st store piece h r e = omega (arith, step_uses_no_more st store piece)
to_end (suc k) st store piece h r e =
    let s = stepped st store piece in
    by_test (goes_on s (length piece))
    (λ t.
    let g = goes_on_lem s (length piece) t in
    let rest = drop s.used piece in
    let low : length rest ≤ k = omega (arith, length-drop s.used piece, uses_some st store piece g) in
    simp t (omega (arith, to_end k s.state s.store rest low (simp t at r) (simp t at e), length-drop s.used piece, g.left)))
    (λ t.
    let r' : s.refusal ≡ 0 = simp t at r in
    let e' : s.event ≡ Event.None = simp t at e in
    let quiet : is_none s.event ≡ true = ap is_none e' in
    let last : ltb s.used (length piece) ≡ false = simp (eq-eqb s.refusal 0 r', quiet) at t in
    simp t (omega (arith, ltb-false s.used (length piece) last, step_uses_no_more st store piece)))

-- Where nothing is refused and nothing is told, the piece is used up.
pub next_to_end : (st : State) (store piece : List ℕ) → (next_event st store piece).refusal ≡ 0 → (next_event st store piece).event ≡ Event.None
    → (next_event st store piece).used ≡ length piece
unfolding next_event
next_to_end st store piece r e = to_end (length piece) st store piece (omega arith) r e

-- ---- refusals
-- A silent step leaves an open connection open.
pub stays_open : (st : State) (store piece : List ℕ) → st.conn.«open» ≡ true → (stepped st store piece).event ≡ Event.None → (stepped st store piece).state.conn.«open» ≡ true
stays_open st store piece is silent =
    by_test (stepped st store piece).state.conn.«open»
    (λ t. t)
    (λ t.
    let told = (closes_by_cause st store piece is t).2 in
    let z : ◌≡◌ {A = ℕ} 0 1 = cc (ap is_none (sym silent ∙ told)) in
    absurd (omega arith))

-- a step that may read is not refused
reads_on_lem : (st : State) (store piece : List ℕ) → Fits st.conn store → (stepped st store piece).refusal ≡ 0
unfolding advances stepped
reads_on_lem st store piece fits =
    let t = eq-eqb (step_refusal st.conn store) 0 (fits_admitted st.conn store fits) in
    by_test (eqb (length piece) 0) (λ z. simp (t, z)) (λ z. simp (t, z))

-- a call whose first step is not refused is not refused later on
never_refused : (k : ℕ) (st : State) (store piece : List ℕ) → Arrays st.conn → length st.gathered ≡ QUERY → AllBytes piece → Fits st.conn store
    → (next_in k st store piece).refusal ≡ 0
unfolding next_in
never_refused zero st store piece arrays room all fits = reads_on_lem st store piece fits
never_refused (suc k) st store piece arrays room all fits =
    let s = stepped st store piece in
    let sizes : Sizes st store = record { table = arrays.table; header = arrays.header; body = arrays.body; gathered = room; full = fits.size } in
    let after = sizes_stay st store piece sizes in
    by_test (goes_on s (length piece))
    (λ t.
    let g = goes_on_lem s (length piece) t in
    let next : Fits s.state.conn s.store =
    record { size = after.full; shape = step_in_shape st store piece arrays all fits.shape; is_open = stays_open st store piece fits.is_open g.silent } in
    simp t (never_refused k s.state s.store (drop s.used piece) (step_keeps_arrays st store piece arrays all) after.gathered (drop_bytes s.used piece all) next))
    (λ t. simp t (reads_on_lem st store piece fits))

next_taken : (st : State) (store piece : List ℕ) → Arrays st.conn → length st.gathered ≡ QUERY → AllBytes piece → Fits st.conn store → (next_event st store piece).refusal ≡ 0
unfolding next_event
next_taken st store piece arrays room all fits = never_refused (length piece) st store piece arrays room all fits

-- Only the first step can be refused: a refusal uses no bytes and changes nothing.
pub next_refused : (st : State) (store piece : List ℕ) → Arrays st.conn → length st.gathered ≡ QUERY → AllBytes piece → ((next_event st store piece).refusal ≡ 0 → ⊥)
    → next_event st store piece ≡ stays (step_refusal st.conn store) st store
next_refused st store piece arrays room all not =
    by_test (eqb (step_refusal st.conn store) 0)
    (λ t. absurd (not (next_taken st store piece arrays room all (admitted_fits st.conn store (eqb-true (step_refusal st.conn store) 0 t)))))
    (λ t.
    let n = eqb-false (step_refusal st.conn store) 0 t in
    let same = step_refused st store piece n in
    let stop : goes_on (stepped st store piece) (length piece) ≡ false = ap (λ (s : Stepped). goes_on s (length piece)) same ∙ simp t in
    next_step st store piece ∙ simp stop same)

-- It is refused exactly as its first step is: by the first of the rows 2, 9 and 1 that holds.
pub next_rows : (st : State) (store piece : List ℕ) → Arrays st.conn → length st.gathered ≡ QUERY → AllBytes piece
    → (next_event st store piece).refusal ≡ refusal (store_row store ∷ shape_row st.conn ∷ closed_row st.conn ∷ [])
next_rows st store piece arrays room all =
    by_test (eqb (step_refusal st.conn store) 0)
    (λ t.
    let f = admitted_fits st.conn store (eqb-true (step_refusal st.conn store) 0 t) in
    next_taken st store piece arrays room all f ∙ sym (reads_on_lem st store piece f) ∙ step_rows_lem st store piece)
    (λ t.
    let n = eqb-false (step_refusal st.conn store) 0 t in
    let same = step_refused st store piece n in
    let stop : goes_on (stepped st store piece) (length piece) ≡ false = ap (λ (s : Stepped). goes_on s (length piece)) same ∙ simp t in
    let only : next_event st store piece ≡ stepped st store piece = next_step st store piece ∙ simp stop in
    ap (λ (s : Stepped). s.refusal) only ∙ step_rows_lem st store piece)

-- ---- as operations of a run
-- The steps one after another leave what the whole call leaves.
steps_leave : (k : ℕ) (m : Memory) (piece : List ℕ) → final_memory m (steps_in k m.state m.store piece) ≡ memory_of (next_in k m.state m.store piece)
unfolding next_in steps_in final_memory memory_after
steps_leave zero m piece = refl
steps_leave (suc k) m piece =
    let s = stepped m.state m.store piece in
    by_test (goes_on s (length piece))
    (λ t. simp t (steps_leave k (memory_of s) (drop s.used piece)))
    (λ t. simp t)

pub next_leaves : (m : Memory) (piece : List ℕ) → final_memory m (next_steps m.state m.store piece) ≡ memory_of (next_event m.state m.store piece)
unfolding next_steps next_event
next_leaves m piece = steps_leave (length piece) m piece

-- A step shows no more than it used.
count_used : (st : State) (store piece : List ℕ) → count_of (stepped st store piece).event ≤ (stepped st store piece).used
count_used st store piece = of (stepped st store piece).event refl
  where
    of : (e : Event) → (stepped st store piece).event ≡ e → count_of e ≤ (stepped st store piece).used
    of Event.None q = omega arith
    of (Event.Open id role keep) q = omega arith
    of (Event.Ready id n) q = omega arith
    of (Event.Data id stream n) q = omega (arith, data_used st store piece id stream n q)
    of (Event.End id stream measure) q = omega arith
    of (Event.Abort id) q = omega arith
    of (Event.Refuse id n) q = omega arith
    of (Event.Fault id cause) q = omega arith
    of (Event.Query conns reqs mpxs) q = omega arith
    of (Event.Unknown kind) q = omega arith
    of (Event.Closed cause) q = omega arith

next_count : (k : ℕ) (st : State) (store piece : List ℕ) → count_of (next_in k st store piece).event ≤ (next_in k st store piece).used
unfolding next_in
next_count zero st store piece = count_used st store piece
next_count (suc k) st store piece =
    let s = stepped st store piece in
    by_test (goes_on s (length piece))
    (λ t. simp t (omega (arith, next_count k s.state s.store (drop s.used piece))))
    (λ t. simp t (count_used st store piece))

-- A call shows no more than it used: of a data event with n bytes these are the last n.
pub next_shows : (st : State) (store piece : List ℕ) → count_of (next_event st store piece).event ≤ (next_event st store piece).used
unfolding next_event
next_shows st store piece = next_count (length piece) st store piece

-- What one step tells over the bytes that it used, it tells over those that it shows.
shows : (st : State) (store piece : List ℕ) → notes (stepped st store piece).event (take (stepped st store piece).used piece) ≡ notes (stepped st store piece).event (shown_by (stepped st store piece) piece)
shows st store piece = of (stepped st store piece).event refl
  where
    of : (e : Event) → (stepped st store piece).event ≡ e
        → notes e (take (stepped st store piece).used piece) ≡ notes e (take (count_of e) (drop ((stepped st store piece).used - count_of e) piece))
    of Event.None q = refl
    of (Event.Open id role keep) q = refl
    of (Event.Ready id n) q = refl
    of (Event.Data id stream n) q =
        let u = data_used st store piece id stream n q in
        let z : (stepped st store piece).used - n ≡ 0 = omega (arith, u) in
        ap (λ (k : ℕ). showing id stream (take n (take k piece))) u ∙ sym (ap (λ (k : ℕ). showing id stream (take n (take n (drop k piece)))) z)
    of (Event.End id stream measure) q = refl
    of (Event.Abort id) q = refl
    of (Event.Refuse id n) q = refl
    of (Event.Fault id cause) q = refl
    of (Event.Query conns reqs mpxs) q = refl
    of (Event.Unknown kind) q = refl
    of (Event.Closed cause) q = refl

-- Of all that is observed on the way, what the call tells is all.
steps_seen : (k : ℕ) (m : Memory) (piece : List ℕ)
    → all_seen m (steps_in k m.state m.store piece) ≡ map Heard (notes (next_in k m.state m.store piece).event (shown_by (next_in k m.state m.store piece) piece))
unfolding next_in steps_in all_seen seen_in memory_after
steps_seen zero m piece = append-nil _ ∙ ap (map Heard) (shows m.state m.store piece)
steps_seen (suc k) m piece =
    let s = stepped m.state m.store piece in
    by_test (goes_on s (length piece))
    (λ t.
    let g = goes_on_lem s (length piece) t in
    let rest = drop s.used piece in
    let r = next_in k s.state s.store rest in
    let c = count_of r.event in
    let n : s.used + (r.used - c) ≡ s.used + r.used - c = omega (arith, next_count k s.state s.store rest) in
    let same = ap (take c) (drop-drop (r.used - c) s.used piece ∙ ap (λ (i : ℕ). drop i piece) n) in
    let quiet = ap (λ (e : Event). map Heard (notes e (take s.used piece))) g.silent in
    simp t
    (ap (λ (l : List Observed). l ++ all_seen (memory_of s) (steps_in k s.state s.store rest)) quiet
    ∙ steps_seen k (memory_of s) rest ∙ ap (λ (x : List ℕ). map Heard (notes r.event x)) same))
    (λ t. simp t (append-nil _ ∙ ap (map Heard) (shows m.state m.store piece)))

pub next_seen : (m : Memory) (piece : List ℕ)
    → all_seen m (next_steps m.state m.store piece) ≡ map Heard (notes (next_event m.state m.store piece).event (shown_by (next_event m.state m.store piece) piece))
unfolding next_steps next_event
next_seen m piece = steps_seen (length piece) m piece

steps_items : (k : ℕ) (m : Memory) (piece : List ℕ) → timeline m (steps_in k m.state m.store piece) ≡ byte_items (take (next_in k m.state m.store piece).used piece)
unfolding next_in steps_in timeline items_of memory_after
steps_items zero m piece = append-nil _
steps_items (suc k) m piece =
    let s = stepped m.state m.store piece in
    by_test (goes_on s (length piece))
    (λ t.
    let rest = drop s.used piece in
    let r = next_in k s.state s.store rest in
    simp t
    (ap (λ (l : List (Item Argument)). byte_items (take s.used piece) ++ l) (steps_items k (memory_of s) rest)
    ∙ sym (ap byte_items (take-add s.used r.used piece) ∙ byte_items_append (take s.used piece) (take r.used rest))))
    (λ t. simp t (append-nil _))

-- Their bytes in the run are those that the call used.
pub next_items : (m : Memory) (piece : List ℕ) → timeline m (next_steps m.state m.store piece) ≡ byte_items (take (next_event m.state m.store piece).used piece)
unfolding next_steps next_event
next_items m piece = steps_items (length piece) m piece

pieces_ok : (k : ℕ) (st : State) (store piece : List ℕ) → AllBytes piece → PiecesOk (steps_in k st store piece)
unfolding steps_in
pieces_ok zero st store piece all = (all, tt)
pieces_ok (suc k) st store piece all =
    let s = stepped st store piece in
    by_test (goes_on s (length piece))
    (λ t. simp t (all, pieces_ok k s.state s.store (drop s.used piece) (drop_bytes s.used piece all)))
    (λ t. simp t (all, tt))

-- They are lent bytes where the call is.
pub next_pieces : (st : State) (store piece : List ℕ) → AllBytes piece → PiecesOk (next_steps st store piece)
unfolding next_steps
next_pieces st store piece all = pieces_ok (length piece) st store piece all

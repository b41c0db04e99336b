-- A step changes R's counts as it tells: it closes the connection, or opens R, or leaves R active or not as it was,
-- with its counts changed by what is heard.
use Rattle.connection.specs.Slots.{Slot}
use Rattle.std.specs.Prelude.{◌≡◌, refl, List, Bool, true, false, ℕ, ◌+◌, ◌<◌, length, eqb, leb, if◌then◌else◌, Some, None}
use Rattle.std.proofs.Math.Path.{ap, sym, subst}
use Rattle.std.proofs.Common.{◌∙◌, arith}
use Rattle.std.proofs.Math.Option.{none, some}
use borrow.Author.Tests.{eqb-true, eqb-false, eq-eqb}
use Rattle.wire.specs.Test.{by_test}
use Rattle.slot_word.specs.Word.{taken}
use Rattle.slot_word.proofs.WordLaws.{least_free}
use Rattle.machine.specs.Cause.{Cause}
use Rattle.connection.specs.declared.request.Due.{Due}
use Rattle.connection.specs.declared.request.Role.{Role}
use Rattle.connection.specs.declared.request.Request.{Request}
use Rattle.connection.specs.declared.request.Shown.{Shown}
use Rattle.connection.specs.declared.state.Table.{Table}
use Rattle.connection.specs.declared.state.Conn.{Conn}
use Rattle.connection.specs.Sizes.{SLOTS, AREA}
use Rattle.connection.specs.Event.{Event}
use Rattle.connection.specs.Codes.{role_number}
use Rattle.connection.specs.Request.{Held, Ruled, Fed, unshown, faulted, aborted, turned, on_header, grown, on_content, opened}
use Rattle.connection.specs.Slots.{request_at, held_at, take_slot, free_slot_of, find}
use Rattle.connection.specs.Step.{State, Left, open_with, closes, on_active, of_request, Stepped, stepped}
use Rattle.connection.specs.Run.{Memory, request_of, step_of, memory_of, used_of}
use Rattle.connection.specs.Counts.{shown_in}
use Rattle.connection.proofs.Laws.SlotsLaws.{Sized, Holds, Distinct, request_of_take, other_of_take, taken_of_take, taken_of_take_other, find_put, find_at, find_nowhere, nowhere_find}
use Rattle.connection.proofs.Laws.ShapeLaws.{shaped}
use Rattle.connection.proofs.Laws.Progress.{Fits}
use Rattle.connection.proofs.Laws.Closing.{is_closing, header_goes_on}
use Rattle.connection.proofs.Laws.Ways.{Nameless, Way, concerned, by_way}
use Rattle.connection.proofs.Laws.Rules.{by_rule}
use Rattle.connection.proofs.Laws.CountsSteps.{shown_after, heard_of, CountsOf, step_counts}
use Rattle.queue_runs.proofs.Closing.{both_ways}
use Rattle.queue_kept.specs.QueueCounts.{counts_of_r, opens_r, with_heard, counts_told}

-- ---- where R is after a step
-- From b a step leaves c and tells this: it closes the connection; or opens R; or R is found as before.
data Whereabouts (R : ℕ) (b c : Conn) : Event → Type 0 where
  Shuts : (cause : Cause) → c.«open» ≡ false → Whereabouts R b c (Event.Closed cause)
  Opens : (k role : ℕ) (keep : Bool) → c.«open» ≡ true → find c.table R ≡ Some k → Whereabouts R b c (Event.Open R role keep)
  Stays : (e : Event) → c.«open» ≡ b.«open» → find c.table R ≡ find b.table R → is_closing e ≡ false → opens_r R e ≡ false → Whereabouts R b c e

-- an event of no active request closes and opens nothing
nameless_stays : (R : ℕ) (t : Table) (e : Event) → Nameless t e → (is_closing e ≡ false) × (opens_r R e ≡ false)
nameless_stays R t Event.None q = (refl, refl)
nameless_stays R t (Event.Refuse id status) q = (refl, refl)
nameless_stays R t (Event.Query conns reqs mpxs) q = (refl, refl)
nameless_stays R t (Event.Unknown kind) q = (refl, refl)
nameless_stays R t (Event.Open _ _ _) q = elim q [ ]
nameless_stays R t (Event.Ready _ _) q = elim q [ ]
nameless_stays R t (Event.Data _ _ _) q = elim q [ ]
nameless_stays R t (Event.End _ _ _) q = elim q [ ]
nameless_stays R t (Event.Abort _) q = elim q [ ]
nameless_stays R t (Event.Fault _ _) q = elim q [ ]
nameless_stays R t (Event.Closed _) q = elim q [ ]

-- a header opens nothing, and keeps the id
header_stays : (R kind n : ℕ) (h : Held) → (opens_r R (on_header kind n h).event ≡ false) × ((on_header kind n h).held.request.id ≡ h.request.id)
unfolding faulted aborted turned
header_stays R kind n h =
    by_rule (λ (r : Ruled). (opens_r R r.event ≡ false) × (r.held.request.id ≡ h.request.id)) h
    (λ d. (refl, refl)) (λ cause fault. (refl, refl)) (refl, refl) (λ t. (refl, refl)) (λ t s m. (refl, refl)) kind n

-- content closes and opens nothing, and keeps the id
record ContentStays (R : ℕ) (h : Held) (r : Fed) : Type 0 where
  goes_on_lem : is_closing r.event ≡ false
  unopened : opens_r R r.event ≡ false
  id : r.held.request.id ≡ h.request.id

-- It does so, whatever it is due to.
content_stays : (R : ℕ) (due : Due) (bytes : List ℕ) (h : Held) → ContentStays R h (on_content due bytes h)
unfolding grown
content_stays R Due.Skip bytes h = record { goes_on_lem = refl; unopened = refl; id = refl }
content_stays R Due.Params bytes h =
    by_test (leb (h.request.length + length bytes) AREA) (λ e. simp e (record { goes_on_lem = refl; unopened = refl; id = refl })) (λ e. simp e (record { goes_on_lem = refl; unopened = refl; id = refl }))
content_stays R Due.Stdin bytes h = record { goes_on_lem = refl; unopened = refl; id = refl }
content_stays R Due.Data bytes h = record { goes_on_lem = refl; unopened = refl; id = refl }

-- ---- an id that takes a free slot
module _ (t : Table) (id : ℕ) (role : Role) (keep : Bool) (sized : Sized t) (low : free_slot_of t < SLOTS) where
  -- the slots then
  abbrev after : Table
  after = take_slot t (free_slot_of t) (opened id role keep)

  -- It is found.
  opened_found : (s : Slot) → find after id ≡ s → (k : ℕ) × (find after id ≡ Some k)
  unfolding request_at opened
  opened_found (Some k) e = (k, e)
  opened_found None e =
      absurd (find_nowhere after id e (free_slot_of t)
      (record { low = low; slot_taken = taken_of_take t (free_slot_of t) (opened id role keep) low; has_id = ap (λ (x : Request). x.id) (request_of_take t (free_slot_of t) (opened id role keep) sized low) }))

  module _ (R : ℕ) (other : id ≡ R → ⊥) where
    -- another that is active then was so before
    held_before : (j : ℕ) → Holds after R j → Holds t R j
    unfolding request_at opened
    held_before j h =
        by_test (eqb j (free_slot_of t))
        (λ e.
        let q : j ≡ free_slot_of t = eqb-true j (free_slot_of t) e in
        absurd (other (ap (λ (x : Request). x.id) (sym (request_of_take t (free_slot_of t) (opened id role keep) sized low)) ∙ subst (λ n. (request_at after n).id ≡ R) q h.has_id)))
        (λ e.
        let d = eqb-false j (free_slot_of t) e in
        record {
          low = h.low;
          slot_taken = sym (taken_of_take_other t (free_slot_of t) j (opened id role keep) d) ∙ h.slot_taken;
          has_id = ap (λ (x : Request). x.id) (sym (other_of_take t (free_slot_of t) j (opened id role keep) d)) ∙ h.has_id;
        })

    -- and one that was so before is so then
    held_after_lem : (j : ℕ) → Holds t R j → Holds after R j
    unfolding request_at
    held_after_lem j h =
        let d : j ≡ free_slot_of t → ⊥ = λ q. both_ways (taken j t.occupied) h.slot_taken (ap (λ k. taken k t.occupied) q ∙ least_free SLOTS t.occupied low) in
        record {
          low = h.low;
          slot_taken = taken_of_take_other t (free_slot_of t) j (opened id role keep) d ∙ h.slot_taken;
          has_id = ap (λ (x : Request). x.id) (other_of_take t (free_slot_of t) j (opened id role keep) d) ∙ h.has_id;
        }

    -- So another is found as before.
    other_found : Distinct t → find after R ≡ find t R
    other_found distinct = go (find t R) refl
      where
        there : (i : ℕ) → find t R ≡ Some i → (s : Slot) → find after R ≡ s → s ≡ Some i
        there i e None f = absurd (find_nowhere after R f i (held_after_lem i (find_at t R i e)))
        there i e (Some j) f = ap (λ (n : ℕ). Some n) (distinct R j i (held_before j (find_at after R j f)) (find_at t R i e))

        go : (s : Slot) → find t R ≡ s → find after R ≡ s
        go None e = nowhere_find after R (λ j h. find_nowhere t R e j (held_before j h))
        go (Some i) e = there i e (find after R) refl

-- ---- every step
-- A step leaves R so, from every memory whose table has a place for each slot.
whereabouts : (R : ℕ) (st : State) (store piece : List ℕ) → Sized st.conn.table → Whereabouts R st.conn (stepped st store piece).state.conn (stepped st store piece).event
unfolding closes on_active of_request
whereabouts R st store piece sized =
    by_way (λ (s : Stepped). Whereabouts R st.conn s.state.conn s.event) st store piece (λ n. Stays Event.None refl refl refl refl) go
  where
    t : Table
    t = st.conn.table

    go : Fits st.conn store → (used : ℕ) (l : Left) → Way st store (concerned st piece) l → Whereabouts R st.conn l.conn l.event
    go fits used _ (Way.Reads g f e q) = let k = nameless_stays R t e q in Stays e (sym fits.is_open) refl k.0 k.1
    go fits used _ (Way.Closes g cause k) = Shuts cause refl
    go fits used _ (Way.Rules h j k e) =
        let q = held_at t store j in
        let s = header_stays R h.kind h.content q in
        Stays (on_header h.kind h.content q).event (sym fits.is_open) (find_put t j (on_header h.kind h.content q).held.request R s.1) (header_goes_on h.kind h.content q) s.0
    go fits used _ (Way.Feeds due j bytes p k low aim left) =
        let s = content_stays R due bytes (held_at t store j) in
        Stays (on_content due bytes (held_at t store j)).event (sym fits.is_open) (find_put t j (on_content due bytes (held_at t store j)).held.request R s.id) s.goes_on_lem s.unopened
    go fits used _ (Way.Takes id role keep f k low idle) =
        by_test (eqb id R)
        (λ e.
        let w = opened_found t id role keep sized low (find (after t id role keep sized low) id) refl in
        let q : id ≡ R = eqb-true id R e in
        subst (λ n. Whereabouts R st.conn (open_with (after t id role keep sized low) f) (Event.Open n (role_number role) keep)) (sym q)
        (Opens w.0 (role_number role) keep refl (subst (λ n. find (after t id role keep sized low) n ≡ Some w.0) q w.1)))
        (λ e. Stays (Event.Open id (role_number role) keep) (sym fits.is_open) (other_found t id role keep sized low R (eqb-false id R e) (shaped st.conn fits.shape).table.distinct) refl e)

-- ---- the counts
-- R's counts, where it is active
counts_at : (R : ℕ) (m : Memory) (i : ℕ) → m.state.conn.«open» ≡ true → find m.state.conn.table R ≡ Some i → counts_of_r R m ≡ some (request_at m.state.conn.table i).state.shown
unfolding request_of
counts_at R m i o f = rw (o, f)

-- and none, where it is not
counts_nowhere : (R : ℕ) (m : Memory) → find m.state.conn.table R ≡ None → counts_of_r R m ≡ none
unfolding request_of
counts_nowhere R m f = by_test m.state.conn.«open» (λ o. rw (o, f)) (λ o. rw o)

-- a closed connection has none
counts_closed : (R : ℕ) (m : Memory) → m.state.conn.«open» ≡ false → counts_of_r R m ≡ none
unfolding request_of
counts_closed R m o = rw o

-- R's opening is heard as both counts 0
heard_opening : (R role : ℕ) (keep : Bool) (x : List ℕ) (c : Shown) → shown_after R c (heard_of (Event.Open R role keep) x) ≡ unshown
unfolding shown_in
heard_opening R role keep x c = rw (eq-eqb R R refl)

-- The counts after a step are those that it tells, from every memory whose table has a place for each slot.
pub step_told : (R : ℕ) (m : Memory) (piece : List ℕ) → Sized m.state.conn.table
    → counts_of_r R (memory_of (step_of m piece)) ≡ (if is_closing (step_of m piece).event then none else counts_told R (step_of m piece).event (used_of m piece) (counts_of_r R m))
step_told R m piece sized = go (step_of m piece).event refl (whereabouts R m.state m.store piece sized)
  where
    b : Conn
    b = m.state.conn

    n : Memory
    n = memory_of (step_of m piece)

    x : List ℕ
    x = used_of m piece

    -- where a slot holds R, with these counts before
    follows : (e : Event) → (step_of m piece).event ≡ e → (c : Shown) → CountsOf R c b → n.state.conn.«open» ≡ true → (k : ℕ) → find n.state.conn.table R ≡ Some k
        → counts_of_r R n ≡ some (shown_after R c (heard_of e x))
    follows e same c k o i f = counts_at R n i o f ∙ ap some (step_counts R c m.state m.store piece sized k o i f ∙ ap (λ d. shown_after R c (heard_of d x)) same)

    -- R is active or not as it was
    stays : (e : Event) → (step_of m piece).event ≡ e → n.state.conn.«open» ≡ b.«open» → find n.state.conn.table R ≡ find b.table R → (o : Bool) → b.«open» ≡ o → (s : Slot) → find b.table R ≡ s
        → counts_of_r R n ≡ with_heard R (heard_of e x) (counts_of_r R m)
    stays e same p q false o s f = counts_closed R n (p ∙ o) ∙ ap (with_heard R (heard_of e x)) (sym (counts_closed R m o))
    stays e same p q true o None f = counts_nowhere R n (q ∙ f) ∙ ap (with_heard R (heard_of e x)) (sym (counts_nowhere R m f))
    stays e same p q true o (Some i) f =
        follows e same (request_at b.table i).state.shown (λ u j g. let d : j ≡ i = cc (g, f) in ap (λ (k : ℕ). (request_at b.table k).state.shown) d) (p ∙ o) i (q ∙ f)
        ∙ ap (with_heard R (heard_of e x)) (sym (counts_at R m i o f))

    -- some counts, whether R is active or not
    before : (s : Slot) → find b.table R ≡ s → (c : Shown) × CountsOf R c b
    before None f = (unshown, λ u j g. let z : ◌≡◌ {A = ℕ} 0 1 = cc (f, g) in absurd (omega arith))
    before (Some i) f = ((request_at b.table i).state.shown, λ u j g. let d : j ≡ i = cc (g, f) in ap (λ (k : ℕ). (request_at b.table k).state.shown) d)

    go : (e : Event) → (step_of m piece).event ≡ e → Whereabouts R b n.state.conn e → counts_of_r R n ≡ (if is_closing e then none else counts_told R e x (counts_of_r R m))
    go e same (Shuts cause o) = counts_closed R n o
    go e same (Opens k role keep o f) =
        let c = before (find b.table R) refl in
        rw (eq-eqb R R refl) (follows (Event.Open R role keep) same c.0 c.1 o k f ∙ ap some (heard_opening R role keep x c.0))
    go e same (Stays d p q g u) = rw (g, u) (stays e same p q b.«open» refl (find b.table R) refl)

-- While a request is spent, a step tells nothing of it.
use Rattle.std.specs.Prelude.{◌≡◌, refl, List, true, false, ℕ, ◌<◌, Some, None}
use Rattle.std.proofs.Common.{ap, sym, ◌∙◌, subst, arith}
use Rattle.connection.specs.declared.request.Due.{Due}
use Rattle.connection.specs.declared.state.Table.{Table}
use Rattle.connection.specs.Event.{Event}
use Rattle.connection.specs.Request.{Held, Ruled, is_spent, faulted, aborted, turned, on_header}
use Rattle.connection.specs.Slots.{request_at, held_at, find}
use Rattle.connection.specs.Step.{State, Left, due_to, closes, on_active, of_request, Stepped, stepped}
use Rattle.connection.specs.Run.{event_id}
use Rattle.connection.proofs.Laws.SlotsLaws.{find_at, only_slot}
use Rattle.connection.specs.Fits.{InUse, Aimed}
use Rattle.connection.proofs.Laws.ShapeLaws.{shaped}
use Rattle.connection.proofs.Laws.Progress.{Fits}
use Rattle.connection.proofs.Laws.Ways.{Nameless, Way, concerned, by_way}
use Rattle.connection.proofs.Laws.Rules.{by_rule}

-- Of which request does an event speak that is none of an active request's?
nameless_inactive : (t : Table) (e : Event) (R : ℕ) → 0 < R → Nameless t e → event_id e ≡ R → find t R ≡ None
nameless_inactive t Event.None R r q d = absurd (omega arith)
nameless_inactive t (Event.Refuse id status) R r q d = subst (λ k. find t k ≡ None) d q
nameless_inactive t (Event.Query conns reqs mpxs) R r q d = absurd (omega arith)
nameless_inactive t (Event.Unknown kind) R r q d = absurd (omega arith)
nameless_inactive t (Event.Open _ _ _) R r q d = elim q [ ]
nameless_inactive t (Event.Ready _ _) R r q d = elim q [ ]
nameless_inactive t (Event.Data _ _ _) R r q d = elim q [ ]
nameless_inactive t (Event.End _ _ _) R r q d = elim q [ ]
nameless_inactive t (Event.Abort _) R r q d = elim q [ ]
nameless_inactive t (Event.Fault _ _) R r q d = elim q [ ]
nameless_inactive t (Event.Closed _) R r q d = elim q [ ]

-- what a header tells is of its own request
rule_names : (kind n : ℕ) (h : Held) (R : ℕ) → 0 < R → event_id (on_header kind n h).event ≡ R → h.request.id ≡ R
unfolding faulted aborted turned
rule_names kind n h R r =
    by_rule (λ (x : Ruled). event_id x.event ≡ R → h.request.id ≡ R) h (λ d e. absurd (omega arith)) (λ cause fault e. e) (λ e. e) (λ t e. e) (λ t s m e. e) kind n

-- and of a spent one it tells nothing
spent_rule : (kind n : ℕ) (h : Held) → is_spent h.request.state.life ≡ true → (on_header kind n h).event ≡ Event.None
unfolding on_header
spent_rule kind n h e = simp e

-- content that is due to a slot: the slot is taken
pub due_use : (due : Due) (i : ℕ) (t : Table) (n left : ℕ) → (due ≡ Due.Skip → ⊥) → Aimed (due_to due i) t n left → InUse t i
due_use Due.Skip i t n left f a = absurd (f refl)
due_use Due.Params i t n left f a = a.slot
due_use Due.Stdin i t n left f a = a
due_use Due.Data i t n left f a = a

-- Content is due to a slot only while its request is not spent.
abbrev pub DueLive : State → ℕ → Type 0
DueLive st i =
    (due : Due) → InUse st.conn.table i → st.conn.frame.target ≡ due_to due i → 0 < st.conn.frame.position.content → (due ≡ Due.Skip → ⊥)
    → is_spent (request_at st.conn.table i).state.life ≡ false

-- Where R is spent, and content is due to it only if it were not, a step tells nothing of R.
pub spent_step : (st : State) (store piece : List ℕ) (R i : ℕ) → 0 < R → find st.conn.table R ≡ Some i → is_spent (request_at st.conn.table i).state.life ≡ true → DueLive st i
    → event_id (stepped st store piece).event ≡ R → ⊥
unfolding closes on_active of_request request_at
spent_step st store piece R i r found spent live = by_way (λ (s : Stepped). event_id s.event ≡ R → ⊥) st store piece (λ n e. omega arith) go
  where
    same_slot : (j : ℕ) → find st.conn.table R ≡ Some j → j ≡ i
    same_slot j e = cc (e, found)

    active : find st.conn.table R ≡ None → ⊥
    active e = let z : ◌≡◌ {A = ℕ} 0 1 = cc (e, found) in omega arith

    due : Fits st.conn store → (d : Due) (j : ℕ) → (d ≡ Due.Skip → ⊥) → st.conn.frame.target ≡ due_to d j → 0 < st.conn.frame.position.content → (request_at st.conn.table j).id ≡ R → ⊥
    due fits d j skip aim some e =
        let s = shaped st.conn fits.shape in
        let u = due_use d j st.conn.table _ _ skip (subst (λ w. Aimed w st.conn.table st.conn.frame.gathered st.conn.frame.position.content) aim s.target) in
        let f = only_slot st.conn.table s.table.distinct R j (record { low = u.low; slot_taken = u.slot_taken; has_id = e }) in
        let k = same_slot j f in
        let l = live d (subst (λ w. InUse st.conn.table w) k u) (aim ∙ ap (due_to d) k) some skip in
        let z : ◌≡◌ {A = ℕ} 0 1 = cc (l, spent) in
        omega arith

    go : Fits st.conn store → (used : ℕ) (l : Left) → Way st store (concerned st piece) l → event_id l.event ≡ R → ⊥
    go fits used _ (Way.Reads g f e q) d = active (nameless_inactive st.conn.table e R r q d)
    go fits used _ (Way.Closes g n c) d = omega arith
    go fits used _ (Way.Rules h j k e) d =
        let own = rule_names h.kind h.content (held_at st.conn.table store j) R r d in
        let same : h.id ≡ R = sym (find_at st.conn.table h.id j e).has_id ∙ own in
        let at_i = same_slot j (rw same at e) in
        let only-frame = spent_rule h.kind h.content (held_at st.conn.table store j) (rw at_i spent) in
        let y : event_id Event.None ≡ R = ap event_id (sym only-frame) ∙ d in
        omega arith
    go fits used _ (Way.Feeds Due.Skip j bytes p k low aim some) d = omega arith
    go fits used _ (Way.Feeds Due.Params j bytes p k low aim some) d = omega arith
    go fits used _ (Way.Feeds Due.Stdin j bytes p k low aim some) d = due fits Due.Stdin j (λ x. let z : ◌≡◌ {A = ℕ} 0 1 = cc in omega arith) aim some d
    go fits used _ (Way.Feeds Due.Data j bytes p k low aim some) d = due fits Due.Data j (λ x. let z : ◌≡◌ {A = ℕ} 0 1 = cc in omega arith) aim some d
    go fits used _ (Way.Takes id role keep f k low idle) d = active (subst (λ w. find st.conn.table w ≡ None) d idle)

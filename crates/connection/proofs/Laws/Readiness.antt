-- A step that tells that a request is ready tells the length of its list.
use Rattle.std.specs.Prelude.{◌≡◌, ℕ, List, Some}
use Rattle.std.proofs.Common.{sym, ◌∙◌, subst, arith}
use Rattle.connection.specs.declared.request.Due.{Due}
use Rattle.connection.specs.Event.{Event}
use Rattle.connection.specs.Request.{Held, Ruled, faulted, aborted, turned, on_header}
use Rattle.connection.specs.Slots.{request_at, held_at, find}
use Rattle.connection.specs.Step.{State, Left, closes, on_active, of_request, Stepped, stepped}
use Rattle.connection.proofs.Laws.SlotsLaws.{find_at}
use Rattle.connection.proofs.Laws.Progress.{Fits}
use Rattle.connection.proofs.Laws.Ways.{Nameless, Way, concerned, by_way}
use Rattle.connection.proofs.Laws.Rules.{by_rule}

ready_rule : (kind m : ℕ) (h : Held) (id n : ℕ) → (on_header kind m h).event ≡ Event.Ready id n → (h.request.id ≡ id) × (h.request.length ≡ n)
unfolding faulted aborted turned
ready_rule kind m h id n =
    by_rule (λ (r : Ruled). r.event ≡ Event.Ready id n → (h.request.id ≡ id) × (h.request.length ≡ n)) h
    (λ d e. let z : ◌≡◌ {A = ℕ} 0 1 = cc in absurd (omega arith))
    (λ cause fault e. let z : ◌≡◌ {A = ℕ} 0 1 = cc in absurd (omega arith))
    (λ e. let z : ◌≡◌ {A = ℕ} 0 1 = cc in absurd (omega arith))
    (λ t e. (cc, cc))
    (λ t s m e. let z : ◌≡◌ {A = ℕ} 0 1 = cc in absurd (omega arith))
    kind m

-- The connection is open, and the id has a slot whose list has n bytes.
pub record ReadyWith (st : State) (store : List ℕ) (id n : ℕ) : Type 0 where
  pub fits : Fits st.conn store
  pub slot : ℕ
  pub found : find st.conn.table id ≡ Some slot
  pub length : (request_at st.conn.table slot).length ≡ n

-- Where a step tells that a request is ready, it tells the length of its list.
pub ready_with : (st : State) (store piece : List ℕ) (id n : ℕ) → (stepped st store piece).event ≡ Event.Ready id n → ReadyWith st store id n
unfolding closes of_request on_active request_at
ready_with st store piece id n =
    by_way (λ (s : Stepped). s.event ≡ Event.Ready id n → ReadyWith st store id n) st store piece (λ k e. let z : ◌≡◌ {A = ℕ} 0 1 = cc in absurd (omega arith)) go
  where
    go : Fits st.conn store → (used : ℕ) (l : Left) → Way st store (concerned st piece) l → l.event ≡ Event.Ready id n → ReadyWith st store id n
    go fits used _ (Way.Reads g f e q) d = absurd (subst (Nameless st.conn.table) d q)
    go fits used _ (Way.Closes g k c) d = let z : ◌≡◌ {A = ℕ} 0 1 = cc in absurd (omega arith)
    go fits used _ (Way.Rules h i k e) d =
        let t = st.conn.table in
        let r = ready_rule h.kind h.content (held_at t store i) id n d in
        let same : h.id ≡ id = sym (find_at t h.id i e).has_id ∙ r.0 in
        record { fits = fits; slot = i; found = rw same at e; length = r.1 }
    go fits used _ (Way.Feeds Due.Skip i bytes p k low aim some) d = let z : ◌≡◌ {A = ℕ} 0 1 = cc in absurd (omega arith)
    go fits used _ (Way.Feeds Due.Params i bytes p k low aim some) d = let z : ◌≡◌ {A = ℕ} 0 1 = cc in absurd (omega arith)
    go fits used _ (Way.Feeds Due.Stdin i bytes p k low aim some) d = let z : ◌≡◌ {A = ℕ} 0 1 = cc in absurd (omega arith)
    go fits used _ (Way.Feeds Due.Data i bytes p k low aim some) d = let z : ◌≡◌ {A = ℕ} 0 1 = cc in absurd (omega arith)
    go fits used _ (Way.Takes i role keep f k low idle) d = let z : ◌≡◌ {A = ℕ} 0 1 = cc in absurd (omega arith)

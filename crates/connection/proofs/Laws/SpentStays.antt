-- A step leaves a spent request in its slot, with its id and its life, unless it closes the connection.
use Rattle.connection.specs.Slots.{Slot}
use Rattle.std.specs.Prelude.{◌≡◌, refl, List, Bool, true, ℕ, ◌+◌, ◌≤◌, length, eqb, leb, Some, None}
use Rattle.std.proofs.Common.{ap, sym, ◌∙◌, subst, arith, eqb-true}
use Rattle.std.proofs.lemmas.Bool.{eqb-false}
use Rattle.wire.specs.Test.{by_test}
use Rattle.slot_word.proofs.WordLaws.{least_free}
use Rattle.connection.specs.declared.request.Request.{Request}
use Rattle.connection.specs.declared.request.Role.{Role}
use Rattle.connection.specs.declared.request.Due.{Due}
use Rattle.connection.specs.declared.state.Table.{Table}
use Rattle.connection.specs.Sizes.{SLOTS, AREA}
use Rattle.connection.specs.Request.{Held, is_spent, on_header, grown, on_content, opened}
use Rattle.connection.specs.Slots.{request_at, held_at, put_request, take_slot, free_slot_of, find}
use Rattle.connection.specs.Step.{State, Left, closes, on_active, of_request, Stepped, stepped}
use Rattle.connection.proofs.Laws.SlotsLaws.{Sized, Holds, Distinct, request_of_put, request_of_other, find_put, request_of_take, other_of_take, taken_of_take_other, find_at, find_nowhere}
use Rattle.connection.proofs.Laws.ShapeLaws.{shaped}
use Rattle.connection.proofs.Laws.TableShape.{length_of}
use Rattle.connection.proofs.Laws.RequestShape.{keeps_header}
use Rattle.connection.proofs.Laws.Progress.{Fits}
use Rattle.connection.proofs.Laws.Ways.{Way, concerned, by_way}

-- The id R is found in slot i as before, and the request there has the same life.
pub record SameLife (t : Table) (R i : ℕ) (u : Table) : Type 0 where
  pub found : find u R ≡ Some i
  pub life : (request_at u i).state.life ≡ (request_at t i).state.life

-- a request with the id and the life of another
pub record Like (r q : Request) : Type 0 where
  pub id : q.id ≡ r.id
  pub life : q.state.life ≡ r.state.life

-- A request put into slot j, with the id of the one that it held; and with its life, if it is R's slot.
pub put_same_life : (t : Table) (R i j : ℕ) (r : Request) → Sized t → find t R ≡ Some i → r.id ≡ (request_at t j).id → (j ≡ i → r.state.life ≡ (request_at t j).state.life)
    → SameLife t R i (put_request t j r)
put_same_life t R i j r sized found id life =
    record {
      found = find_put t j r R id ∙ found;
      life = by_test (eqb i j)
          (λ e.
          let q : i ≡ j = eqb-true i j e in
          subst (λ k. (request_at (put_request t k r) i).state.life ≡ (request_at t i).state.life) q
          (ap (λ (x : Request). x.state.life) (request_of_put t i r sized (find_at t R i found).low) ∙ life (sym q) ∙ ap (λ k. (request_at t k).state.life) (sym q)))
          (λ e. ap (λ (x : Request). x.state.life) (request_of_other t j i r (eqb-false i j e)));
    }

-- a header of a spent request changes nothing of it
spent_header : (kind n : ℕ) (h : Held) → is_spent h.request.state.life ≡ true → (on_header kind n h).held.request.state.life ≡ h.request.state.life
unfolding on_header
spent_header kind n h e = simp e

-- content changes no id and no life
content_like : (due : Due) (bytes : List ℕ) (h : Held) → Like h.request (on_content due bytes h).held.request
unfolding grown
content_like Due.Skip bytes h = record { id = refl; life = refl }
content_like Due.Params bytes h =
    by_test (leb (h.request.length + length bytes) AREA) (λ e. simp e (record { id = refl; life = refl })) (λ e. simp e (record { id = refl; life = refl }))
content_like Due.Stdin bytes h = record { id = refl; life = refl }
content_like Due.Data bytes h = record { id = refl; life = refl }

-- a request opens with its id
opened_id : (id : ℕ) (role : Role) (keep : Bool) → id ≡ (opened id role keep).id
unfolding opened
opened_id id role keep = refl

-- an id is found where it was after another's slot is taken
find_take : (t : Table) (R i k : ℕ) (r : Request) → Sized t → Distinct t → find t R ≡ Some i → find t r.id ≡ None → (i ≡ k → ⊥) → find (take_slot t k r) R ≡ Some i
unfolding request_at
find_take t R i k r sized distinct found idle other = go (find (take_slot t k r) R) refl
  where
    own : Holds t R i
    own = find_at t R i found

    stays_held : Holds (take_slot t k r) R i
    stays_held =
        record {
          low = own.low;
          slot_taken = taken_of_take_other t k i r other ∙ own.slot_taken;
          has_id = ap (λ (x : Request). x.id) (other_of_take t k i r other) ∙ own.has_id;
        }

    go : (s : Slot) → find (take_slot t k r) R ≡ s → s ≡ Some i
    go None e = absurd (find_nowhere (take_slot t k r) R e i stays_held)
    go (Some j) e =
        let h = find_at (take_slot t k r) R j e in
        by_test (eqb j k)
        (λ q.
        let at : j ≡ k = eqb-true j k q in
        let id : r.id ≡ R = ap (λ (x : Request). x.id) (sym (request_of_take t k r sized (rw at at h.low))) ∙ subst (λ n. (request_at (take_slot t k r) n).id ≡ R) at h.has_id in
        let z : ◌≡◌ {A = ℕ} 0 1 = cc (idle, ap (λ n. find t n) id, found) in
        absurd (omega arith))
        (λ q.
        let ne = eqb-false j k q in
        ap (λ (n : ℕ). Some n)
        (distinct R j i
        (record {
          low = h.low;
          slot_taken = sym (taken_of_take_other t k j r ne) ∙ h.slot_taken;
          has_id = ap (λ (x : Request). x.id) (sym (other_of_take t k j r ne)) ∙ h.has_id;
        }) own))

-- A spent request, and a step that leaves the connection open: it is found in its slot as before, with its id and its
-- life.
pub spent_stays : (st : State) (store piece : List ℕ) (R i : ℕ) → Sized st.conn.table → find st.conn.table R ≡ Some i
    → is_spent (request_at st.conn.table i).state.life ≡ true → (stepped st store piece).state.conn.«open» ≡ true → SameLife st.conn.table R i (stepped st store piece).state.conn.table
unfolding closes on_active of_request
spent_stays st store piece R i sized found spent =
    by_way (λ (s : Stepped). s.state.conn.«open» ≡ true → SameLife st.conn.table R i s.state.conn.table) st store piece (λ n o. same) go
  where
    t : Table
    t = st.conn.table

    same : SameLife t R i t
    same = record { found = found; life = refl }

    go : Fits st.conn store → (used : ℕ) (l : Left) → Way st store (concerned st piece) l → l.conn.«open» ≡ true → SameLife t R i l.conn.table
    go fits used _ (Way.Reads g f e q) o = same
    go fits used _ (Way.Closes g n c) o = let z : ◌≡◌ {A = ℕ} 0 1 = cc in absurd (omega arith)
    go fits used _ (Way.Rules h j k e) o =
        let held = held_at t store j in
        let short : (request_at t j).length ≤ AREA = omega (arith, length_of t j, (shaped st.conn fits.shape).table.lengths j (find_at t h.id j e).low) in
        put_same_life t R i j (on_header h.kind h.content held).held.request sized found (keeps_header h.content held short h.kind).id
        (λ q. spent_header h.kind h.content held (subst (λ n. is_spent (request_at t n).state.life ≡ true) (sym q) spent))
    go fits used _ (Way.Feeds due j bytes p k low aim some) o =
        let w = content_like due bytes (held_at t store j) in
        put_same_life t R i j _ sized found w.id (λ q. w.life)
    go fits used _ (Way.Takes id role keep f k low idle) o =
        let r = opened id role keep in
        let own = find_at t R i found in
        let other : i ≡ free_slot_of t → ⊥ = λ q. let z : ◌≡◌ {A = ℕ} 0 1 = cc (least_free SLOTS t.occupied low, own.slot_taken) in omega arith in
        record {
          found = find_take t R i (free_slot_of t) r sized (shaped st.conn fits.shape).table.distinct found (subst (λ n. find t n ≡ None) (opened_id id role keep) idle) other;
          life = ap (λ (x : Request). x.state.life) (other_of_take t (free_slot_of t) i r other);
        }

-- One record, whole or cut: what the plain receiver says of it is what it means.
use Rattle.std.specs.Prelude.{ℕ, zero, suc, ◌+◌, ◌-◌, ◌%◌, ◌≤◌, ◌<◌, ◌≡◌, true, take, drop, set, ltb, if◌then◌else◌}
use Rattle.std.proofs.Math.Path.{refl, sym, ap, subst}
use Rattle.std.proofs.Common.{◌∙◌, take_at}
use Rattle.std.proofs.Math.Bool.{false}
use mathlib.Core.List.{List, [], ◌∷◌, ◌++◌, append-nil}
use Rattle.std.proofs.Math.Option.{none}
use native.Mathlib.Omega.{arith}
use Rattle.std.proofs.Math.ListN.{length, get_or}
use Rattle.std.proofs.Math.Dec.{eqb}
use borrow.Author.Tests.{ltb-true, ltb-false, eqb-true, eqb-false, eq-eqb, ne_eqb, lt-leb}
use Rattle.wire.specs.Test.{by_test, ◌=?◌}
use Rattle.wire.specs.Buffer.{copied}
use Rattle.wire.proofs.BufferLaws.{copied_room}
use Rattle.record.specs.Body.{begin_body_of}
use Rattle.record.specs.declared.header.Header.{Header}
use Rattle.pair_list.specs.List.{well_formed, broken_at}
use Rattle.machine.specs.Cause.{Cause, Plain, At}
use Rattle.connection.specs.declared.request.Role.{Role}
use Rattle.connection.specs.declared.request.Due.{Due}
use Rattle.connection.specs.declared.state.Table.{Table}
use Rattle.connection.specs.declared.state.Target.{Target}
use Rattle.connection.specs.declared.state.Frame.{Frame}
use Rattle.connection.specs.Sizes.{SLOTS, QUERY}
use Rattle.connection.specs.Event.{Event}
use Rattle.connection.specs.Codes.{role_number}
use Rattle.connection.specs.Request.{Held, Ruled, on_header, opened, is_spent, ruled}
use Rattle.connection.specs.Slots.{request_at, area_at, held_at, put_request, put_area}
use Rattle.connection.specs.Step as S
use Rattle.connection.specs.Step.{State, no_body, frame_after, judged}
use Rattle.connection.specs.Bytewise.{Note, Told, notes, Run}
use Rattle.connection.proofs.Laws.SlotsLaws.{put_same, area_put_same}
use Rattle.connection.proofs.Laws.StepSizes.{copied_length}
use Rattle.meaning.specs.Meaning.{to_come, content_means, with_padding, header_means}
use Rattle.meaning.proofs.Outcomes.{goes_with}
use Rattle.plain.specs.Plain as P
use Rattle.plain.specs.Plain.{Request as PlainRequest, Change, Said, nobody, place_of}
use Rattle.plain_agrees.specs.Agreement.{close_in}
use Rattle.plain_agrees.proofs.Requests.{SameRequests, find_place, free_place, same_put, same_open}
use Rattle.plain_agrees.proofs.Rules.{held_after, notes_after, SameChange, lives}
use Rattle.plain_agrees.proofs.Content.{after, EndsWith, reader, told_then, none_run, any_run, skip_run, active_run}

-- ---- what the plain receiver says of a record, beside the run that the record means
-- It goes on: these events are told, these are the requests, and so much of content and padding is yet to come.
pub record GoesOn (es : List Note) (rs : List PlainRequest) (c p : ℕ) (r : Run) : Type 0 where
  pub told : r.notes ≡ es
  pub no_close : close_in es ≡ none
  pub is_open : r.state.conn.«open» ≡ true
  pub position : r.state.conn.frame.position ≡ to_come c p
  pub gathered : length r.state.gathered ≡ QUERY
  pub requests : SameRequests rs r.state.conn.table r.store

-- It closes: that is all that is told.
pub record ClosesBy (cause : Cause) (r : Run) : Type 0 where
  pub told : r.notes ≡ Told (Event.Closed cause) ∷ []
  pub is_closed : r.state.conn.«open» ≡ false

abbrev pub Means : Said → ℕ → ℕ → Run → Type 0
Means (Said.Goes es rs) c p r = GoesOn es rs c p r
Means (Said.Closes cause) c p r = ClosesBy cause r

goes_on_lem : (t : Table) (g s : List ℕ) (l : List Note) (c p : ℕ) (r : Run) (es : List Note) (rs : List PlainRequest)
    → EndsWith t g s l c p r → l ≡ es → close_in es ≡ none → length g ≡ QUERY → SameRequests rs t s → GoesOn es rs c p r
goes_on_lem t g s l c p r es rs d n o q a =
    record {
      told = d.told ∙ n;
      no_close = o;
      is_open = d.is_open;
      position = d.position;
      gathered = ap length d.gathered ∙ q;
      requests = rw (d.table, d.store) a;
    }

-- ---- roles
role_known : (n : ℕ) (role : Role) → n ≡ role_number role → P.is_role n ≡ true
role_known n Role.Responder e = rw e refl
role_known n Role.Authorizer e = rw e refl
role_known n Role.Filter e = rw e refl

role_unknown : (n : ℕ) → (n ≡ 1 → ⊥) → (n ≡ 2 → ⊥) → (n ≡ 3 → ⊥) → P.is_role n ≡ false
role_unknown zero a b c = refl
role_unknown (suc zero) a b c = absurd (a refl)
role_unknown (suc (suc zero)) a b c = absurd (b refl)
role_unknown (suc (suc (suc zero))) a b c = absurd (c refl)
role_unknown (suc (suc (suc (suc n)))) a b c =
    let y = ne_eqb (suc (suc (suc (suc n)))) 0 (λ z. omega arith) in
    let m = lt-leb (suc (suc (suc (suc n)))) 3 (omega arith) in
    simp (y, m)

-- ---- small facts
spent_skips : (kind n : ℕ) (h : Held) → is_spent h.request.state.life ≡ true
    → on_header kind n h ≡ ruled h Due.Skip Event.None
unfolding on_header
spent_skips kind n h e = simp e

nil_of : (x : List ℕ) → length x ≡ 0 → x ≡ []
nil_of [] e = refl
nil_of (b ∷ x) e = absurd (omega arith)

-- a query says the same, and no close
query_told : (x y : List ℕ) → notes (S.query_of x) y ≡ Told (P.query x) ∷ []
unfolding S.query_of S.names P.query
query_told x y = refl

query_no_close : (x : List ℕ) → close_in (Told (P.query x) ∷ []) ≡ none
unfolding P.query close_in
query_no_close x = refl

-- what is gathered is the content
gathered_all : (g x : List ℕ) → length x ≤ length g → take (0 + length x) (copied g 0 x) ≡ x
gathered_all g x l =
    let z : 0 + length x ≡ length x = omega arith in
    ap (take (0 + length x)) (copied_room g 0 x (omega arith))
    ∙ take_at x (drop (0 + length x) g) (0 + length x) (sym z)

body_all : (x : List ℕ) → length x ≡ 8 → copied no_body 0 x ≡ x
body_all x l = copied_room no_body 0 x (omega arith) ∙ ap (λ n. x ++ drop (0 + n) no_body) l ∙ append-nil x

-- ---- a record
module _ (st : State) (store : List ℕ) (rs : List PlainRequest) (h : Header) (x : List ℕ) (c p : ℕ)
    (a : SameRequests rs st.conn.table store) (q : length st.gathered ≡ QUERY) (room : length x ≤ h.content)
    (left : c ≡ h.content - length x) where
  abbrev t : Table
  t = st.conn.table

  abbrev g : List ℕ
  g = st.gathered

  abbrev h' : Header
  h' = with_padding h p

  -- the header tells this, and its content is skipped
  skipping : (e : Event) (es : List Note) → notes e [] ≡ es → close_in es ≡ none
      → Means (Said.Goes es rs) c p (after c p x (S.reads st store (frame_after h' Target.Skip) e))
  skipping e es n o = goes_on_lem t g store (notes e []) c p _ es rs (skip_run t g store h' e c p refl x left) n o q a

  closing : (cause : Cause) → Means (Said.Closes cause) c p (after c p x (S.closes st store cause))
  unfolding S.closes content_means
  closing cause = record { told = refl; is_closed = refl }

  -- ---- rules 5 to 10
  spent : (i : ℕ) → is_spent (held_at t store i).request.state.life ≡ true
      → GoesOn [] rs c p (after c p x (S.rules st store h' i (on_header h.kind h.content (held_at t store i))))
  unfolding close_in
  spent i e =
      let t' = put_request t i (request_at t i) in
      let store' = put_area store i (area_at store i) in
      subst (λ (l : Ruled). GoesOn [] rs c p (after c p x (S.rules st store h' i l)))
      (sym (spent_skips h.kind h.content (held_at t store i) e))
      (goes_on_lem t' g store' [] c p _ [] rs (skip_run t' g store' h' Event.None c p refl x left) refl refl q
      (rw (put_same t i, area_put_same store i) a))

  live : (i : ℕ) (change : Change) (l : Ruled) → i < length rs → SameChange change l x
      → GoesOn change.events (set rs i change.request) c p (after c p x (S.rules st store h' i l))
  live i change l low m =
      let slot : i < SLOTS = omega (arith, a.few) in
      goes_on_lem _ g _ (notes_after l x) c p _ _ _
      (active_run t g store h' i l.held l.event c p refl a.sized a.full slot l.due x room left
      m.request.area)
      m.told m.no_close q (same_put rs t store i change.request (held_after l x) a low m.request)

  active : (i : ℕ) → i < length rs
      → Means (P.on_active rs i h.kind h.content x) c p (after c p x (S.on_active st store h' i))
  unfolding P.on_active S.on_active
  active i low =
      let r = get_or rs i nobody in
      let same = a.each i low in
      by_test r.spent (λ e. simp e (spent i (same.spent ∙ e)))
      (λ e. simp e (live i _ _ low (lives r (held_at t store i) same e h.kind h.content x room)))

  -- ---- rule 4 and a BEGIN body
  abbrev opener : State
  opener = reader t g h' (Target.Begin h.id)

  -- an event that changes no request
  reads_on_lem : (f : Frame) → f.position ≡ to_come c p → (e : Event) (es : List Note) (y : List ℕ) → notes e y ≡ es
      → close_in es ≡ none → GoesOn es rs c p (told_then [] (S.reads opener store f e) y)
  reads_on_lem f at e es y n o =
      record { told = n; no_close = o; is_open = refl; position = at; gathered = q; requests = a }

  opens_role : (f : Frame) → f.position ≡ to_come c p → (y : List ℕ) (role : Role) → P.two x 0 ≡ role_number role
      → Means (P.opening rs h.id x) c p (told_then [] (S.opens opener store h.id (begin_body_of x) role f) y)
  unfolding P.opening S.opens begin_body_of opened close_in
  opens_role f at y role k =
      let known = role_known (P.two x 0) role k in
      let place = free_place rs t store a in
      by_test (ltb (length rs) SLOTS)
      (λ e. simp (known, place, e)
      (record {
        told = ap (λ n. Told (Event.Open h.id n (get_or x 2 0 % 2 =? 1)) ∷ []) (sym k);
        no_close = refl;
        is_open = refl;
        position = at;
        gathered = q;
        requests =
            same_open rs t store (P.opened h.id (P.two x 0)) (opened h.id role (begin_body_of x).keep) a
            (ltb-true (length rs) SLOTS e)
            (λ area long.
            record {
              id = refl;
              role = sym k;
              turn = refl;
              spent = refl;
              list = refl;
              long = refl;
              area = long;
              shown = (refl, refl);
            });
      }))
      (λ e. simp (known, place, e)
      (reads_on_lem f at (Event.Refuse h.id 2) (Told (Event.Refuse h.id 2) ∷ []) y refl refl))

  refuses : (f : Frame) → f.position ≡ to_come c p → (y : List ℕ) → P.is_role (P.two x 0) ≡ false
      → Means (P.opening rs h.id x) c p (told_then [] (S.reads opener store f (Event.Refuse h.id 3)) y)
  unfolding P.opening close_in
  refuses f at y e = simp e (reads_on_lem f at (Event.Refuse h.id 3) (Told (Event.Refuse h.id 3) ∷ []) y refl refl)

  begins : (f : Frame) → f.position ≡ to_come c p → (y : List ℕ)
      → Means (P.opening rs h.id x) c p (told_then [] (S.begun opener store h.id (begin_body_of x) f) y)
  unfolding S.begun begin_body_of
  begins f at y =
      let n = P.two x 0 in
      by_test (eqb n 1) (λ e. simp e (opens_role f at y Role.Responder (eqb-true n 1 e)))
      (λ e.
      by_test (eqb n 2) (λ e2. simp (e, e2) (opens_role f at y Role.Authorizer (eqb-true n 2 e2)))
      (λ e2.
      by_test (eqb n 3) (λ e3. simp (e, e2, e3) (opens_role f at y Role.Filter (eqb-true n 3 e3)))
      (λ e3. simp (e, e2, e3)
      (refuses f at y (role_unknown n (eqb-false n 1 e) (eqb-false n 2 e2) (eqb-false n 3 e3))))))

  -- nothing of the content is there
  nothing : (target : Target) → length x ≡ 0
      → GoesOn [] rs c p (after c p x (goes_with t (frame_after h' target) g store Event.None))
  unfolding close_in
  nothing target z =
      let n = nil_of x z in
      let e : c ≡ h.content - 0 = left ∙ ap (λ (u : List ℕ). h.content - length u) n in
      rw n (goes_on_lem t g store [] c p _ [] rs (none_run t g store h' Event.None c p refl target e) refl refl q a)

  begin_body_lem : h.content ≡ 8
      → Means (if length x =? 8 then P.opening rs h.id x else P.silent rs) c p
      (after c p x (goes_with t (frame_after h' (Target.Begin h.id)) g store Event.None))
  unfolding S.of_begin close_in
  begin_body_lem eight =
      by_test (eqb (length x) 8)
      (λ e.
      let l = eqb-true (length x) 8 e in
      let z : c ≡ 0 = omega arith in
      rw (any_run t g store h' Event.None c p refl (Target.Begin h.id) x (omega arith) room)
      (simp (e, eq-eqb c 0 z, body_all x l)
      (begins (record { position = to_come c p; target = Target.Skip; gathered = 0; body = no_body }) refl x)))
      (λ e.
      by_test (eqb (length x) 0) (λ z. simp e (nothing (Target.Begin h.id) (eqb-true (length x) 0 z)))
      (λ z.
      let some : 0 < length x = omega (arith, eqb-false (length x) 0 z) in
      let more : eqb c 0 ≡ false = ne_eqb c 0 (λ w. eqb-false (length x) 8 e (omega arith)) in
      rw (any_run t g store h' Event.None c p refl (Target.Begin h.id) x some room)
      (simp (e, more)
      (record { told = refl; no_close = refl; is_open = refl; position = refl; gathered = q; requests = a }))))

  inactive : Means (P.on_inactive rs h.id h.kind h.content x) c p (after c p x (S.on_inactive st store h'))
  unfolding P.on_inactive S.on_inactive close_in
  inactive =
      by_test (eqb h.kind P.BEGIN)
      (λ e.
      by_test (eqb h.content 8)
      (λ f. simp (e, f) (begin_body_lem (eqb-true h.content 8 f)))
      (λ f. simp (e, f) (closing (Plain 12))))
      (λ e. simp e (skipping Event.None [] refl refl))

  -- ---- rules 2 and 3
  -- what is said of a query's content that is all there
  abbrev answered : Said
  answered = if well_formed x then Said.Goes (Told (P.query x) ∷ []) rs else Said.Closes (At 14 (broken_at x))

  query_whole_lem : h.content ≤ QUERY → 0 < length x → length x ≡ h.content
      → Means answered c p (after c p x (goes_with t (frame_after h' Target.Query) g store Event.None))
  unfolding S.of_query S.queried S.closes
  query_whole_lem l some e =
      let z : c ≡ 0 = omega arith in
      let all = gathered_all g x (omega (arith, q)) in
      rw (any_run t g store h' Event.None c p refl Target.Query x some room)
      (by_test (well_formed x)
      (λ w. simp (eq-eqb c 0 z, all, w)
      (record {
        told = query_told x x;
        no_close = query_no_close x;
        is_open = refl;
        position = refl;
        gathered = copied_length g 0 x ∙ q;
        requests = a;
      }))
      (λ w. simp (eq-eqb c 0 z, all, w) (record { told = refl; is_closed = refl })))

  query_cut : h.content ≤ QUERY → 0 < length x → length x < h.content
      → GoesOn [] rs c p (after c p x (goes_with t (frame_after h' Target.Query) g store Event.None))
  unfolding S.of_query close_in
  query_cut l some less =
      let more : eqb c 0 ≡ false = ne_eqb c 0 (λ w. omega arith) in
      rw (any_run t g store h' Event.None c p refl Target.Query x some room)
      (simp more
      (record {
        told = refl;
        no_close = refl;
        is_open = refl;
        position = refl;
        gathered = copied_length g 0 x ∙ q;
        requests = a;
      }))

  abbrev closed : Run
  closed = after c p x (S.closes st store (At 14 (broken_at [])))

  query_none : x ≡ [] → Means answered c p (after c p x (S.queried st store [] (frame_after h' Target.Skip)))
  unfolding S.queried
  query_none e =
      by_test (well_formed [])
      (λ w.
      let w' = ap well_formed e ∙ w in
      simp (w, w')
      (skipping (S.query_of []) (Told (P.query x) ∷ [])
      (query_told [] [] ∙ ap (λ (u : List ℕ). Told (P.query u) ∷ []) (sym e)) (query_no_close x)))
      (λ w.
      let w' = ap well_formed e ∙ w in
      let k = closing (At 14 (broken_at [])) in
      simp (w, w') (subst (λ (u : List ℕ). ClosesBy (At 14 (broken_at u)) closed) (sym e) k))

  query : Means (P.on_query rs h.content x) c p
      (after c p x
      (if ltb QUERY h.content then S.closes st store (Plain 13)
      else if eqb h.content 0 then S.queried st store [] (frame_after h' Target.Skip)
      else S.reads st store (frame_after h' Target.Query) Event.None))
  unfolding P.on_query
  query =
      by_test (ltb QUERY h.content) (λ f. simp f (closing (Plain 13)))
      (λ f.
      let l = ltb-false QUERY h.content f in
      by_test (ltb (length x) h.content)
      (λ w.
      let less = ltb-true (length x) h.content w in
      let z = ne_eqb h.content 0 (λ e. omega arith) in
      by_test (eqb (length x) 0)
      (λ v. simp (f, w, z) (simp z at (nothing Target.Query (eqb-true (length x) 0 v))))
      (λ v. simp (f, w, z) (simp z at (query_cut l (omega (arith, eqb-false (length x) 0 v)) less))))
      (λ w.
      let more = ltb-false (length x) h.content w in
      by_test (eqb h.content 0)
      (λ z. simp (f, w, z) (simp z at (query_none (nil_of x (omega (arith, eqb-true h.content 0 z))))))
      (λ z. simp (f, w, z) (simp z at (query_whole_lem l (omega (arith, eqb-false h.content 0 z)) (omega arith))))))

  management : Means (P.on_management rs h.kind h.content x) c p (after c p x (S.on_management st store h'))
  unfolding P.on_management S.on_management close_in
  management =
      by_test (eqb h.kind P.GET_VALUES) (λ e. simp e query)
      (λ e. simp e (skipping (Event.Unknown h.kind) (Told (Event.Unknown h.kind) ∷ []) refl refl))

  -- ---- all rules
  pub record_means_lem : Means (P.says rs h.version h.kind h.id h.content x) c p (header_means st store h x c p)
  unfolding P.says judged header_means
  record_means_lem =
      by_test (eqb h.version 1)
      (λ e.
      by_test (eqb h.id 0) (λ f. simp (e, f) management)
      (λ f.
      let found = find_place rs t store h.id a in
      by_test (ltb (place_of rs h.id) (length rs))
      (λ k. simp (e, f, k, found) (active (place_of rs h.id) (ltb-true (place_of rs h.id) (length rs) k)))
      (λ k. simp (e, f, k, found) inactive)))
      (λ e. simp e (closing (Plain 11)))

-- Reading does not rest on what was opened or written meanwhile: two states of the server's end, the second with the
-- requests of the first, whatever their turns, and perhaps more, read the same bytes alike, as long as the first stays
-- open.
use Rattle.connection.specs.Slots.{Slot}
use Rattle.std.specs.Prelude.{ℕ, ◌+◌, ◌<◌, Bool, false, take, ltb, eqb, if◌then◌else◌, Some, None}
use Rattle.std.proofs.Math.Path.{◌≡◌, refl, ap, subst}
use Rattle.std.proofs.Common.{sym, ◌∙◌, arith, eqb-true}
use Rattle.std.proofs.Math.Bool.{true}
use mathlib.Core.List.{List, [], ◌∷◌, ◌++◌}
use Rattle.std.proofs.Math.ListN.{length}
use Rattle.std.proofs.lemmas.Bool.{eqb-false}
use Rattle.wire.specs.Test.{by_test}
use Rattle.wire.specs.Buffer.{copied}
use Rattle.slot_word.specs.Word.{taken}
use Rattle.record.specs.declared.header.Header.{Header}
use Rattle.record_reader.specs.declared.Position.{Position}
use Rattle.record_reader.specs.declared.Phase.{Phase}
use Rattle.record_reader.specs.Position.{advanced}
use Rattle.pair_list.specs.List.{well_formed}
use Rattle.connection.specs.declared.answer.Output.{Output}
use Rattle.connection.specs.declared.request.Request.{Request}
use Rattle.connection.specs.declared.state.Table.{Table}
use Rattle.connection.specs.Sizes.{SLOTS, QUERY}
use Rattle.connection.specs.RequestCalls.{is_ended, ended_on}
use Rattle.connection.specs.Slots.{request_at, put_request, free_slot, find, on_slot}
use Rattle.connection.proofs.Laws.SlotsLaws.{Sized, Holds, find_at, put_occupied, put_ids, request_of_put, request_of_other, other_of_free, taken_of_free_other, taken_of_free, only_slot}
use Rattle.connection.specs.Fits.{InUse}
use Rattle.connection.proofs.Runs.CallShape.{free_holds}
use Rattle.record_rules.specs.Rules.{reader_at, Run, and_then, step, by_byte, on_phase as onPhaseOf}
use Rattle.record_rules.proofs.Laws.{Fit, fit_byte, step_advanced, open_before}
use Rattle.server.specs.declared.state.Target.{Target}
use Rattle.server.specs.Event.{Event}
use Rattle.server.specs.Step.{Inner, Left, told, closes, valued, on_management, on_output, output_of, on_request, is_management, is_reply, judged, on_target, of_values, taken as takenIn, rules}
use Rattle.server.proofs.Laws.{Waits, Ready, lawful}
use Rattle.server.proofs.Writing.{id_at}
use Rattle.replies_heard.proofs.Agree.{SameEnds, is_ended_lem, ended_id, ended_ends, holds_still}

-- the same state with another table
abbrev pub swap : Inner → Table → Inner
swap s t = record { table = t; target = s.target; gathered = s.gathered; body = s.body; «open» = s.«open»; values = s.values }

-- a slot that is free
abbrev pub free_in : Table → ℕ → Type 0
free_in t k = taken k t.occupied ≡ false

-- Two tables, at first w and u, by now t and t'. t has no request that w has not; t' has all the requests of t, in their
-- slots, with their ends. Slots that are free in w are free in t still, and are in t' as they are in u.
pub record Alike (w u t t' : Table) : Type 0 where
  pub from : (id i : ℕ) → Holds t id i → Holds w id i
  pub holds : (id i : ℕ) → Holds t id i → Holds t' id i
  pub ends : (i : ℕ) → InUse t i → SameEnds (request_at t i).state (request_at t' i).state
  pub free : (k : ℕ) → free_in w k → free_in t k
  pub kept : (k : ℕ) → free_in w k → (request_at t' k ≡ request_at u k) × (taken k t'.occupied ≡ taken k u.occupied)

module _ (w u : Table) where
  -- a slot in use is none of those
  not_free : (t t' : Table) → Alike w u t t' → (i k : ℕ) → InUse t i → free_in w k → k ≡ i → ⊥
  not_free t t' a i k busy f e =
      let z : ◌≡◌ {A = ℕ} 0 1 = cc (sym (a.free k f) ∙ ap (λ (n : ℕ). taken n t.occupied) e ∙ busy.slot_taken) in omega arith

  -- its id is the same in both
  same_id : (t t' : Table) → Alike w u t t' → (i : ℕ) → InUse t i → (request_at t i).id ≡ (request_at t' i).id
  same_id t t' a i busy =
      let h : Holds t (request_at t i).id i = record { low = busy.low; slot_taken = busy.slot_taken; has_id = id_at t i } in
      sym (a.holds (request_at t i).id i h).has_id ∙ id_at t' i

  in_use : (t t' : Table) → Alike w u t t' → (i : ℕ) → InUse t i → InUse t' i
  in_use t t' a i busy =
      let h : Holds t (request_at t i).id i = record { low = busy.low; slot_taken = busy.slot_taken; has_id = id_at t i } in
      let g = a.holds (request_at t i).id i h in
      record { low = g.low; slot_taken = g.slot_taken }

  -- ---- a stream ended in both
  pub put_holds : (t : Table) (i : ℕ) (r : Request) → r.id ≡ (request_at t i).id → (id k : ℕ) → (Holds (put_request t i r) id k → Holds t id k) × (Holds t id k → Holds (put_request t i r) id k)
  put_holds t i r e id k = (
    λ h. record { low = h.low; slot_taken = rw (put_occupied t i r) at h.slot_taken; has_id = rw (put_ids t i r e) at h.has_id },
    λ h. record { low = h.low; slot_taken = rw (put_occupied t i r) h.slot_taken; has_id = rw (put_ids t i r e) h.has_id },
  )

  alike_put : (t t' : Table) (i : ℕ) (r q : Request) → Sized t → Sized t' → InUse t i → r.id ≡ (request_at t i).id → q.id ≡ (request_at t' i).id → SameEnds r.state q.state
      → Alike w u t t' → Alike w u (put_request t i r) (put_request t' i q)
  alike_put t t' i r q st st' busy er eq ends a =
      record {
        from = λ id k h. a.from id k ((put_holds t i r er id k).0 h);
        holds = λ id k h. (put_holds t' i q eq id k).1 (a.holds id k ((put_holds t i r er id k).0 h));
        ends = λ k y.
            let w0 : InUse t k = record { low = y.low; slot_taken = rw (put_occupied t i r) at y.slot_taken } in
            by_test (eqb k i)
            (λ x.
            let is : k ≡ i = eqb-true k i x in
            let ra : request_at (put_request t i r) k ≡ r = ap (request_at (put_request t i r)) is ∙ request_of_put t i r st busy.low in
            let qa : request_at (put_request t' i q) k ≡ q = ap (request_at (put_request t' i q)) is ∙ request_of_put t' i q st' busy.low in
            rw (ra, qa) (record { out = ends.out; err = ends.err }))
            (λ x. rw (request_of_other t i k r (eqb-false k i x), request_of_other t' i k q (eqb-false k i x)) (a.ends k w0));
        free = λ k f. rw (put_occupied t i r) (a.free k f);
        kept = λ k f. (request_of_other t' i k q (not_free t t' a i k busy f) ∙ (a.kept k f).0, rw (put_occupied t' i q) (a.kept k f).1);
      }

  -- ---- a request given back in both
  alike_free : (t t' : Table) (i : ℕ) → InUse t i → Alike w u t t' → Alike w u (free_slot t i) (free_slot t' i)
  alike_free t t' i busy a =
      record {
        from = λ id k h. a.from id k (free_holds t i id k h).held;
        holds = λ id k h. let g = free_holds t i id k h in holds_still t' i id k g.other (a.holds id k g.held);
        ends = λ k y.
            let ne = free_other t i k y in
            let w0 : InUse t k = record { low = y.low; slot_taken = sym (taken_of_free_other t i k ne) ∙ y.slot_taken } in
            rw (other_of_free t i k ne, other_of_free t' i k ne) (a.ends k w0);
        free = λ k f. taken_of_free_other t i k (not_free t t' a i k busy f) ∙ a.free k f;
        kept = λ k f. (other_of_free t' i k (not_free t t' a i k busy f) ∙ (a.kept k f).0, taken_of_free_other t' i k (not_free t t' a i k busy f) ∙ (a.kept k f).1);
      }
    where
      free_other : (t : Table) (i k : ℕ) → InUse (free_slot t i) k → k ≡ i → ⊥
      free_other t i k w e =
          let low : i < SLOTS = subst (λ (n : ℕ). n < SLOTS) e w.low in
          let z : ◌≡◌ {A = ℕ} 0 1 = cc (sym (taken_of_free t i low) ∙ ap (λ (n : ℕ). taken n (free_slot t i).occupied) (sym e) ∙ w.slot_taken) in omega arith

  -- ---- what a rule leaves of both
  pub record Same (l l' : Left) : Type 0 where
    pub table : Table
    pub same : l' ≡ record { inner = swap l.inner table; event = l.event }
    pub alike : Alike w u l.inner.table table

  abbrev pub Follows : Left → Left → Type 0
  Follows l l' = l.inner.«open» ≡ true → Same l l'

  both : (b : Bool) (x y x' y' : Left) → (b ≡ true → Follows x x') → (b ≡ false → Follows y y') → Follows (if b then x else y) (if b then x' else y')
  both true x y x' y' p q = p refl
  both false x y x' y' p q = q refl

  shut : (s : Inner) (n : ℕ) (l : Left) → Follows (closes s n) l
  unfolding closes
  shut s n l o = let z : ◌≡◌ {A = ℕ} 0 1 = cc in absurd (omega arith)

  module _ (s : Inner) (t' : Table) (n : ℕ) (ready : Ready s n) (ready' : Ready (swap s t') n) (a : Alike w u s.table t') where
    abbrev s' : Inner
    s' = swap s t'

    -- nothing changes in the table
    still : (i : Inner) (e : Event) → i.table ≡ s.table → Follows (told i e) (told (swap i t') e)
    still i e same o = record { table = t'; same = refl; alike = subst (λ (k : Table). Alike w u k t') (sym same) a }

    follows_valued : (list : List ℕ) → Follows (valued s list) (valued s' list)
    unfolding valued
    follows_valued list = both (well_formed list) _ _ _ _ (λ w. still _ _ refl) (λ w. shut s 55 _)

    follows_management : (kind m : ℕ) → Follows (on_management s kind m) (on_management s' kind m)
    unfolding on_management
    follows_management kind m =
        both (eqb kind 11) _ _ _ _ (λ k. both (eqb m 8) _ _ _ _ (λ e. still _ _ refl) (λ e. shut s 54 _))
        (λ k. both (ltb QUERY m) _ _ _ _ (λ e. shut s 55 _) (λ e. both (eqb m 0) _ _ _ _ (λ z. follows_valued []) (λ z. still _ _ refl)))

    follows_output : (o : Output) (m i : ℕ) → InUse s.table i → Follows (on_output s o m i) (on_output s' o m i)
    unfolding on_output
    follows_output o m i w =
        let r = request_at s.table i in
        let q = request_at t' i in
        rw (sym (is_ended_lem o r.state q.state (a.ends i w)))
        (both (is_ended o r.state) _ _ _ _ (λ e. shut s 56 _)
        (λ e. both (eqb m 0) _ _ _ _
        (λ z y. record {
          table = put_request t' i (ended_on q o);
          same = rw (sym (same_id s.table t' a i w));
          alike = alike_put s.table t' i (ended_on r o) (ended_on q o) ready.sized ready'.sized w (ended_id r o) (ended_id q o) (ended_ends r q o (a.ends i w)) a;
        })
        (λ z. still _ _ refl)))

    follows_request : (kind m i : ℕ) → InUse s.table i → Follows (on_request s kind m i) (on_request s' kind m i)
    unfolding on_request
    follows_request kind m i w =
        both (eqb kind 3) _ _ _ _ (λ k. both (eqb m 8) _ _ _ _ (λ e. still _ _ refl) (λ e. shut s 54 _)) (λ k. follows_output (output_of kind) m i w)

    follows_slot : (kind m id : ℕ) (k : Slot) → find s.table id ≡ k → Follows (on_slot k (on_request s kind m) (closes s 53)) (on_slot (find t' id) (on_request s' kind m) (closes s' 53))
    follows_slot kind m id (Some i) e =
        let h = find_at s.table id i e in
        let there : find t' id ≡ Some i = only_slot t' ready'.tidy.distinct id i (a.holds id i h) in
        rw there (follows_request kind m i (record { low = h.low; slot_taken = h.slot_taken }))
    follows_slot kind m id None e = shut s 53 _

    pub follows_judged : (h : Header) → Follows (judged s h) (judged s' h)
    unfolding judged
    follows_judged h =
        both (eqb h.version 1) _ _ _ _
        (λ v. both (is_reply h.kind) _ _ _ _
        (λ r. both (is_management h.kind) _ _ _ _ (λ g. both (eqb h.id 0) _ _ _ _ (λ z. follows_management h.kind h.content) (λ z. shut s 53 _)) (λ g. follows_slot h.kind h.content h.id (find s.table h.id) refl))
        (λ r. shut s 52 _))
        (λ v. shut s 51 _)

    follows_target : (k : Target) (x : List ℕ) (left : ℕ) → Waits k s.table s.gathered n → Follows (on_target k s x left) (on_target k s' x left)
    unfolding valued of_values
    follows_target Target.Skip x left w = still _ _ refl
    follows_target (Target.Stdout i) x left w = rw (sym (same_id s.table t' a i w)) (still _ _ refl)
    follows_target (Target.Stderr i) x left w = rw (sym (same_id s.table t' a i w)) (still _ _ refl)
    follows_target (Target.End i) x left w =
        both (eqb left 0) _ _ _ _
        (λ z y. record {
          table = free_slot t' i;
          same = rw (sym (same_id s.table t' a i w.0));
          alike = alike_free s.table t' i w.0 a;
        })
        (λ z. still _ _ refl)
    follows_target Target.Unknown x left w = both (eqb left 0) _ _ _ _ (λ z. still _ _ refl) (λ z. still _ _ refl)
    follows_target Target.Values x left w =
        both (eqb left 0) _ _ _ _
        (λ z. both (well_formed (take (s.gathered + length x) (copied s.values s.gathered x))) _ _ _ _ (λ q. still _ _ refl) (λ q. shut _ 55 _))
        (λ z. still _ _ refl)

    pub follows_taken : (x : List ℕ) (left : ℕ) → Follows (takenIn s x left) (takenIn s' x left)
    unfolding takenIn
    follows_taken x left = follows_target s.target x left ready.target

  -- ---- readers
  -- both readers go alike, and tell the same
  pub record Along (r r' : Run rules) : Type 0 where
    pub table : Table
    pub same : r' ≡ record { reader = reader_at rules r.reader.position (swap r.reader.inner table); notes = r.notes }
    pub alike : Alike w u r.reader.inner.table table

  module _ (p : Position) (s : Inner) (t' : Table) (fit : Fit rules lawful (reader_at rules p s)) (fit' : Fit rules lawful (reader_at rules p (swap s t'))) (a : Alike w u s.table t') (o : s.«open» ≡ true) where
    along_phase : (f : Phase) (x : List ℕ) (q : Position) → (onPhaseOf rules f s x q).reader.inner.«open» ≡ true → Along (onPhaseOf rules f s x q) (onPhaseOf rules f (swap s t') x q)
    along_phase Phase.Content x q open1 =
        let k = follows_taken s t' p.content fit.ready fit'.ready a x q.content open1 in
        record { table = k.table; same = rw k.same; alike = k.alike }
    along_phase Phase.Padding x q open1 = record { table = t'; same = refl; alike = a }
    along_phase Phase.Part x q open1 = record { table = t'; same = refl; alike = a }
    along_phase (Phase.Whole h) x q open1 =
        let k = follows_judged s t' p.content fit.ready fit'.ready a h open1 in
        record { table = k.table; same = rw k.same; alike = k.alike }

    along_byte : (b : ℕ) → (step rules (reader_at rules p s) (b ∷ [])).reader.inner.«open» ≡ true → Along (step rules (reader_at rules p s) (b ∷ [])) (step rules (reader_at rules p (swap s t')) (b ∷ []))
    along_byte b open1 =
        let w = advanced p (b ∷ []) in
        let e = step_advanced rules lawful p s (b ∷ []) o (omega arith) in
        let e' = step_advanced rules lawful p (swap s t') (b ∷ []) o (omega arith) in
        let k = along_phase w.phase (take w.used (b ∷ [])) w.position (subst (λ (r : Run rules). r.reader.inner.«open» ≡ true) e open1) in
        rw (e, e') (record { table = k.table; same = k.same; alike = k.alike })

  -- All bytes, as long as the first reader is open behind them.
  pub along : (x : List ℕ) (p : Position) (s : Inner) (t' : Table) → Fit rules lawful (reader_at rules p s) → Fit rules lawful (reader_at rules p (swap s t')) → Alike w u s.table t'
      → (by_byte rules (reader_at rules p s) x).reader.inner.«open» ≡ true → Along (by_byte rules (reader_at rules p s) x) (by_byte rules (reader_at rules p (swap s t')) x)
  unfolding by_byte
  along [] p s t' fit fit' a o = record { table = t'; same = refl; alike = a }
  along (b ∷ x) p s t' fit fit' a o =
      let r = step rules (reader_at rules p s) (b ∷ []) in
      let r' = step rules (reader_at rules p (swap s t')) (b ∷ []) in
      let open1 : r.reader.inner.«open» ≡ true = open_before rules lawful x r.reader o in
      let open0 : s.«open» ≡ true = open_before rules lawful (b ∷ x) (reader_at rules p s) o in
      let k = along_byte p s t' fit fit' a open0 b open1 in
      let fit1 = fit_byte rules lawful (reader_at rules p s) b fit in
      let fit1' : Fit rules lawful (reader_at rules r.reader.position (swap r.reader.inner k.table)) =
      subst (λ (w : Run rules). Fit rules lawful w.reader) k.same (fit_byte rules lawful (reader_at rules p (swap s t')) b fit') in
      let rest = along x r.reader.position r.reader.inner k.table fit1 fit1' k.alike o in
      record {
        table = rest.table;
        same =
            ap (λ (w : Run rules). and_then rules w (λ c. by_byte rules c x)) k.same
            ∙ ap (λ (w : Run rules). record { reader = w.reader; notes = r.notes ++ w.notes }) rest.same;
        alike = rest.alike;
      }

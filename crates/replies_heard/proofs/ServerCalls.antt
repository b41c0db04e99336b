-- The calls of the server's end: its table changes, and what is on the wire is read all the same.
use Rattle.std.specs.Prelude.{ℕ, ◌≤◌, ◌<◌, ◌≡◌, refl, Bool, true, List, ◌∷◌, length, eqb, if◌then◌else◌}
use Rattle.std.proofs.Common.{sym, ap, ◌∙◌, subst, arith, eqb-true}
use Rattle.std.proofs.lemmas.Bool.{eqb-false}
use Rattle.wire.specs.Test.{◌=?◌, by_test}
use Rattle.slot_word.specs.Word.{taken}
use Rattle.slot_word.proofs.WordLaws.{least_free}
use Rattle.connection.specs.declared.request.RequestState.{RequestState}
use Rattle.connection.specs.declared.request.Request.{Request}
use Rattle.connection.specs.declared.state.Table.{Table}
use Rattle.connection.specs.Sizes.{SLOTS, AREA}
use Rattle.connection.specs.Request.{with_turn, with_life, with_state, opened}
use Rattle.connection.specs.Slots.{no_state, request_at, put_request, take_slot, free_slot_of}
use Rattle.connection.proofs.Laws.SlotsLaws.{Sized, Holds, find_at, find_nowhere, only_slot, request_of_put, request_of_other, request_of_take, other_of_take, taken_of_take, taken_of_take_other}
use Rattle.connection.proofs.Laws.TableShape.{length_of}
use Rattle.record_rules.specs.Rules.{reader_at, Run, by_byte}
use Rattle.record_rules.proofs.Laws.{fit_bytes}
use Rattle.server.specs.Event.{Note}
use Rattle.server.specs.Step.{State, state_of, inner_of, idle, rules}
use Rattle.server.specs.Calls.{Part, APair, Content, EndOf, Abort, role_of, begin_bytes, open_refusal, open_request, state_after, own_refusal, call_refusal, slot_of, writes_part, write_part, ask_refusal, ask_values}
use Rattle.server.proofs.Laws.{Ready, lawful}
use Rattle.server.proofs.Stepping.{Good, reader_of}
use Rattle.server.proofs.Writing.{with_table, good_put, good_take, id_at}
use Rattle.server.proofs.LetThrough.{LetOpen, let_open, let_give}
use Rattle.server.proofs.Meaning.{ends}
use Rattle.replies_heard.proofs.Agree.{SameEnds, ends_trans, ends_sym, OpenWith}
use Rattle.replies_heard.proofs.Alike.{swap, free_in, Alike, along, put_holds}
use Rattle.replies_heard.proofs.Behind.{Behind}

-- ---- another table at the server's end
-- The same wire is read by a server's end with another state: with that table then, in which what was open is open.
pub record Moved (wire : List ℕ) (left : List Note) (t : Table) (v : List ℕ) (server' : State) : Type 0 where
  pub table : Table
  pub behind : Behind server' wire left table v
  pub stays_open : (b : ℕ) (m : RequestState) → OpenWith t b m → OpenWith table b m

-- nothing changes
unmoved : (server : State) (wire : List ℕ) (left : List Note) (t : Table) (v : List ℕ) → Behind server wire left t v → Moved wire left t v server
unmoved server wire left t v i = record { table = t; behind = i; stays_open = λ b m o. o }

record Shifted (server : State) (wire : List ℕ) (left : List Note) (t : Table) (v : List ℕ) (t' : Table) : Type 0 where
  pub moved : Moved wire left t v (with_table server t')
  pub alike : Alike server.server.table t' t moved.table

table_moves : (server : State) (wire : List ℕ) (left : List Note) (t : Table) (v : List ℕ) → Behind server wire left t v → (t' : Table) → Good (with_table server t')
    → Alike server.server.table t' server.server.table t' → Shifted server wire left t v t'
table_moves server wire left t v i t' good a =
    let t0 = server.server.table in
    let p = server.server.frame.position in
    let open1 : (by_byte rules (reader_of server) wire).reader.inner.«open» ≡ true = ap (λ (r : Run rules). r.reader.inner.«open») i.reads_on_lem in
    let k = along t0 t' wire p (inner_of server) t' i.good.fit good.fit a open1 in
    let e : by_byte rules (reader_of (with_table server t')) wire ≡ ends k.table v left =
    k.same ∙ ap (λ (r : Run rules). record { reader = reader_at rules r.reader.position (swap r.reader.inner k.table); notes = r.notes }) i.reads_on_lem in
    let ready : Ready (idle k.table true v) 0 = subst (λ (r : Run rules). Ready r.reader.inner r.reader.position.content) e (fit_bytes rules lawful wire (reader_of (with_table server t')) good.fit).ready in
    let al : Alike t0 t' t k.table = subst (λ (r : Run rules). Alike t0 t' r.reader.inner.table k.table) i.reads_on_lem k.alike in
    record {
      moved = record {
        table = k.table;
        behind = record { good = good; bytes = i.bytes; reads_on_lem = e; ready = ready };
        stays_open = λ b m o.
            let h = find_at t b o.slot o.found in
            record {
              slot = o.slot;
              found = only_slot k.table ready.tidy.distinct b o.slot (al.holds b o.slot h);
              ends = ends_trans (request_at k.table o.slot).state (request_at t o.slot).state m
                  (ends_sym (request_at t o.slot).state (request_at k.table o.slot).state (al.ends o.slot (record { low = h.low; slot_taken = h.slot_taken }))) o.ends;
            };
      };
      alike = al;
    }

-- a request put back with its id and its ends
alike_changed : (t : Table) (i : ℕ) (r : Request) → Sized t → i < SLOTS → r.id ≡ (request_at t i).id → SameEnds (request_at t i).state r.state → Alike t (put_request t i r) t (put_request t i r)
alike_changed t i r sized low same ends =
    record {
      from = λ id k h. h;
      holds = λ id k h. (put_holds t (put_request t i r) t i r same id k).1 h;
      ends = λ k y.
          by_test (eqb k i)
          (λ x.
          let is : k ≡ i = eqb-true k i x in
          let own : request_at (put_request t i r) k ≡ r = ap (request_at (put_request t i r)) is ∙ request_of_put t i r sized low in
          subst (λ (q : Request). SameEnds (request_at t k).state q.state) (sym own) (subst (λ (n : ℕ). SameEnds (request_at t n).state r.state) (sym is) ends))
          (λ x. subst (λ (q : Request). SameEnds (request_at t k).state q.state) (sym (request_of_other t i k r (eqb-false k i x))) (record { out = refl; err = refl }));
      free = λ k f. f;
      kept = λ k f. (refl, refl);
    }

-- a free slot taken
alike_taken : (t : Table) (i : ℕ) (r : Request) → free_in t i → Alike t (take_slot t i r) t (take_slot t i r)
alike_taken t i r free =
    record {
      from = λ id k h. h;
      holds = λ id k h.
          let ne = other k h.slot_taken in
          record {
            low = h.low;
            slot_taken = taken_of_take_other t i k r ne ∙ h.slot_taken;
            has_id = id_at (take_slot t i r) k ∙ ap (λ (q : Request). q.id) (other_of_take t i k r ne) ∙ sym (id_at t k) ∙ h.has_id;
          };
      ends = λ k y. subst (λ (q : Request). SameEnds (request_at t k).state q.state) (sym (other_of_take t i k r (other k y.slot_taken))) (record { out = refl; err = refl });
      free = λ k f. f;
      kept = λ k f. (refl, refl);
    }
  where
    other : (k : ℕ) → taken k t.occupied ≡ true → k ≡ i → ⊥
    other k e z = let w : ◌≡◌ {A = ℕ} 0 1 = cc (sym free ∙ ap (λ (n : ℕ). taken n t.occupied) (sym z) ∙ e) in omega arith

-- ---- a part is written
part_ends : (m : RequestState) (p : Part) → SameEnds m (state_after m p)
unfolding with_turn with_life
part_ends m (APair name value) = record { out = refl; err = refl }
part_ends m (Content stream x) = record { out = refl; err = refl }
part_ends m (EndOf input) = record { out = refl; err = refl }
part_ends m Abort = record { out = refl; err = refl }

pub part_moves : (server : State) (wire : List ℕ) (left : List Note) (t : Table) (v : List ℕ) (id : ℕ) (p : Part) (buffer : List ℕ) → Behind server wire left t v
    → Moved wire left t v (state_of (write_part server.server id p buffer).server server.values)
unfolding write_part writes_part
part_moves server wire left t v id p buffer i =
    let c = server.server in
    let k = slot_of c id in
    let r = request_at c.table k in
    let q = with_state r (state_after r.state p) in
    by_test (call_refusal c id =? 0)
    (λ x. by_test (own_refusal r p (length buffer) =? 0)
    (λ y.
    let low = (find_at c.table id k (let_give c id p buffer (simp (x, y))).found).low in
    let fits : q.length ≤ AREA = subst (λ (n : ℕ). n ≤ AREA) (sym (length_of c.table k)) (i.good.fit.ready.tidy.lengths k low) in
    let good = good_put server k q i.good refl fits in
    simp (x, y) (table_moves server wire left t v i (put_request c.table k q) good (alike_changed c.table k q i.good.fit.ready.sized low refl (part_ends r.state p))).moved)
    (λ y. simp (x, y) (unmoved server wire left t v i)))
    (λ x. simp x (unmoved server wire left t v i))

-- ---- a request is opened
-- it is open behind the wire, with no output stream ended, and nothing that was open there has its id
pub record Opened (id : ℕ) (wire : List ℕ) (left : List Note) (t : Table) (v : List ℕ) (server' : State) : Type 0 where
  pub moved : Moved wire left t v server'
  pub mine : OpenWith moved.table id no_state
  pub fresh : (b : ℕ) (m : RequestState) → OpenWith t b m → b ≡ id → ⊥

opened_moves : (server : State) (wire : List ℕ) (left : List Note) (t : Table) (v : List ℕ) (id role : ℕ) (keep : Bool) (room long : ℕ) → Behind server wire left t v → LetOpen server.server id role room long
    → Opened id wire left t v (with_table server (take_slot server.server.table (free_slot_of server.server.table) (opened id (role_of role) keep)))
unfolding opened
opened_moves server wire left t v id role keep room long i o =
    let t0 = server.server.table in
    let k = free_slot_of t0 in
    let q = opened id (role_of role) keep in
    let free : free_in t0 k = least_free SLOTS t0.occupied o.slot in
    let good = good_take server k q i.good o.slot (omega arith) o.some_id o.none in
    let m = table_moves server wire left t v i (take_slot t0 k q) good (alike_taken t0 k q free) in
    let u = m.moved.table in
    let own : request_at u k ≡ q = (m.alike.kept k free).0 ∙ request_of_take t0 k q i.good.fit.ready.sized o.slot in
    let holds : Holds u id k = record {
      low = o.slot;
      slot_taken = (m.alike.kept k free).1 ∙ taken_of_take t0 k q o.slot;
      has_id = id_at u k ∙ ap (λ (r : Request). r.id) own;
    } in
    record {
      moved = m.moved;
      mine = record {
        slot = k;
        found = only_slot u m.moved.behind.ready.tidy.distinct id k holds;
        ends = subst (λ (r : Request). SameEnds r.state no_state) (sym own) (record { out = refl; err = refl });
      };
      -- the id was not open, so nothing that is open behind the wire has it
      fresh = λ b n w z. find_nowhere t0 id o.none w.slot (subst (λ (a : ℕ). Holds t0 a w.slot) z (m.alike.from b w.slot (find_at t b w.slot w.found)));
    }

-- A call that opens, refused or not; the ids that wait for the station are more by one, or stay.
pub open_moves : (P : State → List ℕ → Type 0) (server : State) (wire : List ℕ) (left : List Note) (t : Table) (v waiting : List ℕ) (id role : ℕ) (keep : Bool) (buffer : List ℕ) → Behind server wire left t v
    → ((server' : State) → Opened id wire left t v server' → P server' (id ∷ waiting)) → P server waiting
    → (let w = open_request server.server id role keep buffer in P (state_of w.server server.values) (if w.refusal =? 0 then (id ∷ waiting) else waiting))
unfolding open_request
open_moves P server wire left t v waiting id role keep buffer i done refused =
    let c = server.server in
    let room = length buffer in
    let long = length (begin_bytes id role keep) in
    by_test (eqb (open_refusal c id role room long) 0)
    (λ x. simp x (done _ (opened_moves server wire left t v id role keep room long i (let_open c id role room long (eqb-true (open_refusal c id role room long) 0 x)))))
    (λ x. simp x refused)

-- ---- values are asked for
pub ask_moves : (server : State) (wire : List ℕ) (left : List Note) (t : Table) (v : List ℕ) (list buffer : List ℕ) → Behind server wire left t v
    → Moved wire left t v (state_of (ask_values server.server list buffer).server server.values)
unfolding ask_values
ask_moves server wire left t v list buffer i =
    by_test (eqb (ask_refusal server.server list (length buffer)) 0) (λ x. simp x (unmoved server wire left t v i)) (λ x. simp x (unmoved server wire left t v i))

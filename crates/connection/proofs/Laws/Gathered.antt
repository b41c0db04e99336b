-- Gathered bytes past the count never matter: what a step answers does not depend on them.
use Rattle.connection.specs.Slots.{Slot}
use Rattle.std.specs.Prelude.{◌≡◌, Bool, true, false, length, take, drop, ltb, eqb, if◌then◌else◌, Some, None}
use Rattle.std.proofs.Math.Path.{refl}
use Rattle.std.proofs.Common.{sym, ap, ◌∙◌, arith, length-append, take_at, eqb-true}
use Prim.Native.Nat.{ℕ, ◌+◌, ◌≤◌, min}
use mathlib.Core.List.{List, [], ◌++◌}
use Rattle.std.proofs.Math.Seq.{length-take-le}
use Rattle.wire.specs.Test.{by_test}
use Rattle.wire.specs.Buffer.{copied}
use Rattle.wire.proofs.BufferLaws.{copied_room}
use Rattle.record.specs.Names.{VERSION, BEGIN_REQUEST, GET_VALUES, RESPONDER, AUTHORIZER, FILTER}
use Rattle.record.specs.Header.{header_of}
use Rattle.record.specs.declared.header.Header.{Header}
use Rattle.record.specs.declared.body.BeginBody.{BeginBody}
use Rattle.record_reader.specs.Position.{held_and}
use Rattle.record_reader.specs.declared.Position.{Position}
use Rattle.record_reader.specs.declared.Advanced.{Advanced}
use Rattle.pair_list.specs.List.{well_formed, broken_at}
use Rattle.connection.specs.declared.request.Role.{Role}
use Rattle.connection.specs.declared.request.Due.{Due}
use Rattle.connection.specs.declared.state.Target.{Target}
use Rattle.connection.specs.declared.state.Frame.{Frame}
use Rattle.connection.specs.declared.state.Conn.{Conn}
use Rattle.connection.specs.Sizes.{SLOTS, QUERY}
use Rattle.connection.specs.Event.{Event}
use Rattle.connection.specs.Slots.{free_slot_of, find, on_slot}
use Rattle.connection.specs.Fits.{Aimed}
use Rattle.connection.proofs.Laws.ShapeLaws.{shaped}
use Rattle.connection.proofs.Laws.PieceLaws.{by_step}
use Rattle.connection.proofs.Laws.StepSizes.{copied_length}
use Rattle.connection.specs.Step.{State, Left, target_if, frame_after, frame_within, reads, closes, queried, on_management, on_inactive, on_active, judged, opens, begun, of_begin, of_query, of_request, on_target, Stepped, stays, leaves, advances, step_refusal, stepped}
use Rattle.connection.proofs.Laws.Progress.{admitted_fits}
use Rattle.machine.specs.Cause.{Cause, Plain, At}

-- ---- the bytes that count
-- How many of the gathered bytes count: of a query those that are in, of anything else none. (The frame counts a
-- BEGIN body too, which it holds itself.)
abbrev pub count_for : Target → ℕ → ℕ
count_for Target.Skip n = 0
count_for (Target.Begin id) n = 0
count_for Target.Query n = n
count_for (Target.Params i) n = 0
count_for (Target.Stdin i) n = 0
count_for (Target.Data i) n = 0

-- the same of a frame
abbrev pub count_of : Frame → ℕ
count_of f = count_for f.target f.gathered

-- Two lists agree up to a count.
abbrev pub Alike : ℕ → List ℕ → List ℕ → Type 0
Alike n g g' = take n g ≡ take n g'

-- what agrees up to the count of the frame agrees in the bytes that count
alike_up_to : (target : Target) (n : ℕ) (g g' : List ℕ) → Alike n g g' → Alike (count_for target n) g g'
alike_up_to Target.Skip n g g' a = refl
alike_up_to (Target.Begin id) n g g' a = refl
alike_up_to Target.Query n g g' a = a
alike_up_to (Target.Params i) n g g' a = refl
alike_up_to (Target.Stdin i) n g g' a = refl
alike_up_to (Target.Data i) n g g' a = refl

-- with none gathered none counts
alike_none : (target : Target) (g g' : List ℕ) → Alike (count_for target 0) g g'
alike_none target g g' = alike_up_to target 0 g g' refl

-- a target that is forgotten counts none
alike_if : (left : ℕ) (target : Target) (n : ℕ) (g g' : List ℕ) → Alike (count_for target n) g g' → Alike (count_for (target_if left target) n) g g'
alike_if left target n g g' a = by_test (eqb left 0) (λ t. simp t) (λ t. simp t a)

-- a query's list is what was gathered, and the bytes after it
put_count_lem : (g : List ℕ) (n : ℕ) (x : List ℕ) → n + length x ≤ length g → take (n + length x) (copied g n x) ≡ take n g ++ x
put_count_lem g n x room =
    let l : length (take n g ++ x) ≡ n + length x = omega (arith, length-append (take n g) x, length-take-le n g (omega arith)) in
    ap (take (n + length x)) (copied_room g n x room) ∙ take_at (take n g ++ x) (drop (n + length x) g) (n + length x) l

-- ---- what two steps leave
-- They leave the same but for gathered bytes that do not count, and as many of these as there were.
record Agree (g g' : List ℕ) (l l' : Left) : Type 0 where
  conn : l.conn ≡ l'.conn
  store : l.store ≡ l'.store
  event : l.event ≡ l'.event
  alike : Alike (count_of l.conn.frame) l.gathered l'.gathered
  long : length l.gathered ≡ length g
  long' : length l'.gathered ≡ length g'

-- by the two outcomes of a test
both : {g g' : List ℕ} (b : Bool) {x x' y y' : Left} → Agree g g' x x' → Agree g g' y y' → Agree g g' (if b then x else y) (if b then x' else y')
both true f k = f
both false f k = k

module _ (c : Conn) (g g' store : List ℕ) where
  -- the two states
  abbrev one : State
  one = record { conn = c; gathered = g }

  abbrev two : State
  two = record { conn = c; gathered = g' }

  reads_agree : (f : Frame) (e : Event) → Alike (count_of f) g g' → Agree g g' (reads one store f e) (reads two store f e)
  reads_agree f e a = record { conn = refl; store = refl; event = refl; alike = a; long = refl; long' = refl }

  closes_agree : (cause : Cause) → Agree g g' (closes one store cause) (closes two store cause)
  unfolding closes
  closes_agree n = record { conn = refl; store = refl; event = refl; alike = refl; long = refl; long' = refl }

  queried_agree : (list : List ℕ) (f : Frame) → Alike (count_of f) g g' → Agree g g' (queried one store list f) (queried two store list f)
  unfolding queried
  queried_agree list f a = both (well_formed list) (reads_agree f _ a) (closes_agree (At 14 (broken_at list)))

  -- ---- a header
  behind_agree : (h : Header) (target : Target) (e : Event) → Agree g g' (reads one store (frame_after h target) e) (reads two store (frame_after h target) e)
  behind_agree h target e = reads_agree (frame_after h target) e (alike_none (target_if h.content target) g g')

  management_agree : (h : Header) → Agree g g' (on_management one store h) (on_management two store h)
  unfolding on_management
  management_agree h =
      both (eqb h.kind GET_VALUES)
      (both (ltb QUERY h.content) (closes_agree (Plain 13))
      (both (eqb h.content 0) (queried_agree [] _ (alike_none (target_if h.content Target.Skip) g g')) (behind_agree h Target.Query Event.None)))
      (behind_agree h Target.Skip (Event.Unknown h.kind))

  inactive_agree : (h : Header) → Agree g g' (on_inactive one store h) (on_inactive two store h)
  unfolding on_inactive
  inactive_agree h =
      both (eqb h.kind BEGIN_REQUEST) (both (eqb h.content 8) (behind_agree h (Target.Begin h.id) Event.None) (closes_agree (Plain 12))) (behind_agree h Target.Skip Event.None)

  placed_agree : (h : Header) (k : Slot) → Agree g g' (on_slot k (on_active one store h) (on_inactive one store h)) (on_slot k (on_active two store h) (on_inactive two store h))
  unfolding on_active
  placed_agree h (Some i) =
      record { conn = refl; store = refl; event = refl; alike = alike_none (target_if h.content _) g g'; long = refl; long' = refl }
  placed_agree h None = inactive_agree h

  judged_agree : (h : Header) → Agree g g' (judged one store h) (judged two store h)
  unfolding judged
  judged_agree h =
      both (eqb h.version VERSION) (both (eqb h.id 0) (management_agree h) (placed_agree h (find c.table h.id))) (closes_agree (Plain 11))

  -- ---- content
  opens_agree : (id : ℕ) (b : BeginBody) (role : Role) (f : Frame) → Alike (count_of f) g g' → Agree g g' (opens one store id b role f) (opens two store id b role f)
  unfolding opens
  opens_agree id b role f a =
      both (ltb (free_slot_of c.table) SLOTS) (record { conn = refl; store = refl; event = refl; alike = a; long = refl; long' = refl }) (reads_agree f _ a)

  begun_agree : (id : ℕ) (b : BeginBody) (f : Frame) → Alike (count_of f) g g' → Agree g g' (begun one store id b f) (begun two store id b f)
  unfolding begun
  begun_agree id b f a =
      both (eqb b.role RESPONDER) (opens_agree id b Role.Responder f a)
      (both (eqb b.role AUTHORIZER) (opens_agree id b Role.Authorizer f a) (both (eqb b.role FILTER) (opens_agree id b Role.Filter f a) (reads_agree f _ a)))

  begin_agree : (id : ℕ) (bytes : List ℕ) (p : Position) → c.frame.target ≡ Target.Begin id → Agree g g' (of_begin one store id bytes p) (of_begin two store id bytes p)
  unfolding of_begin
  begin_agree id bytes p e =
      both (eqb p.content 0) (begun_agree id _ _ (alike_none (target_if p.content c.frame.target) g g'))
      (reads_agree _ Event.None (alike_if p.content c.frame.target _ g g' (rw e refl)))

  request_agree : (due : Due) (i : ℕ) (bytes : List ℕ) (p : Position) → Alike (count_of c.frame) g g' → Agree g g' (of_request one store due i bytes p) (of_request two store due i bytes p)
  unfolding of_request
  request_agree due i bytes p a =
      record { conn = refl; store = refl; event = refl; alike = alike_if p.content c.frame.target c.frame.gathered g g' a; long = refl; long' = refl }

-- of a query: the bytes in so far agree, and with the same bytes after them they agree again
query_agree : (c : Conn) (g g' store bytes : List ℕ) (p : Position) → c.frame.target ≡ Target.Query → c.frame.gathered + length bytes ≤ length g
    → c.frame.gathered + length bytes ≤ length g' → Alike (count_of c.frame) g g'
    → Agree g g' (of_query (record { conn = c; gathered = g }) store bytes p) (of_query (record { conn = c; gathered = g' }) store bytes p)
unfolding of_query
query_agree c g g' store bytes p e room room' a =
    let n = c.frame.gathered in
    let m = n + length bytes in
    let x = copied g n bytes in
    let x' = copied g' n bytes in
    let before : take n g ≡ take n g' = rw e at a in
    let lists : take m x ≡ take m x' = put_count_lem g n bytes room ∙ ap (λ (l : List ℕ). l ++ bytes) before ∙ sym (put_count_lem g' n bytes room') in
    let f = frame_within c.frame p 0 c.frame.body in
    let asked : Agree x x' (queried (record { conn = c; gathered = x }) store (take m x) f) (queried (record { conn = c; gathered = x' }) store (take m x') f) =
    rw (← lists) (queried_agree c x x' store (take m x) f (alike_none (target_if p.content c.frame.target) x x')) in
    let more = reads_agree c x x' store (frame_within c.frame p m c.frame.body) Event.None (alike_if p.content c.frame.target m x x' (rw e lists)) in
    keep (both (eqb p.content 0) asked more)
  where
    keep : {l l' : Left} → Agree (copied g c.frame.gathered bytes) (copied g' c.frame.gathered bytes) l l' → Agree g g' l l'
    keep k =
        record {
          conn = k.conn;
          store = k.store;
          event = k.event;
          alike = k.alike;
          long = k.long ∙ copied_length g c.frame.gathered bytes;
          long' = k.long' ∙ copied_length g' c.frame.gathered bytes;
        }

-- ---- a step
-- where a query is gathered there is room for it.
abbrev Roomy : Conn → List ℕ → Type 0
Roomy c g = c.frame.target ≡ Target.Query → QUERY ≤ length g

-- The same answer, and gathered bytes that agree up to the new count.
pub record Same (g g' : List ℕ) (s s' : Stepped) : Type 0 where
  pub refusal : s.refusal ≡ s'.refusal
  pub used : s.used ≡ s'.used
  pub event : s.event ≡ s'.event
  pub conn : s.state.conn ≡ s'.state.conn
  pub store : s.store ≡ s'.store
  pub alike : Alike (count_of s.state.conn.frame) s.state.gathered s'.state.gathered
  pub long : length s.state.gathered ≡ length g
  pub long' : length s'.state.gathered ≡ length g'

module _ (c : Conn) (g g' store : List ℕ) (room : Roomy c g) (room' : Roomy c g') (a : Alike (count_of c.frame) g g') where
  target_agree : (target : Target) (bytes : List ℕ) (p : Position) → c.frame.target ≡ target → Aimed target c.table c.frame.gathered c.frame.position.content
      → length bytes ≤ c.frame.position.content
      → Agree g g' (on_target target (record { conn = c; gathered = g }) store bytes p) (on_target target (record { conn = c; gathered = g' }) store bytes p)
  target_agree Target.Skip bytes p e fits few = reads_agree c g g' store _ Event.None (alike_if p.content c.frame.target c.frame.gathered g g' a)
  target_agree (Target.Begin id) bytes p e fits few = begin_agree c g g' store id bytes p e
  target_agree Target.Query bytes p e fits few =
      query_agree c g g' store bytes p e (omega (arith, fits, room e)) (omega (arith, fits, room' e)) a
  target_agree (Target.Params i) bytes p e fits few = request_agree c g g' store Due.Params i bytes p a
  target_agree (Target.Stdin i) bytes p e fits few = request_agree c g g' store Due.Stdin i bytes p a
  target_agree (Target.Data i) bytes p e fits few = request_agree c g g' store Due.Data i bytes p a

  step_agree : (piece : List ℕ) → Same g g' (stepped (record { conn = c; gathered = g }) store piece) (stepped (record { conn = c; gathered = g' }) store piece)
  unfolding stepped advances
  step_agree piece =
      by_test (eqb (step_refusal c store) 0)
      (λ t. by_test (eqb (length piece) 0) (λ z. simp (t, z) (still 0))
      (λ z.
      let s = shaped c (admitted_fits c store (eqb-true (step_refusal c store) 0 t)).shape in
      let p = c.frame.position in
      simp (t, z)
      (by_step (λ (d : Advanced). Same g g' (advances (record { conn = c; gathered = g }) store piece d) (advances (record { conn = c; gathered = g' }) store piece d))
      p piece s.position.held
      (λ some. let n = min p.content (length piece) in
      moves n (target_agree c.frame.target (take n piece) _ refl s.target (omega (arith, length-take-le n piece (omega arith)))))
      (λ none some. moves _ (reads_agree c g g' store _ Event.None a))
      (λ none n fits more. moves n (reads_agree c g g' store _ Event.None a))
      (λ none n fits full. moves n (judged_agree c g g' store (header_of (held_and p.held p.header n piece)))))))
      (λ t. simp t (still (step_refusal c store)))
    where
      still : (n : ℕ) → Same g g' (stays n (record { conn = c; gathered = g }) store) (stays n (record { conn = c; gathered = g' }) store)
      still n = record { refusal = refl; used = refl; event = refl; conn = refl; store = refl; alike = a; long = refl; long' = refl }

      moves : {l l' : Left} (used : ℕ) → Agree g g' l l' → Same g g' (leaves used l) (leaves used l')
      moves used k =
          record { refusal = refl; used = refl; event = k.event; conn = k.conn; store = k.store; alike = k.alike; long = k.long; long' = k.long' }

-- without a query none counts
alike_without : (target : Target) (n : ℕ) (g g' : List ℕ) → (target ≡ Target.Query → ⊥) → Alike (count_for target n) g g'
alike_without Target.Skip n g g' other = refl
alike_without (Target.Begin id) n g g' other = refl
alike_without Target.Query n g g' other = absurd (other refl)
alike_without (Target.Params i) n g g' other = refl
alike_without (Target.Stdin i) n g g' other = refl
alike_without (Target.Data i) n g g' other = refl

-- ---- gathered bytes that do not matter
-- Gathered bytes past those that count never matter: two states that differ in them alone give the same answer, and
-- agree in those that count afterwards.
pub past_count_forgotten : (c : Conn) (g g' store piece : List ℕ) → length g ≡ QUERY → length g' ≡ QUERY → Alike (count_of c.frame) g g'
    → Same g g' (stepped (record { conn = c; gathered = g }) store piece) (stepped (record { conn = c; gathered = g' }) store piece)
past_count_forgotten c g g' store piece full full' a = step_agree c g g' store (λ e. omega arith) (λ e. omega arith) a piece

-- The same for bytes past the frame's count.
pub past_gathered_forgotten : (c : Conn) (g g' store piece : List ℕ) → length g ≡ QUERY → length g' ≡ QUERY → Alike c.frame.gathered g g'
    → Same g g' (stepped (record { conn = c; gathered = g }) store piece) (stepped (record { conn = c; gathered = g' }) store piece)
past_gathered_forgotten c g g' store piece full full' a =
    past_count_forgotten c g g' store piece full full' (alike_up_to c.frame.target c.frame.gathered g g' a)

-- Outside a query no gathered byte matters at all.
pub without_query_forgotten : (c : Conn) (g g' store piece : List ℕ) → (c.frame.target ≡ Target.Query → ⊥)
    → Same g g' (stepped (record { conn = c; gathered = g }) store piece) (stepped (record { conn = c; gathered = g' }) store piece)
without_query_forgotten c g g' store piece other =
    step_agree c g g' store (λ e. absurd (other e)) (λ e. absurd (other e)) (alike_without c.frame.target c.frame.gathered g g' other) piece

-- An opening does not depend on the gathered bytes: a BEGIN body is held in the frame.
pub opening_forgets : (c : Conn) (id : ℕ) (g g' store piece : List ℕ) → c.frame.target ≡ Target.Begin id
    → Same g g' (stepped (record { conn = c; gathered = g }) store piece) (stepped (record { conn = c; gathered = g' }) store piece)
opening_forgets c id g g' store piece e = without_query_forgotten c g g' store piece (λ q. let z : ◌≡◌ {A = ℕ} 0 1 = cc in omega arith)

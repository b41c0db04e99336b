-- Content in two parts: a step over a byte and more is the step over the byte and then the step over the rest.
use Prim.Native.Nat.{ℕ, suc, ◌+◌, ◌-◌, ◌*◌, ◌≤◌, ◌<◌, min}
use Rattle.std.specs.Prelude.{◌≡◌, List, [], ◌∷◌, ◌++◌, take, drop}
use Rattle.std.proofs.Math.Path.{refl}
use Rattle.std.proofs.Common.{sym, ap, ap₂, ◌∙◌, append_assoc, length-append, take_all, take_at, drop_at, length-take-le, set-set}
use Rattle.std.proofs.Math.Bool.{false}
use native.Mathlib.Omega.{arith}
use Rattle.std.proofs.Math.ListN.{length}
use Rattle.std.proofs.Math.Dec.{eqb}
use borrow.Author.Tests.{le-leb, ne_eqb}
use Rattle.wire.specs.Buffer.{copied}
use Rattle.wire.proofs.BufferLaws.{copied_copied}
use Rattle.slot_word.proofs.WordLaws.{mark_twice}
use Rattle.record_reader.specs.declared.Position.{Position}
use Rattle.connection.specs.declared.request.Request.{Request}
use Rattle.connection.specs.declared.state.Table.{Table}
use Rattle.connection.specs.declared.state.Target.{Target}
use Rattle.connection.specs.Sizes.{SLOTS, AREA, STORE, QUERY}
use Rattle.connection.specs.Event.{Event}
use Rattle.connection.specs.Request.{Held, grown}
use Rattle.connection.specs.Slots.{standing_of, put_request, put_area}
use Rattle.connection.proofs.Laws.ShapeLaws.{Tidy, Placed, shaped, in_shape_lem}
use Rattle.connection.specs.Fits.{Begins, Aimed}
use Rattle.connection.specs.Step.{State, Left, Stepped, leaves, open_with, closes, target_if, queried, opens, begun, of_begin, of_query, on_target, advances, stepped}
use Rattle.connection.specs.Bytewise.{notes}
use Rattle.connection.proofs.Laws.PlainEvents.{Plain, plain_begin, plain_query}
use Rattle.connection.proofs.Laws.Progress.{Fits, fits_admitted, less_content, in_content, step_advances}

-- ---- a byte and then more
-- the state that a step leaves
abbrev pub state_of : Left → State
state_of l = record { conn = l.conn; gathered = l.gathered }

-- A step over b and x comes to the step over b and then the step over x, which uses all of x.
pub record Cuts (st : State) (store : List ℕ) (b : ℕ) (x : List ℕ) : Type 0 where
  pub all_used : (stepped (stepped st store (b ∷ [])).state (stepped st store (b ∷ [])).store x).used ≡ length x
  pub same_state : (stepped st store (b ∷ x)).state ≡ (stepped (stepped st store (b ∷ [])).state (stepped st store (b ∷ [])).store x).state
  pub same_store : (stepped st store (b ∷ x)).store ≡ (stepped (stepped st store (b ∷ [])).state (stepped st store (b ∷ [])).store x).store
  pub same_notes : notes (stepped st store (b ∷ x)).event (b ∷ x)
      ≡ notes (stepped st store (b ∷ [])).event (b ∷ []) ++ notes (stepped (stepped st store (b ∷ [])).state (stepped st store (b ∷ [])).store x).event x

-- from what the three steps leave
pub cuts : (st : State) (store : List ℕ) (b : ℕ) (x : List ℕ) (l first second : Left) → stepped st store (b ∷ x) ≡ leaves (length (b ∷ x)) l
    → stepped st store (b ∷ []) ≡ leaves 1 first → stepped (state_of first) first.store x ≡ leaves (length x) second
    → state_of l ≡ state_of second → l.store ≡ second.store → notes l.event (b ∷ x) ≡ notes first.event (b ∷ []) ++ notes second.event x → Cuts st store b x
cuts st store b x l first second whole one two same_state same_store same_notes =
    let after : stepped (stepped st store (b ∷ [])).state (stepped st store (b ∷ [])).store x ≡ leaves (length x) second =
    ap (λ (s : Stepped). stepped s.state s.store x) one ∙ two in
    record {
      all_used = ap (λ (s : Stepped). s.used) after;
      same_state = ap (λ (s : Stepped). s.state) whole ∙ same_state ∙ sym (ap (λ (s : Stepped). s.state) after);
      same_store = ap (λ (s : Stepped). s.store) whole ∙ same_store ∙ sym (ap (λ (s : Stepped). s.store) after);
      same_notes = ap (λ (s : Stepped). notes s.event (b ∷ x)) whole ∙ same_notes
          ∙ sym (ap₂ (λ (s r : Stepped). notes s.event (b ∷ []) ++ notes r.event x) one after);
    }

-- a list that grows within its area
pub grown_room : (h : Held) (x : List ℕ) → h.request.length + length x ≤ AREA
    → grown h x
    ≡ record { request = record { id = h.request.id; length = h.request.length + length x; state = h.request.state }; area = copied h.area h.request.length x }
unfolding grown
grown_room h x l = simp (le-leb (h.request.length + length x) AREA l)

-- and grows again
pub grown_grown : (h : Held) (x y : List ℕ) → h.request.length + (length x + length y) ≤ AREA → length h.area ≡ AREA → grown (grown h x) y ≡ grown h (x ++ y)
grown_grown h x y l a =
    let n = h.request.length in
    let s : n + length x + length y ≡ n + length (x ++ y) = omega (arith, length-append x y) in
    rw (grown_room h x (omega arith))
    (grown_room (record { request = record { id = h.request.id; length = n + length x; state = h.request.state }; area = copied h.area n x }) y (omega arith)
    ∙ ap₂ (λ (m : ℕ) (u : List ℕ). record { request = record { id = h.request.id; length = m; state = h.request.state }; area = u }) s
    (copied_copied h.area n (n + length x) x y refl (omega arith))
    ∙ sym (grown_room h (x ++ y) (omega (arith, length-append x y))))

-- a request put twice
pub put_twice : (t : Table) (i : ℕ) (r q : Request) → put_request (put_request t i r) i q ≡ put_request t i q
unfolding put_request
put_twice t i r q =
    let m = r.state in
    let n = q.state in
    rw (
      set-set t.ids i r.id q.id,
      set-set t.lengths i r.length q.length,
      set-set t.standings i (standing_of m) (standing_of n),
      mark_twice i m.keep n.keep t.keep,
      mark_twice i m.out_ended n.out_ended t.out_ended,
      mark_twice i m.err_used n.err_used t.err_used,
      mark_twice i m.err_ended n.err_ended t.err_ended,
      set-set t.stdin_shown i m.shown.stdin n.shown.stdin,
      set-set t.data_shown i m.shown.«data» n.shown.«data»,
    )

-- an area put twice
pub area_twice : (store : List ℕ) (i : ℕ) (a c : List ℕ) → length store ≡ STORE → i < SLOTS → length a ≡ AREA → put_area (put_area store i a) i c ≡ put_area store i c
unfolding put_area
area_twice store i a c full low fits =
    let front = take (i * AREA) store in
    let back = drop (i * AREA + AREA) store in
    let n : length front ≡ i * AREA = length-take-le (i * AREA) store (omega arith) in
    let m : length (front ++ a) ≡ i * AREA + AREA = simp length-append (omega arith) in
    ap₂ (λ (u v : List ℕ). u ++ (c ++ v)) (take_at front (a ++ back) (i * AREA) n)
    (ap (drop (i * AREA + AREA)) (sym (append_assoc front a back)) ∙ drop_at (front ++ a) back (i * AREA + AREA) m)

-- ---- the steps that read content
-- a state within a record
abbrev pub standing : Table → List ℕ → Position → Target → ℕ → List ℕ → State
standing t gathered p target n body =
    record { conn = open_with t (record { position = p; target = target; gathered = n; body = body }); gathered = gathered }

step_content : (st : State) (store x : List ℕ) → Fits st.conn store → 0 < length x → length x ≤ st.conn.frame.position.content
    → stepped st store x ≡ leaves (length x) (on_target st.conn.frame.target st store x (less_content st.conn.frame.position (length x)))
unfolding advances
step_content st store x f some room =
    let p = st.conn.frame.position in
    let m : min p.content (length x) ≡ length x = omega arith in
    step_advances st store x (fits_admitted st.conn store f) some
    ∙ ap (advances st store x) (in_content p x (omega arith))
    ∙ ap (λ (n : ℕ). leaves n (on_target st.conn.frame.target st store (take n x) (less_content p n))) m
    ∙ ap (λ (u : List ℕ). leaves (length x) (on_target st.conn.frame.target st store u (less_content p (length x)))) (take_all (length x) x (omega arith))

-- the target stays while content is left
pub keeps_target : (n : ℕ) (target : Target) → 0 < n → target_if n target ≡ target
keeps_target n target l = simp (ne_eqb n 0 (λ z. omega arith))

-- the position after both parts
less_twice : (p : Position) (x : List ℕ) → less_content (less_content p 1) (length x) ≡ less_content p (suc (length x))
less_twice p x = let e : p.content - 1 - length x ≡ p.content - suc (length x) = omega arith in rw e

-- A state in shape, a byte of content later: the table and what the content is for are given.
later_fits : (t : Table) (gathered : List ℕ) (p : Position) (target : Target) (n : ℕ) (body store : List ℕ) → Placed p → Tidy t → Aimed target t n (p.content - 1)
    → length store ≡ STORE → Fits (standing t gathered (less_content p 1) target n body).conn store
later_fits t gathered p target n body store placed tidy aimed full =
    record {
      size = full;
      shape = in_shape_lem (standing t gathered (less_content p 1) target n body).conn
          (record { table = tidy; position = record { held = placed.held; content = omega (arith, placed.content); padding = placed.padding }; target = aimed });
      is_open = refl;
    }

-- ---- a byte of content, and more
module _ (target : Target) (t : Table) (gathered : List ℕ) (p : Position) (n : ℕ) (body store : List ℕ) (b : ℕ) (x : List ℕ)
    (fits : Fits (standing t gathered p target n body).conn store) (some : 0 < length x) (room : suc (length x) ≤ p.content) where
  -- the state before, and the position after all of the bytes
  abbrev pub before : State
  before = standing t gathered p target n body

  abbrev pub behind : Position
  behind = less_content p (suc (length x))

  -- What the first byte leaves is in shape; the rest from there comes to what all come to from before.
  pub cut_by : (t' : Table) (gathered' : List ℕ) (n' : ℕ) (body' store' : List ℕ) (e : Event)
      → on_target target (standing t gathered p target n body) store (b ∷ []) (less_content p 1)
      ≡ record { conn = open_with t' (record { position = less_content p 1; target = target; gathered = n'; body = body' }); gathered = gathered'; store = store'; event = e }
      → Tidy t' → Aimed target t' n' (p.content - 1) → length store' ≡ STORE → (second : Left)
      → on_target target (standing t' gathered' (less_content p 1) target n' body') store' x behind ≡ second
      → state_of (on_target target before store (b ∷ x) behind) ≡ state_of second
      → (on_target target before store (b ∷ x) behind).store ≡ second.store
      → notes (on_target target before store (b ∷ x) behind).event (b ∷ x) ≡ notes e (b ∷ []) ++ notes second.event x
      → Cuts before store b x
  cut_by t' gathered' n' body' store' e one tidy aimed full second two same_state same_store same_notes =
      let st = standing t gathered p target n body in
      let st' = standing t' gathered' (less_content p 1) target n' body' in
      let later = later_fits t' gathered' p target n' body' store' (shaped st.conn fits.shape).position tidy aimed full in
      cuts st store b x (on_target target st store (b ∷ x) (less_content p (suc (length x))))
      (record { conn = st'.conn; gathered = gathered'; store = store'; event = e })
      second
      (step_content st store (b ∷ x) fits (omega arith) room)
      (step_content st store (b ∷ []) fits (omega arith) (omega arith) ∙ ap (leaves 1) one)
      (step_content st' store' x later some (omega arith) ∙ ap (λ (q : Position). leaves (length x) (on_target target st' store' x q)) (less_twice p x) ∙ ap (leaves (length x)) two)
      same_state same_store same_notes

  -- a byte that only the frame and the gathered bytes keep, and tells nothing
  cut_plain : (gathered' : List ℕ) (n' : ℕ) (body' : List ℕ)
      → on_target target before store (b ∷ []) (less_content p 1)
      ≡ record { conn = open_with t (record { position = less_content p 1; target = target; gathered = n'; body = body' }); gathered = gathered'; store = store; event = Event.None }
      → Aimed target t n' (p.content - 1)
      → on_target target (standing t gathered' (less_content p 1) target n' body') store x behind ≡ on_target target before store (b ∷ x) behind
      → Plain (on_target target before store (b ∷ x) behind).event
      → Cuts before store b x
  cut_plain gathered' n' body' one aimed two plain =
      cut_by t gathered' n' body' store Event.None one (shaped (standing t gathered p target n body).conn fits.shape).table aimed fits.size
      (on_target target (standing t gathered p target n body) store (b ∷ x) (less_content p (suc (length x)))) two refl refl
      (plain (b ∷ x) x)

-- content for no request
module _ (t : Table) (gathered : List ℕ) (p : Position) (n : ℕ) (body store : List ℕ) (b : ℕ) (x : List ℕ) (some : 0 < length x) (room : suc (length x) ≤ p.content) where
  -- skipped
  pub cut_skip : Fits (standing t gathered p Target.Skip n body).conn store → Cuts (standing t gathered p Target.Skip n body) store b x
  cut_skip fits =
      cut_plain Target.Skip t gathered p n body store b x fits some room gathered n body (simp (keeps_target (p.content - 1) Target.Skip (omega arith))) tt refl (λ u v. refl)

  -- of a BEGIN body
  pub cut_begin : (id : ℕ) → length body ≡ 8 → Fits (standing t gathered p (Target.Begin id) n body).conn store → Cuts (standing t gathered p (Target.Begin id) n body) store b x
  unfolding of_begin begun opens
  cut_begin id eight fits =
      let a : Begins t id n p.content = (shaped (standing t gathered p (Target.Begin id) n body).conn fits.shape).target in
      let z : eqb (p.content - 1) 0 ≡ false = ne_eqb (p.content - 1) 0 (λ e. omega arith) in
      let c : copied (copied body n (b ∷ [])) (n + 1) x ≡ copied body n (b ∷ x) = copied_copied body n (n + 1) (b ∷ []) x refl (omega arith) in
      let m : n + 1 + length x ≡ n + suc (length x) = omega arith in
      cut_plain (Target.Begin id) t gathered p n body store b x fits some room gathered (n + 1) (copied body n (b ∷ [])) (simp z)
      (record { eight = omega arith; some = a.some; inactive = a.inactive })
      (rw (c, m))
      (plain_begin (standing t gathered p (Target.Begin id) n body) store id (b ∷ x) (less_content p (suc (length x))))

  -- of a query
  pub cut_query : length gathered ≡ QUERY → Fits (standing t gathered p Target.Query n body).conn store → Cuts (standing t gathered p Target.Query n body) store b x
  unfolding of_query queried closes
  cut_query whole fits =
      let a : n + p.content ≤ QUERY = (shaped (standing t gathered p Target.Query n body).conn fits.shape).target in
      let z : eqb (p.content - 1) 0 ≡ false = ne_eqb (p.content - 1) 0 (λ e. omega arith) in
      let c : copied (copied gathered n (b ∷ [])) (n + 1) x ≡ copied gathered n (b ∷ x) = copied_copied gathered n (n + 1) (b ∷ []) x refl (omega arith) in
      let m : n + 1 + length x ≡ n + suc (length x) = omega arith in
      cut_plain Target.Query t gathered p n body store b x fits some room (copied gathered n (b ∷ [])) (n + 1) body (simp z) (omega arith) (rw (c, m))
      (plain_query (standing t gathered p Target.Query n body) store (b ∷ x) (less_content p (suc (length x))))

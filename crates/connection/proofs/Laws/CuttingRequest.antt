-- Content for a request in two parts, and with it content for every target.
use Rattle.std.specs.Prelude.{ℕ, suc, ◌+◌, ◌-◌, ◌≤◌, ◌<◌, ◌≡◌, refl, Bool, true, false, length, get_or}
use Rattle.std.proofs.Math.Path.{sym, ap, ap₂}
use Rattle.std.proofs.Common.{◌∙◌, arith}
use mathlib.Core.List.{List, [], ◌∷◌, ◌++◌}
use Rattle.record_reader.specs.declared.Position.{Position}
use Rattle.connection.specs.declared.request.Request.{Request}
use Rattle.connection.specs.declared.request.Due.{Due}
use Rattle.connection.specs.declared.state.Table.{Table}
use Rattle.connection.specs.declared.state.Target.{Target}
use Rattle.connection.specs.declared.state.Frame.{Frame}
use Rattle.connection.specs.Sizes.{SLOTS, AREA}
use Rattle.connection.specs.Request.{Held, grown, on_content}
use Rattle.connection.specs.Slots.{request_at, held_at, put_request, put_area}
use Rattle.connection.proofs.Laws.SlotsLaws.{Sized, request_of_put, area_of_put, area_length, put_area_length}
use Rattle.connection.specs.Fits.{InUse, Grows, Aimed}
use Rattle.connection.proofs.Laws.ShapeLaws.{shaped}
use Rattle.connection.proofs.Laws.TableShape.{tidy_put, use_put, length_put}
use Rattle.connection.proofs.Laws.RequestShape.{Room}
use Rattle.connection.specs.Step.{State, Left, open_with, puts_back, target_if, of_request, on_target}
use Rattle.connection.specs.Bytewise.{showing, notes}
use Rattle.connection.proofs.Laws.Progress.{Fits, less_content}
use Rattle.connection.proofs.Laws.StepSizes.{Sizes, content_area}
use Rattle.connection.proofs.Laws.Counting.{showed_twice}
use Rattle.connection.proofs.Laws.CuttingContent.{Cuts, state_of, standing, keeps_target, grown_room, grown_grown, put_twice, area_twice, cut_by, cut_skip, cut_begin, cut_query}

-- ---- a request that content is due to
-- its id stays, its length does not pass AREA
same_id : (due : Due) (x : List ℕ) (h : Held) → Room due h.request.length (length x) → (on_content due x h).held.request.id ≡ h.request.id
same_id Due.Skip x h r = refl
same_id Due.Params x h r = ap (λ (k : Held). k.request.id) (grown_room h x r)
same_id Due.Stdin x h r = refl
same_id Due.Data x h r = refl

short : (due : Due) (x : List ℕ) (h : Held) → h.request.length ≤ AREA → Room due h.request.length (length x) → (on_content due x h).held.request.length ≤ AREA
short Due.Skip x h l r = l
short Due.Params x h l r = rw (grown_room h x r) r
short Due.Stdin x h l r = l
short Due.Data x h l r = l

-- bytes and more bytes
content_twice : (due : Due) (x y : List ℕ) (h : Held) → Room due h.request.length (length x + length y) → length h.area ≡ AREA
    → (on_content due y (on_content due x h).held).held ≡ (on_content due (x ++ y) h).held
content_twice Due.Skip x y h r a = refl
content_twice Due.Params x y h r a = grown_grown h x y r a
content_twice Due.Stdin x y h r a = showed_twice Due.Stdin x y h
content_twice Due.Data x y h r a = showed_twice Due.Data x y h

told_twice : (due : Due) (b : ℕ) (x : List ℕ) (h : Held)
    → notes (on_content due (b ∷ x) h).event (b ∷ x) ≡ notes (on_content due (b ∷ []) h).event (b ∷ []) ++ notes (on_content due x (on_content due (b ∷ []) h).held).event x
unfolding showing
told_twice Due.Skip b x h = refl
told_twice Due.Params b x h = refl
told_twice Due.Stdin b x h = refl
told_twice Due.Data b x h = refl

-- ---- a byte of its content, and more
module _ (target : Target) (due : Due) (i : ℕ) (t : Table) (gathered : List ℕ) (p : Position) (n : ℕ) (body store : List ℕ) (b : ℕ) (x : List ℕ) where
  -- the request before, and with the byte
  abbrev held : Held
  held = held_at t store i

  abbrev held' : Held
  held' = (on_content due (b ∷ []) (held_at t store i)).held

  cut_request : ((st : State) (s y : List ℕ) (q : Position) → on_target target st s y q ≡ of_request st s due i y q)
      → Fits (standing t gathered p target n body).conn store → 0 < length x → suc (length x) ≤ p.content → Sized t → i < SLOTS
      → Room due held.request.length (1 + length x) → Room due held.request.length 1 → held.request.length ≤ AREA
      → Aimed target (put_request t i held'.request) n (p.content - 1)
      → Cuts (standing t gathered p target n body) store b x
  unfolding of_request
  cut_request same fits some room sized low fit fit-one fit_none aimed =
      let st = standing t gathered p target n body in
      let t' = put_request t i held'.request in
      let store' = put_area store i held'.area in
      let st' = standing t' gathered (less_content p 1) target n body in
      let q = less_content p (suc (length x)) in
      let f : Frame = record { position = q; target = target_if q.content target; gathered = n; body = body } in
      let w = content_area due (b ∷ []) held ∙ area_length store i fits.size low in
      let back : held_at t' store' i ≡ held' =
      ap₂ (λ (r : Request) (a : List ℕ). record { request = r; area = a }) (request_of_put t i held'.request sized low) (area_of_put store i held'.area fits.size low w) in
      let both : (on_content due x held').held ≡ (on_content due (b ∷ x) held).held = content_twice due (b ∷ []) x held fit (area_length store i fits.size low) in
      let second : Left = puts_back st' store' i (on_content due x held').held f (on_content due x held').event in
      cut_by target t gathered p n body store b x fits some room t' gathered n body store' (on_content due (b ∷ []) held).event
      (same st store (b ∷ []) (less_content p 1)
      ∙ ap (λ (g : Target). puts_back st store i held' (record { position = less_content p 1; target = g; gathered = n; body = body }) (on_content due (b ∷ []) held).event)
      (keeps_target (p.content - 1) target (omega arith)))
      (tidy_put t i held'.request (same_id due (b ∷ []) held fit-one) sized (shaped st.conn fits.shape).table (short due (b ∷ []) held fit_none fit-one))
      aimed
      (put_area_length store i held'.area fits.size low w)
      second
      (same st' store' x q ∙ ap (λ (k : Held). puts_back st' store' i (on_content due x k).held f (on_content due x k).event) back)
      (ap state_of (same st store (b ∷ x) q)
      ∙ ap (λ (u : Table). record { conn = open_with u f; gathered = gathered })
      (sym (put_twice t i held'.request (on_content due x held').held.request ∙ ap (λ (k : Held). put_request t i k.request) both)))
      (ap (λ (l : Left). l.store) (same st store (b ∷ x) q)
      ∙ sym (area_twice store i held'.area (on_content due x held').held.area fits.size low w ∙ ap (λ (k : Held). put_area store i k.area) both))
      (ap (λ (l : Left). notes l.event (b ∷ x)) (same st store (b ∷ x) q) ∙ told_twice due b x held)

-- PARAMS content: the list grows by the byte, and as much less is left
grows_put : (t : Table) (i : ℕ) (store : List ℕ) (b left : ℕ) → Sized t → Grows t i left → 0 < left
    → Grows (put_request t i (grown (held_at t store i) (b ∷ [])).request) i (left - 1)
unfolding request_at
grows_put t i store b left sized g some =
    let h = held_at t store i in
    let n : get_or (put_request t i (grown h (b ∷ [])).request).lengths i 0 ≡ get_or t.lengths i 0 + 1 =
    length_put t i (grown h (b ∷ [])).request sized g.slot.low ∙ ap (λ (k : Held). k.request.length) (grown_room h (b ∷ []) (omega (arith, g.room))) in
    record { slot = use_put t i i (grown h (b ∷ [])).request g.slot; room = omega (arith, g.room) }

-- Content for every target.
cut_standing : (target : Target) (t : Table) (gathered : List ℕ) (p : Position) (n : ℕ) (body store : List ℕ) (b : ℕ) (x : List ℕ)
    → Fits (standing t gathered p target n body).conn store → Sizes (standing t gathered p target n body) store → 0 < length x → suc (length x) ≤ p.content
    → Cuts (standing t gathered p target n body) store b x
unfolding request_at
cut_standing Target.Skip t gathered p n body store b x fits sizes some room = cut_skip t gathered p n body store b x some room fits
cut_standing (Target.Begin id) t gathered p n body store b x fits sizes some room = cut_begin t gathered p n body store b x some room id sizes.body fits
cut_standing Target.Query t gathered p n body store b x fits sizes some room = cut_query t gathered p n body store b x some room sizes.gathered fits
cut_standing (Target.Params i) t gathered p n body store b x fits sizes some room =
    let s = shaped (standing t gathered p (Target.Params i) n body).conn fits.shape in
    let g : Grows t i p.content = s.target in
    cut_request (Target.Params i) Due.Params i t gathered p n body store b x (λ st u y q. refl) fits some room sizes.table g.slot.low (omega (arith, g.room)) (omega (arith, g.room))
    (s.table.lengths i g.slot.low) (grows_put t i store b p.content sizes.table g (omega arith))
cut_standing (Target.Stdin i) t gathered p n body store b x fits sizes some room =
    let s = shaped (standing t gathered p (Target.Stdin i) n body).conn fits.shape in
    let u : InUse t i = s.target in
    cut_request (Target.Stdin i) Due.Stdin i t gathered p n body store b x (λ st u y q. refl) fits some room sizes.table u.low tt tt
    (s.table.lengths i u.low) (use_put t i i _ u)
cut_standing (Target.Data i) t gathered p n body store b x fits sizes some room =
    let s = shaped (standing t gathered p (Target.Data i) n body).conn fits.shape in
    let u : InUse t i = s.target in
    cut_request (Target.Data i) Due.Data i t gathered p n body store b x (λ st u y q. refl) fits some room sizes.table u.low tt tt
    (s.table.lengths i u.low) (use_put t i i _ u)

-- A step within content, over a byte and more.
pub cut_content : (st : State) (store : List ℕ) (b : ℕ) (x : List ℕ) → Fits st.conn store → Sizes st store → 0 < length x → suc (length x) ≤ st.conn.frame.position.content
    → Cuts st store b x
cut_content st store b x = go st.conn.«open»
  where
    with_open : Bool → State
    with_open o = record { conn = record { table = st.conn.table; frame = st.conn.frame; «open» = o }; gathered = st.gathered }

    go : (o : Bool) → Fits (with_open o).conn store → Sizes (with_open o) store → 0 < length x → suc (length x) ≤ st.conn.frame.position.content → Cuts (with_open o) store b x
    go true fits sizes some room =
        let f = st.conn.frame in
        cut_standing f.target st.conn.table st.gathered f.position f.gathered f.body store b x fits sizes some room
    go false fits sizes some room = let z : ◌≡◌ {A = ℕ} 0 1 = cc fits.is_open in absurd (omega arith)
